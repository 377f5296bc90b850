-- From where the line starts to where it ends.
use Rattle.wordings.proofs.Tables.{line_size}
use Rattle.wordings.proofs.sentences.put_line.Goals as goal

pub slice_bounds-put-end : goal.slice_bounds-put-end
slice_bounds-put-end c = line_size _ c.line_rest-size.ensures
