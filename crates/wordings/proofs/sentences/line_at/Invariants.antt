-- One line less at each line feed.
use Rattle.std.proofs.Common.{◌≡◌, drop}
use Rattle.wordings.specs.Lines.{after_lines}
use Rattle.wordings.proofs.sentences.line_at.Given as goal

abbrev pub invariant-loop-i : goal.invariant-loop-i
invariant-loop-i l = after_lines l.left (drop l.i l.text) ≡ after_lines l.number l.text
