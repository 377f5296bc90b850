-- As many of the first marks are set as rows are listed.
use mathlib.Core.Path.{◌≡◌, ◌∙◌}
use mathlib.Core.Bool.{not}
use native.Mathlib.Omega.{arith}
use lib.Dec.{eqb}
use lib.ListN.{take}
use Rattle.std.proofs.Common.{rules}
use Rattle.std.specs.List.{count_by}
use Rattle.walker.proofs.Marking.{count_marks}
use Rattle.walker.proofs.marks.count_marked.Goals as goal

pub returns : goal.returns
returns c =
    let n : c.count.result ≡ count_by (λ x. not (eqb x 0)) (take c.args.rows c.args.marks.now) = search rules in
    n ∙ count_marks c.args.marks.now c.args.rows (omega arith)
