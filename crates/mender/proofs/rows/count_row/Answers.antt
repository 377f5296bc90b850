use mathlib.Core.Bool.{not}
use Prim.Native.Nat.{ℕ}
use mathlib.Core.Path.{sym, ap, ◌∙◌}
use mathlib.Core.List.{List}
use lib.ListN.{length}
use Rattle.tables.specs.Rows.{part}
use Rattle.tables.proofs.Lines.{fails}
use Rattle.mending.specs.Mend.{changes_from}
use Rattle.meters.proofs.Filling.{mended_skip}
use Rattle.mending.proofs.Changes.{changes_none}
use Rattle.mender.proofs.rows.count_row.Goals as goal

pub returns-then-not-is_zoned : goal.returns-then-not-is_zoned
returns-then-not-is_zoned c =
    let a = c.args in
    let P : List ℕ = part a.row a.«record».now in sym
    (ap (λ (l : List ℕ). length (changes_from a.row.offset P l)) (sym (mended_skip a.row.kind a.row.digits P (fails c.is_zoned.ensures (ap not c.if-not-is_zoned.true))))
    ∙ ap length (changes_none a.row.offset P))
