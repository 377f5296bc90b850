-- By value where both sides are numeric, else by characters: what the callees return.
use mathlib.Core.Path.{sym, ◌∙◌}
use mathlib.Core.Bool.{false}
use Rattle.tables.proofs.Tests.{both}
use Rattle.values.specs.Comparison.{side}
use Rattle.values.proofs.Reading.{numeral, by_value}
use Rattle.literal_sides.proofs.literals.compare_literal.Goals as goal

pub read_number-right-requires : goal.read_number-right-requires
read_number-right-requires c =
    (numeral c.requires.fit.1
    (sym c.is_numeric-2.ensures ∙ (both c.is_numeric.result _ c.if-is_numeric.true).1)).field

pub compare_scaled-requires : goal.compare_scaled-requires
compare_scaled-requires c =
    let n = both _ _ c.if-is_numeric.true in (
      (numeral c.requires.fit.0 (sym c.is_numeric.ensures ∙ n.0)).scaled,
      (numeral
          c.requires.fit.1 (sym c.is_numeric-2.ensures ∙ n.1)).scaled,
    )

pub returns-then-is_numeric : goal.returns-then-is_numeric
returns-then-is_numeric c =
    let a = c.args in
    let n = both _ _ c.if-is_numeric.true in
    let m = sym c.is_numeric.ensures ∙ n.0 in
    let o = sym c.is_numeric-2.ensures ∙ n.1 in
    rw (c.requires.held.counts m, c.read_number-right.ensures) at c.compare_scaled.ensures
    ∙ sym (by_value (side a.item a.row a.bytes.now) (side false a.literal a.value.now) m o)
