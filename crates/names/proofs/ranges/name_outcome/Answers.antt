-- Rests on what the code reads of the name's item, and on the laws of its stop and its truth.
use native.Mathlib.Omega.{arith}
use mathlib.Core.Path.{sym, ◌∙◌}
use Rattle.std.proofs.lemmas.Grind.{common_steps}
use Rattle.std.proofs.lemmas.Bool.{not-true, not-false}
use Rattle.values.proofs.Reading.{fit_near}
use Rattle.names.proofs.Ends.{name_literals, name_item_lem, name_pairs_lem, item_lies, item_read_fit, name_goes}
use Rattle.names.proofs.ranges.name_outcome.Goals as goal

pub row_at-row-requires : goal.row_at-row-requires
row_at-row-requires c = omega (arith, c.number_at.ensures, name_item_lem c.requires)

pub row_part-part-requires : goal.row_part-part-requires
row_part-part-requires c = item_lies c.requires c.number_at.ensures c.row_at-row.ensures

pub held-number-requires : goal.held-number-requires
held-number-requires c = item_read_fit c.requires c.number_at.ensures c.row_at-row.ensures c.row_part-part.ensures

pub stop_at-requires : goal.stop_at-requires
stop_at-requires c =
    let fit = item_read_fit c.requires
    c.number_at.ensures c.row_at-row.ensures c.row_part-part.ensures in
    (fit_near fit, sym c.held-number.ensures.valid ∙ not-true _ c.if-not-number.true)

pub some_range-requires : goal.some_range-requires
some_range-requires c =
    let fit = item_read_fit c.requires c.number_at.ensures c.row_at-row.ensures
    c.row_part-part.ensures in
    record {
      fit = (fit, c.held-number.ensures);
      literals = (name_literals c.requires, name_pairs_lem c.requires (omega (arith, c.requires.there)));
    }

pub returns-then-some_range : goal.returns-then-some_range
returns-then-some_range c =
    let valid = sym c.held-number.ensures.valid ∙ not-false _ c.if-not-number.false in
    rw c.if-some_range.true at
    (name_goes c.requires
    c.number_at.ensures c.row_at-row.ensures
    c.row_part-part.ensures valid c.some_range.ensures)

pub returns : goal.returns
returns c =
    let valid = sym c.held-number.ensures.valid ∙ not-false _ c.if-not-number.false in
    rw c.if-some_range.false at
    (name_goes c.requires
    c.number_at.ensures c.row_at-row.ensures
    c.row_part-part.ensures valid c.some_range.ensures)
