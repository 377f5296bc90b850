-- `weigh_high` meets its contract: from the laws of proofs/ and what its callees ensure. Assumes nothing.
-- `weigh_high` meets its contract: from the laws of proofs/ and what its callees ensure. Assumes nothing.
use Rattle.description.specs.Stages.{literal_in}
use mathlib.Core.Path.{sym, ap, ◌∙◌}
use Rattle.value_weights.proofs.Barring.{written_is, alone-unfit, high_apart, high_above, high_barred, value_range}
use Rattle.value_weights.proofs.weights.weigh_high.Goals as goal

pub returns-then-may_compare-unlike : goal.returns-then-may_compare-unlike
returns-then-may_compare-unlike c =
    high_apart c.args.text.now c.args.item c.args.found c.requires.stands.1 c.requires.mid_value c.args.low _ c.requires.written.row (sym
    c.literal_row.ensures ∙ c.in-Some.is) (rw (c.may_compare.ensures, c.unlike.ensures) at c.if-may_compare-unlike.true)

pub exceeds-requires : goal.exceeds-requires
exceeds-requires c =
    (c.requires.written, written_is _ _ c.requires.stands.0.high (sym c.literal_row.ensures ∙ c.in-Some.is))

pub returns-then-exceeds : goal.returns-then-exceeds
returns-then-exceeds c =
    high_above c.args.text.now c.args.item c.args.found c.requires.stands.1 c.requires.mid_value c.args.low _ c.requires.written.row
    (sym c.literal_row.ensures ∙ c.in-Some.is) (rw (c.may_compare.ensures, c.unlike.ensures) at c.if-may_compare-unlike.false) (sym
    c.exceeds.ensures ∙ c.if-exceeds.true)

pub returns-else-exceeds : goal.returns-else-exceeds
returns-else-exceeds c =
    value_range c.args.text.now c.args.item c.args.found c.requires.stands.1 c.requires.mid_value c.args.low _
    c.requires.written.row (sym c.literal_row.ensures ∙ c.in-Some.is) (rw (c.may_compare.ensures, c.unlike.ensures) at
    c.if-may_compare-unlike.false) (sym c.exceeds.ensures ∙ c.if-exceeds.false)

pub returns-in-None : goal.returns-in-None
returns-in-None c =
    high_barred c.args.text.now c.args.item c.args.found c.requires.stands.1 c.requires.mid_value (alone-unfit (literal_in c.args.text.now c.args.found.high c.args.found.end) c.args.item (sym c.literal_row.ensures ∙ c.in-None.is))
