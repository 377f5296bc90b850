-- `read_values` meets its contract: from the laws of proofs/ and what its callees ensure. Assumes nothing.
use native.Mathlib.Omega.{arith}
use mathlib.Core.Path.{sym, ap, subst, ◌∙◌}
use Rattle.std.proofs.Common.{Ok}
use Rattle.value_notes.specs.Taking.{Small}
use Rattle.value_notes.proofs.Taken.{same_weight}
use Rattle.name_entries.proofs.Holding.{small_weighed}
use Rattle.name_entries.proofs.Going.{going_first, stands, stands_ended, rooms, going_more, going_ended, going_fault}
use Rattle.name_entries.proofs.reading.read_values.Goals as goal

pub loop-found-init : goal.loop-found-init
loop-found-init c =
    going_first c.args.text.now c.args.n c.args.item c.args.start c.args.row.now c.args.notes.now c.requires.0
    c.requires.1

pub weigh-requires : goal.weigh-requires
weigh-requires c = (stands c.loop-found.invariant (sym (c.in-Ok-Open.is ∙ ap Ok c.in-Ok-Open.field-0-is) ∙ c.value_at.ensures)).0

pub take_value-tally-requires : goal.take_value-tally-requires
take_value-tally-requires c =
    let s = (stands c.loop-found.invariant (sym (c.in-Ok-Open.is ∙ ap Ok c.in-Ok-Open.field-0-is) ∙ c.value_at.ensures)).0 in
    (rooms c.loop-found.invariant c.requires.1 s, subst Small (sym c.weigh.ensures) (small_weighed c.args.text.now c.args.item _ s))

pub loop-found-smaller : goal.loop-found-smaller
loop-found-smaller c =
    let s = stands c.loop-found.invariant (sym (c.in-Ok-Open.is ∙ ap Ok c.in-Ok-Open.field-0-is) ∙ c.value_at.ensures) in
    omega (arith, s.1, s.2)

pub loop-found-preserved : goal.loop-found-preserved
loop-found-preserved c =
    going_more c.loop-found.invariant (omega (arith, c.loop-found.invariant.rest.spared.long, c.requires.1.long)) (same_weight (sym c.weigh.ensures) c.take_value-tally.ensures) (sym (c.in-Ok-Open.is ∙ ap Ok c.in-Ok-Open.field-0-is) ∙ c.value_at.ensures)

pub weigh-requires-in-Ok-Ended : goal.weigh-requires-in-Ok-Ended
weigh-requires-in-Ok-Ended c =
    (stands_ended c.loop-found.invariant (sym (c.in-Ok-Ended.is ∙ ap Ok c.in-Ok-Ended.field-0-is) ∙ c.value_at.ensures)).0

pub take_value-last-requires : goal.take_value-last-requires
take_value-last-requires c =
    let s = (stands_ended c.loop-found.invariant (sym (c.in-Ok-Ended.is ∙ ap Ok c.in-Ok-Ended.field-0-is) ∙ c.value_at.ensures)).0 in
    (rooms c.loop-found.invariant c.requires.1 s, subst Small (sym c.weigh-in-Ok-Ended.ensures) (small_weighed c.args.text.now c.args.item _ s))

pub returns-in-Ok-Ended : goal.returns-in-Ok-Ended
returns-in-Ok-Ended c =
    going_ended c.loop-found.invariant (omega (arith, c.loop-found.invariant.rest.spared.long, c.requires.1.long))
    (same_weight (sym c.weigh-in-Ok-Ended.ensures) c.take_value-last.ensures) (sym (c.in-Ok-Ended.is ∙ ap Ok c.in-Ok-Ended.field-0-is) ∙ c.value_at.ensures)

pub returns-in-Err : goal.returns-in-Err
returns-in-Err c = going_fault c.loop-found.invariant (sym c.in-Err.is ∙ c.value_at.ensures)
