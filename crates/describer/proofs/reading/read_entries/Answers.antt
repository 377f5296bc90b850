-- `read_entries` meets its contract: from the laws of proofs/ and what its callees ensure. Assumes nothing.
use mathlib.Core.Bool.{not}
use mathlib.Core.Path.{ap}
use mathlib.Core.Path.{refl, sym, ◌∙◌}
use mathlib.Core.Bool.{true}
use Prim.Native.Nat.{◌-◌, ◌≤◌}
use native.Mathlib.Omega.{arith}
use lib.ListN.{length}
use Rattle.std.proofs.Common.{Ok}
use Rattle.std.proofs.lemmas.Grind.{common_steps}
use Rattle.text_bytes.proofs.Laws.{inked_le}
use Rattle.describer.proofs.Going.{begins, over, faults, fits, fits_stack, level_fits, stops, goes_on, further}
use Rattle.describer.proofs.Going.{name_ready, name_stops, name_goes, name_fault, name_beyond, item_beyond, step_as}
use Rattle.describer.proofs.Past.{found, beyond_first, beyond_as, beyond_fault}
use Rattle.describer.proofs.reading.read_entries.Goals as goal

pub loop-kept-init : goal.loop-kept-init
loop-kept-init c = (
  begins c.args.text.now c.args.entries.now c.args.stack.now c.args.names.now c.args.places.now c.args.notes.now c.requires.text_len_bound.1.1,
  refl,
  refl,
  refl,
  refl,
  refl,
  refl,
  beyond_first c.requires.in_bounds.1.1.1,
)

pub returns-then-p-text : goal.returns-then-p-text
returns-then-p-text c =
    record {
      read_by = over c.args.text.now c.loop-kept.entries c.loop-kept.stack c.loop-kept.names c.loop-kept.places c.loop-kept.notes c.loop-kept.depth
          c.loop-kept.waiting c.loop-kept.count c.loop-kept.at c.loop-kept.kept c.loop-kept.invariant.0 c.requires.text_len_bound.0 c.next_ink-p.ensures
          c.if-p-text.true c.found.ensures;
      beyond = beyond_as c.loop-kept.invariant.7 c.found.ensures;
    }

pub entry_at-requires : goal.entry_at-requires
entry_at-requires c = (
  omega (arith, c.loop-kept.invariant.0.deep, c.loop-kept.invariant.0.few, c.loop-kept.invariant.0.inside, c.loop-kept.invariant.0.wide, c.requires.text_len_bound.0),
  (
    omega (
      arith,
      inked_le c.args.text.now c.loop-kept.at c.loop-kept.invariant.0.inside,
      c.next_ink-p.ensures,
    ),
    c.requires.text_len_bound.0,
  ),
)

pub returns-in-Err : goal.returns-in-Err
returns-in-Err c =
    record {
      read_by = faults c.args.text.now c.loop-kept.entries c.loop-kept.stack c.loop-kept.names c.loop-kept.places c.loop-kept.notes c.loop-kept.depth
          c.loop-kept.waiting c.loop-kept.count c.loop-kept.at c.loop-kept.kept c.loop-kept.invariant.0 c.requires.text_len_bound.0 c.next_ink-p.ensures c.if-p-text.false
          c.entry_at.ensures c.in-Err.is c.found-in-Err.ensures;
      beyond = beyond_as c.loop-kept.invariant.7 c.found-in-Err.ensures;
    }

pub name_step-requires : goal.name_step-requires
name_step-requires c =
    name_ready c.args.text.now c.loop-kept.entries c.loop-kept.stack c.loop-kept.names c.loop-kept.places c.loop-kept.notes
    c.loop-kept.depth c.loop-kept.waiting c.loop-kept.count c.loop-kept.at c.loop-kept.kept c.loop-kept.invariant.0 c.requires.text_len_bound.0
    c.next_ink-p.ensures c.if-p-text.false c.entry_at.ensures (c.in-Ok-Name.is ∙ ap Ok c.in-Ok-Name.field-0-is) (
      omega (arith, c.requires.in_bounds.0, c.loop-kept.invariant.3),
      omega (arith, c.requires.in_bounds.1.0, c.loop-kept.invariant.4),
      omega (arith, c.requires.in_bounds.1.1.0, c.loop-kept.invariant.5),
      c.loop-kept.invariant.6 ∙
          c.requires.in_bounds.1.1.1,
    ) (omega (arith, c.requires.text_len_bound.1.0, c.loop-kept.invariant.1))

pub returns-then-not-parted_at : goal.returns-then-not-parted_at
returns-then-not-parted_at c =
    let w : (1152 ≤ length c.loop-kept.names) × (64 ≤ length c.loop-kept.places) = (
      omega (arith, c.requires.in_bounds.0, c.loop-kept.invariant.3),
      omega (arith, c.requires.in_bounds.1.0, c.loop-kept.invariant.4),
    ) in record {
      read_by = name_stops c.args.text.now c.loop-kept.entries c.loop-kept.stack c.loop-kept.names c.loop-kept.places c.loop-kept.notes
          c.loop-kept.depth c.loop-kept.waiting c.loop-kept.count c.loop-kept.at c.loop-kept.kept c.loop-kept.invariant.0 c.requires.text_len_bound.0
          c.next_ink-p.ensures c.if-p-text.false c.entry_at.ensures (c.in-Ok-Name.is ∙ ap Ok c.in-Ok-Name.field-0-is) w (step_as c.name_step.ensures c.in-Ok.is)
          (sym c.parted_at.ensures ∙ c.if-not-parted_at.true) c.found-then-not-parted_at.ensures;
      beyond = beyond_as (name_beyond c.args.text.now c.loop-kept.entries c.loop-kept.stack c.loop-kept.names c.loop-kept.places c.loop-kept.notes
          c.loop-kept.depth c.loop-kept.waiting c.loop-kept.count c.loop-kept.at c.loop-kept.kept c.loop-kept.invariant.0 c.requires.text_len_bound.0
          c.next_ink-p.ensures c.if-p-text.false c.entry_at.ensures (c.in-Ok-Name.is ∙ ap Ok c.in-Ok-Name.field-0-is) w (step_as c.name_step.ensures c.in-Ok.is)
          c.loop-kept.invariant.7 (c.name_step.auto.row ∙ c.loop-kept.invariant.6 ∙ c.requires.in_bounds.1.1.1)) c.found-then-not-parted_at.ensures;
    }

pub loop-kept-preserved-in-Ok : goal.loop-kept-preserved-in-Ok
loop-kept-preserved-in-Ok c =
    let w : (1152 ≤ length c.loop-kept.names) × (64 ≤ length c.loop-kept.places) = (
      omega (arith, c.requires.in_bounds.0, c.loop-kept.invariant.3),
      omega (arith, c.requires.in_bounds.1.0, c.loop-kept.invariant.4),
    ) in (
      name_goes c.args.text.now c.loop-kept.entries c.loop-kept.stack c.loop-kept.names c.loop-kept.places c.loop-kept.notes
          c.loop-kept.depth c.loop-kept.waiting c.loop-kept.count c.loop-kept.at c.loop-kept.kept c.loop-kept.invariant.0 c.requires.text_len_bound.0
          c.next_ink-p.ensures c.if-p-text.false c.entry_at.ensures (c.in-Ok-Name.is ∙ ap Ok c.in-Ok-Name.field-0-is) w
          (step_as c.name_step.ensures c.in-Ok.is) (sym c.parted_at.ensures ∙ c.if-not-parted_at.false),
      c.loop-kept.invariant.1,
      c.loop-kept.invariant.2,
      c.name_step.auto.names ∙ c.loop-kept.invariant.3,
      c.name_step.auto.places ∙ c.loop-kept.invariant.4,
      c.name_step.auto.notes ∙ c.loop-kept.invariant.5,
      c.name_step.auto.row ∙ c.loop-kept.invariant.6,
      name_beyond c.args.text.now c.loop-kept.entries c.loop-kept.stack c.loop-kept.names c.loop-kept.places c.loop-kept.notes
          c.loop-kept.depth c.loop-kept.waiting c.loop-kept.count c.loop-kept.at c.loop-kept.kept c.loop-kept.invariant.0 c.requires.text_len_bound.0
          c.next_ink-p.ensures c.if-p-text.false c.entry_at.ensures (c.in-Ok-Name.is ∙ ap Ok c.in-Ok-Name.field-0-is) w
          (step_as c.name_step.ensures c.in-Ok.is) c.loop-kept.invariant.7
          (c.name_step.auto.row ∙ c.loop-kept.invariant.6 ∙ c.requires.in_bounds.1.1.1),
    )

pub returns-in-Err-name_step : goal.returns-in-Err-name_step
returns-in-Err-name_step c =
    let n = step_as c.name_step.ensures c.in-Err-name_step.is in record {
      read_by = name_fault c.args.text.now c.loop-kept.entries c.loop-kept.stack c.loop-kept.names c.loop-kept.places c.loop-kept.notes
          c.loop-kept.depth c.loop-kept.waiting c.loop-kept.count c.loop-kept.at c.loop-kept.kept c.loop-kept.invariant.0 c.requires.text_len_bound.0
          c.next_ink-p.ensures c.if-p-text.false c.entry_at.ensures (c.in-Ok-Name.is ∙ ap Ok c.in-Ok-Name.field-0-is) n c.found-in-Err-name_step.ensures;
      beyond = beyond_fault c.loop-kept.invariant.7 c.found-in-Err-name_step.ensures n.by.1;
    }

pub push-requires : goal.push-requires
push-requires c =
    fits_stack c.args.text.now c.loop-kept.entries c.loop-kept.stack c.loop-kept.names c.loop-kept.places c.loop-kept.notes
    c.loop-kept.depth c.loop-kept.waiting c.loop-kept.count c.loop-kept.at c.loop-kept.kept c.loop-kept.invariant.0 c.requires.text_len_bound.0
    c.next_ink-p.ensures c.if-p-text.false c.entry_at.ensures (c.in-Ok-Whole.is ∙ ap Ok c.in-Ok-Whole.field-0-is) (omega (arith, c.requires.text_len_bound.1.0, c.loop-kept.invariant.1))

pub waiting_after-waiting-requires : goal.waiting_after-waiting-requires
waiting_after-waiting-requires c =
    level_fits c.args.text.now c.loop-kept.entries c.loop-kept.stack c.loop-kept.names c.loop-kept.places c.loop-kept.notes
    c.loop-kept.depth c.loop-kept.waiting c.loop-kept.count c.loop-kept.at c.loop-kept.kept c.loop-kept.invariant.0 c.requires.text_len_bound.0
    c.next_ink-p.ensures c.if-p-text.false c.entry_at.ensures (c.in-Ok-Whole.is ∙ ap Ok c.in-Ok-Whole.field-0-is) (omega (arith, c.requires.text_len_bound.1.0, c.loop-kept.invariant.1))

pub returns-then-not-parted_at-2 : goal.returns-then-not-parted_at-2
returns-then-not-parted_at-2 c =
    let m : 5747 ≤ length c.loop-kept.entries = omega (arith, c.requires.text_len_bound.1.0, c.loop-kept.invariant.1) in record {
      read_by = rw c.store.ensures (stops c.args.text.now c.loop-kept.entries c.loop-kept.stack c.loop-kept.names c.loop-kept.places
          c.loop-kept.notes c.loop-kept.depth c.loop-kept.waiting c.loop-kept.count c.loop-kept.at c.loop-kept.kept c.loop-kept.invariant.0
          c.requires.text_len_bound.0 c.next_ink-p.ensures c.if-p-text.false c.entry_at.ensures (c.in-Ok-Whole.is ∙ ap Ok c.in-Ok-Whole.field-0-is) m
          (sym c.parted_at-in-Ok-Whole.ensures ∙ c.if-not-parted_at-2.true) c.found-then-not-parted_at-2.ensures);
      beyond = rw (c.store.ensures, c.push.ensures) (beyond_as (item_beyond c.args.text.now c.loop-kept.entries c.loop-kept.stack c.loop-kept.names c.loop-kept.places
          c.loop-kept.notes c.loop-kept.depth c.loop-kept.waiting c.loop-kept.count c.loop-kept.at c.loop-kept.kept c.loop-kept.invariant.0
          c.requires.text_len_bound.0 c.next_ink-p.ensures c.if-p-text.false c.entry_at.ensures (c.in-Ok-Whole.is ∙ ap Ok c.in-Ok-Whole.field-0-is) m c.loop-kept.invariant.7) c.found-then-not-parted_at-2.ensures);
    }

pub loop-kept-smaller : goal.loop-kept-smaller
loop-kept-smaller c =
    omega (
      arith,
      further c.args.text.now c.loop-kept.entries c.loop-kept.stack c.loop-kept.names c.loop-kept.places c.loop-kept.notes
          c.loop-kept.depth c.loop-kept.waiting c.loop-kept.count c.loop-kept.at c.loop-kept.kept c.loop-kept.invariant.0 c.requires.text_len_bound.0
          c.next_ink-p.ensures c.if-p-text.false c.entry_at.ensures (c.in-Ok-Whole.is ∙ ap Ok c.in-Ok-Whole.field-0-is) (omega (arith, c.requires.text_len_bound.1.0, c.loop-kept.invariant.1)),
    )

pub loop-kept-preserved : goal.loop-kept-preserved
loop-kept-preserved c =
    let m : 5747 ≤ length c.loop-kept.entries = omega (arith, c.requires.text_len_bound.1.0, c.loop-kept.invariant.1) in (
      rw (c.store.ensures, c.push.ensures, c.waiting_after-waiting.ensures) (goes_on c.args.text.now c.loop-kept.entries c.loop-kept.stack
          c.loop-kept.names c.loop-kept.places c.loop-kept.notes c.loop-kept.depth c.loop-kept.waiting c.loop-kept.count c.loop-kept.at
          c.loop-kept.kept c.loop-kept.invariant.0 c.requires.text_len_bound.0 c.next_ink-p.ensures c.if-p-text.false c.entry_at.ensures (c.in-Ok-Whole.is ∙ ap Ok c.in-Ok-Whole.field-0-is)
          m (sym c.parted_at-in-Ok-Whole.ensures ∙ c.if-not-parted_at-2.false)),
      c.store.auto.entries ∙
          c.loop-kept.invariant.1,
      c.push.auto.stack ∙ c.loop-kept.invariant.2,
      c.loop-kept.invariant.3,
      c.loop-kept.invariant.4,
      c.loop-kept.invariant.5,
      c.loop-kept.invariant.6,
      rw (c.store.ensures, c.push.ensures) (item_beyond c.args.text.now c.loop-kept.entries c.loop-kept.stack
          c.loop-kept.names c.loop-kept.places c.loop-kept.notes c.loop-kept.depth c.loop-kept.waiting c.loop-kept.count c.loop-kept.at
          c.loop-kept.kept c.loop-kept.invariant.0 c.requires.text_len_bound.0 c.next_ink-p.ensures c.if-p-text.false c.entry_at.ensures (c.in-Ok-Whole.is ∙ ap Ok c.in-Ok-Whole.field-0-is)
          m c.loop-kept.invariant.7),
    )
