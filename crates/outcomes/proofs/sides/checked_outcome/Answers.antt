-- Rests on what each callee says of a fit side: its stop, its characters.
use mathlib.Core.Path.{refl, sym, ◌∙◌}
use Rattle.tables.specs.Rows.{is_group}
use Rattle.values.specs.Comparison.{side}
use Rattle.values.proofs.Reading.{fit_near, some_bytes}
use Rattle.values.proofs.Faults.{invalid_there, subject_stops, object-stops, relation_goes}
use Rattle.outcomes.proofs.sides.checked_outcome.Goals as goal

pub is_faulty-requires : goal.is_faulty-requires
is_faulty-requires c = some_bytes c.requires.fit.0

pub stop_at-requires : goal.stop_at-requires
stop_at-requires c =
    let s = side c.args.item1 c.args.row1 c.args.left.now in
    (fit_near c.requires.fit.0, invalid_there (is_group c.args.row2) s (sym c.is_faulty.ensures ∙ c.if-is_faulty.true))

pub returns-then-is_faulty : goal.returns-then-is_faulty
returns-then-is_faulty c =
    let s = side c.args.item1 c.args.row1 c.args.left.now in
    let o = side c.args.item2 c.args.row2 c.args.right.now in
    subject_stops c.args.word c.args.negated {s = s} {s' = s} {o = o} {o' = o} refl refl
    (sym c.is_faulty.ensures ∙ c.if-is_faulty.true) c.stop_at.ensures

pub is_faulty-requires-2 : goal.is_faulty-requires-2
is_faulty-requires-2 c = some_bytes c.requires.fit.1

pub stop_at-requires-then-is_faulty-2 : goal.stop_at-requires-then-is_faulty-2
stop_at-requires-then-is_faulty-2 c =
    let o = side c.args.item2 c.args.row2 c.args.right.now in
    (fit_near c.requires.fit.1, invalid_there (is_group c.args.row1) o (sym c.is_faulty-2.ensures ∙ c.if-is_faulty-2.true))

pub returns-then-is_faulty-2 : goal.returns-then-is_faulty-2
returns-then-is_faulty-2 c =
    let s = side c.args.item1 c.args.row1 c.args.left.now in
    let o = side c.args.item2 c.args.row2 c.args.right.now in
    object-stops c.args.word c.args.negated {s = s} {s' = s} {o = o} {o' = o} refl refl
    (sym c.is_faulty.ensures ∙ c.if-is_faulty.false) (sym c.is_faulty-2.ensures ∙ c.if-is_faulty-2.true) c.stop_at-then-is_faulty-2.ensures

pub returns : goal.returns
returns c =
    let s = side c.args.item1 c.args.row1 c.args.left.now in
    let o = side c.args.item2 c.args.row2 c.args.right.now in
    rw c.relation_holds.ensures at c.truth_value.ensures ∙ relation_goes c.args.word c.args.negated {s = s} {s' = s}
    {o = o} {o' = o} refl refl (sym c.is_faulty.ensures ∙ c.if-is_faulty.false) (sym c.is_faulty-2.ensures ∙ c.if-is_faulty-2.false)
    c.compare_sides-order.ensures
