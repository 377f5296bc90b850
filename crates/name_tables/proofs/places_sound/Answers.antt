-- The invariant: every place passed is sound.
use mathlib.Core.Bool.{not}
use mathlib.Core.Path.{sym, ap}
use mathlib.Core.Bool.{true}
use Rattle.tables.proofs.Lines.{passes, fails}
use Rattle.values.specs.Names.{every}
use Rattle.literal_sides.specs.Ranges.{place_of}
use Rattle.names.proofs.Counting.{all_yet, every_more, every_fails}
use Rattle.name_tables.proofs.places_sound.Goals as goal

pub loop-k-init : goal.loop-k-init
loop-k-init c = all_yet _

pub returns-then-not-place_sound : goal.returns-then-not-place_sound
returns-then-not-place_sound c =
    let a = c.args in
    let test = place_of a.literals.now a.bytes.now a.names.now a.item a.v in
    sym (every_fails test c.loop-k.k 8 c.loop-k-test.true (fails c.place_sound.ensures (ap not c.if-not-place_sound.true)))

pub loop-k-preserved : goal.loop-k-preserved
loop-k-preserved c =
    let a = c.args in
    let test = place_of a.literals.now a.bytes.now a.names.now a.item a.v in
    every_more test c.loop-k.k c.loop-k.invariant (passes c.place_sound.ensures (ap not c.if-not-place_sound.false))
