-- The invariant: every place passed is sound.
use mathlib.Core.Path.{◌≡◌}
use mathlib.Core.Bool.{true}
use Rattle.values.specs.Names.{every}
use Rattle.literal_sides.specs.Ranges.{place_of}
use Rattle.name_tables.proofs.places_sound.Given as goal

abbrev pub invariant-loop-k : goal.invariant-loop-k
invariant-loop-k l = every (place_of l.literals l.bytes l.names l.item l.v) l.k ≡ true
