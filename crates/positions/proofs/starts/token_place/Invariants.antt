-- The pieces of the text are passed one at a time.
use mathlib.Core.Path.{◌≡◌}
use Prim.Native.Nat.{◌-◌, ◌≤◌}
use lib.ListN.{length}
use Rattle.naming.specs.Named.{known_at}
use Rattle.lexer.specs.Gathers.{left as left_of}
use Rattle.positions.specs.Positions.{text_end, place_in, token_place}
use Rattle.positions.proofs.starts.token_place.Given as goal

abbrev pub invariant-loop-past : goal.invariant-loop-past
invariant-loop-past l = (l.past ≤ length l.text)
    × (place_in (text_end l.text) l.left (left_of (known_at l.description l.items l.places) l.text l.past) ≡ token_place (known_at l.description l.items l.places) l.text l.k)

abbrev pub decreases-loop-past : goal.decreases-loop-past
decreases-loop-past l = length l.text - l.past
