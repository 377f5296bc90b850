-- `gather` meets its contract. The loop's invariant: what is gathered, with what is left, is the whole.
use mathlib.Core.Path.{◌≡◌}
use Prim.Native.Nat.{◌-◌}
use lib.ListN.{length}
use Rattle.naming.specs.Named.{known_at}
use Rattle.lexer.specs.Gathers.{total_of, book_in, Gathers, Bounds, Beyond}
use Rattle.lexer.proofs.gathering.gather.Given as goal

abbrev pub invariant-loop-held : goal.invariant-loop-held
invariant-loop-held l =
    (Gathers (known_at l.description l.items l.places) l.text (total_of (book_in (known_at l.description l.items l.places) l.literals l.content l.initial.rows l.initial.bytes) l.text) l.held l.tokens l.rows l.bytes)
    × (Bounds l.text l.held)
    × (length l.tokens ≡ length l.initial.tokens)
    × (length l.rows ≡ length l.initial.rows)
    × (length l.bytes ≡ length l.initial.bytes)
    × (Beyond l.held l.initial.tokens l.initial.rows l.initial.bytes l.tokens l.rows l.bytes)

abbrev pub decreases-loop-held : goal.decreases-loop-held
decreases-loop-held l = 2048 - l.held.past
