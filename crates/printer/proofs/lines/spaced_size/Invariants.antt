-- `spaced_size` meets its contract. The loop's invariant: n bytes for the first words.
use mathlib.Core.Path.{◌≡◌}
use Prim.Native.Nat.{◌+◌, ◌*◌, ◌≤◌}
use lib.ListN.{length, drop}
use mathlib.Core.List.{map}
use Rattle.naming.specs.Named.{known_at}
use Rattle.spelling.specs.Printing.{word_of, spaced}
use Rattle.printer.proofs.lines.spaced_size.Given as goal

abbrev pub invariant-loop-token : goal.invariant-loop-token
invariant-loop-token l = (l.n ≤ l.token-index * 4097) × (length (spaced (map (word_of
    (known_at l.description l.items l.places) l.literals l.bytes) l.tokens)) ≡ l.n + length (spaced (map (word_of (known_at l.description l.items l.places) l.literals l.bytes) (drop l.token-index l.tokens))))
