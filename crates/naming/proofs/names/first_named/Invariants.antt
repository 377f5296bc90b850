-- `first_named` meets its contract. The loop's invariant: no row before k has the name.
use mathlib.Core.Path.{◌≡◌}
use Prim.Native.Nat.{◌+◌}
use lib.ListN.{drop}
use Rattle.spelling.specs.Names.{names_at}
use Rattle.spelling.specs.Meanings.{position}
use Rattle.naming.proofs.names.first_named.Given as goal

abbrev pub invariant-loop-k : goal.invariant-loop-k
invariant-loop-k l = l.from + position l.word (drop l.from (names_at l.description l.places)) ≡ l.k + position l.word (drop l.k (names_at l.description l.places))
