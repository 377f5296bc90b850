-- `same_name` meets its contract. The loop's invariant: the first k bytes are the name's, so the rest decides.
use mathlib.Core.Path.{◌≡◌}
use Prim.Native.Nat.{◌≤◌}
use lib.ListN.{length, drop}
use Rattle.description.specs.Grammar.{same}
use Rattle.spelling.specs.Names.{leading}
use Rattle.naming.proofs.names.same_name.Given as goal

abbrev pub invariant-loop-k : goal.invariant-loop-k
invariant-loop-k l = (length l.word ≤ length l.rest) × (same l.word (leading l.rest) ≡ same (drop l.k l.word) (leading (drop l.k l.rest)))
