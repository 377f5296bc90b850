-- The count is the length of what would have been written.
use mathlib.Core.List.{List}
use Prim.Native.Nat.{ℕ}
use Rattle.conversion.proofs.Progress.{Progress}
use Rattle.conversion.proofs.words.converted_length.Given as goal

abbrev pub invariant-loop-token : goal.invariant-loop-token
invariant-loop-token l = (w : List ℕ) × Progress l.tokens w l.token-index l.count l.waits
