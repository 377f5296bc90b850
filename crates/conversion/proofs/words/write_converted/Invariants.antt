-- What has been converted stands at the start of the output.
use mathlib.Core.List.{List}
use Prim.Native.Nat.{ℕ}
use Rattle.tables.proofs.Front.{Front}
use Rattle.conversion.proofs.Progress.{Progress}
use Rattle.conversion.proofs.words.write_converted.Given as goal

abbrev pub invariant-loop-token : goal.invariant-loop-token
invariant-loop-token l = (w : List ℕ) × Progress l.tokens w l.token-index l.written l.waits × Front w l.initial.out l.written l.out
