-- `run_length` meets its contract. The loop's invariant: the first `i` bytes go on the word, and what is left goes on as it does after
-- them.
use mathlib.Core.Path.{◌≡◌}
use mathlib.Core.Bool.{false}
use Prim.Native.Nat.{◌+◌}
use lib.ListN.{drop}
use Rattle.spelling.specs.Words.{runs}
use Rattle.splitter.proofs.runs.run_length.Given as goal

abbrev pub invariant-loop-i : goal.invariant-loop-i
invariant-loop-i l = runs false l.bytes ≡ l.i + runs l.quoted (drop l.i l.bytes)
