use mathlib.Core.Path.{◌≡◌}
use mathlib.Core.List.{◌++◌, map}
use Prim.Native.Nat.{◌≤◌}
use lib.ListN.{length, take, drop}
use Rattle.fronts.specs.Fronts.{low_byte}
use Rattle.fronts.proofs.narrow.Given as goal

abbrev pub invariant-loop-i : goal.invariant-loop-i
invariant-loop-i l = (l.i ≤ length l.initial.bytes) × (l.bytes ≡ map low_byte (take l.i l.numbers) ++ drop l.i l.initial.bytes)
