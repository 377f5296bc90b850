-- `copy_named` meets its contract: the first i numbers are written. Assumes nothing.
use mathlib.Core.List.{map}
use Rattle.noting.specs.Stored.{noted_from}
use Rattle.outputs.specs.Noted.{named_of}
use Rattle.tables.proofs.Front.{Front}
use Rattle.outputs.proofs.copies.copy_named.Given as goal

abbrev pub invariant-loop-i : goal.invariant-loop-i
invariant-loop-i l = Front (map named_of (noted_from l.entries 0 l.i)) l.initial.to l.i l.to
