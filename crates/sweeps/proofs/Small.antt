-- A place and a byte fit into a number of an answer.
use Prim.Native.Nat.{◌≤◌}
use native.Mathlib.Omega.{arith}
use Rattle.tables.specs.declared.Verdict.{Verdict}
use Rattle.tables.specs.declared.Verdict.TheVariants.{True, False, Refused}
use Rattle.rules.specs.Places.{Modest}
use Rattle.sweeps.specs.Sweep.{place_in, byte_in}

pub place_small : (verdict : Verdict) → Modest verdict → place_in verdict ≤ 640
place_small True h = omega arith
place_small False h = omega arith
place_small (Refused refusal) h = h.0

pub byte_small : (verdict : Verdict) → Modest verdict → byte_in verdict ≤ 131071
byte_small True h = omega arith
byte_small False h = omega arith
byte_small (Refused refusal) h = omega (arith, h.1)
