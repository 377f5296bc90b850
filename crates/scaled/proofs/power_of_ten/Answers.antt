-- 10^18 is the largest power made.
use native.Mathlib.Omega.{arith}
use Rattle.numbers.proofs.NumberLaws.{ten_most}
use Rattle.scaled.proofs.power_of_ten.Goals as goal

pub pow-requires : goal.pow-requires
pow-requires c = omega (arith, ten_most c.args.s (omega arith))
