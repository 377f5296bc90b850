-- The order of two numbers, by what is known of them.
use mathlib.Core.Path.{◌≡◌}
use Prim.Native.Nat.{ℕ, ◌<◌}
use native.Mathlib.Omega.{arith}
use borrow.Author.Tests.{lt-ltb, le-ltb}
use Rattle.std.specs.declared.cmp.Ordering.TheVariants.{Less, Equal, Greater}
use Rattle.std.specs.Ordering.{nat_cmp}
use Rattle.std.proofs.lemmas.Bool.Decides.{nat_tests}
use Rattle.compare.specs.Order.{order}

pub order_lt : (a b : ℕ) → a < b → order a b ≡ Less
order_lt a b h = rw (lt-ltb a b h)

pub order_eq : (a b : ℕ) → a ≡ b → order a b ≡ Equal
order_eq a b h = rw (le-ltb a b (omega arith), le-ltb b a (omega arith))

pub order_gt : (a b : ℕ) → b < a → order a b ≡ Greater
order_gt a b h = rw (le-ltb a b (omega arith), lt-ltb b a h)

-- as std compares them
pub order_cmp : (a b : ℕ) → nat_cmp a b ≡ order a b
order_cmp a b = grind (arith, nat_tests)
