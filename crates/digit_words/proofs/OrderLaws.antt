-- Digits written in base 10 and in base 256: the two numbers are ordered alike.
use mathlib.Core.Path.{◌≡◌, refl}
use Prim.Native.Nat.{ℕ, zero, suc, ◌+◌, ◌*◌, ◌≤◌, ◌<◌}
use native.Mathlib.Omega.{arith}
use native.Mathlib.Decide.{dec_lt}
use Rattle.compare.specs.Order.{order}
use Rattle.numbers.proofs.NumberLaws.{order_same}

-- the same digits, in base 10 and in base 256
pub data Alike : ℕ → ℕ → Type 0 where
  nought : Alike 0 0
  digit : {n w : ℕ} (d : ℕ) → d ≤ 9 → Alike n w → Alike (n * 10 + d) (w * 256 + d)

alike_equal : {m v n w : ℕ} → Alike m v → Alike n w → m ≡ n → v ≡ w
alike_equal nought nought e = refl
alike_equal nought (digit {n} {w} d h b) e = let z : 0 ≡ w = alike_equal nought b (omega arith) in omega arith
alike_equal (digit {n} {w} d h a) nought e = let z : w ≡ 0 = alike_equal a nought (omega arith) in omega arith
alike_equal (digit {n = m} {w = v} c g a) (digit {n} {w} d h b) e = let z : v ≡ w = alike_equal a b (omega arith) in omega arith

alike_less : {m v n w : ℕ} → Alike m v → Alike n w → m < n → v < w
alike_less nought nought e = absurd (omega arith)
alike_less nought (digit {n} {w} zero h b) e = let z : 0 < w = alike_less nought b (omega arith) in omega arith
alike_less nought (digit {n} {w} (suc d) h b) e = omega arith
alike_less (digit {n} {w} d h a) nought e = absurd (omega arith)
alike_less (digit {n = m} {w = v} c g a) (digit {n} {w} d h b) e = by (dec_lt m n) (λ l. alike_less a b l) (λ l. alike_equal a b l)
  where
    by : Dec (m < n) → (m < n → v < w) → (m ≡ n → v ≡ w) → v * 256 + c < w * 256 + d
    by (yes l) less equal = let z = less l in omega arith
    by (no l) less equal = let z = equal (omega arith) in omega arith

pub alike-order : {m v n w : ℕ} → Alike m v → Alike n w → order v w ≡ order m n
alike-order {m} {v} {n} {w} a b =
    order_same v w m n (λ h. alike_less a b h) (λ h. alike_equal a b h) (λ h. alike_less b a h)
