-- What the one test over the whole table of marks says of each byte.
use mathlib.Core.Path.{◌≡◌, refl, sym, subst}
use mathlib.Core.Bool.{Bool, true, false, not, ◌&&◌, false≢true}
use mathlib.Core.List.{List}
use Prim.Native.Nat.{ℕ, zero, suc, ◌/◌, ◌<◌}
use native.Mathlib.Omega.{arith}
use native.Mathlib.Decide.{ℕ_discrete}
use Rattle.content.specs.Content.{is_digit}
use Rattle.content.specs.Letters.{is_upper, is_lower, is_space}
use Rattle.content.specs.Marks.{mark_in, odd, alike, right, agree_below, agree, Marked}

both : (a b : Bool) → a && b ≡ true → (a ≡ true) × (b ≡ true)
both true b e = (refl, e)
both false b e = absurd (false≢true e)

alike_same : (a b : Bool) → alike a b ≡ true → a ≡ b
alike_same true true e = refl
alike_same true false e = absurd (false≢true e)
alike_same false true e = absurd (false≢true e)
alike_same false false e = refl

right-below : (marks : List ℕ) (n b : ℕ) → agree_below marks n ≡ true → b < n → right b (mark_in marks b) ≡ true
unfolding agree_below
right-below marks zero b e h = absurd (omega arith)
right-below marks (suc n) b e h = by (ℕ_discrete b n) (right-below marks n b (both (right n (mark_in marks n)) (agree_below marks n) e).1)
  where
    by : Dec (b ≡ n) → (b < n → right b (mark_in marks b) ≡ true) → right b (mark_in marks b) ≡ true
    by (yes p) rest = subst (λ (k : ℕ). right k (mark_in marks k) ≡ true) (sym p) (both (right n (mark_in marks n)) (agree_below marks n) e).0
    by (no p) rest = rest (omega (arith, p))

right-marked : (b mark : ℕ) → right b mark ≡ true → Marked b mark
right-marked b mark e =
    let four = both (alike (odd mark) (is_digit b) && alike (odd (mark / 2)) (is_upper b) && alike (odd (mark / 4)) (is_lower b)) (alike (odd (mark / 8)) (is_space b)) e in
    let three = both (alike (odd mark) (is_digit b) && alike (odd (mark / 2)) (is_upper b)) (alike (odd (mark / 4)) (is_lower b)) four.0 in
    let two = both (alike (odd mark) (is_digit b)) (alike (odd (mark / 2)) (is_upper b)) three.0 in
    record {
      digit = alike_same (odd mark) (is_digit b) two.0;
      upper = alike_same (odd (mark / 2)) (is_upper b) two.1;
      lower = alike_same (odd (mark / 4)) (is_lower b) three.1;
      space = alike_same (odd (mark / 8)) (is_space b) four.1;
    }

pub marked : (marks : List ℕ) (b : ℕ) → agree marks ≡ true → b < 256 → Marked b (mark_in marks b)
marked marks b e h = right-marked b (mark_in marks b) (right-below marks 256 b e h)
