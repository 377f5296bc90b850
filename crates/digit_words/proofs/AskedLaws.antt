-- What a relation asks of two words is what it says of their order.
use mathlib.Core.Path.{◌≡◌, refl, ap, ◌∙◌}
use mathlib.Core.Bool.{Bool, true, false, not}
use Prim.Native.Nat.{ℕ, ◌<◌}
use native.Mathlib.Omega.{arith}
use native.Mathlib.Decide.{dec_lt, ℕ_discrete}
use lib.Dec.{eqb, ltb}
use borrow.Author.Tests.{eq-eqb, ne_eqb, lt-ltb, le-ltb}
use Rattle.compare.specs.Order.{order, is_less, is_equal, is_greater, relation_holds}
use Rattle.values.specs.Truth.{turned}
use Rattle.digit_words.specs.Asked.{asked_of, answered}

-- the order of two numbers, test by test
order_less : (a b : ℕ) → is_less (order a b) ≡ ltb a b
order_less a b = by (dec_lt a b) (dec_lt b a)
  where
    by : Dec (a < b) → Dec (b < a) → is_less (order a b) ≡ ltb a b
    by (yes h) d = rw (lt-ltb a b h)
    by (no h) (yes g) = rw (le-ltb a b (omega arith), lt-ltb b a g)
    by (no h) (no g) = rw (le-ltb a b (omega arith), le-ltb b a (omega arith))

order_greater : (a b : ℕ) → is_greater (order a b) ≡ ltb b a
order_greater a b = by (dec_lt a b) (dec_lt b a)
  where
    by : Dec (a < b) → Dec (b < a) → is_greater (order a b) ≡ ltb b a
    by (yes h) d = rw (lt-ltb a b h, le-ltb b a (omega arith))
    by (no h) (yes g) = rw (le-ltb a b (omega arith), lt-ltb b a g)
    by (no h) (no g) = rw (le-ltb a b (omega arith), le-ltb b a (omega arith))

order_equal : (a b : ℕ) → is_equal (order a b) ≡ eqb a b
order_equal a b = by (dec_lt a b) (dec_lt b a)
  where
    by : Dec (a < b) → Dec (b < a) → is_equal (order a b) ≡ eqb a b
    by (yes h) d = rw (lt-ltb a b h, ne_eqb a b (λ e. omega arith))
    by (no h) (yes g) = rw (le-ltb a b (omega arith), lt-ltb b a g, ne_eqb a b (λ e. omega arith))
    by (no h) (no g) = rw (le-ltb a b (omega arith), le-ltb b a (omega arith), eq-eqb a b (omega arith))

turned_not : (negated b : Bool) → turned negated (not b) ≡ turned (not negated) b
turned_not true true = refl
turned_not true false = refl
turned_not false true = refl
turned_not false false = refl

-- one test for every relation
pub asked_answers : (word : ℕ) (negated : Bool) (a b : ℕ) → turned negated (relation_holds word (order a b)) ≡ answered (asked_of word negated) a b
asked_answers word negated a b = by (ℕ_discrete word 5) (ℕ_discrete word 6) (ℕ_discrete word 7) (ℕ_discrete word 8)
  where
    by : Dec (word ≡ 5) → Dec (word ≡ 6) → Dec (word ≡ 7) → Dec (word ≡ 8)
        → turned negated (relation_holds word (order a b)) ≡ answered (asked_of word negated) a b
    by (yes p) x y z = rw p (ap (turned negated) (order_greater a b))
    by (no p) (yes q) y z = rw q (ap (turned negated) (order_less a b))
    by (no p) (no q) (yes r) z = rw r (ap (turned negated) (order_equal a b))
    by (no p) (no q) (no r) (yes t) = rw t (turned_not negated (is_less (order a b)) ∙ ap (turned (not negated)) (order_less a b))
    by (no p) (no q) (no r) (no t) =
        rw (ne_eqb word 5 p, ne_eqb word 6 q, ne_eqb word 7 r, ne_eqb word 8 t)
        (turned_not negated (is_greater (order a b)) ∙ ap (turned (not negated)) (order_greater a b))
