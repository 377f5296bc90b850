-- The tests of a token say its class.
use mathlib.Core.Path.{◌≡◌, refl, sym, ◌∙◌}
use mathlib.Core.Bool.{Bool, true, false, ◌&&◌, ◌||◌}
use Prim.Native.Nat.{ℕ, ◌≤◌, ◌<◌, ◌/◌}
use native.Mathlib.Omega.{arith}
use native.Mathlib.Decide.{ℕ_discrete}
use borrow.Author.Tests.{leb-true, leb-false, le-leb, eqb-true, eq-eqb, ne_eqb}
use lib.Dec.{eqb}
use Rattle.typing.specs.Tests.{within}
use Rattle.grammar.specs.Grammar.{Class, Class-discrete, class, Is, operand, switch, order, bound, test, name}
use Rattle.grammar.proofs.Spelling.{spelled, operand_token, switch_token_lem, order_token, bound_token, test_token}
use Rattle.grammar.proofs.Spelling.{is_operand_lem, is_switch_lem, is_order_lem, is_bound, is_test, is_name_lem}
use Rattle.simples.specs.Reads.{is_a}

-- two flags
pub and-true : (s t : Bool) → (s && t) ≡ true → (s ≡ true) × (t ≡ true)
and-true true t e = (refl, e)
and-true false t e = let z : ◌≡◌ {A = ℕ} 0 1 = cc in absurd (omega arith)

and-false : (s t : Bool) → (s && t) ≡ false → s ≡ true → t ≡ false
and-false true t e h = e
and-false false t e h = let z : ◌≡◌ {A = ℕ} 0 1 = cc in absurd (omega arith)

pub within_true : (low high x : ℕ) → within low high x ≡ true → (low ≤ x) × (x ≤ high)
within_true low high x e = let (l, h) = and-true _ _ e in (leb-true low x l, leb-true x high h)

pub within_false : (low high x : ℕ) → within low high x ≡ false → low ≤ x → high < x
within_false low high x e l = leb-false x high (and-false _ _ e (le-leb low x l))

-- what the flag of a class tells
pub is_a_true : {k : Class} {x : ℕ} {t : Bool} → t ≡ is_a k x → t ≡ true → Is k x
unfolding is_a
is_a_true {k} {x} {t} e h = go (Class-discrete (class x) k) (sym e ∙ h)
  where
    go : (d : Dec (class x ≡ k)) → elim d as (λ _. Bool) [ yes _ ↦ true | no _ ↦ false ] ≡ true → Is k x
    go (yes s) g = record { is = s }
    go (no n) g = let z : ◌≡◌ {A = ℕ} 0 1 = cc in absurd (omega arith)

pub is_a_false : {k : Class} {x : ℕ} {t : Bool} → t ≡ is_a k x → t ≡ false → ¬ Is k x
unfolding is_a
is_a_false {k} {x} {t} e h i = go (Class-discrete (class x) k) (sym e ∙ h)
  where
    go : (d : Dec (class x ≡ k)) → elim d as (λ _. Bool) [ yes _ ↦ true | no _ ↦ false ] ≡ false → ⊥
    go (yes s) g = let z : ◌≡◌ {A = ℕ} 0 1 = cc in absurd (omega arith)
    go (no n) g = n i.is

-- a flag that is true of the tokens of a class, and of no others
is_flag : (k : Class) (x : ℕ) (t : Bool) → (t ≡ true → Is k x) → (Is k x → t ≡ true) → is_a k x ≡ t
unfolding is_a
is_flag k x t to from = go (Class-discrete (class x) k) t to from
  where
    go : (d : Dec (class x ≡ k)) (t : Bool) → (t ≡ true → Is k x) → (Is k x → t ≡ true) → elim d as (λ _. Bool) [ yes _ ↦ true | no _ ↦ false ] ≡ t
    go (yes s) t to from = sym (from (record { is = s }))
    go (no n) true to from = absurd (n (to refl).is)
    go (no n) false to from = refl

-- words that stand in a row
is_within : (k : Class) (low high x : ℕ) → (low ≤ x → x ≤ high → Is k x) → (Is k x → (low ≤ x) × (x ≤ high)) → is_a k x ≡ within low high x
is_within k low high x to from =
    is_flag k x (within low high x) (λ e. let (l, h) = within_true low high x e in to l h) (λ i. let (l, h) = from i in rw (le-leb low x l, le-leb x high h))

pub order-within : (x : ℕ) → is_a order x ≡ within 262149 262151 x
order-within x = is_within order 262149 262151 x (is_order_lem x) (order_token x)

pub bound_within : (x : ℕ) → is_a bound x ≡ within 262152 262153 x
bound_within x = is_within bound 262152 262153 x (is_bound x) (bound_token x)

pub test_within : (x : ℕ) → is_a test x ≡ within 262154 262160 x
test_within x = is_within test 262154 262160 x (is_test x) (test_token x)

-- one of two kinds
either_kind : (q a b : ℕ) → (eqb q a || eqb q b) ≡ true → (q ≡ a → ⊥) → q ≡ b
either_kind q a b h n = eqb-true q b (rw (ne_eqb q a n) at h)

of_kinds : (q a b : ℕ) → (q ≡ a → ⊥) → q ≡ b → (eqb q a || eqb q b) ≡ true
of_kinds q a b n e = rw (ne_eqb q a n, eq-eqb q b e)

is_kinds : (k : Class) (x a b : ℕ) → (x / 65536 ≡ a → Is k x) → (x / 65536 ≡ b → Is k x) → (Is k x → (x / 65536 ≡ a → ⊥) → x / 65536 ≡ b) →
    is_a k x ≡ (eqb (x / 65536) a || eqb (x / 65536) b)
is_kinds k x a b one two from =
    elim (ℕ_discrete (x / 65536) a) [
      | yes e ↦ is_flag k x _ (λ _. one e) (λ _. rw (eq-eqb (x / 65536) a e))
      | no n ↦ is_flag k x _ (λ h. two (either_kind (x / 65536) a b h n)) (λ i. of_kinds (x / 65536) a b n (from i n))
    ]

pub operand_kinds : (x : ℕ) → is_a operand x ≡ (eqb (x / 65536) 0 || eqb (x / 65536) 1)
operand_kinds x = is_kinds operand x 0 1 (λ e. is_operand_lem x (omega arith)) (λ e. is_operand_lem x (omega arith)) (λ i n. omega (arith, operand_token x i))

pub switch-kinds : (x : ℕ) → is_a switch x ≡ (eqb (x / 65536) 2 || eqb (x / 65536) 3)
switch-kinds x =
    is_kinds switch x 2 3 (λ e. is_switch_lem x (omega arith) (omega arith)) (λ e. is_switch_lem x (omega arith) (omega arith)) (λ i n. omega (arith, switch_token_lem x i))

pub name_kind : (x : ℕ) → is_a name x ≡ eqb (x / 65536) 5
name_kind x =
    is_flag name x (eqb (x / 65536) 5)
    (λ h. let e = eqb-true (x / 65536) 5 h in is_name_lem x (omega arith) (omega arith)) (λ i. eq-eqb (x / 65536) 5 (spelled x i))
