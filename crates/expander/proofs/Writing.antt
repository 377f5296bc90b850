-- What expand writes: a relation, and a simple condition in full.
use mathlib.Core.Path.{◌≡◌}
use mathlib.Core.List.{[], ◌∷◌, ◌++◌, append-nil}
use Prim.Native.Nat.{ℕ, suc, ◌+◌, ◌-◌, ◌≤◌, ◌<◌, ◌%◌}
use native.Mathlib.Omega.{arith}
use native.Mathlib.Decide.{ℕ_discrete, dec_le}
use borrow.Author.Tests.{eq-eqb, ne_eqb, lt-ltb, le-ltb}
use lib.ListN.{length, length-append}
use Rattle.grammar.specs.Expanded.{stated, full_form}

-- the words of a relation, without NOT and with it
pub stated-plain : (n : ℕ) → n < 32 → stated n ≡ (262144 + n) ∷ []
stated-plain n l = rw (lt-ltb n 32 l)

pub stated_not : (n : ℕ) → 32 ≤ n → stated n ≡ 262146 ∷ (262144 + (n - 32)) ∷ []
stated_not n l = rw (le-ltb n 32 l)

-- a simple condition in full, by its relation
module _ (a n b : ℕ) where
  pub full-alone : n ≡ 0 → full_form a n b ≡ a ∷ []
  unfolding full_form
  full-alone e = rw (eq-eqb n 0 e)

  pub full-object : (n ≡ 0 → ⊥) → n % 32 < 10 → full_form a n b ≡ a ∷ stated n ++ b ∷ []
  unfolding full_form
  full-object e l = rw (ne_eqb n 0 e, lt-ltb (n % 32) 10 l)

  pub full_no_object : (n ≡ 0 → ⊥) → 10 ≤ n % 32 → full_form a n b ≡ a ∷ stated n
  unfolding full_form
  full_no_object e l = rw (ne_eqb n 0 e, le-ltb (n % 32) 10 l) (append-nil (a ∷ stated n))

  -- it has its subject and its relation
  pub full-least : (n ≡ 0 → ⊥) → suc (length (stated n)) ≤ length (full_form a n b)
  full-least e =
      elim (dec_le 10 (n % 32)) [
        | yes l ↦ rw (full_no_object e l) (omega arith)
        | no l ↦ rw (full-object e (omega arith)) (omega (arith, length-append (stated n) (b ∷ [])))
      ]

  pub full-some : 1 ≤ length (full_form a n b)
  full-some = elim (ℕ_discrete n 0) [ yes e ↦ rw (full-alone e) (omega arith) | no e ↦ omega (arith, full-least e) ]
