-- The next part of the expanded form, by the token at its place.
use mathlib.Core.Path.{◌≡◌, refl}
use mathlib.Core.Bool.{true, false, ◌||◌}
use mathlib.Core.List.{List}
use Prim.Native.Nat.{ℕ, ◌+◌, ◌-◌, ◌≤◌, ◌<◌}
use native.Mathlib.Omega.{arith}
use native.Mathlib.Decide.{ℕ_discrete}
use borrow.Author.Tests.{eqb-true, eqb-false, eq-eqb, ne_eqb}
use lib.ListN.{drop}
use lib.Dec.{eqb}
use Rattle.simples.specs.declared.Carried.{Carried}
use Rattle.std.proofs.Common.{Ok}
use Rattle.grammar.specs.Grammar.{Class, opening, closing, not, and, or, other, Is, Carry, nothing, simple}
use Rattle.grammar.specs.Parser.{parsed, object, short_ordered, parse_simple}
use Rattle.simples.specs.Reads.{tok, carry_of, Reads}
use Rattle.expander.specs.Spelled.{copied, part}
use Rattle.grammar.proofs.Sound.{Differ}
use Rattle.grammar.proofs.Spelling.{opening_token, closing_token, not_token, and_token, or_token}
use Rattle.grammar.proofs.Spelling.{is_opening, is_closing, is_not, is_and, is_or}
use Rattle.simples.proofs.Looking.{stands, look, pass_on}
use Rattle.simples.proofs.Resolving.{carries_none, reads_row, at_short, at_no_short}

-- one of two words, or neither
second : (x a b : ℕ) → (eqb x a || eqb x b) ≡ true → (x ≡ a → ⊥) → x ≡ b
second x a b h n = eqb-true x b (rw (ne_eqb x a n) at h)

neither : (x a b : ℕ) → (eqb x a || eqb x b) ≡ false → (x ≡ a → ⊥) × (x ≡ b → ⊥)
neither x a b h =
    elim (ℕ_discrete x a) [
      | yes g ↦
          let z : true ≡ false = rw (eq-eqb x a g) at h in
          let y : ◌≡◌ {A = ℕ} 0 1 = cc in
          absurd (omega arith)
      | no g ↦ (g, eqb-false x b (rw (ne_eqb x a g) at h))
    ]

module _ (tokens : List ℕ) (at : ℕ) {x : ℕ} (e : x ≡ tok tokens at) (c : Carried) where
  -- a word that stays
  stays : {k : Class} {d : Carried} (kept : Carry) → Is k x → Differ k other → carry_of d ≡ kept →
      part (carry_of c) (drop at tokens) ≡ parsed (simple x 0 0) kept (drop (at + 1) tokens) → Reads (part (carry_of c)) 1 tokens at (Ok (record { subject = x; relation = 0; object = 0; next = at + 1; carry = d }))
  stays kept i s g q = reads_row (part (carry_of c)) 1 tokens at kept q g (omega arith) (omega (arith, stands tokens at e i s))

  pub reads_bracket : (eqb x 262144 || eqb x 262145) ≡ true → Reads (part (carry_of c)) 1 tokens at (Ok (record { subject = x; relation = 0; object = 0; next = at + 1; carry = record { subject = 0; relation = 0 } }))
  reads_bracket h =
      elim (ℕ_discrete x 262144) [
        | yes g ↦ let i = is_opening x g in stays nothing i tt (carries_none _ refl) (simp (look tokens at e i tt))
        | no g ↦ let i = is_closing x (second x 262144 262145 h g) in stays nothing i tt (carries_none _ refl) (simp (look tokens at e i tt))
      ]

  pub reads_joint : (eqb x 262147 || eqb x 262148) ≡ true → Reads (part (carry_of c)) 1 tokens at (Ok (record { subject = x; relation = 0; object = 0; next = at + 1; carry = c }))
  reads_joint h =
      elim (ℕ_discrete x 262147) [
        | yes g ↦ let i = is_and x g in stays (carry_of c) i tt refl (simp (look tokens at e i tt))
        | no g ↦ let i = is_or x (second x 262147 262148 h g) in stays (carry_of c) i tt refl (simp (look tokens at e i tt))
      ]

  -- NOT, by the token after it
  module _ {y : ℕ} (f : y ≡ tok tokens (at + 1)) (g : x ≡ 262146) where
    pub reads_logical : ((c.relation ≡ 0 → ⊥) → 262149 ≤ y → 262151 < y) → Reads (part (carry_of c)) 1 tokens at (Ok (record { subject = x; relation = 0; object = 0; next = at + 1; carry = c }))
    reads_logical far =
        let i = is_not x g in
        stays (carry_of c) i tt refl (simp (look tokens at e i tt) (at_no_short tokens (at + 1) f c (λ n. n + 32) _ far))

    pub part_not : (c.relation ≡ 0 → ⊥) → 262149 ≤ y → y ≤ 262151 →
        part (carry_of c) (drop at tokens) ≡ object c.subject (y - 262144 + 32) (drop (at + 2) tokens)
    part_not n l h =
        let m : at + 1 + 1 ≡ at + 2 = omega arith in
        simp (look tokens at e (is_not x g) tt) (rw m at (at_short tokens (at + 1) f c (λ n. n + 32) (copied (carry_of c) x) n l h))

  -- any other token
  module _ (b : (eqb x 262144 || eqb x 262145) ≡ false) (j : (eqb x 262147 || eqb x 262148) ≡ false) (g : x ≡ 262146 → ⊥) where
    part_simple : part (carry_of c) (drop at tokens) ≡ short_ordered (carry_of c) (λ n. n) (parse_simple (carry_of c)) (drop at tokens)
    part_simple =
        rw (
          pass_on tokens at e {k = opening} (λ i. (neither x 262144 262145 b).0 (opening_token x i)),
          pass_on tokens at e {k = closing} (λ i. (neither x 262144 262145 b).1 (closing_token x i)),
          pass_on tokens at e {k = and} (λ i. (neither x 262147 262148 j).0 (and_token x i)),
          pass_on tokens at e {k = or} (λ i. (neither x 262147 262148 j).1 (or_token x i)),
          pass_on tokens at e {k = not} (λ i. g (not_token x i)),
        )

    pub part_short : (c.relation ≡ 0 → ⊥) → 262149 ≤ x → x ≤ 262151 →
        part (carry_of c) (drop at tokens) ≡ object c.subject (x - 262144) (drop (at + 1) tokens)
    part_short n l h = rw part_simple (at_short tokens at e c (λ n. n) _ n l h)

    pub part_other : ((c.relation ≡ 0 → ⊥) → 262149 ≤ x → 262151 < x) → part (carry_of c) (drop at tokens) ≡ parse_simple (carry_of c) (drop at tokens)
    part_other far = rw part_simple (at_no_short tokens at e c (λ n. n) _ far)
