-- How a simple condition goes on from a place, by the token there; and what the tests of a token say.
use mathlib.Core.Path.{◌≡◌, refl, sym, ◌∙◌}
use mathlib.Core.Bool.{Bool, true, false, ◌&&◌, ◌||◌, not as flip}
use mathlib.Core.List.{List}
use Prim.Native.Nat.{ℕ, ◌+◌, ◌-◌, ◌≤◌, ◌<◌, ◌%◌}
use native.Mathlib.Omega.{arith}
use native.Mathlib.Decide.{ℕ_discrete, dec_le}
use borrow.Author.Tests.{eq-eqb, ne_eqb, eqb-false, not-true}
use lib.ListN.{length, drop}
use lib.Dec.{eqb}
use Rattle.typing.specs.Tests.{within}
use Rattle.simples.specs.declared.Carried.{Carried}
use Rattle.simples.specs.declared.Single.{Single}
use Rattle.std.proofs.Common.{Result, Ok, Err}
use Rattle.grammar.specs.Grammar.{operand, switch, not, order, bound, test, name, Is, Carry, nothing, carried, simple}
use Rattle.grammar.specs.Parser.{Parser, parsed, stuck, object, alone, short_bounded, short_ordered, after_operand, parse_simple}
use Rattle.simples.specs.Reads.{tok, carry_of, Reads}
use Rattle.grammar.proofs.Spelling.{not_token, order_token, bound_token, test_token}
use Rattle.grammar.proofs.Spelling.{is_not, is_order_lem, is_bound, is_test}
use Rattle.simples.proofs.Looking.{inside, look, pass_on}
use Rattle.simples.proofs.Classes.{and-true, within_true, within_false}

-- A word that is found stands within the tokens.
abbrev pub Here : List ℕ → ℕ → ℕ → ℕ → ℕ → Type 0
Here tokens at x low high = (low ≤ x) × (x ≤ high) × (at < length tokens)

pub word_here : (tokens : List ℕ) (at : ℕ) {x : ℕ} {t : Bool} (low high : ℕ) → x ≡ tok tokens at → high < 4294967295 →
    t ≡ within low high x → t ≡ true → Here tokens at x low high
word_here tokens at {x} low high e l p h =
    let (g, k) = within_true low high x (sym p ∙ h) in
    (g, k, inside tokens at e (omega arith))

-- > < = >= <=
pub relation_here : (tokens : List ℕ) (at : ℕ) {x : ℕ} (s t : Bool) → x ≡ tok tokens at → s ≡ within 262149 262151 x → t ≡ within 262152 262153 x →
    (s || t) ≡ true → Here tokens at x 262149 262153
relation_here tokens at true t e p q h = omega (arith, word_here tokens at 262149 262151 e (omega arith) p refl)
relation_here tokens at false t e p q h = omega (arith, word_here tokens at 262152 262153 e (omega arith) q h)

-- neither these nor a class or sign word
pub no_word : (s t u : Bool) (x : ℕ) → s ≡ within 262149 262151 x → t ≡ within 262152 262153 x → (s || t) ≡ false →
    u ≡ within 262154 262160 x → u ≡ false → 262149 ≤ x → 262160 < x
no_word true t u x p q e r h l = let z : ◌≡◌ {A = ℕ} 0 1 = cc in absurd (omega arith)
no_word false t u x p q e r h l =
    let g : 262151 < x = within_false 262149 262151 x (sym p) l in
    let k : 262153 < x = within_false 262152 262153 x (sym q ∙ e) (omega arith) in
    within_false 262154 262160 x (sym r ∙ h) (omega arith)

-- a word, where the relation `m` is carried
pub short_here : (tokens : List ℕ) (at : ℕ) {x : ℕ} (low high m : ℕ) (s : Bool) → x ≡ tok tokens at → high < 4294967295 → s ≡ within low high x →
    (s && flip (eqb m 0)) ≡ true → Here tokens at x low high × (m ≡ 0 → ⊥)
short_here tokens at low high m s e l p h =
    let (g, k) = and-true s (flip (eqb m 0)) h in
    (word_here tokens at low high e l p g, eqb-false m 0 (not-true (eqb m 0) k))

pub no_short : {x : ℕ} (low high m : ℕ) (s : Bool) → s ≡ within low high x → (s && flip (eqb m 0)) ≡ false → (m ≡ 0 → ⊥) → low ≤ x → high < x
no_short low high m true p e n l =
    let z : true ≡ false = rw (ne_eqb m 0 n) at e in
    let y : ◌≡◌ {A = ℕ} 0 1 = cc in
    absurd (omega arith)
no_short {x} low high m false p e n l = within_false low high x (sym p) l

-- what is carried, by the relation
pub carries : (c : Carried) → (c.relation ≡ 0 → ⊥) → carry_of c ≡ carried c.subject c.relation
unfolding carry_of
carries c n = rw (ne_eqb c.relation 0 n)

pub carries_none : (c : Carried) → c.relation ≡ 0 → carry_of c ≡ nothing
unfolding carry_of
carries_none c e = rw (eq-eqb c.relation 0 e)

-- A reader's answer, from what its parser comes to.
module _ (q : Parser) (least : ℕ) (tokens : List ℕ) (at : ℕ) where
  pub reads_row : {a n b next : ℕ} {c : Carried} (d : Carry) → q (drop at tokens) ≡ parsed (simple a n b) d (drop next tokens) → carry_of c ≡ d →
      least + at ≤ next → next ≤ length tokens → Reads q least tokens at (Ok (record { subject = a; relation = n; object = b; next = next; carry = c }))
  reads_row d e k l h = record { found = e ∙ rw k; from = omega arith; upto = omega arith }

  pub reads_stuck : {place : ℕ} → q (drop at tokens) ≡ stuck (drop place tokens) → at ≤ place → place ≤ length tokens → Reads q least tokens at (Err place)
  reads_stuck e l h = record { found = e; from = omega arith; upto = omega arith }

  -- the parser goes on as another from a later place
  pub reads_on : (p : Parser) (most from : ℕ) (r : Result Single ℕ) → q (drop at tokens) ≡ p (drop from tokens) → least + at ≤ most + from → at ≤ from →
      Reads p most tokens from r → Reads q least tokens at r
  reads_on p most from (Ok s) e l h g = record { found = rw e g.found; from = omega arith; upto = omega arith }
  reads_on p most from (Err place) e l h g = record { found = rw e g.found; from = omega arith; upto = omega arith }

module _ (tokens : List ℕ) (at : ℕ) {x : ℕ} (e : x ≡ tok tokens at) where
  -- the object of a relation
  pub at_object : (a n : ℕ) → Is operand x → object a n (drop at tokens) ≡ parsed (simple a n x) (carried a n) (drop (at + 1) tokens)
  at_object a n i = simp (look tokens at e i tt)

  pub at_no_object : (a n : ℕ) → ¬ Is operand x → object a n (drop at tokens) ≡ stuck (drop at tokens)
  at_no_object a n o = simp (pass_on tokens at e {k = operand} o)

  -- after an operand
  pub at_relation : (c : Carry) (a : ℕ) → 262149 ≤ x → x ≤ 262153 → after_operand c a (drop at tokens) ≡ object a (x - 262144) (drop (at + 1) tokens)
  at_relation c a l h =
      let n : x % 65536 ≡ x - 262144 = omega arith in
      elim (dec_le x 262151) [
        | yes g ↦ simp (look tokens at e (is_order_lem x l g) tt, n)
        | no g ↦ simp (look tokens at e (is_bound x (omega arith) h) tt, n)
      ]

  pub at_test : (c : Carry) (a : ℕ) → 262154 ≤ x → x ≤ 262160 →
      after_operand c a (drop at tokens) ≡ parsed (simple a (x - 262144) 0) nothing (drop (at + 1) tokens)
  at_test c a l h = let n : x % 65536 ≡ x - 262144 = omega arith in simp (look tokens at e (is_test x l h) tt, n)

  -- an operand alone is an object, where a relation is carried
  module _ (c : Carried) (a : ℕ) (far : 262149 ≤ x → 262160 < x) (g : x ≡ 262146 → ⊥) where
    at_alone : after_operand (carry_of c) a (drop at tokens) ≡ alone (carry_of c) a (drop at tokens)
    at_alone =
        rw (
          pass_on tokens at e {k = order} (λ i. let l = order_token x i in omega (arith, far (omega arith))),
          pass_on tokens at e {k = bound} (λ i. let l = bound_token x i in omega (arith, far (omega arith))),
          pass_on tokens at e {k = test} (λ i. let l = test_token x i in omega (arith, far (omega arith))),
          pass_on tokens at e {k = not} (λ i. g (not_token x i)),
        )

    pub at_bare : (c.relation ≡ 0 → ⊥) →
        after_operand (carry_of c) a (drop at tokens) ≡ parsed (simple c.subject c.relation a) (carry_of c) (drop at tokens)
    at_bare n = rw (at_alone, carries c n)

    pub at_no_carry : c.relation ≡ 0 → after_operand (carry_of c) a (drop at tokens) ≡ stuck (drop at tokens)
    at_no_carry n = rw (at_alone, carries_none c n)

  -- NOT before a word
  module _ {y : ℕ} (f : y ≡ tok tokens (at + 1)) (c : Carry) (a : ℕ) (g : x ≡ 262146) where
    pub at_not_order : 262149 ≤ y → y ≤ 262151 → after_operand c a (drop at tokens) ≡ object a (y - 262144 + 32) (drop (at + 2) tokens)
    at_not_order l h =
        let n : y % 65536 ≡ y - 262144 = omega arith in
        let m : at + 1 + 1 ≡ at + 2 = omega arith in
        simp (look tokens at e (is_not x g) tt, look tokens (at + 1) f (is_order_lem y l h) tt, n, m)

    pub at_not_test : 262154 ≤ y → y ≤ 262160 →
        after_operand c a (drop at tokens) ≡ parsed (simple a (y - 262144 + 32) 0) nothing (drop (at + 2) tokens)
    at_not_test l h =
        let n : y % 65536 ≡ y - 262144 = omega arith in
        let m : at + 1 + 1 ≡ at + 2 = omega arith in
        simp (look tokens at e (is_not x g) tt, look tokens (at + 1) f (is_test y l h) tt, n, m)

    pub at_not_stuck : (262149 ≤ y → 262151 < y) → (262154 ≤ y → 262160 < y) → after_operand c a (drop at tokens) ≡ stuck (drop (at + 1) tokens)
    at_not_stuck far further =
        simp (
          look tokens at e (is_not x g) tt,
          pass_on tokens (at + 1) f {k = order} (λ i. let l = order_token y i in omega (arith, far (omega arith))),
          pass_on tokens (at + 1) f {k = test} (λ i. let l = test_token y i in omega (arith, further (omega arith))),
        )

  -- where a simple condition begins
  pub at_operand : (c : Carry) → Is operand x → parse_simple c (drop at tokens) ≡ after_operand c x (drop (at + 1) tokens)
  at_operand c i = simp (look tokens at e i tt)

  pub at_switch : (c : Carry) → Is switch x → parse_simple c (drop at tokens) ≡ parsed (simple x 0 0) nothing (drop (at + 1) tokens)
  at_switch c i = simp (look tokens at e i tt)

  pub at_name : (c : Carry) → Is name x → parse_simple c (drop at tokens) ≡ parsed (simple x 0 0) nothing (drop (at + 1) tokens)
  at_name c i = simp (look tokens at e i tt)

  module _ (c : Carried) (no_operand : ¬ Is operand x) (no_switch : ¬ Is switch x) (no_name : ¬ Is name x) where
    at_word : parse_simple (carry_of c) (drop at tokens) ≡ short_bounded (carry_of c) (drop at tokens)
    at_word =
        rw (
          pass_on tokens at e {k = operand} no_operand,
          pass_on tokens at e {k = switch} no_switch,
          pass_on tokens at e {k = name} no_name,
        )

    pub at_bound : (c.relation ≡ 0 → ⊥) → 262152 ≤ x → x ≤ 262153 →
        parse_simple (carry_of c) (drop at tokens) ≡ object c.subject (x - 262144) (drop (at + 1) tokens)
    at_bound n g h =
        let i : x % 65536 ≡ x - 262144 = omega arith in
        rw (at_word, carries c n) (simp (look tokens at e (is_bound x g h) tt, i))

    pub at_no_simple : ((c.relation ≡ 0 → ⊥) → 262152 ≤ x → 262153 < x) → parse_simple (carry_of c) (drop at tokens) ≡ stuck (drop at tokens)
    at_no_simple far =
        elim (ℕ_discrete c.relation 0) [
          | yes n ↦ rw (at_word, carries_none c n)
          | no n ↦ rw (at_word, carries c n, pass_on tokens at e {k = bound} (λ i. let l = bound_token x i in omega (arith, far n (omega arith))))
        ]

  -- > < = where a relation is carried, and any other token
  pub at_short : (c : Carried) (number : ℕ → ℕ) (q : Parser) → (c.relation ≡ 0 → ⊥) → 262149 ≤ x → x ≤ 262151 →
      short_ordered (carry_of c) number q (drop at tokens) ≡ object c.subject (number (x - 262144)) (drop (at + 1) tokens)
  at_short c number q n l h =
      let i : x % 65536 ≡ x - 262144 = omega arith in
      rw (carries c n) (simp (look tokens at e (is_order_lem x l h) tt, i))

  pub at_no_short : (c : Carried) (number : ℕ → ℕ) (q : Parser) → ((c.relation ≡ 0 → ⊥) → 262149 ≤ x → 262151 < x) →
      short_ordered (carry_of c) number q (drop at tokens) ≡ q (drop at tokens)
  at_no_short c number q far =
      elim (ℕ_discrete c.relation 0) [
        | yes n ↦ rw (carries_none c n)
        | no n ↦ rw (carries c n, pass_on tokens at e {k = order} (λ i. let l = order_token x i in omega (arith, far n (omega arith))))
      ]
