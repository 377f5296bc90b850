-- How many simple conditions a condition has, and how long its expanded form is, by the number of its tokens.
use mathlib.Core.Bool.{Bool, true, false, cond}
use mathlib.Core.List.{List, [], ◌∷◌, ◌++◌}
use Prim.Native.Nat.{ℕ, suc, ◌+◌, ◌*◌, ◌<◌, ◌≤◌, ◌%◌, min}
use native.Mathlib.Omega.{arith}
use native.Mathlib.Decide.{dec_le}
use borrow.Author.Tests.{lt-ltb, le-ltb}
use lib.ListN.{length, length-append}
use lib.Dec.{eqb, ltb}
use Rattle.grammar.specs.Grammar.{Carry, nothing, carried, Tree, simple, negated, bracketed, both, either}
use Rattle.grammar.specs.Grammar.{Simple, full, tested, switched, named, short, bare, Condition, Chain, Term, Body, Derives}
use Rattle.grammar.specs.Expanded.{stated, full_form, expanded}
use Rattle.grammar.specs.Judging.{simple_count}
use Rattle.grammar.proofs.Expansion.{relation_worded, full_relation, full_test, full-switch}

pub stated_width : (n : ℕ) → (1 ≤ length (stated n)) × (length (stated n) ≤ 2)
stated_width n = elim (dec_le 32 n) [ yes h ↦ rw (le-ltb n 32 h) (omega arith) | no h ↦ rw (lt-ltb n 32 (omega arith)) (omega arith) ]

pub full_width : (a n b : ℕ) → length (full_form a n b) ≤ length (stated n) + 2
unfolding full_form
full_width a n b = go (eqb n 0) (ltb (n % 32) 10)
  where
    go : (s o : Bool) → length (cond s (a ∷ []) (a ∷ stated n ++ cond o (b ∷ []) [])) ≤ length (stated n) + 2
    go true o = omega arith
    go false true = simp length-append (omega arith)
    go false false = simp length-append (omega arith)

-- A part is counted with one token more, the AND, OR or end after it, so that the counts of joined parts add up. Its spare is 5 for
-- each token less 2 for each token of its expanded form. What stands in full spares 3 for each token. An object alone spares 2, or 0
-- where NOT is carried with the relation, but it stands only after a relation in full, which has spared 12, or 15. So all but the
-- shortest conditions spare 14.

-- what has been spared, at least, where a relation is carried: 3 for each of its words, its two operands and the token after it
abbrev spared : Carry → ℕ
spared nothing = 0
spared (carried a m) = 3 * (length (stated m) + 3)

-- n tokens from a carry that spared c to one that spared d: l simple conditions, and e tokens in the expanded form
record Sized (c n l e d : ℕ) : Type 0 where
  rows : 2 * l ≤ n + 1
  whole : min 14 (3 * (n + 1) + c) + 2 * (e + 1) ≤ 5 * (n + 1) + c
  carry : d + 2 * (e + 1) ≤ 5 * (n + 1) + c

abbrev Sizes : Carry → List ℕ → Tree → Carry → Type 0
Sizes c ts t d = Sized (spared c) (length ts) (simple_count t) (length (expanded t)) (spared d)

sizes_simple : {c d : Carry} {ts : List ℕ} {t : Tree} → Simple c ts t d → Sizes c ts t d
unfolding simple_count expanded
sizes_simple (full {a = a} {b = b} h s g) = rw (full_relation a b s, (relation_worded s).says) (simp length-append (omega arith))
sizes_simple (tested {a = a} h s) = rw (full_test a 0 s) (omega arith)
sizes_simple (switched {s = s} h) = rw (full-switch s) (omega arith)
sizes_simple (named {s = s} h) = rw (full-switch s) (omega arith)
sizes_simple (short {a = a} {m = m} {b = b} s g) =
    rw (full_relation a b s, (relation_worded s).says) (simp length-append (omega (arith, stated_width m)))
sizes_simple (bare {a = a} {m = m} {b = b} g) = omega (arith, full_width a m b, stated_width m)

joined : {c n l e d m k f g : ℕ} → Sized c n l e d → Sized d m k f g → Sized c (n + suc m) (l + k) (e + suc f) g
joined p q = omega arith

sizes : {c d : Carry} {ts : List ℕ} {t : Tree} → Condition c ts t d → Sizes c ts t d
unfolding simple_count expanded
sizes derivation =
    elim derivation as
    (λ c ts t d h. Sizes c ts t d)
    (λ c ts t d h. Sizes c ts t d)
    (λ c ts t d h. Sizes c ts t d)
    (λ c ts t d h. Sizes c ts t d) [
      | Condition.chain (h → p) ↦ p
      | Condition.ors (h → p) i (g → q) ↦ simp length-append (joined p q)
      | Chain.term (h → p) ↦ p
      | Chain.ands (h → p) i (g → q) ↦ simp length-append (joined p q)
      | Term.body (h → p) ↦ p
      | Term.negation i l (h → p) ↦ omega arith
      | Body.one h ↦ sizes_simple h
      | Body.brackets i (h → p) j ↦ simp length-append (omega arith)
    ]

pub rows_bound : {ts : List ℕ} {t : Tree} → Derives ts t → 2 * simple_count t ≤ length ts + 1
rows_bound h = (sizes h.derivation).rows

-- "One row of five numbers for each simple condition": so a condition of 256 tokens fits in 128 rows.
pub few_rows : {ts : List ℕ} {t : Tree} → Derives ts t → length ts ≤ 256 → simple_count t ≤ 128
few_rows h l = omega (arith, rows_bound h)

-- 634 is reached by a NOT > b and 126 times AND c.
pub expanded_bound : {ts : List ℕ} {t : Tree} → Derives ts t → length ts ≤ 256 → length (expanded t) ≤ 634
expanded_bound h l = omega (arith, (sizes h.derivation).whole)
