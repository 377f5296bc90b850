-- Document 02, l): the converted tokens of a condition derive its converted tree; the plan of that tree is the converted plan.
use mathlib.Core.Path.{◌≡◌, refl, sym, ap, ap₂, ◌∙◌}
use mathlib.Core.Bool.{Bool, true, false, cond, not}
use mathlib.Core.List.{List, [], ◌∷◌, ◌++◌, append_assoc}
use Prim.Native.Nat.{ℕ, suc, ◌+◌, ◌-◌, ◌*◌, ◌/◌, ◌≤◌}
use native.Mathlib.Omega.{arith}
use borrow.Author.Tests.{ne_eqb, eqb-true}
use lib.Dec.{eqb}
use lib.ListN.{length}
use Rattle.tables.specs.Tokens.{is_off}
use Rattle.grammar.specs.declared.PlanRow.{PlanRow}
use Rattle.grammar.specs.Grammar.{operand, switch, test, name, Is, Carry, nothing, carried, Tree, simple, negated, bracketed, both, either}
use Rattle.grammar.specs.Grammar.{Stated, plain, with_not, Relation, ordered, bounded, Simple, full, tested, switched, named, short, bare}
use Rattle.grammar.specs.Grammar.{Logical, Condition, chain, ors, Chain, term, ands, Term, body, negation, Body, one, brackets, Derives}
use Rattle.grammar.specs.Judging.{simple_count}
use Rattle.grammar.specs.Plan.{on_true, on_false, rows_of, flat, planned, plan_row}
use Rattle.grammar.specs.Converted.{on_token, not_if, only_on, converted_tokens, negated_if, tree_on, converted_tree, on_row, on_rows, rows_from, converted_plan}
use Rattle.grammar.proofs.Spelling.{operand_token, opening_token, closing_token, not_token, and_token, or_token}
use Rattle.grammar.proofs.Spelling.{spelled, order_token, bound_token, test_token, is_switch_lem, is_not}
use Rattle.grammar.proofs.Segment.{Stands, stands_one, stands_left, stands_right, rows-count, planned-rows, planned_stands}
use Rattle.grammar.proofs.Expansion.{low_logical}
use native.Mathlib.Numerals.{add-one}

-- operands and words are not off
operand_clean : (x : ℕ) → Is operand x → is_off x ≡ false
operand_clean x h = ne_eqb (x / 65536) 3 (λ e. omega (arith, operand_token x h))

word_clean : (x : ℕ) → 262144 ≤ x → is_off x ≡ false
word_clean x h = ne_eqb (x / 65536) 3 (λ e. omega arith)

-- no token is off
abbrev pub Clean : List ℕ → Type 0
Clean [] = Unit {0}
Clean (x ∷ ts) = (is_off x ≡ false) × Clean ts

-- tokens without an off token stay as they are
pub clean_stays : (w : Bool) (ts : List ℕ) → Clean ts → only_on w ts ≡ not_if w ++ ts
unfolding only_on
clean_stays true [] c = refl
clean_stays false [] c = refl
clean_stays w (x ∷ ts) c = rw c.0 (go (eqb x 262146) refl (clean_stays true ts c.1) (clean_stays false ts c.1))
  where
    go : (b : Bool) → eqb x 262146 ≡ b → only_on true ts ≡ 262146 ∷ ts → only_on false ts ≡ ts →
        cond b (not_if w ++ only_on true ts) (not_if w ++ x ∷ only_on false ts) ≡ not_if w ++ x ∷ ts
    go true e p q = rw (p, eqb-true x 262146 e)
    go false e p q = rw q

-- at most one token more for each
pub converted_size : (w : Bool) (ts : List ℕ) → length (only_on w ts) ≤ length (not_if w) + 2 * length ts
unfolding only_on
converted_size w [] = omega arith
converted_size w (x ∷ ts) = go w (is_off x) (eqb x 262146) (converted_size true ts) (converted_size false ts)
  where
    go : (w f n : Bool) → length (only_on true ts) ≤ 1 + 2 * length ts → length (only_on false ts) ≤ 0 + 2 * length ts →
        length (
        cond f (not_if (not w) ++ on_token x ∷ only_on false ts)
        (cond n (not_if w ++ only_on true ts) (not_if w ++ x ∷ only_on false ts))
        ) ≤ length (not_if w) + 2 * suc (length ts)
    go true true n p q = omega arith
    go false true n p q = omega arith
    go true false true p q = omega arith
    go false false true p q = omega arith
    go true false false p q = omega arith
    go false false false p q = omega arith

-- a token between two parts that is neither off nor NOT parts their conversions too
module _ (o : ℕ) (us : List ℕ) (clean : is_off o ≡ false) (other : eqb o 262146 ≡ false) where
  parted : (w : Bool) (ts : List ℕ) → only_on w (ts ++ o ∷ us) ≡ only_on w ts ++ o ∷ only_on false us
  unfolding only_on
  parted w [] = rw (clean, other)
  parted w (x ∷ ts) = go (is_off x) (eqb x 262146) (parted true ts) (parted false ts)
    where
      go : (f n : Bool) → only_on true (ts ++ o ∷ us) ≡ only_on true ts ++ o ∷ only_on false us →
          only_on false (ts ++ o ∷ us) ≡ only_on false ts ++ o ∷ only_on false us →
          cond f (not_if (not w) ++ on_token x ∷ only_on false (ts ++ o ∷ us))
          (cond n (not_if w ++ only_on true (ts ++ o ∷ us)) (not_if w ++ x ∷ only_on false (ts ++ o ∷ us)))
          ≡ cond f (not_if (not w) ++ on_token x ∷ only_on false ts) (cond n (not_if w ++ only_on true ts) (not_if w ++ x ∷ only_on false ts))
          ++ o ∷ only_on false us
      go true n p q =
          ap (λ l. not_if (not w) ++ on_token x ∷ l) q
          ∙ sym (append_assoc (not_if (not w)) (on_token x ∷ only_on false ts) (o ∷ only_on false us))
      go false true p q = ap (λ l. not_if w ++ l) p ∙ sym (append_assoc (not_if w) (only_on true ts) (o ∷ only_on false us))
      go false false p q =
          ap (λ l. not_if w ++ x ∷ l) q ∙ sym (append_assoc (not_if w) (x ∷ only_on false ts) (o ∷ only_on false us))

joint_other : (o : ℕ) → (o ≡ 262146 → ⊥) → eqb o 262146 ≡ false
joint_other o h = ne_eqb o 262146 h

bracketed_tokens : (w : Bool) (l r : ℕ) (ts : List ℕ) → l ≡ 262144 → r ≡ 262145 →
    only_on w (l ∷ ts ++ r ∷ []) ≡ not_if w ++ l ∷ (only_on false ts ++ r ∷ [])
unfolding only_on
bracketed_tokens w l r ts e f =
    rw (word_clean l (omega arith), joint_other l (λ g. omega arith))
    (ap (λ x. not_if w ++ l ∷ x) (parted r [] (word_clean r (omega arith)) (joint_other r (λ g. omega arith)) false ts))

relation_clean : {r : List ℕ} {n : ℕ} (b : ℕ) → Relation r n → Is operand b → Clean (r ++ b ∷ [])
relation_clean b (ordered (plain {w = w} h)) j = (word_clean w (omega (arith, order_token w h)), (operand_clean b j, tt))
relation_clean b (ordered (with_not {n = x} {w = w} i h)) j =
    (word_clean x (omega (arith, not_token x i)), (word_clean w (omega (arith, order_token w h)), (operand_clean b j, tt)))
relation_clean b (bounded {w = w} h) j = (word_clean w (omega (arith, bound_token w h)), (operand_clean b j, tt))

test_clean : {r : List ℕ} {n : ℕ} → Stated test r n → Clean r
test_clean (plain {w = w} h) = (word_clean w (omega (arith, test_token w h)), tt)
test_clean (with_not {n = x} {w = w} i h) =
    (word_clean x (omega (arith, not_token x i)), (word_clean w (omega (arith, test_token w h)), tt))

name_clean : (s : ℕ) → Is name s → is_off s ≡ false
name_clean s i = let q : s / 65536 ≡ 5 = spelled s i in rw q

-- a carried subject is no off token
abbrev Carries : Carry → Type 0
Carries nothing = Unit {0}
Carries (carried a m) = is_off a ≡ false

-- What a body converts to: a term, and another one where a NOT before it that is logical is not written yet. An off switch becomes a
-- term with NOT in the first case and a body without in the second, so no NOT comes to stand after a NOT.
abbrev Converts : Carry → List ℕ → Tree → Carry → Type 0
Converts c ts t d = Term c (only_on false ts) (tree_on false t) d × (Logical ts → Term c (only_on true ts) (tree_on true t) d)

clean_body : {c d : Carry} {ts : List ℕ} {t : Tree} → Body c ts t d → Clean ts → tree_on false t ≡ t → tree_on true t ≡ negated t → Converts c ts t d
clean_body {ts = ts} h k e f = (rw (clean_stays false ts k, e) (body h), λ l. rw (clean_stays true ts k, f) (negation (is_not 262146 refl) l h))

clean_simple : {c d : Carry} {ts : List ℕ} {a n b : ℕ} → Simple c ts (simple a n b) d → Clean ts → is_off a ≡ false → Converts c ts (simple a n b) d
unfolding tree_on
clean_simple h k e = clean_body (one h) k (rw e) (rw e)

-- the off switch itself: "NOT before an off token becomes the on token alone, a bare off token becomes NOT and the on token"
off_converts : (c : Carry) (s : ℕ) → is_off s ≡ true → Converts c (s ∷ []) (simple s 0 0) nothing
unfolding only_on tree_on
off_converts c s e =
    let k : s / 65536 ≡ 3 = eqb-true (s / 65536) 3 e in
    let h : Simple c ((s - 65536) ∷ []) (simple (s - 65536) 0 0) nothing = switched (is_switch_lem (s - 65536) (omega arith) (omega arith)) in
    rw e (negation (is_not 262146 refl) (low_logical (s - 65536) (omega arith)) (one h), λ l. body (one h))

switch_converts : (c : Carry) (s : ℕ) → Is switch s → Converts c (s ∷ []) (simple s 0 0) nothing
switch_converts c s i = go (is_off s) refl
  where
    go : (b : Bool) → is_off s ≡ b → Converts c (s ∷ []) (simple s 0 0) nothing
    go true e = off_converts c s e
    go false e = clean_simple (switched i) (e, tt) e

simple_converts : {c d : Carry} {ts : List ℕ} {t : Tree} → Simple c ts t d → Carries c → Converts c ts t d × Carries d
simple_converts (full {a = a} {b = b} i s j) k = (clean_simple (full i s j) (operand_clean a i, relation_clean b s j) (operand_clean a i), operand_clean a i)
simple_converts (tested {a = a} i s) k = (clean_simple (tested i s) (operand_clean a i, test_clean s) (operand_clean a i), tt)
simple_converts {c = c} (switched {s = s} i) k = (switch_converts c s i, tt)
simple_converts (named {s = s} i) k = let e = name_clean s i in (clean_simple (named i) (e, tt) e, tt)
simple_converts (short {b = b} s j) k = (clean_simple (short s j) (relation_clean b s j) k, k)
simple_converts (bare {b = b} j) k = (clean_simple (bare j) (operand_clean b j, tt) k, k)

converts : {c d : Carry} {ts : List ℕ} {t : Tree} → Condition c ts t d → Carries c → Condition c (only_on false ts) (tree_on false t) d × Carries d
unfolding only_on tree_on
converts derivation =
    elim derivation as
    (λ c ts t d h. Carries c → Condition c (only_on false ts) (tree_on false t) d × Carries d)
    (λ c ts t d h. Carries c → Chain c (only_on false ts) (tree_on false t) d × Carries d)
    (λ c ts t d h. Carries c → Term c (only_on false ts) (tree_on false t) d × Carries d)
    (λ c ts t d h. Carries c → Converts c ts t d × Carries d) [
      | Condition.chain (h → p) ↦ λ k. let x = p k in (chain x.0, x.1)
      | Condition.ors {ts = ts} {us = us} {o = o} (h → p) i (g → q) ↦
          λ k.
          let x = p k in
          let y = q x.1 in
          (rw (parted o us (word_clean o (omega (arith, or_token o i))) (joint_other o (λ e. omega (arith, or_token o i))) false ts) (ors x.0 i y.0), y.1)
      | Chain.term (h → p) ↦ λ k. let x = p k in (term x.0, x.1)
      | Chain.ands {ts = ts} {us = us} {o = o} (h → p) i (g → q) ↦
          λ k.
          let x = p k in
          let y = q x.1 in
          (rw (parted o us (word_clean o (omega (arith, and_token o i))) (joint_other o (λ e. omega (arith, and_token o i))) false ts) (ands x.0 i y.0), y.1)
      | Term.body (h → p) ↦ λ k. let x = p k in (x.0.0, x.1)
      | Term.negation {n = n} i l (h → p) ↦ λ k. let x = p k in (rw (not_token n i) (x.0.1 l), x.1)
      | Body.one h ↦ simple_converts h
      | Body.brackets {ts = ts} {l = l} {r = r} i (h → p) j ↦
          λ k.
          let x = p tt in
          let e = opening_token l i in
          let f = closing_token r j in (
            (
              rw (bracketed_tokens false l r ts e f) (body (brackets i x.0 j)),
              λ g.
                  rw (bracketed_tokens true l r ts e f) (negation (is_not 262146 refl) (low_logical l (omega arith)) (brackets i x.0 j)),
            ),
            tt,
          )
    ]

-- "where the condition converts": its converted tokens derive its converted tree, and leave the carry that it left
pub converted_derives : {ts : List ℕ} {t : Tree} → Derives ts t → Derives (converted_tokens ts) (converted_tree t)
converted_derives h = record { carry = h.carry; derivation = (converts h.derivation tt).0 }

-- the rows of the converted tree are the converted rows
simple_count_if : (w : Bool) (t : Tree) → simple_count (negated_if w t) ≡ simple_count t
unfolding simple_count
simple_count_if true t = refl
simple_count_if false t = refl

pub simple_count_on : (w : Bool) (t : Tree) → simple_count (tree_on w t) ≡ simple_count t
unfolding simple_count tree_on
simple_count_on w (simple a r b) = go (is_off a)
  where
    go : (f : Bool) → simple_count (cond f (negated_if (not w) (simple (on_token a) r b)) (negated_if w (simple a r b))) ≡ 1
    go true = simple_count_if (not w) _
    go false = simple_count_if w _
simple_count_on w (negated t) = simple_count_if w (tree_on true t) ∙ simple_count_on true t
simple_count_on w (bracketed t) = simple_count_if w (bracketed (tree_on false t)) ∙ simple_count_on false t
simple_count_on w (both t u) = simple_count_if w (both (tree_on false t) (tree_on false u)) ∙ ap₂ (λ x y. x + y) (simple_count_on false t) (simple_count_on false u)
simple_count_on w (either t u) = simple_count_if w (either (tree_on false t) (tree_on false u)) ∙ ap₂ (λ x y. x + y) (simple_count_on false t) (simple_count_on false u)

on_append : (a b : List PlanRow) → on_rows (a ++ b) ≡ on_rows a ++ on_rows b
unfolding on_rows
on_append [] b = refl
on_append (r ∷ a) b = ap (λ l. on_row r ∷ l) (on_append a b)

-- A tree after a NOT that is not written has its exits exchanged.
rows_on : (n y f : ℕ) (t : Tree) → (rows_of n y f (tree_on false t) ≡ on_rows (rows_of n y f t)) × (rows_of n y f (tree_on true t) ≡ on_rows (rows_of n f y t))
unfolding rows_of tree_on on_row on_rows
rows_on n y f (simple a r b) = (go (is_off a), back (is_off a))
  where
    go : (o : Bool) → rows_of n y f (cond o (negated (simple (on_token a) r b)) (simple a r b))
        ≡ cond o (record { subject = on_token a; relation = r; object = b; holds = f; fails = y })
        (record { subject = a; relation = r; object = b; holds = y; fails = f }) ∷ []
    go true = refl
    go false = refl

    back : (o : Bool) → rows_of n y f (cond o (simple (on_token a) r b) (negated (simple a r b)))
        ≡ cond o (record { subject = on_token a; relation = r; object = b; holds = y; fails = f })
        (record { subject = a; relation = r; object = b; holds = f; fails = y }) ∷ []
    back true = refl
    back false = refl
rows_on n y f (negated t) = ((rows_on n y f t).1, (rows_on n f y t).1)
rows_on n y f (bracketed t) = ((rows_on n y f t).0, (rows_on n f y t).0)
rows_on n y f (both t u) =
    rw (simple_count_on false t) (
      sym (on_append (rows_of n (n + simple_count t) f t) (rows_of (n + simple_count t) y f u) ∙ ap₂ (λ a b. a ++ b) (sym (rows_on n (n + simple_count t) f t).0) (sym (rows_on (n + simple_count t) y f u).0)),
      sym (on_append (rows_of n (n + simple_count t) y t) (rows_of (n + simple_count t) f y u) ∙ ap₂ (λ a b. a ++ b) (sym (rows_on n (n + simple_count t) y t).0) (sym (rows_on (n + simple_count t) f y u).0)),
    )
rows_on n y f (either t u) =
    rw (simple_count_on false t) (
      sym (on_append (rows_of n y (n + simple_count t) t) (rows_of (n + simple_count t) y f u) ∙ ap₂ (λ a b. a ++ b) (sym (rows_on n y (n + simple_count t) t).0) (sym (rows_on (n + simple_count t) y f u).0)),
      sym (on_append (rows_of n f (n + simple_count t) t) (rows_of (n + simple_count t) f y u) ∙ ap₂ (λ a b. a ++ b) (sym (rows_on n f (n + simple_count t) t).0) (sym (rows_on (n + simple_count t) f y u).0)),
    )

-- rows that stand in a plan are read out of it again
rows_again : (row : ℕ → PlanRow) (n : ℕ) (rows : List PlanRow) → Stands row n rows → rows_from row n (length rows) ≡ rows
unfolding rows_from
rows_again row n [] h = refl
rows_again row n (r ∷ rows) h =
    ap₂ (λ x l. x ∷ l) (stands_one row n r (stands_left row n (r ∷ []) rows h))
    (rows_again row (suc n) rows (rw add-one at (stands_right row n 1 (r ∷ []) rows h refl)))

planned-flat : (u : Tree) → planned u ≡ flat (rows_of 0 on_true on_false u)
unfolding planned
planned-flat u = refl

plan_again : (t : Tree) → converted_plan (planned t) ≡ flat (on_rows (rows_of 0 on_true on_false t))
unfolding converted_plan
plan_again t =
    ap (λ n. flat (on_rows (rows_from (plan_row (planned t)) 0 n))) (planned-rows t ∙ sym (rows-count 0 on_true on_false t))
    ∙ ap (λ l. flat (on_rows l)) (rows_again (plan_row (planned t)) 0 (rows_of 0 on_true on_false t) (planned_stands t))

-- "both ways give one plan"
pub converted_planned : (t : Tree) → planned (converted_tree t) ≡ converted_plan (planned t)
converted_planned t = planned-flat (converted_tree t) ∙ ap flat (rows_on 0 on_true on_false t).0 ∙ sym (plan_again t)
