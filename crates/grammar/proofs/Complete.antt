-- What is derived the parser accepts, with that tree and that carry.
use mathlib.Core.Path.{◌≡◌, refl, ap, subst}
use mathlib.Core.List.{List, [], ◌∷◌, ◌++◌, append_assoc}
use Prim.Native.Nat.{ℕ, zero, suc, ◌+◌, ◌*◌, ◌≤◌}
use native.Mathlib.Omega.{arith}
use lib.ListN.{length, length-append}
use Rattle.grammar.specs.Grammar.{Class, operand, switch, opening, closing, not, and, or, order, bound, test, name, other, Class-discrete, class}
use Rattle.grammar.specs.Grammar.{Is, Carry, nothing, carried, Tree, Stated, Relation, Simple, Logical, logical, Condition, Chain, Term, Body}
use Rattle.grammar.specs.Parser.{Result, parsed, Parser, on, short_ordered, parse_simple, parse_condition, parse_chain, parse_term, parse_body}
use Rattle.grammar.proofs.Sound.{is_logical}

-- At a token that is not of class `k`.
pub on_no : (k : Class) (p : ℕ → Parser) (q : Parser) (x : ℕ) (ts : List ℕ) → ¬ (class x ≡ k) → on k p q (x ∷ ts) ≡ q (x ∷ ts)
unfolding on
on_no k p q x ts i = go (Class-discrete (class x) k)
  where
    go : (d : Dec (class x ≡ k)) → elim d as (λ _. Result) [ yes _ ↦ p x ts | no _ ↦ q (x ∷ ts) ] ≡ q (x ∷ ts)
    go (yes e) = absurd (i e)
    go (no n) = refl

-- How strongly a token ends what stands before it: a bracket ends a condition, OR a chain, AND a term.
abbrev rank : Class → ℕ
rank closing = 0
rank or = 1
rank and = 2
rank operand = 3
rank switch = 3
rank opening = 3
rank not = 3
rank order = 3
rank bound = 3
rank test = 3
rank name = 3
rank other = 3

-- Tokens before which such a part ends: none, or a token of at most that rank.
abbrev pub Ends : ℕ → List ℕ → Type 0
Ends n [] = Unit {0}
Ends n (x ∷ ts) = rank (class x) ≤ n

ends_le : (n m : ℕ) (ts : List ℕ) → n ≤ m → Ends n ts → Ends m ts
ends_le n m [] l s = tt
ends_le n m (x ∷ ts) l s = omega arith

off : (n : ℕ) (ts : List ℕ) → Ends n ts → (k : Class) (p : ℕ → Parser) (q : Parser) → rank k ≡ suc n → on k p q ts ≡ q ts
unfolding on
off n [] s k p q l = refl
off n (x ∷ ts) s k p q l = on_no k p q x ts (λ e. let l' : rank (class x) ≡ rank k = ap rank e in omega arith)

-- At a token of class `j`, whatever class is asked for.
pub at : {j : Class} {x : ℕ} → Is j x → (k : Class) (p : ℕ → Parser) (q : Parser) (ts : List ℕ) →
    on k p q (x ∷ ts) ≡ elim (Class-discrete j k) as (λ _. Result) [ yes _ ↦ p x ts | no _ ↦ q (x ∷ ts) ]
unfolding on
at {x} i k p q ts =
    subst (λ (j : Class). on k p q (x ∷ ts) ≡ elim (Class-discrete j k) as (λ _. Result) [ yes _ ↦ p x ts | no _ ↦ q (x ∷ ts) ])
    i.is
    refl

pub complete_simple : {c d : Carry} {us : List ℕ} {t : Tree} → Simple c us t d → Logical us → (rest : List ℕ) → Ends 2 rest →
    parse_simple c (us ++ rest) ≡ parsed t d rest
complete_simple (Simple.full i (Relation.ordered (Stated.plain j)) k) g rest s = simp (at i, at j, at k)
complete_simple (Simple.full i (Relation.ordered (Stated.with_not l j)) k) g rest s = simp (at i, at l, at j, at k)
complete_simple (Simple.full i (Relation.bounded j) k) g rest s = simp (at i, at j, at k)
complete_simple (Simple.tested i (Stated.plain j)) g rest s = simp (at i, at j)
complete_simple (Simple.tested i (Stated.with_not l j)) g rest s = simp (at i, at l, at j)
complete_simple (Simple.switched i) g rest s = simp (at i)
complete_simple (Simple.named i) g rest s = simp (at i)
complete_simple (Simple.short (Relation.ordered (Stated.plain j)) k) (logical g h) rest s = absurd (g j)
complete_simple (Simple.short (Relation.ordered (Stated.with_not l j)) k) (logical g h) rest s = absurd (h l)
complete_simple (Simple.short (Relation.bounded j) k) g rest s = simp (at j, at k)
complete_simple (Simple.bare i) g rest s = simp (at i, off 2 rest s)

skip_opening : {c d : Carry} {us : List ℕ} {t : Tree} → Simple c us t d → (rest : List ℕ) (p : ℕ → Parser) (q : Parser) →
    on opening p q (us ++ rest) ≡ q (us ++ rest)
skip_opening (Simple.full i s j) rest p q = simp (at i)
skip_opening (Simple.tested i s) rest p q = simp (at i)
skip_opening (Simple.switched i) rest p q = simp (at i)
skip_opening (Simple.named i) rest p q = simp (at i)
skip_opening (Simple.short (Relation.ordered (Stated.plain i)) j) rest p q = simp (at i)
skip_opening (Simple.short (Relation.ordered (Stated.with_not l i)) j) rest p q = simp (at l)
skip_opening (Simple.short (Relation.bounded i) j) rest p q = simp (at i)
skip_opening (Simple.bare i) rest p q = simp (at i)

skip_not : {us : List ℕ} → Logical us → (rest : List ℕ) (p : ℕ → Parser) (q : Parser) → on not p q (us ++ rest) ≡ q (us ++ rest)
skip_not (logical g h) rest p q = on_no not p q _ _ (λ e. h (record { is = e }))

pub skip_order : {us : List ℕ} → Logical us → (rest : List ℕ) (c : Carry) (number : ℕ → ℕ) (q : Parser) →
    short_ordered c number q (us ++ rest) ≡ q (us ++ rest)
skip_order g rest nothing number q = refl
skip_order (logical g h) rest (carried a m) number q = on_no order _ q _ _ (λ e. g (record { is = e }))

-- A body is one before which a NOT is logical, or an abbreviated relation that the term's parser reads itself.
data Shape (c : Carry) (us : List ℕ) (t : Tree) (d : Carry) : Type 0 where
  inner : Logical us → Shape c us t d
  outer : ((f : ℕ) (rest : List ℕ) → parse_term (suc f) c (us ++ rest) ≡ parsed t d rest) → Shape c us t d

shape_simple : {c d : Carry} {us : List ℕ} {t : Tree} → Simple c us t d → Shape c us t d
unfolding parse_condition
shape_simple (Simple.full i s j) = inner (is_logical i tt tt)
shape_simple (Simple.tested i s) = inner (is_logical i tt tt)
shape_simple (Simple.switched i) = inner (is_logical i tt tt)
shape_simple (Simple.named i) = inner (is_logical i tt tt)
shape_simple (Simple.short (Relation.ordered (Stated.plain j)) k) = outer (λ f rest. simp (at j, at k))
shape_simple (Simple.short (Relation.ordered (Stated.with_not i j)) k) = outer (λ f rest. simp (at i, at j, at k))
shape_simple (Simple.short (Relation.bounded i) j) = inner (is_logical i tt tt)
shape_simple (Simple.bare i) = inner (is_logical i tt tt)

shape_body : {c d : Carry} {us : List ℕ} {t : Tree} → Body c us t d → Shape c us t d
shape_body (Body.one h) = shape_simple h
shape_body (Body.brackets i h j) = inner (is_logical i tt tt)

mutual
  unfolding parse_condition

  pub complete-condition : (f : ℕ) {c d : Carry} {us : List ℕ} {t : Tree} → Condition c us t d → (rest : List ℕ) → Ends 0 rest →
      4 * (length us + length rest) + 4 ≤ f → parse_condition f c (us ++ rest) ≡ parsed t d rest
  complete-condition zero h rest s l = absurd (omega arith)
  complete-condition (suc f) (Condition.chain h) rest s l = rw (complete_chain f h rest (ends_le 0 1 rest (omega arith) s) (omega arith), off 0 rest s)
  complete-condition (suc f) (Condition.ors {ts = ts} {us = us} {o = o} h i k) rest s l =
      rw (
        append_assoc ts (o ∷ us) rest,
        complete_chain f h (o ∷ (us ++ rest)) (omega (arith, ap rank i.is)) (omega (arith, length-append ts (o ∷ us), length-append us rest)),
        at i,
        complete-condition f k rest s (omega (arith, length-append ts (o ∷ us))),
      )

  pub complete_chain : (f : ℕ) {c d : Carry} {us : List ℕ} {t : Tree} → Chain c us t d → (rest : List ℕ) → Ends 1 rest →
      4 * (length us + length rest) + 3 ≤ f → parse_chain f c (us ++ rest) ≡ parsed t d rest
  complete_chain zero h rest s l = absurd (omega arith)
  complete_chain (suc f) (Chain.term h) rest s l =
      rw (complete_term f h rest (ends_le 1 2 rest (omega arith) s) (omega arith), off 1 rest s)
  complete_chain (suc f) (Chain.ands {ts = ts} {us = us} {o = o} h i k) rest s l =
      rw (
        append_assoc ts (o ∷ us) rest,
        complete_term f h (o ∷ (us ++ rest)) (omega (arith, ap rank i.is)) (omega (arith, length-append ts (o ∷ us), length-append us rest)),
        at i,
        complete_chain f k rest s (omega (arith, length-append ts (o ∷ us))),
      )

  pub complete_term : (f : ℕ) {c d : Carry} {us : List ℕ} {t : Tree} → Term c us t d → (rest : List ℕ) → Ends 2 rest →
      4 * (length us + length rest) + 2 ≤ f → parse_term f c (us ++ rest) ≡ parsed t d rest
  complete_term zero h rest s l = absurd (omega arith)
  complete_term (suc f) {c} {d} {us} {t} (Term.body h) rest s l =
      go (shape_body h) (λ g. complete_body f h g rest s (omega arith))
    where
      go : Shape c us t d → (Logical us → parse_body f c (us ++ rest) ≡ parsed t d rest) → parse_term (suc f) c (us ++ rest) ≡ parsed t d rest
      go (inner g) hyp = rw (skip_not g rest, skip_order g rest c, hyp g)
      go (outer g) hyp = g f rest
  complete_term (suc f) {c} (Term.negation i g h) rest s l = rw (at i, skip_order g rest c, complete_body f h g rest s (omega arith))

  pub complete_body : (f : ℕ) {c d : Carry} {us : List ℕ} {t : Tree} → Body c us t d → Logical us → (rest : List ℕ) → Ends 2 rest →
      4 * (length us + length rest) + 1 ≤ f → parse_body f c (us ++ rest) ≡ parsed t d rest
  complete_body zero h g rest s l = absurd (omega arith)
  complete_body (suc f) (Body.one h) g rest s l =
      rw (skip_opening h rest, complete_simple h g rest s)
  complete_body (suc f) (Body.brackets {ts = ts} {r = r} i h j) g rest s l =
      rw (
        at i,
        append_assoc ts (r ∷ []) rest,
        complete-condition f h (r ∷ rest) (omega (arith, ap rank j.is)) (omega (arith, length-append ts (r ∷ []))),
        at j,
      )
