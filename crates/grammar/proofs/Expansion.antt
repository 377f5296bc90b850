-- The expanded form of what is derived derives the same tree, and has the tokens of what was derived in their order.
use mathlib.Core.Path.{◌≡◌, refl}
use mathlib.Core.List.{List, [], ◌∷◌, ◌++◌, append-nil}
use Prim.Native.Nat.{ℕ, ◌+◌, ◌-◌, ◌<◌, ◌≤◌, ◌%◌}
use native.Mathlib.Omega.{arith}
use borrow.Author.Tests.{ne_eqb, lt-ltb, le-ltb}
use Rattle.grammar.specs.Grammar.{Class, operand, not, order, test, Is, Carry, nothing, carried, Tree, simple}
use Rattle.grammar.specs.Grammar.{Stated, plain, with_not, Relation, ordered, bounded, Simple, full, tested, switched, named, short, bare}
use Rattle.grammar.specs.Grammar.{Logical, logical, Condition, chain, ors, Chain, term, ands, Term, body, negation, Body, one, brackets, Derives}
use Rattle.grammar.specs.Expanded.{stated, full_form, expanded, Inserted, end, kept, added}
use Rattle.grammar.proofs.Spelling.{operand_token, switch_token_lem, name_token_lem, opening_token, closing_token, not_token, and_token, or_token}
use Rattle.grammar.proofs.Spelling.{order_token, bound_token, test_token, is_opening, is_closing, is_not, is_and, is_or}

-- the words r state the relation number n, whose word is one from `low` to `high`
pub record Worded (low high : ℕ) (r : List ℕ) (n : ℕ) : Type 0 where
  pub says : stated n ≡ r
  pub above : low ≤ n % 32
  pub below : n % 32 ≤ high

worded : {k : Class} {r : List ℕ} {n : ℕ} (low high : ℕ) → high < 32 →
    ((w : ℕ) → Is k w → (262144 + low ≤ w) × (w ≤ 262144 + high)) → Stated k r n → Worded low high r n
worded low high small range (plain {w = w} h) =
    let g : (262144 + low ≤ w) × (w ≤ 262144 + high) = range w h in
    let e : 262144 + w % 65536 ≡ w = omega arith in
    record { says = rw (lt-ltb (w % 65536) 32 (omega arith), e); above = omega arith; below = omega arith }
worded low high small range (with_not {n = x} {w = w} i h) =
    let g : (262144 + low ≤ w) × (w ≤ 262144 + high) = range w h in
    let e : 262144 + (w % 65536 + 32 - 32) ≡ w = omega arith in
    let says : stated (w % 65536 + 32) ≡ x ∷ w ∷ [] = rw (le-ltb (w % 65536 + 32) 32 (omega arith), e, not_token x i) in
    record { says = says; above = omega arith; below = omega arith }

pub relation_worded : {r : List ℕ} {n : ℕ} → Relation r n → Worded 5 9 r n
relation_worded (ordered s) = worded 5 9 (omega arith) (λ w h. omega (arith, order_token w h)) s
relation_worded (bounded h) = worded 5 9 (omega arith) (λ w h. omega (arith, bound_token w h)) (plain h)

pub test_worded : {r : List ℕ} {n : ℕ} → Stated test r n → Worded 10 16 r n
test_worded s = worded 10 16 (omega arith) test_token s

-- a simple condition in full, by what its relation number is
pub full_relation : {r : List ℕ} {n : ℕ} (a b : ℕ) → Relation r n → full_form a n b ≡ a ∷ r ++ b ∷ []
unfolding full_form
full_relation {r} {n} a b s =
    let w : Worded 5 9 r n = relation_worded s in
    rw (ne_eqb n 0 (λ e. omega arith), lt-ltb (n % 32) 10 (omega arith), w.says)

pub full_test : {r : List ℕ} {n : ℕ} (a b : ℕ) → Stated test r n → full_form a n b ≡ a ∷ r
unfolding full_form
full_test {r} {n} a b s =
    let w : Worded 10 16 r n = test_worded s in
    rw (ne_eqb n 0 (λ e. omega arith), le-ltb (n % 32) 10 (omega arith), w.says) (append-nil (a ∷ r))

pub full-switch : (s : ℕ) → full_form s 0 0 ≡ s ∷ []
unfolding full_form
full-switch s = refl

-- tokens inserted: none, in front, and in both of two parts
pub inserted_none : (ts : List ℕ) → Inserted ts ts
inserted_none [] = end
inserted_none (x ∷ ts) = kept (inserted_none ts)

pub inserted_front : (us ts : List ℕ) → Inserted ts (us ++ ts)
inserted_front [] ts = inserted_none ts
inserted_front (x ∷ us) ts = added (inserted_front us ts)

pub inserted_append : {ts us vs ws : List ℕ} → Inserted ts us → Inserted vs ws → Inserted (ts ++ vs) (us ++ ws)
inserted_append end k = k
inserted_append (kept h) k = kept (inserted_append h k)
inserted_append (added h) k = added (inserted_append h k)

-- a carried subject is an operand, and a carried relation one of the grammar's
abbrev Carries : Carry → Type 0
Carries nothing = Unit {0}
Carries (carried a m) = Is operand a × ((r : List ℕ) × Relation r m)

-- The expanded form us of t, which ts derives: from any carry it derives t, and leaves the carry that ts leaves.
record Expands (F : Carry → List ℕ → Tree → Carry → Type 0) (ts us : List ℕ) (t : Tree) (d : Carry) : Type 0 where
  carries : Carries d
  again : (c : Carry) → F c us t d
  inserted : Inserted ts us

-- A body's expanded form is besides one before which a NOT is logical.
abbrev Expands-body : (Carry → List ℕ → Tree → Carry → Type 0) → List ℕ → Tree → Carry → Type 0
Expands-body F ts t d = Expands F ts (expanded t) t d × Logical (expanded t)

-- an operand, a switch and "(" are none of NOT > < =
pub high_logical : {ts : List ℕ} (x : ℕ) → 262160 < x → Logical (x ∷ ts)
high_logical x l = logical (λ (h : Is order x). omega (arith, order_token x h)) (λ (h : Is not x). omega (arith, not_token x h))

pub low_logical : {ts : List ℕ} (x : ℕ) → x ≤ 262144 → Logical (x ∷ ts)
low_logical x l = logical (λ (h : Is order x). omega (arith, order_token x h)) (λ (h : Is not x). omega (arith, not_token x h))

relation_expands : {r ts : List ℕ} {a n b : ℕ} → Is operand a → Relation r n → Is operand b → Inserted ts (a ∷ r ++ b ∷ []) →
    Expands-body Simple ts (simple a n b) (carried a n)
unfolding expanded
relation_expands {r} {ts} {a} {n} {b} h s g i =
    rw (full_relation a b s) (record { carries = (h, (r, s)); again = λ c. full h s g; inserted = i }, low_logical a (omega (arith, operand_token a h)))

simple_expands : {c d : Carry} {ts : List ℕ} {t : Tree} → Simple c ts t d → Carries c → Expands-body Simple ts t d
unfolding expanded
simple_expands (full h s g) k = relation_expands h s g (inserted_none _)
simple_expands (tested {a = a} h s) k =
    rw (full_test a 0 s) (record { carries = tt; again = λ c. tested h s; inserted = inserted_none _ }, low_logical a (omega (arith, operand_token a h)))
simple_expands (switched {s = s} h) k =
    rw (full-switch s) (record { carries = tt; again = λ c. switched h; inserted = inserted_none _ }, low_logical s (omega (arith, switch_token_lem s h)))
simple_expands (named {s = s} h) k =
    rw (full-switch s) (record { carries = tt; again = λ c. named h; inserted = inserted_none _ }, high_logical s (omega (arith, name_token_lem s h)))
simple_expands (short s g) k = relation_expands k.0 s g (added (inserted_none _))
simple_expands (bare g) k = relation_expands k.0 k.1.1 g (added (inserted_front k.1.0 _))

raised : {F G : Carry → List ℕ → Tree → Carry → Type 0} {ts us : List ℕ} {t : Tree} {d : Carry} →
    ((c : Carry) → F c us t d → G c us t d) → Expands F ts us t d → Expands G ts us t d
raised f x = record { carries = x.carries; again = λ c. f c (x.again c); inserted = x.inserted }

joined : {F G H : Carry → List ℕ → Tree → Carry → Type 0} {ts us vs ws : List ℕ} {t u v : Tree} {d e : Carry} (o : ℕ) →
    ((c : Carry) → F c us t d → G d ws u e → H c (us ++ o ∷ ws) v e) →
    Expands F ts us t d → Expands G vs ws u e → Expands H (ts ++ o ∷ vs) (us ++ o ∷ ws) v e
joined {d = d} o f x y =
    record {
      carries = y.carries;
      again = λ c. f c (x.again c) (y.again d);
      inserted = inserted_append x.inserted (kept y.inserted);
    }

expands : {c d : Carry} {ts : List ℕ} {t : Tree} → Condition c ts t d → Carries c → Expands Condition ts (expanded t) t d
unfolding expanded
expands derivation =
    elim derivation as
    (λ c ts t d h. Carries c → Expands Condition ts (expanded t) t d)
    (λ c ts t d h. Carries c → Expands Chain ts (expanded t) t d)
    (λ c ts t d h. Carries c → Expands Term ts (expanded t) t d)
    (λ c ts t d h. Carries c → Expands-body Body ts t d) [
      | Condition.chain (h → p) ↦ λ k. raised (λ c. chain) (p k)
      | Condition.ors {o = o} (h → p) i (g → q) ↦ λ k. rw (or_token o i) (joined 262148 (λ c x y. ors x (is_or _ refl) y) (p k) (q (p k).carries))
      | Chain.term (h → p) ↦ λ k. raised (λ c. term) (p k)
      | Chain.ands {o = o} (h → p) i (g → q) ↦
          λ k. rw (and_token o i) (joined 262147 (λ c x y. ands x (is_and _ refl) y) (p k) (q (p k).carries))
      | Term.body (h → p) ↦ λ k. raised (λ c. body) (p k).0
      | Term.negation {n = n} i l (h → p) ↦
          λ k.
          let (x, g) = p k in
          record {
            carries = x.carries;
            again = λ c. negation (is_not _ refl) g (x.again c);
            inserted = rw (not_token n i) (kept x.inserted);
          }
      | Body.one h ↦ λ k. let (x, g) = simple_expands h k in (raised (λ c. one) x, g)
      | Body.brackets {l = l} {r = r} i (h → p) j ↦
          λ k.
          let x = p tt in (
            record {
              carries = tt;
              again = λ c. brackets (is_opening _ refl) (x.again nothing) (is_closing _ refl);
              inserted = rw (opening_token l i, closing_token r j) (kept (inserted_append x.inserted (inserted_none _)));
            },
            low_logical 262144 (omega arith),
          )
    ]

-- "The expanded form is the same tokens with the omitted ones inserted where they were left out": it derives the same tree.
pub rederives : {ts : List ℕ} {t : Tree} → Derives ts t → Derives (expanded t) t
rederives h = record { carry = h.carry; derivation = (expands h.derivation tt).again nothing }

pub inserts : {ts : List ℕ} {t : Tree} → Derives ts t → Inserted ts (expanded t)
inserts h = (expands h.derivation tt).inserted
