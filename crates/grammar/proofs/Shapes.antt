-- Every simple condition of a derived tree has a sound shape where all its tokens exist, and so has every row of its plan. So the
-- plan of a well typed condition is sound.
use mathlib.Core.Path.{◌≡◌, refl, sym, ap, ◌∙◌}
use mathlib.Core.Bool.{Bool, true, ◌&&◌, ◌||◌, or-false}
use mathlib.Core.List.Memᴰ
use mathlib.Core.List.{List, [], ◌∷◌, ◌++◌, Memᴰ}
use Prim.Native.Nat.{ℕ, suc, ◌+◌, ◌*◌, ◌<◌, ◌≤◌, ◌/◌, ◌%◌}
use native.Mathlib.Omega.{arith}
use lib.ListN.{length, get_or, take, length-take}
use lib.Seq.{get_or-take}
use lib.Dec.{eqb}
use borrow.Author.Tests.{ne_eqb}
use Rattle.tables.specs.declared.Refusal.TheVariants.{Token}
use Rattle.tables.specs.Tokens.{is_switch, exists, token_there}
use Rattle.tables.specs.Rows.{row_count, name_count}
use Rattle.tables.specs.Operands.{Lent, lend, lend_names, under, operand_sound, alone_sound}
use Rattle.tables.specs.Tables.{token_check}
use Rattle.typing.specs.Tests.{test_of}
use Rattle.typing.specs.Shape.{shape_sound}
use Rattle.typing.proofs.Lending.{shape_operands}
use Rattle.tables.proofs.Tests.{and_both}
use Rattle.tables.proofs.Lines.{every_sound}
use Rattle.grammar.specs.Grammar.{operand, switch, test, name, Is, Carry, nothing, carried, Tree, simple}
use Rattle.grammar.specs.Grammar.{Stated, plain, with_not, Relation, ordered, bounded, Simple, full, tested, switched, named, short, bare}
use Rattle.grammar.specs.Grammar.{Condition, Chain, Term, Body, Derives}
use Rattle.grammar.specs.Judging.{simple_count}
use Rattle.grammar.specs.Typed.{typing_from}
use Rattle.grammar.specs.Plan.{on_false, on_true, rows_of, planned, plan_row, plan_check}
use Rattle.grammar.specs.Typed.{Shaped, typed_rows}
use Rattle.grammar.proofs.Spelling.{among, spelled, order_token, bound_token, test_token}
use Rattle.grammar.proofs.Segment.{Stands, rows-count, planned-length, planned_stands}
use Rattle.grammar.proofs.Size.{few_rows}
use Rattle.grammar.proofs.Typed.{typing_of_rows}
use Rattle.grammar.proofs.Planned.{ShapedTree, each_row, planned_sound}
use Rattle.std.specs.Prelude.{Ok}

-- what holds at each place of a list holds of each member
member_passes : (passes : ℕ → Bool) {x : ℕ} {ts : List ℕ} → Memᴰ x ts →
    ((k : ℕ) → k < length ts → passes (get_or ts k 0) ≡ true) → passes x ≡ true
member_passes passes (Memᴰ.head e) h = rw e (h 0 (omega arith))
member_passes passes (Memᴰ.tail m) h = member_passes passes m (λ k l. h (suc k) (omega arith))

module _ (lent : Lent) where
  -- each of the tokens exists
  abbrev pub There : List ℕ → Type 0
  There ts = (x : ℕ) → Memᴰ x ts → token_there lent.off (row_count lent.items) (row_count lent.literals) (name_count lent.names) x ≡ true

  pub tokens_there : (ts : List ℕ) → token_check lent ts ≡ Ok tt → There ts
  tokens_there ts e x m =
      member_passes (token_there lent.off (row_count lent.items) (row_count lent.literals) (name_count lent.names)) m
      (every_sound (λ i. token_there lent.off (row_count lent.items) (row_count lent.literals) (name_count lent.names) (get_or ts i 0)) Token (length ts) e)

  pub there_left : {ts : List ℕ} (us : List ℕ) → There (ts ++ us) → There ts
  there_left us h x m = h x (Memᴰ.append_left us m)

  pub there_right : (ts : List ℕ) {us : List ℕ} → There (ts ++ us) → There us
  there_right ts h x m = h x (Memᴰ.append_right ts m)

  pub there_tail : {y : ℕ} {ts : List ℕ} → There (y ∷ ts) → There ts
  there_tail h x m = h x (Memᴰ.tail m)

  -- a token of another kind than 5 is there by document 01's own kinds
  unnamed : (x : ℕ) → ¬ (x / 65536 ≡ 5) → token_there lent.off (row_count lent.items) (row_count lent.literals) (name_count lent.names) x ≡ true
      → exists lent.off (row_count lent.items) (row_count lent.literals) x ≡ true
  unnamed x n e = simp or-false at (rw (ne_eqb (x / 65536) 5 n) at e)

  operand_sound_lem : {x : ℕ} {ts : List ℕ} → Is operand x → There (x ∷ ts) → operand_sound lent x ≡ true
  operand_sound_lem {x} i h =
      and_both _ _
      (among (λ q. eqb q 0 || eqb q 1 ≡ true) 0 2 (x / 65536) (omega arith) (omega (arith, spelled x i)) (refl, (refl, tt)))
      (unnamed x (λ q. omega (arith, spelled x i)) (h x (Memᴰ.head refl)))

  switch_sound_lem : {x : ℕ} {ts : List ℕ} → Is switch x → There (x ∷ ts) → alone_sound lent x ≡ true
  switch_sound_lem {x} i h =
      rw (and_both (is_switch x) _
      (among (λ q. eqb q 2 || eqb q 3 ≡ true) 2 2 (x / 65536) (omega (arith, spelled x i)) (omega (arith, spelled x i)) (refl, (refl, tt)))
      (unnamed x (λ q. omega (arith, spelled x i)) (h x (Memᴰ.head refl))))

  name_sound_lem : {x : ℕ} {ts : List ℕ} → Is name x → There (x ∷ ts) → alone_sound lent x ≡ true
  name_sound_lem {x} i h =
      let q : x / 65536 ≡ 5 = spelled x i in
      rw q (rw q at (h x (Memᴰ.head refl)))

  -- what the shape of a relation asks, and that of a class or a sign, by the numbers that there are
  module _ (a b : ℕ) where
    abbrev TwoSides : ℕ → Type 0
    TwoSides n = shape_sound lent (test_of n) a b ≡ operand_sound lent a && operand_sound lent b

    relation_shape : {r : List ℕ} {n : ℕ} → Relation r n → TwoSides n
    relation_shape (ordered (plain {w = w} h)) =
        among TwoSides 5 3 (w % 65536) (omega (arith, order_token w h)) (omega (arith, order_token w h)) (refl, (refl, (refl, tt)))
    relation_shape (ordered (with_not {w = w} i h)) =
        among TwoSides 37 3 (w % 65536 + 32) (omega (arith, order_token w h)) (omega (arith, order_token w h)) (refl, (refl, (refl, tt)))
    relation_shape (bounded {w = w} h) =
        among TwoSides 8 2 (w % 65536) (omega (arith, bound_token w h)) (omega (arith, bound_token w h)) (refl, (refl, tt))

  module _ (a : ℕ) where
    abbrev OneSide : ℕ → Type 0
    OneSide n = shape_sound lent (test_of n) a 0 ≡ operand_sound lent a && true

    test_shape : {r : List ℕ} {n : ℕ} → Stated test r n → OneSide n
    test_shape (plain {w = w} h) =
        among OneSide 10 7 (w % 65536) (omega (arith, test_token w h)) (omega (arith, test_token w h))
        (refl, (refl, (refl, (refl, (refl, (refl, (refl, tt)))))))
    test_shape (with_not {w = w} i h) =
        among OneSide 42 7 (w % 65536 + 32) (omega (arith, test_token w h)) (omega (arith, test_token w h))
        (refl, (refl, (refl, (refl, (refl, (refl, (refl, tt)))))))

  -- a carried subject is an operand that exists, and a carried relation one of the grammar's
  abbrev Carries : Carry → Type 0
  Carries nothing = Unit {0}
  Carries (carried a m) = (operand_sound lent a ≡ true) × ((r : List ℕ) × Relation r m)

  relation_shaped : {r : List ℕ} {n : ℕ} (a b : ℕ) → operand_sound lent a ≡ true → Relation r n → operand_sound lent b ≡ true →
      ShapedTree lent (simple a n b) × Carries (carried a n)
  relation_shaped {r} a b p s q = (rw (relation_shape a b s) (and_both _ _ p q), (p, (r, s)))

  -- from what is carried to what is left: each simple condition has a sound shape
  record Shapes (c : Carry) (ts : List ℕ) (t : Tree) (d : Carry) : Type 0 where
    shapes : There ts → Carries c → ShapedTree lent t × Carries d

  simple_shapes : {c d : Carry} {ts : List ℕ} {t : Tree} → Simple c ts t d → Shapes c ts t d
  simple_shapes (full {r = r} {a = a} {b = b} i s j) =
      record { shapes = λ h k. relation_shaped a b (operand_sound_lem i h) s (operand_sound_lem j (there_right r (there_tail h))) }
  simple_shapes (tested {a = a} i s) = record { shapes = λ h k. (rw (test_shape a s) (and_both _ _ (operand_sound_lem i h) refl), tt) }
  simple_shapes (switched i) = record { shapes = λ h k. (and_both _ _ (switch_sound_lem i h) refl, tt) }
  simple_shapes (named i) = record { shapes = λ h k. (and_both _ _ (name_sound_lem i h) refl, tt) }
  simple_shapes (short {r = r} {a = a} {b = b} s j) = record { shapes = λ h k. relation_shaped a b k.0 s (operand_sound_lem j (there_right r h)) }
  simple_shapes (bare {a = a} {b = b} j) = record { shapes = λ h k. relation_shaped a b k.0 k.1.1 (operand_sound_lem j h) }

  joined : {c d e : Carry} {ts us : List ℕ} {t u v : Tree} (o : ℕ) → (ShapedTree lent t → ShapedTree lent u → ShapedTree lent v) →
      Shapes c ts t d → Shapes d us u e → Shapes c (ts ++ o ∷ us) v e
  joined {ts = ts} o f p q =
      record {
        shapes = λ h k.
            let x = p.shapes (there_left _ h) k in
            let y = q.shapes (there_tail (there_right ts h)) x.1 in
            (f x.0 y.0, y.1);
      }

  tree_shapes : {c d : Carry} {ts : List ℕ} {t : Tree} → Condition c ts t d → Shapes c ts t d
  tree_shapes derivation =
      elim derivation as
      (λ c ts t d h. Shapes c ts t d)
      (λ c ts t d h. Shapes c ts t d)
      (λ c ts t d h. Shapes c ts t d)
      (λ c ts t d h. Shapes c ts t d) [
        | Condition.chain (h → p) ↦ p
        | Condition.ors {o = o} (h → p) i (g → q) ↦ joined o (λ x y. (x, y)) p q
        | Chain.term (h → p) ↦ p
        | Chain.ands {o = o} (h → p) i (g → q) ↦ joined o (λ x y. (x, y)) p q
        | Term.body (h → p) ↦ p
        | Term.negation i l (h → p) ↦ record { shapes = λ x k. p.shapes (there_tail x) k }
        | Body.one h ↦ simple_shapes h
        | Body.brackets i (h → p) j ↦ record { shapes = λ x k. ((p.shapes (there_left _ (there_tail x)) tt).0, tt) }
      ]

  pub shaped : {ts : List ℕ} {t : Tree} → Derives ts t → token_check lent ts ≡ Ok tt → ShapedTree lent t
  shaped {ts} h e = ((tree_shapes h.derivation).shapes (tokens_there ts e) tt).0

  -- refusal 11 is never given of what was planned
  pub planned-plan_sound : {ts : List ℕ} {t : Tree} → Derives ts t → length ts ≤ 256 → token_check lent ts ≡ Ok tt → typing_from lent 0 t ≡ Ok tt →
      plan_check lent (planned t) ≡ Ok tt
  planned-plan_sound {t = t} h l tokens typing = planned_sound lent t (few_rows h l) typing (shaped h tokens)

-- a row is read in the part of the buffer that holds it
row_of_take : (n : ℕ) (rows : List ℕ) (k : ℕ) → k < n → plan_row (take (n * 5) rows) k ≡ plan_row rows k
unfolding plan_row
row_of_take n rows k l =
    rw (
      get_or-take (n * 5) rows (k * 5) 0 (omega arith),
      get_or-take (n * 5) rows (k * 5 + 1) 0 (omega arith),
      get_or-take (n * 5) rows (k * 5 + 2) 0 (omega arith),
      get_or-take (n * 5) rows (k * 5 + 3) 0 (omega arith),
      get_or-take (n * 5) rows (k * 5 + 4) 0 (omega arith),
    )

-- a buffer that begins with the plan of a tree
module _ (t : Tree) (rows : List ℕ) (e : take (simple_count t * 5) rows ≡ planned t) where
  pub buffer_stands : Stands (plan_row rows) 0 (rows_of 0 on_true on_false t)
  buffer_stands =
      record {
        stands = λ k l.
            sym (row_of_take (simple_count t) rows (0 + k) (omega (arith, rows-count 0 on_true on_false t)))
            ∙ ap (λ w. plan_row w (0 + k)) e
            ∙ (planned_stands t).stands k l;
      }

  pub rows_shaped : (off : Bool) (items literals bytes names : List ℕ) → ShapedTree (under off (lend_names items literals bytes names)) t
      → Shaped (lend items literals []) rows (simple_count t)
  rows_shaped off items literals bytes names shapes =
      record {
        inside = omega (arith, planned-length t, ap length e, length-take (simple_count t * 5) rows);
        shape = λ k l.
            shape_operands off items literals bytes names (test_of (plan_row rows k).relation) (plan_row rows k).subject (plan_row rows k).object
            (each_row (λ a r b. shape_sound (under off (lend_names items literals bytes names)) (test_of r) a b ≡ true) (plan_row rows) 0 on_true on_false t buffer_stands shapes k
            (omega arith) (omega arith));
      }

  pub rows-typed : (lent : Lent) → typed_rows lent rows (simple_count t) ≡ typing_from lent 0 t
  rows-typed lent = sym (typing_of_rows lent (plan_row rows) 0 on_true on_false t buffer_stands)
