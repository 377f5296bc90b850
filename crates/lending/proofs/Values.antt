-- The values of a condition-name as pairs of literal rows: what is not barred is sound.
use mathlib.Core.Path.{◌≡◌, refl, sym, ap, ap₂, ◌∙◌}
use mathlib.Core.Bool.{Bool, true, false, not, cond, ◌&&◌, ◌||◌}
use mathlib.Core.List.{List, [], ◌∷◌, ◌++◌}
use Prim.Native.Nat.{ℕ, zero, suc, ◌+◌, ◌^◌, max, ◌<◌}
use native.Mathlib.Omega.{arith}
use native.Mathlib.Numerals.{add-one}
use lib.Dec.{ltb}
use lib.ListN.{length, get_or, drop, length-drop}
use lib.IntN.{ℤ, pos, ◌*ℤ◌}
use lib.Seq.{drop-cons}
use lib.Signed.{lt_z}
use borrow.Author.Tests.{lt-ltb, not-false}
use Rattle.content.specs.declared.Row as Rules
use Rattle.tables.specs.Rows.{row_count, row_at, is_numeric, part}
use Rattle.tables.specs.Operands.{Lent}
use Rattle.std.specs.declared.cmp.Ordering.TheVariants.{Less, Equal, Greater}
use Rattle.compare.specs.Order.{is_greater, relation_holds}
use Rattle.compare.specs.Compared.{then_order, byte_order, filled, scaled_order, character_order}
use Rattle.values.specs.Comparison.{Side, side, numeric, value_of, characters, comparison}
use Rattle.values.specs.Names.{literal_side, ends_alike, pair_sound}
use Rattle.values.specs.Names as Rule
use Rattle.description.specs.Grammar.{Row, Literal, literal_row, Value, single, range, pair, pairs, literals}
use Rattle.description.specs.Limits.{ruled, unfit, comparable, above, unlike, barred_alone, barred, any_barred}
use Rattle.description.proofs.Keeping.{or_no}
use Rattle.lending.proofs.Literals.{nothing}

-- No side is greater than itself.
never : (b : Bool) → is_greater (cond b Less (cond b Greater Equal)) ≡ false
never true = refl
never false = refl

bytes_self : (ws : List ℕ) → is_greater (byte_order ws ws) ≡ false
unfolding byte_order
bytes_self [] = refl
bytes_self (w ∷ ws) = by (ltb w w) (bytes_self ws)
  where
    by : (b : Bool) → is_greater (byte_order ws ws) ≡ false → is_greater (then_order (cond b Less (cond b Greater Equal)) (byte_order ws ws)) ≡ false
    by true e = refl
    by false e = e

self : (s : Side) → is_greater (comparison s s) ≡ false
unfolding comparison
self s = by (numeric s && numeric s)
  where
    by : (b : Bool) → is_greater (cond b (scaled_order (value_of s) s.row.scale (value_of s) s.row.scale) (character_order (characters s s) (characters s s))) ≡ false
    by true = let z : ℤ = value_of s *ℤ pos (10 ^ s.row.scale) in never (lt_z z z)
    by false = let ws : List ℕ = characters s s in bytes_self (filled (max (length ws) (length ws)) ws)

alike : (a b : Bool) → cond a (not b) b ≡ false → cond a b (not b) ≡ true
alike true true e = refl
alike true false e = sym e
alike false true e = sym e
alike false false e = refl

alike_self : (a : Bool) → cond a a (not a) ≡ true
alike_self true = refl
alike_self false = refl

-- literal k of the tables is x
pub record Holds (l : Lent) (k : ℕ) (x : Literal) : Type 0 where
  pub there : k < row_count l.literals
  pub at : ℕ
  pub row_of_lem : row_at l.literals k ≡ ruled (literal_row at x)
  pub bytes_of : part (ruled (literal_row at x)) l.bytes ≡ x.bytes

module _ (l : Lent) where
  side_of_lem : {k : ℕ} {x : Literal} (h : Holds l k x) → literal_side l k ≡ side false (ruled (literal_row h.at x)) x.bytes
  side_of_lem {x = x} h =
      ap (λ (r : Rules.Row). side false r (part r l.bytes)) h.row_of_lem ∙ ap (λ (b : List ℕ). side false (ruled (literal_row h.at x)) b) h.bytes_of

  -- the place of the bytes is nothing to a comparison
  not_above : {j k : ℕ} {x y : Literal} → Holds l j x → Holds l k y → above x y ≡ false → not (relation_holds 5 (comparison (literal_side l j) (literal_side l k))) ≡ true
  unfolding comparison
  not_above g h e = ap₂ (λ (a b : Side). not (relation_holds 5 (comparison a b))) (side_of_lem g) (side_of_lem h) ∙ ap not e

  fits : (r : Row) {k : ℕ} {x : Literal} (h : Holds l k x) → comparable r x ≡ true → Rule.comparable (ruled r) (row_at l.literals k) ≡ true
  fits r h e = ap (λ (q : Rules.Row). Rule.comparable (ruled r) q) h.row_of_lem ∙ e

  alone : (r : Row) (x : Literal) → barred_alone r x ≡ false → comparable r x ≡ true
  alone r x e = not-false (comparable r x) (or_no (unfit x) (not (comparable r x)) e).1

  pair_sound_lem : (r : Row) {j k : ℕ} {x y : Literal} (g : Holds l j x) (h : Holds l k y) → comparable r x ≡ true → comparable r y ≡ true →
      ends_alike (row_at l.literals j) (row_at l.literals k) ≡ true →
      not (relation_holds 5 (comparison (literal_side l j) (literal_side l k))) ≡ true → pair_sound l (ruled r) j k ≡ true
  pair_sound_lem r {j} {k} g h a b c d =
      rw (lt-ltb j (row_count l.literals) g.there, lt-ltb k (row_count l.literals) h.there, c, d, fits r g a, fits r h b)

  single_sound : (r : Row) {k : ℕ} {x : Literal} → Holds l k x → barred_alone r x ≡ false → pair_sound l (ruled r) k k ≡ true
  single_sound r {k} {x} h e =
      pair_sound_lem r h h (alone r x e) (alone r x e) (alike_self (is_numeric (row_at l.literals k))) (rw (self (literal_side l k)))

  range_sound : (r : Row) {j k : ℕ} {x y : Literal} → Holds l j x → Holds l k y → barred r (range x y) ≡ false → pair_sound l (ruled r) j k ≡ true
  range_sound r {j} {k} {x} {y} g h e =
      let p = or_no (barred_alone r x) (barred_alone r y || (unlike x y || above x y)) e in
      let q = or_no (barred_alone r y) (unlike x y || above x y) p.1 in
      let s = or_no (unlike x y) (above x y) q.1 in
      let ends : ends_alike (row_at l.literals j) (row_at l.literals k) ≡ true =
      ap₂ ends_alike g.row_of_lem h.row_of_lem ∙ alike (is_numeric (ruled (literal_row 0 x))) (is_numeric (ruled (literal_row 0 y))) s.0 in
      pair_sound_lem r g h (alone r x p.0) (alone r y q.0) ends (not_above g h s.1)

  -- every literal of xs
  module _ (xs : List Literal) (all : (k : ℕ) → k < length xs → Holds l k (get_or xs k nothing)) where
    head : (k : ℕ) (x : Literal) (rest : List Literal) → drop k xs ≡ x ∷ rest → Holds l k x × (drop (k + 1) xs ≡ rest)
    head k x rest e =
        let h : k < length xs = omega (arith, ap length e, length-drop k xs) in
        let c = drop-cons xs k nothing h in
        let f : get_or xs k nothing ∷ drop (suc k) xs ≡ x ∷ rest = sym c ∙ e in
        let g : get_or xs k nothing ≡ x = cc in
        let i : drop (suc k) xs ≡ rest = cc in
        (rw g at (all k h), rw (add-one k) i)

    pub values_sound : (r : Row) (k : ℕ) (vs : List Value) (rest : List Literal) → drop k xs ≡ literals vs ++ rest → any_barred r vs ≡ false →
        (j : ℕ) → j < length vs → pair_sound l (ruled r) (get_or (pairs k vs) j (pair 0 0)).low (get_or (pairs k vs) j (pair 0 0)).high ≡ true
    unfolding pairs literals any_barred
    values_sound r k [] rest e b j h = absurd (omega arith)
    values_sound r k (single x ∷ vs) rest e b zero h = single_sound r (head k x (literals vs ++ rest) e).0 (or_no (barred_alone r x) (any_barred r vs) b).0
    values_sound r k (single x ∷ vs) rest e b (suc j) h =
        values_sound r (k + 1) vs rest (head k x (literals vs ++ rest) e).1 (or_no (barred_alone r x) (any_barred r vs) b).1 j (omega arith)
    values_sound r k (range x y ∷ vs) rest e b zero h =
        let a = head k x (y ∷ literals vs ++ rest) e in
        range_sound r a.0 (head (k + 1) y (literals vs ++ rest) a.1).0 (or_no (barred r (range x y)) (any_barred r vs) b).0
    values_sound r k (range x y ∷ vs) rest e b (suc j) h =
        let a = head k x (y ∷ literals vs ++ rest) e in
        let z : k + 1 + 1 ≡ k + 2 = omega arith in
        values_sound r (k + 2) vs rest (rw z at (head (k + 1) y (literals vs ++ rest) a.1).1) (or_no (barred r (range x y)) (any_barred r vs) b).1 j (omega arith)

    pub next-literals : (k : ℕ) (ys zs : List Literal) → drop k xs ≡ ys ++ zs → drop (k + length ys) xs ≡ zs
    next-literals k [] zs e = let z : k + 0 ≡ k = omega arith in rw z e
    next-literals k (y ∷ ys) zs e =
        let z : k + suc (length ys) ≡ k + 1 + length ys = omega arith in
        rw z (next-literals (k + 1) ys zs (head k y (ys ++ zs) e).1)
