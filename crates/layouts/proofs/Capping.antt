-- Counts that stop at 65,536 pass the same limits, and where none is passed the rows are the same.
use mathlib.Core.Path.{◌≡◌, refl, sym, ap, ◌∙◌}
use mathlib.Core.Bool.{Bool, true, false, cond, not, ◌&&◌, ◌||◌}
use mathlib.Core.Option.{Option, none, some}
use mathlib.Core.List.{List, [], ◌∷◌, map}
use Prim.Native.Nat.{ℕ, suc, ◌+◌, ◌≤◌, ◌<◌, min}
use native.Mathlib.Omega.{arith}
use borrow.Author.Tests.{leb-true, leb-false, le-leb, lt-leb}
use lib.Dec.{eqb, leb, ltb}
use Rattle.description.specs.Grammar.{Row, row, Entry, group, item, is_signed, group_kind}
use Rattle.description.specs.Reader.{size_of, belongs, below, signed_below, row_of, layout}
use Rattle.description.specs.Limits.{most, over, item_marks}
use Rattle.description.specs.Stages as F
use Rattle.description.proofs.Bytes.{apart}
use Rattle.entries.specs.declared.Noted.{Noted}
use Rattle.entries.specs.Entries.{cap, cap_noted, content_of, entry_of}
use Rattle.noting.specs.Stored.{Scaled}
use Rattle.layouts.specs.Layouts.{first_over}
use Rattle.layouts.proofs.Laying.{most_le, not_over}

abbrev exact : List Noted → List Entry
exact ys = map entry_of ys

abbrev capped : List Noted → List Entry
capped ys = map entry_of (map cap_noted ys)

abbrev own : Noted → ℕ
own y = size_of (entry_of y).content

own_caps : (y : Noted) → cap (own y) ≡ cap (own (cap_noted y))
own_caps y = by (eqb y.kind 0)
  where
    by : (t : Bool) → cap (size_of (cond t group (item y.kind y.size y.scale y.digits))) ≡ cap (size_of (cond t group (item y.kind (cap y.size) (cap y.scale) (cap y.digits))))
    by true = refl
    by false = omega arith

sum_caps : (a b x y : ℕ) → cap a ≡ cap b → cap x ≡ cap y → cap (a + x) ≡ cap (b + y)
sum_caps a b x y e f = omega arith

below_caps : (l : ℕ) (ys : List Noted) → cap (below l (exact ys)) ≡ cap (below l (capped ys))
unfolding below
below_caps l [] = refl
below_caps l (y ∷ ys) = by (ltb l y.level && leb y.level 49) (below_caps l ys)
  where
    by : (t : Bool) → cap (below l (exact ys)) ≡ cap (below l (capped ys)) →
        cap (cond t (own y + below l (exact ys)) 0) ≡ cap (cond t (own (cap_noted y) + below l (capped ys)) 0)
    by true e = sum_caps (own y) (own (cap_noted y)) (below l (exact ys)) (below l (capped ys)) (own_caps y) e
    by false e = refl

-- A count that stops leaves the kind, and with it the sign.
signed_own : (y : Noted) → is_signed (entry_of y).content ≡ is_signed (entry_of (cap_noted y)).content
signed_own y = by (eqb y.kind 0)
  where
    by : (t : Bool) → is_signed (cond t group (item y.kind y.size y.scale y.digits)) ≡ is_signed (cond t group (item y.kind (cap y.size) (cap y.scale) (cap y.digits)))
    by true = refl
    by false = refl

signed_caps : (l : ℕ) (ys : List Noted) → signed_below l (exact ys) ≡ signed_below l (capped ys)
unfolding signed_below
signed_caps l [] = refl
signed_caps l (y ∷ ys) = rw (signed_own y, signed_caps l ys)

leb_caps : (a b m : ℕ) → m ≤ 65535 → cap a ≡ cap b → leb a m ≡ leb b m
leb_caps a b m l e = by (leb a m) refl
  where
    by : (t : Bool) → leb a m ≡ t → t ≡ leb b m
    by true h = sym (le-leb b m (omega (arith, leb-true a m h)))
    by false h = sym (lt-leb b m (omega (arith, leb-false a m h)))

cap_twice : (n : ℕ) → cap n ≡ cap (cap n)
cap_twice n = omega arith

abbrev row_of_noted : ℕ → Noted → List Entry → Row
row_of_noted o y es = row_of o y.level (entry_of y).content es

over-row : (n k o p s t c d u v : ℕ) → cap o ≡ cap p → cap s ≡ cap t → cap u ≡ cap v → over n (row k o s c u) ≡ over n (row k p t d v)
over-row n k o p s t c d u v e f g = rw (leb_caps s t (most k) (most_le k) f, leb_caps o p 65535 (omega arith) e, leb_caps u v 18 (omega arith) g)

over_caps : (n o p : ℕ) (y : Noted) (ys : List Noted) → cap o ≡ cap p → over n (row_of_noted o y (exact ys)) ≡ over n (row_of_noted p (cap_noted y) (capped ys))
over_caps n o p y ys e = by (eqb y.kind 0)
  where
    by : (t : Bool) → over n (row_of o y.level (cond t group (item y.kind y.size y.scale y.digits)) (exact ys))
        ≡ over n (row_of p y.level (cond t group (item y.kind (cap y.size) (cap y.scale) (cap y.digits))) (capped ys))
    by true =
        rw (signed_caps y.level ys)
        (over-row n (group_kind (signed_below y.level (capped ys))) o p (below y.level (exact ys)) (below y.level (capped ys)) 0 0 0 0 e (below_caps y.level ys) refl)
    by false = over-row n y.kind o p y.size (cap y.size) y.scale (cap y.scale) y.digits (cap y.digits) e (cap_twice y.size) (cap_twice y.digits)

-- The first entry over a limit is the same.
pub first_caps : (n o p : ℕ) (ys : List Noted) → cap o ≡ cap p → first_over n (exact ys) (layout o (exact ys)) ≡ first_over n (capped ys) (layout p (capped ys))
unfolding first_over layout
first_caps n o p [] e = refl
first_caps n o p (y ∷ ys) e =
    rw (over_caps n o p y ys e)
    (by (over n (row_of_noted p (cap_noted y) (capped ys))) (first_caps (suc n) (o + own y) (p + own (cap_noted y)) ys (sum_caps o p (own y) (own (cap_noted y)) e (own_caps y))))
  where
    by : (t : Bool) → first_over (suc n) (exact ys) (layout (o + own y) (exact ys)) ≡ first_over (suc n) (capped ys) (layout (p + own (cap_noted y)) (capped ys)) →
        cond t (some y.place) (first_over (suc n) (exact ys) (layout (o + own y) (exact ys))) ≡ cond t (some y.place)
        (first_over (suc n) (capped ys) (layout (p + own (cap_noted y)) (capped ys)))
    by true f = refl
    by false f = f

-- A row that keeps the limits is exact.
row_same : (n o : ℕ) (y : Noted) (ys : List Noted) → y.scale ≤ y.digits → over n (row_of_noted o y (exact ys)) ≡ false →
    (row_of_noted o y (exact ys) ≡ row_of_noted o (cap_noted y) (capped ys)) × (own y ≡ own (cap_noted y))
row_same n o y ys s h = by (eqb y.kind 0) (not_over n (row_of_noted o y (exact ys)) h).1.1
  where
    by : (t : Bool) → ((row_of o y.level (cond t group (item y.kind y.size y.scale y.digits)) (exact ys)).size ≤ 65535) ×
        ((row_of o y.level (cond t group (item y.kind y.size y.scale y.digits)) (exact ys)).digits ≤ 18) →
        (row_of o y.level (cond t group (item y.kind y.size y.scale y.digits)) (exact ys)
        ≡ row_of o y.level (cond t group (item y.kind (cap y.size) (cap y.scale) (cap y.digits))) (capped ys))
        × (size_of (cond t group (item y.kind y.size y.scale y.digits)) ≡ size_of (cond t group (item y.kind (cap y.size) (cap y.scale) (cap y.digits))))
    by true l =
        let i : below y.level (exact ys) ≡ below y.level (capped ys) = omega (arith, below_caps y.level ys, l.0) in
        (rw (i, signed_caps y.level ys), refl)
    by false l =
        let i : y.size ≡ cap y.size = omega (arith, l.0) in
        let j : y.scale ≡ cap y.scale = omega (arith, l.1) in
        let k : y.digits ≡ cap y.digits = omega (arith, l.1) in
        (rw (← i, ← j, ← k), i)

pub rows_same : (n o : ℕ) (ys : List Noted) → Scaled ys → first_over n (exact ys) (layout o (exact ys)) ≡ none → layout o (exact ys) ≡ layout o (capped ys)
unfolding first_over layout
rows_same n o [] s e = refl
rows_same n o (y ∷ ys) s e = by (over n (row_of_noted o y (exact ys))) refl e (rows_same (suc n) (o + own y) ys s.1)
  where
    by : (t : Bool) → over n (row_of_noted o y (exact ys)) ≡ t → cond t (some y.place) (first_over (suc n) (exact ys) (layout (o + own y) (exact ys))) ≡ none →
        (first_over (suc n) (exact ys) (layout (o + own y) (exact ys)) ≡ none → layout (o + own y) (exact ys) ≡ layout (o + own y) (capped ys)) →
        row_of_noted o y (exact ys) ∷ layout (o + own y) (exact ys) ≡ row_of_noted o (cap_noted y) (capped ys) ∷ layout (o + own (cap_noted y)) (capped ys)
    by true h e f = let z : ◌≡◌ {A = ℕ} 0 1 = cc in absurd (omega arith)
    by false h e f =
        let k = row_same n o y ys s.0 h in
        let i : own y ≡ own (cap_noted y) = k.1 in
        let j : row_of_noted o y (exact ys) ≡ row_of_noted o (cap_noted y) (capped ys) = k.0 in
        let m : layout (o + own y) (exact ys) ≡ layout (o + own (cap_noted y)) (capped ys) = f e ∙ ap (λ (z : ℕ). layout (o + z) (capped ys)) i in
        cc

-- It is the first of the marks.
pub first_marks : (n : ℕ) (es : List Entry) (rs : List Row) → F.first_over (item_marks n es rs) ≡ first_over n es rs
unfolding F.first_over first_over item_marks
first_marks n [] rs = refl
first_marks n (e ∷ es) [] = refl
first_marks n (e ∷ es) (r ∷ rs) = ap (cond (over n r) (some e.place)) (first_marks (suc n) es rs)
