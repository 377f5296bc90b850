-- Entries come in order, so the first one over a limit has the smallest place; and whether a name's values may be compared with its item,
-- the item's own entry tells.
use mathlib.Core.Path.{◌≡◌, refl, sym, ap, subst, ◌∙◌}
use mathlib.Core.Bool.{Bool, true, false, cond, not, ◌&&◌, ◌||◌}
use mathlib.Core.Option.{Option, none, some}
use mathlib.Core.List.{List, [], ◌∷◌, ◌++◌, map, append_assoc}
use Prim.Native.Nat.{ℕ, zero, suc, ◌+◌, ◌≤◌, ◌<◌}
use native.Mathlib.Omega.{arith}
use borrow.Author.Tests.{leb-true, leb-false, le-leb, lt-leb}
use lib.Dec.{leb, ltb}
use lib.ListN.{length, get_or}
use Rattle.description.specs.Grammar.{Entry, Content, group, item, group_kind, Row, row, Literal, literal_row, Value, single, range, Condition, literals}
use Rattle.description.specs.Reader.{layout, row_of, signed_below, below, size_of, Parts}
use Rattle.description.specs.Limits.{ruled, comparable, unfit, barred_alone, barred, any_barred, over_name, Mark, mark, item_marks, name_marks, marks, smaller, least}
use Rattle.description.specs.Stages.{first_over, sooner, own_row, own_rows}
use Rattle.description.proofs.Past.{Rising, no_more, more, Rise, spot, spot_of_name}
use Rattle.description.proofs.Limits.{In, Least, least-some}
use Rattle.description.proofs.Limits as L

abbrev spot_of_mark : Mark → ℕ
spot_of_mark m = m.place

-- The marks rise as their entries do.
rising_bound : {A : Type 0} {at : A → ℕ} {a k : ℕ} {es : List A} → Rising at a es k → a ≤ k
rising_bound (no_more h) = h
rising_bound (more h r) = omega (arith, rising_bound r, h)

items_rise : {a n : ℕ} {es : List Entry} → Rising spot a es n → (i : ℕ) (rs : List Row) → Rising spot_of_mark a (item_marks i es rs) n
unfolding item_marks
items_rise (no_more h) i rs = no_more h
items_rise {a} {n} (more h r) i [] = let j : a ≤ n = omega (arith, rising_bound r, h) in no_more j
items_rise (more h r) i (x ∷ rs) = more h (items_rise r (suc i) rs)

names_rise : {a n : ℕ} {cs : List Condition} → Rising spot_of_name a cs n → (i k : ℕ) (rs : List Row) → Rising spot_of_mark a (name_marks i k rs cs) n
unfolding name_marks
names_rise (no_more h) i k rs = no_more h
names_rise (more {e = c} h r) i k rs = more h (names_rise r (suc i) (k + length (literals c.values)) rs)

above-all : {a n : ℕ} {ms : List Mark} → Rising spot_of_mark a ms n → (m : Mark) → In m ms → a ≤ m.place
above-all (no_more h) m i = L.not_in_nil refl i
above-all (more h r) m L.here = h
above-all (more h r) m (L.there i) = omega (arith, above-all r m i, h)

-- So the first over a limit is the smallest.
least_first : {a n : ℕ} {ms : List Mark} → Rising spot_of_mark a ms n → least ms ≡ first_over ms
unfolding least first_over
least_first (no_more h) = refl
least_first (more {e = m} {es = ms} h r) = by m.over (least ms) refl (least_first r)
  where
    by : (t : Bool) (o : Option ℕ) → least ms ≡ o → least ms ≡ first_over ms → cond t (some (smaller m.place (least ms))) (least ms) ≡ cond t (some m.place) (first_over ms)
    by true none e f = rw e
    by true (some q) e g =
        let f = least-some ms q e in
        let l : leb m.place q ≡ true = le-leb m.place q (omega (arith, above-all r f.m f.inside, f.place)) in
        rw (e, l)
    by false o e f = f

-- of two lists
smaller_assoc : (p : ℕ) (a b : Option ℕ) → smaller p (sooner a b) ≡ smaller (smaller p a) b
smaller_assoc p none b = refl
smaller_assoc p (some q) none = refl
smaller_assoc p (some q) (some r) = by (leb q r) (leb p q) refl refl
  where
    by : (t u : Bool) → leb q r ≡ t → leb p q ≡ u → cond (leb p (cond t q r)) p (cond t q r) ≡ cond (leb (cond u p q) r) (cond u p q) r
    by true true i j = let k : leb p r ≡ true = le-leb p r (omega (arith, leb-true q r i, leb-true p q j)) in rw (j, k)
    by true false i j = rw (j, i)
    by false true i j = refl
    by false false i j = let k : leb p r ≡ false = lt-leb p r (omega (arith, leb-false q r i, leb-false p q j)) in rw (k, i)

least-append : (ms ns : List Mark) → least (ms ++ ns) ≡ sooner (least ms) (least ns)
unfolding least
least-append [] ns = refl
least-append (m ∷ ms) ns = by m.over (least-append ms ns)
  where
    by : (t : Bool) → least (ms ++ ns) ≡ sooner (least ms) (least ns) →
        cond t (some (smaller m.place (least (ms ++ ns)))) (least (ms ++ ns)) ≡ sooner (cond t (some (smaller m.place (least ms))) (least ms)) (least ns)
    by true e = rw e (ap some (smaller_assoc m.place (least ms) (least ns)))
    by false e = e

-- An item's own entry tells what may be compared with it: a group's kind is 0 or 7, and neither is numeric.
abbrev Alike : Row → Row → Type 0
Alike r s = (x : Literal) → comparable r x ≡ comparable s x

own_alike : (o l : ℕ) (c : Content) (es : List Entry) → Alike (row_of o l c es) (own_row c)
own_alike o l group es x = by (signed_below l es)
  where
    by : (t : Bool) → comparable (row (group_kind t) o (below l es) 0 0) x ≡ comparable (row 0 0 0 0 0) x
    by true = refl
    by false = refl
own_alike o l (item k n s t) es x = refl

own_rows_lem : (o : ℕ) (es : List Entry) (i : ℕ) → Alike (get_or (layout o es) i (row 0 0 0 0 0)) (get_or (own_rows es) i (row 0 0 0 0 0))
unfolding layout own_rows
own_rows_lem o [] i x = refl
own_rows_lem o (e ∷ es) zero x = own_alike o e.level e.content es x
own_rows_lem o (e ∷ es) (suc i) x = own_rows_lem (o + size_of e.content) es i x

barred-alike : (r s : Row) → Alike r s → (v : Value) → barred r v ≡ barred s v
barred-alike r s f (single x) = rw (f x)
barred-alike r s f (range x y) = rw (f x, f y)

pub any-alike : (r s : Row) → ((v : Value) → barred r v ≡ barred s v) → (vs : List Value) → any_barred r vs ≡ any_barred s vs
unfolding any_barred
any-alike r s f [] = refl
any-alike r s f (v ∷ vs) = rw (f v, any-alike r s f vs)

pub name_marks-alike : (rs ss : List Row) → ((i : ℕ) (v : Value) → barred (get_or rs i (row 0 0 0 0 0)) v ≡ barred (get_or ss i (row 0 0 0 0 0)) v) →
    (n k : ℕ) (cs : List Condition) → name_marks n k rs cs ≡ name_marks n k ss cs
unfolding name_marks
name_marks-alike rs ss f n k [] = refl
name_marks-alike rs ss f n k (c ∷ cs) =
    rw (
      any-alike (get_or rs c.item (row 0 0 0 0 0)) (get_or ss c.item (row 0 0 0 0 0)) (f c.item) c.values,
      name_marks-alike rs ss f (suc n) (k + length (literals c.values)) cs,
    )

own_marks : (es : List Entry) (cs : List Condition) → name_marks 0 0 (layout 0 es) cs ≡ name_marks 0 0 (own_rows es) cs
own_marks es cs =
    name_marks-alike (layout 0 es) (own_rows es)
    (λ i v. barred-alike (get_or (layout 0 es) i (row 0 0 0 0 0)) (get_or (own_rows es) i (row 0 0 0 0 0)) (own_rows_lem 0 es i) v) 0 0 cs

-- "the smallest place wins": of the first item over a limit and the first name.
pub least_of : (d : Parts) (n : ℕ) → Rise d n →
    least (marks d) ≡ sooner (first_over (item_marks 0 d.items (layout 0 d.items))) (first_over (name_marks 0 0 (own_rows d.items) d.names))
least_of d n r =
    let rs = layout 0 d.items in
    least-append (item_marks 0 d.items rs) (name_marks 0 0 rs d.names)
    ∙ rw (least_first (items_rise r.items 0 rs), least_first (names_rise r.names 0 0 rs), own_marks d.items d.names)
