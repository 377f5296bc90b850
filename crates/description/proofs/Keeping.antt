-- Where no entry is over a limit: how many items, names and literals there are.
use mathlib.Core.Path.{◌≡◌, refl, sym, ap, ◌∙◌}
use mathlib.Core.Logic.{◌⊎◌, inl, inr}
use mathlib.Core.Bool.{Bool, true, false, ◌||◌}
use mathlib.Core.List.{List, [], ◌∷◌, ◌++◌}
use Prim.Native.Nat.{ℕ, zero, suc, ◌+◌, ◌≤◌, ◌<◌}
use native.Mathlib.Omega.{arith}
use borrow.Author.Tests.{leb-false, ltb-false}
use lib.Dec.{leb, ltb}
use lib.ListN.{length, get_or, length-append}
use Rattle.description.specs.Grammar.{Entry, Row, row, Value, Condition, literals, literals_of, Table, Valid}
use Rattle.description.specs.Reader.{layout, size_of, Parts}
use Rattle.description.specs.Limits.{passes, over, any_barred, over_name, Mark, item_marks, name_marks, marks, found, Outcome, table, refusal, describe}
use Rattle.description.proofs.Groups.{lays_records}
use Rattle.description.proofs.Limits.{In}
use Rattle.description.proofs.Limits as L
use Rattle.description.proofs.Verdict.{Verdict, verdict}

-- No mark is over a limit.
abbrev pub Fine : List Mark → Type 0
Fine ms = (k : Mark) → In k ms → k.over ≡ false

fine_rest : {m : Mark} {ms : List Mark} → Fine (m ∷ ms) → Fine ms
fine_rest f k i = f k (L.there i)

fine_left : (ms ns : List Mark) → Fine (ms ++ ns) → Fine ms
fine_left ms ns f k i = f k (go ms i)
  where
    go : (ms : List Mark) → In k ms → In k (ms ++ ns)
    go [] i = L.not_in_nil refl i
    go (m ∷ ms) L.here = L.here
    go (m ∷ ms) (L.there i) = L.there (go ms i)

fine_right : (ms ns : List Mark) → Fine (ms ++ ns) → Fine ns
fine_right [] ns f = f
fine_right (m ∷ ms) ns f = fine_right ms ns (fine_rest f)

pub or_no : (a b : Bool) → a || b ≡ false → (a ≡ false) × (b ≡ false)
or_no true b e = let z : ◌≡◌ {A = ℕ} 0 1 = cc in absurd (omega arith)
or_no false b e = (refl, e)

pub layout-length : (o : ℕ) (es : List Entry) → length (layout o es) ≡ length es
unfolding layout
layout-length o [] = refl
layout-length o (e ∷ es) = ap suc (layout-length (o + size_of e.content) es)

-- At most 64 items, and no row passes a limit.
few_items : (n : ℕ) (es : List Entry) (rs : List Row) → length rs ≡ length es → Fine (item_marks n es rs) → n ≤ 64 → n + length es ≤ 64
unfolding item_marks
few_items n [] rs e f h = omega arith
few_items n (x ∷ es) [] e f h = absurd (omega arith)
few_items n (x ∷ es) (r ∷ rs) e f h =
    let i = or_no (leb 64 n) (passes r) (f _ L.here) in
    omega (arith, few_items (suc n) es rs (omega arith) (fine_rest f) (omega (arith, leb-false 64 n i.0)))

keeps_items : (n : ℕ) (es : List Entry) (rs : List Row) (j : ℕ) (d : Row) → length rs ≡ length es → Fine (item_marks n es rs) → j < length rs → passes (get_or rs j d) ≡ false
unfolding item_marks
keeps_items n es [] j d e f l = absurd (omega arith)
keeps_items n [] (r ∷ rs) j d e f l = absurd (omega arith)
keeps_items n (x ∷ es) (r ∷ rs) zero d e f l = (or_no (leb 64 n) (passes r) (f _ L.here)).1
keeps_items n (x ∷ es) (r ∷ rs) (suc j) d e f l = keeps_items (suc n) es rs j d (omega arith) (fine_rest f) (omega arith)

-- What a name keeps.
pub record Kept (r : Row) (c : Condition) : Type 0 where
  pub few : length c.values ≤ 8
  pub free : any_barred r c.values ≡ false

module _ (n k : ℕ) (r : Row) (c : Condition) (f : over_name n k r c ≡ false) where
  abbrev last : (leb 64 n || ltb 64 (k + length (literals c.values)) || ltb 8 (length c.values) ≡ false) × (any_barred r c.values ≡ false)
  last = or_no (leb 64 n || ltb 64 (k + length (literals c.values)) || ltb 8 (length c.values)) (any_barred r c.values) f

  abbrev before : (leb 64 n || ltb 64 (k + length (literals c.values)) ≡ false) × (ltb 8 (length c.values) ≡ false)
  before = or_no (leb 64 n || ltb 64 (k + length (literals c.values))) (ltb 8 (length c.values)) last.0

  abbrev first : (leb 64 n ≡ false) × (ltb 64 (k + length (literals c.values)) ≡ false)
  first = or_no (leb 64 n) (ltb 64 (k + length (literals c.values))) before.0

  pub name_below : n < 64
  name_below = leb-false 64 n first.0

  pub literals-below : k + length (literals c.values) ≤ 64
  literals-below = ltb-false 64 (k + length (literals c.values)) first.1

  pub name_kept : Kept r c
  name_kept = record { few = ltb-false 8 (length c.values) before.1; free = last.1 }

few_names : (n k : ℕ) (rs : List Row) (cs : List Condition) → Fine (name_marks n k rs cs) → n ≤ 64 → n + length cs ≤ 64
unfolding name_marks
few_names n k rs [] f h = omega arith
few_names n k rs (c ∷ cs) f h =
    let l = name_below n k _ c (f _ L.here) in
    omega (arith, few_names (suc n) (k + length (literals c.values)) rs cs (fine_rest f) l)

few_literals : (n k : ℕ) (rs : List Row) (cs : List Condition) → Fine (name_marks n k rs cs) → k ≤ 64 → k + length (literals_of cs) ≤ 64
unfolding name_marks literals_of
few_literals n k rs [] f h = omega arith
few_literals n k rs (c ∷ cs) f h =
    let l = literals-below n k _ c (f _ L.here) in
    omega (arith, few_literals (suc n) (k + length (literals c.values)) rs cs (fine_rest f) l, length-append (literals c.values) (literals_of cs))

keeps_names : (n k : ℕ) (rs : List Row) (cs : List Condition) (j : ℕ) (d : Condition) → Fine (name_marks n k rs cs) → j < length cs →
    Kept (get_or rs (get_or cs j d).item (row 0 0 0 0 0)) (get_or cs j d)
unfolding name_marks
keeps_names n k rs [] j d f l = absurd (omega arith)
keeps_names n k rs (c ∷ cs) zero d f l = name_kept n k _ c (f _ L.here)
keeps_names n k rs (c ∷ cs) (suc j) d f l = keeps_names (suc n) (k + length (literals c.values)) rs cs j d (fine_rest f) (omega arith)

-- A text that is described: its length, its counts, and what its rows keep.
pub record Within (text : List ℕ) (t : Table) : Type 0 where
  pub short : length text ≤ 4096
  pub valid : Valid text t
  pub rows : t.rows ≡ layout 0 t.entries
  pub as_many : length t.rows ≡ length t.entries
  pub items : length t.entries ≤ 64
  pub names : length t.conditions ≤ 64
  pub literals : length (literals_of t.conditions) ≤ 64
  pub row_kept : (j : ℕ) (d : Row) → j < length t.rows → passes (get_or t.rows j d) ≡ false
  pub name_kept : (j : ℕ) (d : Condition) → j < length t.conditions → Kept (get_or t.rows (get_or t.conditions j d).item (row 0 0 0 0 0)) (get_or t.conditions j d)

pub within : (text : List ℕ) (t : Table) → describe text ≡ table t → Within text t
within text t e = by (describe text) e (verdict text)
  where
    made : (u : Table) → length text ≤ 4096 → Valid text u → Fine (marks (found u)) → Within text u
    made u l v f =
        let rs = layout 0 u.entries in
        let a = fine_left (item_marks 0 u.entries rs) (name_marks 0 0 rs u.conditions) f in
        let b = fine_right (item_marks 0 u.entries rs) (name_marks 0 0 rs u.conditions) f in
        let r : u.rows ≡ rs = lays_records v.nested in
        let n : length rs ≡ length u.entries = layout-length 0 u.entries in
        record {
          short = l;
          valid = v;
          rows = r;
          as_many = ap length r ∙ n;
          items = omega (arith, few_items 0 u.entries rs n a (omega arith));
          names = omega (arith, few_names 0 0 rs u.conditions b (omega arith));
          literals = omega (arith, few_literals 0 0 rs u.conditions b (omega arith));
          row_kept = λ j d i. rw r (keeps_items 0 u.entries rs j d n a (rw r at i));
          name_kept = λ j d i. rw r (keeps_names 0 0 rs u.conditions j d b i);
        }

    by : (o : Outcome) → o ≡ table t → Verdict text o → Within text t
    by (table u) q (Verdict.fine l v w) = let p : u ≡ t = cc in rw p at (made u l v w)
    by (refusal n) q v = let z : ◌≡◌ {A = ℕ} 0 1 = cc in absurd (omega arith)
