-- One level 88 entry more, and one entry of an item more: what the buffers hold.
use mathlib.Core.Path.{◌≡◌, refl, sym, ap, ◌∙◌}
use mathlib.Core.Bool.{Bool, true, false, cond, not, ◌||◌}
use mathlib.Core.Option.{Option, none, some}
use mathlib.Core.List.{List, [], ◌∷◌, ◌++◌, map, append_assoc}
use Prim.Native.Nat.{ℕ, suc, ◌+◌, ◌*◌, ◌-◌, ◌≤◌, ◌<◌}
use native.Mathlib.Omega.{arith}
use native.Mathlib.Numerals.{add-one}
use borrow.Author.Tests.{leb-false, eqb-true, eqb-false}
use lib.Dec.{eqb, leb, ltb}
use lib.ListN.{length, get_or, take, drop, replicate, length-append, length-replicate, length-take, get_or-append}
use lib.Seq.{sets, take_all, take-append-le, take-suc-set}
use Rattle.content.specs.declared.Row as Rules
use Rattle.description.specs.Grammar.{Entry, group, item, Row, row, Literal, Value, single, range, Condition, condition, NameRow}
use Rattle.description.specs.Grammar.{name_row, pairs, literals, name_rows, literals_of, literal_bytes}
use Rattle.description.specs.Limits.{comparable, barred, any_barred, over_name, Mark, mark, name_marks}
use Rattle.description.specs.Stages.{inked, first_over, own_row, own_rows}
use Rattle.description.proofs.Bytes.{apart, eqb_no}
use Rattle.description.proofs.Firsts.{any-alike}
use Rattle.value_weights.specs.Weights.{shown}
use Rattle.entries.specs.declared.Noted.{Noted}
use Rattle.entries.specs.Entries.{cap, cap_noted, entry_of}
use Rattle.name_entries.specs.Named.{literals_in, notes_of, pair_numbers, Left, Held, Noted as NotesHold}
use Rattle.name_entries.proofs.Holding.{in_append, in_length, numbers-length, taken_next}
use Rattle.noting.specs.Stored.{noted_at}
use Rattle.storing.specs.Naming.{item_row, names, start_of, passed_by, row_numbers, name_numbers, name_of, limit_of, Items, Stores, Kept, NameStored, Stepped}
use Rattle.storing.specs.declared.Names.{Names}
use Rattle.storing.proofs.Stored.{all_stored, stored_alike, passed_over, passed_count, stored_passed}

-- Lists that grow at their ends.
marks-append : (n k : ℕ) (rs : List Row) (cs : List Condition) (c : Condition) →
    name_marks n k rs (cs ++ c ∷ [])
    ≡ name_marks n k rs cs ++ mark c.place (over_name (n + length cs) (k + length (literals_of cs)) (get_or rs c.item (row 0 0 0 0 0)) c) ∷ []
unfolding name_marks literals_of
marks-append n k rs [] c =
    let y : n + 0 ≡ n = omega arith in
    let z : k + 0 ≡ k = omega arith in
    rw (y, z)
marks-append n k rs (d ∷ cs) c =
    let y : n + suc (length cs) ≡ suc n + length cs = omega arith in
    let z : k + length (literals d.values ++ literals_of cs) ≡ k + length (literals d.values) + length (literals_of cs) =
    omega (arith, length-append (literals d.values) (literals_of cs)) in
    rw (y, z) (ap (λ (l : List Mark). mark d.place (over_name n k (get_or rs d.item (row 0 0 0 0 0)) d) ∷ l) (marks-append (suc n) (k + length (literals d.values)) rs cs c))

abbrev or_first : Option ℕ → Mark → Option ℕ
or_first none m = cond m.over (some m.place) none
or_first (some p) m = some p

first-append : (ms : List Mark) (m : Mark) → first_over (ms ++ m ∷ []) ≡ or_first (first_over ms) m
unfolding first_over
first-append [] m = refl
first-append (k ∷ ms) m = by k.over (first-append ms m)
  where
    by : (t : Bool) → first_over (ms ++ m ∷ []) ≡ or_first (first_over ms) m → cond t (some k.place) (first_over (ms ++ m ∷ [])) ≡ or_first (cond t (some k.place) (first_over ms)) m
    by true e = refl
    by false e = e

of_append : (cs : List Condition) (c : Condition) → literals_of (cs ++ c ∷ []) ≡ literals_of cs ++ literals c.values
unfolding literals_of
of_append [] c = mathlib.Core.List.append-nil (literals c.values)
of_append (d ∷ cs) c = rw (of_append cs c) (sym (append_assoc (literals d.values) (literals_of cs) (literals c.values)))

rows_append : (k : ℕ) (cs : List Condition) (c : Condition) →
    name_rows k (cs ++ c ∷ []) ≡ name_rows k cs ++ name_row c.item (pairs (k + length (literals_of cs)) c.values) ∷ []
unfolding name_rows literals_of
rows_append k [] c = let z : k + 0 ≡ k = omega arith in rw z
rows_append k (d ∷ cs) c =
    let z : k + length (literals d.values ++ literals_of cs) ≡ k + length (literals d.values) + length (literals_of cs) =
    omega (arith, length-append (literals d.values) (literals_of cs)) in
    rw z (ap (λ (l : List NameRow). name_row d.item (pairs k d.values) ∷ l) (rows_append (k + length (literals d.values)) cs c))

numbers-append : (rs : List NameRow) (r : NameRow) → name_numbers (rs ++ r ∷ []) ≡ name_numbers rs ++ row_numbers r
unfolding name_numbers
numbers-append [] r = mathlib.Core.List.append-nil (row_numbers r)
numbers-append (s ∷ rs) r = rw (numbers-append rs r) (sym (append_assoc (row_numbers s) (name_numbers rs) (row_numbers r)))

own_append : (es : List Entry) (e : Entry) → own_rows (es ++ e ∷ []) ≡ own_rows es ++ own_row e.content ∷ []
unfolding own_rows
own_append [] e = refl
own_append (x ∷ es) e = ap (λ (l : List Row). own_row x.content ∷ l) (own_append es e)

own_length : (es : List Entry) → length (own_rows es) ≡ length es
unfolding own_rows
own_length [] = refl
own_length (x ∷ es) = ap suc (own_length es)

-- One entry of an item more.
own_grows : (n k : ℕ) (es : List Entry) (e : Entry) (cs : List Condition) → Items (length es) cs → name_marks n k (own_rows (es ++ e ∷ [])) cs ≡ name_marks n k (own_rows es) cs
unfolding name_marks
own_grows n k es e [] i = refl
own_grows n k es e (c ∷ cs) i =
    let g : get_or (own_rows (es ++ e ∷ [])) c.item (row 0 0 0 0 0) ≡ get_or (own_rows es) c.item (row 0 0 0 0 0) =
    rw (own_append es e) (get_or-append (own_rows es) (own_row e.content ∷ []) (row 0 0 0 0 0) c.item (omega (arith, i.0, own_length es))) in
    rw (g, own_grows (suc n) (k + length (literals c.values)) es e cs i.1)

items_more : (n m : ℕ) → n ≤ m → (cs : List Condition) → Items n cs → Items m cs
items_more n m l [] i = tt
items_more n m l (c ∷ cs) i = (omega (arith, i.0), items_more n m l cs i.1)

items-append : (n : ℕ) (cs : List Condition) (c : Condition) → Items n cs → c.item < n → Items n (cs ++ c ∷ [])
items-append n [] c i l = (l, tt)
items-append n (d ∷ cs) c i l = (i.0, items-append n cs c i.1 l)

pub kept_item : {text : List ℕ} {es : List Entry} {cs : List Condition} {s : Names} {rows places notes : List ℕ} (e : Entry) →
    Kept text es cs s rows places notes → Kept text (es ++ e ∷ []) cs s rows places notes
kept_item {es = es} {cs = cs} e k =
    record {
      limit = rw (own_grows 0 0 es e cs k.items) k.limit;
      stores = k.stores;
      all = k.all;
      items = items_more (length es) (length (es ++ e ∷ [])) (omega (arith, length-append es (e ∷ []))) cs k.items;
    }

-- The item's own entry, its counts stopped, tells the same.
cap_zero : (n : ℕ) → eqb (cap n) 0 ≡ eqb n 0
cap_zero n = by (eqb n 0) refl
  where
    by : (t : Bool) → eqb n 0 ≡ t → eqb (cap n) 0 ≡ t
    by true e = rw (eqb-true n 0 e)
    by false e = eqb_no (cap n) 0 (λ i. eqb-false n 0 e (omega arith))

item_alike : (y : Noted) (x : Literal) → comparable (own_row (entry_of y).content) x ≡ comparable (shown (item_row (cap_noted y))) x
item_alike y x = by (eqb y.kind 0) refl
  where
    by : (t : Bool) → eqb y.kind 0 ≡ t → comparable (own_row (cond t group (item y.kind y.size y.scale y.digits))) x ≡ comparable (shown (item_row (cap_noted y))) x
    by true e = rw (eqb-true y.kind 0 e)
    by false e = rw (cap_zero y.scale)

barred-alike : (y : Noted) (v : Value) → barred (own_row (entry_of y).content) v ≡ barred (shown (item_row (cap_noted y))) v
barred-alike y (single x) = rw (item_alike y x)
barred-alike y (range x z) = rw (item_alike y x, item_alike y z)

pairs-length : (k : ℕ) (vs : List Value) → length (pairs k vs) ≡ length vs
unfolding pairs
pairs-length k [] = refl
pairs-length k (single x ∷ vs) = ap suc (pairs-length (k + 1) vs)
pairs-length k (range x y ∷ vs) = ap suc (pairs-length (k + 2) vs)

map_snoc : (cs : List Condition) (c : Condition) → map name_of (cs ++ c ∷ []) ≡ map name_of cs ++ c.named ∷ []
map_snoc [] c = refl
map_snoc (d ∷ cs) c = ap (λ (l : List ℕ). d.named ∷ l) (map_snoc cs c)

named_more : (i idx values : ℕ) (row rows rows-after : List ℕ) (cs : List Condition) (c : Condition) (k : ℕ) → k ≡ length (literals_of cs) →
    take (i * 18) rows ≡ name_numbers (name_rows 0 cs) → row ≡ 0 ∷ 0 ∷ pair_numbers (pairs k c.values) ++ replicate (16 - length c.values * 2) 0 →
    length c.values ≤ 8 → values ≡ length c.values → idx ≡ c.item → rows-after ≡ sets rows (i * 18) (idx ∷ values ∷ drop 2 row) → i * 18 + 18 ≤ length rows →
    take ((i + 1) * 18) rows-after ≡ name_numbers (name_rows 0 (cs ++ c ∷ []))
named_more i idx values row rows rows-after cs c k e f g few h j q l =
    let ps = pair_numbers (pairs k c.values) ++ replicate (16 - length c.values * 2) 0 in
    let d : drop 2 row ≡ ps = ap (drop 2) g in
    let y : 0 + length (literals_of cs) ≡ k = omega (arith, e) in
    let n : idx ∷ values ∷ drop 2 row ≡ row_numbers (name_row c.item (pairs k c.values)) = rw (d, h, j, pairs-length k c.values) in
    let m : length (idx ∷ values ∷ drop 2 row) ≡ 18 =
    omega (
      arith,
      ap length d,
      length-append (pair_numbers (pairs k c.values)) (replicate {A = ℕ} (16 - length c.values * 2) 0),
      numbers-length k c.values,
      length-replicate {A = ℕ} (16 - length c.values * 2) 0,
      few,
    ) in
    let z : (i + 1) * 18 ≡ i * 18 + length (idx ∷ values ∷ drop 2 row) = omega (arith, m) in
    let u : take ((i + 1) * 18) rows-after ≡ take (i * 18) rows ++ (idx ∷ values ∷ drop 2 row) =
    rw (z, q) (taken_next rows (idx ∷ values ∷ drop 2 row) (i * 18) (omega (arith, m))) in
    let w : name_numbers (name_rows 0 (cs ++ c ∷ [])) ≡ name_numbers (name_rows 0 cs) ++ row_numbers (name_row c.item (pairs (0 + length (literals_of cs)) c.values)) =
    ap name_numbers (rows_append 0 cs c) ∙ numbers-append (name_rows 0 cs) (name_row c.item (pairs (0 + length (literals_of cs)) c.values)) in
    u ∙ rw (f, n) (sym (rw y at w))

over_form : (a : Bool) → a ≡ false → (n m : ℕ) → n ≡ m → (k l : ℕ) → k ≡ l → (x y : Bool) → x ≡ y → (c d : ℕ) →
    a || leb 64 n || (ltb 64 (k + c) || ltb 8 d || x) ≡ leb 64 m || ltb 64 (l + c) || ltb 8 d || y
over_form a e n m f k l g x y h c d = rw (e, f, g, h) (by (leb 64 m) (ltb 64 (l + c)) (ltb 8 d) y)
  where
    by : (a b d e : Bool) → a || (b || d || e) ≡ a || b || d || e
    by true b d e = refl
    by false b d e = refl

-- One level 88 entry more.
module _ {text : List ℕ} {es : List Entry} {cs : List Condition} {s : Names} {rows places notes : List ℕ} (k : Kept text es cs s rows places notes)
    (p count : ℕ) (flat : List ℕ) (y : Noted) (vs : List Value) (r : Names) (rows-after places-after notes-after row-after : List ℕ)
    (last : get_or (own_rows es) (length es - 1) (row 0 0 0 0 0) ≡ own_row (entry_of y).content) (there : noted_at flat (count - 1) ≡ cap_noted y) (counted : count ≡ length es)
    (some_item : 0 < length es) (wide : (1152 ≤ length rows) × (64 ≤ length places))
    (t : Stepped text p flat count s rows places notes vs r rows-after places-after notes-after row-after) where
  abbrev c : Condition
  c = condition (length es - 1) p (inked text (p + 2)) vs

  abbrev it : Rules.Row
  it = item_row (noted_at flat (count - 1))

  abbrev start : Bool
  start = s.over || leb 64 s.count

  same_bars : (v : Value) → barred (get_or (own_rows es) (length es - 1) (row 0 0 0 0 0)) v ≡ barred (shown it) v
  same_bars v = ap (λ (q : Row). barred q v) last ∙ barred-alike y v ∙ ap (λ (x : Noted). barred (shown (item_row x)) v) (sym there)

  or_no : (a b : Bool) → a || b ≡ false → (a ≡ false) × (b ≡ false)
  or_no true b e = apart refl e
  or_no false b e = (refl, e)

  -- the names so far are stored, and the notes hold their literals
  module _ (fine : s.over ≡ false) where
    abbrev S : Stores text cs s rows places notes
    S = all_stored (k.all fine) k.stores

    ready : (x : s.over || leb 64 s.count ≡ false) → NotesHold text notes (start_of s) S.spans
    ready x =
        record { laid = S.noted.laid; standing = S.noted.standing; counted = S.noted.counted; sized = S.noted.sized; few = S.noted.few; small = S.noted.small }

    H : Held text it start S.spans vs t.tallied t.row notes-after
    H = t.held S.spans ready

    literal-count : length S.spans ≡ length (literals_of cs)
    literal-count = sym (in_length text S.spans) ∙ ap length S.valued

    over_is : t.tallied.over ≡ over_name (length cs) (length (literals_of cs)) (get_or (own_rows es) (length es - 1) (row 0 0 0 0 0)) c
    over_is =
        H.over
        ∙ over_form s.over fine s.count (length cs) S.counted (length S.spans) (length (literals_of cs)) literal-count (any_barred (shown it) vs)
        (any_barred (get_or (own_rows es) (length es - 1) (row 0 0 0 0 0)) vs) (sym (any-alike (get_or (own_rows es) (length es - 1) (row 0 0 0 0 0)) (shown it) same_bars vs))
        (length (literals vs)) (length vs)

  marks : name_marks 0 0 (own_rows es) (cs ++ c ∷ [])
      ≡ name_marks 0 0 (own_rows es) cs ++ mark p (over_name (length cs) (length (literals_of cs)) (get_or (own_rows es) (length es - 1) (row 0 0 0 0 0)) c) ∷ []
  marks =
      let y : 0 + length cs ≡ length cs = omega arith in
      let z : 0 + length (literals_of cs) ≡ length (literals_of cs) = omega arith in
      rw (y, z) at (marks-append 0 0 (own_rows es) cs c)

  limit_more : first_over (name_marks 0 0 (own_rows es) (cs ++ c ∷ [])) ≡ limit_of r
  limit_more =
      ap first_over marks
      ∙ first-append (name_marks 0 0 (own_rows es) cs) (mark p (over_name (length cs) (length (literals_of cs)) (get_or (own_rows es) (length es - 1) (row 0 0 0 0 0)) c))
      ∙ rw (k.limit, t.is) (by s.over refl t.tallied.over refl)
    where
      by : (a : Bool) → s.over ≡ a → (b : Bool) → t.tallied.over ≡ b →
          or_first (cond a (some s.place) none) (mark p (over_name (length cs) (length (literals_of cs)) (get_or (own_rows es) (length es - 1) (row 0 0 0 0 0)) c))
          ≡ limit_of (cond b (passed_by s p) (names false 0 (s.count + 1) t.tallied.literals t.tallied.bytes))
      by true i true j = rw i
      by true i false j = apart ((t.held [] (λ e. apart (rw i) e)).over ∙ rw i) j
      by false i b j = let e = sym (over_is i) ∙ j in rw e (last_step b)
        where
          last_step : (b : Bool) → cond b (some p) none ≡ limit_of (cond b (passed_by s p) (names false 0 (s.count + 1) t.tallied.literals t.tallied.bytes))
          last_step true = rw i
          last_step false = refl

  -- it passes no limit
  module _ (j : t.tallied.over ≡ false) where
    fine_before : s.over ≡ false
    fine_before = by s.over refl
      where
        by : (a : Bool) → s.over ≡ a → s.over ≡ false
        by true i = apart ((t.held [] (λ x. apart (rw i) x)).over ∙ rw i) j
        by false i = i

    abbrev store : Stores text cs s rows places notes
    store = S fine_before

    abbrev left : Left text store.spans vs t.tallied t.row notes-after
    left = (H fine_before).left j

    below : s.count < 64
    below = leb-false 64 s.count (or_no s.over (leb 64 s.count) (or_no (s.over || leb 64 s.count) _ (sym (H fine_before).over ∙ j)).0).1

    abbrev stored : NameStored s.count (count - 1) t.tallied.values (inked text (p + 2)) rows places t.row rows-after places-after row-after
    stored = t.stored j

    pub literals_more : (s.over ≡ false) × (s.literals ≤ t.tallied.literals) × (t.tallied.literals ≤ 64)
    literals_more = (fine_before, omega (arith, store.noted.counted, left.noted.counted, length-append store.spans left.spans), left.noted.few)

    made : Stores text (cs ++ c ∷ []) (names false 0 (s.count + 1) t.tallied.literals t.tallied.bytes) rows-after places-after notes-after
    made =
        record {
          spans = store.spans ++ left.spans;
          noted =
              record {
                laid = left.noted.laid;
                standing = left.noted.standing;
                counted = left.noted.counted;
                sized = left.noted.sized;
                few = left.noted.few;
                small = left.noted.small;
              };
          valued = in_append text store.spans left.spans ∙ rw (store.valued, left.valued) (sym (of_append cs c));
          counted = omega (arith, store.counted, length-append cs (c ∷ []));
          few = omega (arith, below);
          named = named_more s.count (count - 1) t.tallied.values t.row rows rows-after cs c (length store.spans) (literal-count fine_before) store.named
              left.paired (omega (arith, left.few, left.values)) left.values (omega (arith, counted))
              (stored.stored ∙ ap (sets rows (s.count * 18)) stored.is) (omega (arith, below, wide.0));
          placed = rw (add-one, stored.placed) (take-suc-set places s.count (inked text (p + 2)) (omega (arith, below, wide.1))
              ∙ rw store.placed (sym (map_snoc cs c)));
        }

  stores_more : Stores text (take r.count (cs ++ c ∷ [])) r rows-after places-after notes-after
  stores_more = by t.tallied.over refl
    where
      few : s.count ≤ length cs
      few = omega (arith, k.stores.counted, length-take s.count cs)

      -- none is stored
      same : t.tallied.over ≡ true → Stores text (take s.count (cs ++ c ∷ [])) s rows-after places-after notes-after
      same j =
          let n = t.passed j in
          rw (take-append-le s.count cs (c ∷ []) few, n.named, n.placed) (stored_alike n.spared.counted k.stores)

      by : (b : Bool) → t.tallied.over ≡ b → Stores text (take r.count (cs ++ c ∷ [])) r rows-after places-after notes-after
      by true j = rw (t.is, j, passed_count s p) (stored_passed s p (same j))
      by false j =
          let n : take (s.count + 1) (cs ++ c ∷ []) ≡ cs ++ c ∷ [] = take_all (s.count + 1) (cs ++ c ∷ []) (omega (arith, k.all (fine_before j), length-append cs (c ∷ []))) in
          rw (t.is, j, n) (made j)

  all_more : r.over ≡ false → r.count ≡ length (cs ++ c ∷ [])
  all_more e = by t.tallied.over refl
    where
      by : (b : Bool) → t.tallied.over ≡ b → r.count ≡ length (cs ++ c ∷ [])
      by true j = apart (passed_over s p) (rw (t.is, j) at e)
      by false j = rw (t.is, j) (omega (arith, k.all (fine_before j), length-append cs (c ∷ [])))

  pub kept_more : Kept text es (cs ++ c ∷ []) r rows-after places-after notes-after
  kept_more = record { limit = limit_more; stores = stores_more; all = all_more; items = items-append (length es) cs c k.items (omega arith) }

pub none_kept : (text rows places notes : List ℕ) → Kept text [] [] (names false 0 0 0 0) rows places notes
unfolding first_over name_marks name_numbers name_rows literals_in literals_of notes_of literal_bytes
none_kept text rows places notes =
    record {
      limit = refl;
      stores =
          record {
            spans = [];
            noted = record { laid = refl; standing = tt; counted = refl; sized = refl; few = omega arith; small = omega arith };
            valued = refl;
            counted = refl;
            few = omega arith;
            named = refl;
            placed = refl;
          };
      all = λ e. refl;
      items = tt;
    }
