-- The call's answer, from what its parts promise.
use mathlib.Core.Path.{◌≡◌, refl, sym, ap, ◌∙◌}
use mathlib.Core.Bool.{Bool, true, false, cond, ◌&&◌}
use mathlib.Core.Option.{none, some}
use mathlib.Core.List.{List, [], ◌∷◌, map}
use Prim.Native.Nat.{ℕ, ◌*◌, ◌-◌, ◌≤◌, ◌<◌, min}
use native.Mathlib.Omega.{arith}
use borrow.Author.Tests.{leb-true, leb-false, lt-ltb, ltb-true}
use lib.Dec.{leb, ltb}
use lib.ListN.{length, take}
use lib.Seq.{length-take-le, take_all}
use Rattle.description.specs.Grammar.{Entry, Condition, Literal, literal_rows, literal_bytes, Table}
use Rattle.description.specs.Reader.{layout, Parts, parts, table_of, read_text}
use Rattle.description.specs.Limits.{item_marks, name_marks, marks, least, table, refusal, judged}
use Rattle.description.specs.Stages.{sooner, own_rows}
use Rattle.description.specs.Stages as F
use Rattle.description.proofs.Past.{Rise, entries_before, entries_rising}
use Rattle.description.proofs.Firsts.{least_of}
use Rattle.description.specs.Limits as Limits
use Rattle.description.proofs.Bytes.{apart, leb_so, leb_no}
use Rattle.entries.specs.declared.Noted.{Noted}
use Rattle.entries.specs.Entries.{cap_noted, entry_of}
use Rattle.storing.specs.declared.Found.{Found}
use Rattle.storing.specs.declared.Names.{Names}
use Rattle.noting.specs.Stored.{noted_from}
use Rattle.storing.specs.Naming.{limit_of, Stores}
use Rattle.storing.specs.Reads.{reading_of, ReadBy}
use Rattle.storing.proofs.Stored.{all_stored}
use Rattle.layouts.specs.Layouts.{first_over, entries_in, row_numbers, over_place, LaidOut}
use Rattle.layouts.proofs.Laying.{all_laid}
use Rattle.layouts.proofs.Capping.{first_caps, rows_same, first_marks}
use Rattle.value_notes.specs.Taking.{tally}
use Rattle.value_notes.specs.declared.Tally.{Tally}
use Rattle.outputs.specs.Noted.{named_of, rows_from, bytes_from}
use Rattle.outputs.proofs.Copying.{named-length, rows-length}
use Rattle.outputs.proofs.Noting.{rows-noted, bytes-noted, words-noted}
use Rattle.describing.specs.Calls as Calls
use Rattle.describing.specs.Calls.{rows_of, place_of_name, places_of, names_of, name_places_of, DescribedBy, ReadsWithin, SoonerBy, Ready, Given}
use Rattle.describing.specs.declared.Described.{Described}
use Rattle.describing.specs.declared.Described.TheVariants.{Faulty}
use Rattle.std.specs.Prelude.{None, Option, Some}

-- Byte 4,096.
rises : (text : List ℕ) (w : Bool) (d : Parts) (p : ℕ) → read_text text ≡ reading_of w d p → (n : ℕ) × Rise d n
rises text true d p e = (length text, entries_rising text (table_of d) e)
rises text false d p e = (p, entries_before text d p e)

smallest_of : (text : List ℕ) (w : Bool) (es : List Entry) (cs : List Condition) (p : ℕ) (s : Names) → read_text text ≡ reading_of w (parts es cs) p →
    F.first_over (name_marks 0 0 (own_rows es) cs) ≡ limit_of s → least (marks (parts es cs)) ≡ sooner (F.first_over (item_marks 0 es (layout 0 es))) (limit_of s)
smallest_of text w es cs p s e f =
    let r = rises text w (parts es cs) p e in
    least_of (parts es cs) r.0 r.1 ∙ ap (sooner (F.first_over (item_marks 0 es (layout 0 es)))) f

module _ (text flat named spots notes : List ℕ) (r : Found) where
  within_short : length text ≤ 4096 → ReadBy text (read_text text) flat named spots notes r → ReadsWithin text flat named spots notes r
  within_short l R =
      record {
        exact = R.exact;
        conditions = R.conditions;
        held = R.held;
        scaled = R.scaled;
        reading = rw (leb_so l) R.reading;
        few = R.few;
        smallest = smallest_of text r.whole (map entry_of R.exact) R.conditions r.place r.names R.reading R.limit;
        stores = λ w o. all_stored (R.all o) R.stores;
      }

  module _ (l : 4096 < length text) (R : ReadBy (take 4096 text) (read_text (take 4096 text)) flat named spots notes r) where
    abbrev least_there : least (marks (parts (map entry_of R.exact) R.conditions))
        ≡ sooner (F.first_over (item_marks 0 (map entry_of R.exact) (layout 0 (map entry_of R.exact)))) (limit_of r.names)
    least_there = smallest_of (take 4096 text) r.whole (map entry_of R.exact) R.conditions r.place r.names R.reading R.limit

    within_long : r.whole ≡ false → ReadsWithin text flat named spots notes r
    within_long w =
        record {
          exact = R.exact;
          conditions = R.conditions;
          held = R.held;
          scaled = R.scaled;
          reading = rw (leb_no (length text) 4096 l, R.reading, w);
          few = R.few;
          smallest = least_there;
          stores = λ e o. apart e w;
        }

    within-cut : r.whole ≡ true → ReadsWithin text flat named spots notes (record { count = r.count; whole = false; place = 4096; names = r.names })
    within-cut w =
        record {
          exact = R.exact;
          conditions = R.conditions;
          held = R.held;
          scaled = R.scaled;
          reading = rw (leb_no (length text) 4096 l, R.reading, w);
          few = R.few;
          smallest = least_there;
          stores = λ e o. apart e refl;
        }

  -- The bytes before 4,096 are read.
  module _ {e : ℕ} (m : e ≡ min (length text) 4096) (R : ReadBy (take e text) (read_text (take e text)) flat named spots notes r) where
    pub within_whole : r.whole && ltb e (length text) ≡ true → ReadsWithin text flat named spots notes (record { count = r.count; whole = false; place = 4096; names = r.names })
    within_whole g =
        let l : 4096 < length text = over r.whole (ltb e (length text)) refl g in
        let i : e ≡ 4096 = omega arith in
        within-cut l (rw i at R) (left r.whole (ltb e (length text)) g)
      where
        left : (a b : Bool) → a && b ≡ true → a ≡ true
        left true b h = refl
        left false b h = h

        over : (a b : Bool) → ltb e (length text) ≡ b → a && b ≡ true → 4096 < length text
        over true true i h = let k : e < length text = ltb-true e (length text) i in omega arith
        over true false i h = apart refl (sym h)
        over false b i h = apart refl (sym h)

    pub within_rest : r.whole && ltb e (length text) ≡ false → ReadsWithin text flat named spots notes r
    within_rest g = by (leb (length text) 4096) refl
      where
        left : (a b : Bool) → b ≡ true → a && b ≡ false → a ≡ false
        left true b i h = apart i h
        left false b i h = refl

        by : (t : Bool) → leb (length text) 4096 ≡ t → ReadsWithin text flat named spots notes r
        by true i =
            let l : length text ≤ 4096 = leb-true (length text) 4096 i in
            let k : take e text ≡ text = take_all e text (omega arith) in
            within_short l (rw k at R)
        by false i =
            let l : 4096 < length text = leb-false (length text) 4096 i in
            let k : e ≡ 4096 = omega arith in
            within_long l (rw k at R) (left r.whole (ltb e (length text)) (lt-ltb e (length text) (omega arith)) g)

-- The smaller of two places.
pub sooner_none : (x : Option ℕ) (s : Names) → s.over ≡ false → SoonerBy x s x
sooner_none x s e = record { is = by x; fine = λ q. q }
  where
    by : (x : Option ℕ) → over_place x ≡ sooner (over_place x) (limit_of s)
    by (Some p) = rw e
    by None = rw e

module _ (s : Names) (e : s.over ≡ true) where
  pub sooner_item : {x : Option ℕ} {p : ℕ} → x ≡ Some p → p ≤ s.place → SoonerBy x s (Some p)
  sooner_item q l = record { is = rw (q, e, leb_so l); fine = λ i. let z : ◌≡◌ {A = ℕ} 0 1 = cc in absurd (omega arith) }

  pub sooner_name : {x : Option ℕ} {p : ℕ} → x ≡ Some p → s.place < p → SoonerBy x s (Some s.place)
  sooner_name {p = p} q l = record { is = rw (q, e, leb_no p s.place l); fine = λ i. let z : ◌≡◌ {A = ℕ} 0 1 = cc in absurd (omega arith) }

  pub sooner_only : {x : Option ℕ} → x ≡ None → SoonerBy x s (Some s.place)
  sooner_only q = record { is = rw (q, e); fine = λ i. let z : ◌≡◌ {A = ℕ} 0 1 = cc in absurd (omega arith) }

judged_whole : (w : Bool) (d : Parts) (p : ℕ) → w ≡ true → least (marks d) ≡ none → judged (reading_of w d p) ≡ table (table_of d)
judged_whole w d p h k = rw (h, k)

judged_faulty : (w : Bool) (d : Parts) (p : ℕ) → w ≡ false → least (marks d) ≡ none → judged (reading_of w d p) ≡ refusal p
judged_faulty w d p h k = rw (h, k)

-- The answer.
module _ (text flat named spots notes laid : List ℕ) (r : Found) (R : ReadsWithin text flat named spots notes r) {x z : Option ℕ} {before : List ℕ} (L : LaidOut flat r.count x before laid)
    (B : SoonerBy x r.names z) where
  abbrev ys : List Noted
  ys = R.exact

  abbrev d : Parts
  d = parts (map entry_of ys) R.conditions

  entries_are : entries_in flat 0 r.count ≡ map entry_of (map cap_noted ys)
  entries_are = let z : r.count - 0 ≡ r.count = omega arith in rw (z, R.held)

  limit_is : first_over 0 (map entry_of ys) (layout 0 (map entry_of ys)) ≡ over_place x
  limit_is = first_caps 0 0 0 ys refl ∙ rw entries_are at L.limit

  least_is : least (marks d) ≡ over_place z
  least_is = R.smallest ∙ rw (first_marks 0 (map entry_of ys) (layout 0 (map entry_of ys)), limit_is) (sym B.is)

  module _ (rows places names name-places literals bytes : List ℕ) where
    faulty_answer : {p : ℕ} → Limits.describe text ≡ refusal p →
        DescribedBy text rows places names name-places literals bytes (Faulty p) rows places names name-places literals bytes
    faulty_answer e =
        record {
          answered = rw e;
          rows_written = refl;
          places_written = refl;
          names_written = refl;
          name_places_written = refl;
          literals_written = refl;
          bytes_written = refl;
        }

    pub answers-over : {p : ℕ} → z ≡ Some p → DescribedBy text rows places names name-places literals bytes (Faulty p) rows places names name-places literals bytes
    answers-over {p} e = faulty_answer (ap judged R.reading ∙ by r.whole)
      where
        i : least (marks d) ≡ some p
        i = least_is ∙ ap over_place e

        by : (w : Bool) → judged (reading_of w d r.place) ≡ refusal p
        by true = rw i
        by false = rw i

    pub answers_faulty : z ≡ None → r.whole ≡ false →
        DescribedBy text rows places names name-places literals bytes (Faulty r.place) rows places names name-places literals bytes
    answers_faulty e w =
        let i : least (marks d) ≡ none = least_is ∙ ap over_place e in
        faulty_answer (ap judged R.reading ∙ judged_faulty r.whole d r.place w i)

  module _ (e : z ≡ None) (w : r.whole ≡ true) where
    item_fine : x ≡ None
    item_fine = B.fine e

    none_over : first_over 0 (map entry_of ys) (layout 0 (map entry_of ys)) ≡ none
    none_over = limit_is ∙ ap over_place item_fine

    name_fine : r.names.over ≡ false
    name_fine = by r.names.over (sym (B.is ∙ ap (λ (y : Option ℕ). sooner (over_place y) (limit_of r.names)) item_fine) ∙ ap over_place e)
      where
        by : (t : Bool) → cond t (some r.names.place) none ≡ none → t ≡ false
        by true i = let z : ◌≡◌ {A = ℕ} 0 1 = cc in absurd (omega arith)
        by false i = refl

    abbrev stored : Stores text R.conditions r.names named spots notes
    stored = R.stores w name_fine

    abbrev t : Table
    t = table_of d

    described : Limits.describe text ≡ table t
    described = let i : least (marks d) ≡ none = least_is ∙ ap over_place e in ap judged R.reading ∙ judged_whole r.whole d r.place w i

    rows_are : rows_of t ≡ take (r.count * 5) laid
    rows_are =
        let f : layout 0 (map entry_of ys) ≡ layout 0 (entries_in flat 0 r.count) = rows_same 0 0 ys R.scaled none_over ∙ ap (layout 0) (sym entries_are) in
        ap row_numbers f ∙ sym (all_laid flat r.count L item_fine)

    places_are : places_of t ≡ map named_of (noted_from flat 0 r.count)
    places_are = by ys ∙ ap (map named_of) (sym R.held)
      where
        by : (ys : List Noted) → map place_of_name (map entry_of ys) ≡ map named_of (map cap_noted ys)
        by [] = refl
        by (y ∷ ys) = ap (λ (l : List ℕ). y.named ∷ l) (by ys)

    abbrev count : Tally
    count = tally false 0 r.names.literals r.names.bytes

    literals_are : Calls.literals_of t ≡ rows_from notes 0 r.names.literals
    literals_are =
        ap (λ (ls : List Literal). row_numbers (literal_rows 0 ls)) (sym stored.valued) ∙ sym (rows-noted text notes count stored.spans stored.noted)

    bytes_are : t.bytes ≡ bytes_from text notes 0 r.names.literals
    bytes_are = ap literal_bytes (sym stored.valued) ∙ sym (bytes-noted text notes count stored.spans stored.noted)

    bytes_sized : r.names.bytes ≡ length (bytes_from text notes 0 r.names.literals)
    bytes_sized = stored.noted.sized ∙ ap length (sym (bytes-noted text notes count stored.spans stored.noted))

    module _ (a : 5747 ≤ length flat) (b : 320 ≤ length laid) (c : 1152 ≤ length named) (f : 64 ≤ length spots) (g : 448 ≤ length notes) where
      pub ready : Ready text laid flat named spots notes r
      ready =
          record {
            rows = omega (arith, L.few item_fine);
            entries = omega (arith, L.few item_fine);
            few = L.few item_fine;
            names = omega (arith, stored.few);
            places = omega (arith, stored.few);
            few_names = stored.few;
            words = words-noted text notes count stored.spans stored.noted g;
            few_literals = stored.noted.few;
            sized = bytes_sized;
          }

      module _ {rows places names name-places literals bytes : List ℕ} {q : Described} {o1 o2 o3 o4 o5 o6 : List ℕ}
          (G : Given text laid flat named spots notes r rows places names name-places literals bytes q o1 o2 o3 o4 o5 o6) where
        pub answers-given : DescribedBy text rows places names name-places literals bytes q o1 o2 o3 o4 o5 o6
        answers-given =
            let n1 : length (rows_of t) ≡ r.count * 5 = ap length rows_are ∙ length-take-le (r.count * 5) laid ready.rows in
            let n2 : length (places_of t) ≡ r.count = ap length places_are ∙ named-length flat r.count in
            let n3 : length (names_of t) ≡ r.names.count * 18 =
            ap length (sym stored.named) ∙ length-take-le (r.names.count * 18) named ready.names in
            let n4 : length (name_places_of t) ≡ r.names.count = ap length (sym stored.placed) ∙ length-take-le r.names.count spots ready.places in
            let n5 : length (Calls.literals_of t) ≡ r.names.literals * 5 = ap length literals_are ∙ rows-length notes 0 r.names.literals in
            let n6 : length t.bytes ≡ r.names.bytes = ap length bytes_are ∙ sym bytes_sized in
            record {
              answered = rw (described, n1, n2, n3, n4, n5, n6) G.answered;
              rows_written = rw (described, rows_are) G.rows_written;
              places_written = rw (described, places_are) G.places_written;
              names_written = rw (described, ← stored.named) G.names_written;
              name_places_written = rw (described, ← stored.placed) G.name_places_written;
              literals_written = rw (described, literals_are) G.literals_written;
              bytes_written = rw (described, bytes_are) G.bytes_written;
            }
