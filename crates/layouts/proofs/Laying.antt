-- Rows of the entries in a buffer, one by one.
use mathlib.Core.Path.{◌≡◌, refl, sym, ap, ◌∙◌}
use mathlib.Core.Bool.{Bool, true, false, cond, not, ◌&&◌, ◌||◌, or_assoc, or-false}
use mathlib.Core.Option.{none, some}
use mathlib.Core.List.{List, [], ◌∷◌, ◌++◌, map, append_assoc, append-nil}
use Prim.Native.Nat.{ℕ, zero, suc, ◌+◌, ◌*◌, ◌-◌, ◌≤◌, ◌<◌}
use native.Mathlib.Omega.{arith}
use native.Mathlib.Numerals.{add-one}
use borrow.Author.Tests.{eqb-true, leb-true, leb-false, not-false}
use lib.Dec.{eqb, leb, ltb}
use lib.ListN.{length, get_or, take, drop, set, length-append, length-map}
use lib.Seq.{sets, sets-eq, take_at, drop_at, drop-drop}
use Rattle.description.specs.Grammar.{Row, row, Entry, group, item, is_signed, group_kind}
use Rattle.description.specs.Reader.{size_of, below, signed_below, row_of, layout}
use Rattle.description.specs.Limits.{most, over, passes}
use Rattle.description.proofs.Bytes.{apart, eqb_no}
use Rattle.description.proofs.Keeping.{layout-length}
use Rattle.tables.proofs.Front.{Front, front_none, front_length}
use Rattle.entries.specs.Entries.{content_of, entry_of}
use Rattle.noting.specs.Stored.{noted_at, noted_from}
use Rattle.noting.proofs.Flat.{noted-length}
use Rattle.layouts.specs.Layouts.{first_over, rows_within, written_rows, shown_row, entries_in, Sized, Signed, Summed, row_in, numbers_of, row_numbers, over_place, LaidOut}
use Rattle.layouts.specs.declared.ItemRow.{ItemRow}
use Rattle.std.specs.Prelude.{None, Option, Some}

-- Limits.
pub most-group : (k : ℕ) → eqb k 0 || eqb k 7 ≡ true → 65535 ≡ most k
most-group k e = rw e

pub most-letters : (k : ℕ) → eqb k 0 || eqb k 7 ≡ false → eqb k 1 || eqb k 2 ≡ true → 256 ≡ most k
most-letters k h l = rw (h, l)

pub most-digits : (k : ℕ) → eqb k 0 || eqb k 7 ≡ false → eqb k 1 || eqb k 2 ≡ false → eqb k 3 || eqb k 4 ≡ true → 18 ≡ most k
most-digits k h l m = rw (h, l, m)

pub most-signed : (k : ℕ) → eqb k 0 || eqb k 7 ≡ false → eqb k 1 || eqb k 2 ≡ false → eqb k 3 || eqb k 4 ≡ false → 19 ≡ most k
most-signed k h l m = rw (h, l, m)

pub most_le : (k : ℕ) → most k ≤ 65535
most_le k = by (eqb k 0 || eqb k 7) (eqb k 1 || eqb k 2) (eqb k 3 || eqb k 4)
  where
    by : (a b c : Bool) → cond a 65535 (cond b 256 (cond c 18 19)) ≤ 65535
    by true b c = omega arith
    by false true c = omega arith
    by false false true = omega arith
    by false false false = omega arith

pub not_over : (i : ℕ) (r : Row) → over i r ≡ false → (i < 64) × ((r.offset ≤ 65535) × ((r.size ≤ 65535) × (r.digits ≤ 18)))
not_over i r h = by (leb 64 i) (leb r.size (most r.kind)) (leb r.offset 65535) (leb r.digits 18) refl refl refl refl h
  where
    by : (a b c d : Bool) → leb 64 i ≡ a → leb r.size (most r.kind) ≡ b → leb r.offset 65535 ≡ c → leb r.digits 18 ≡ d →
        a || (not b || not c || not d) ≡ false → (i < 64) × ((r.offset ≤ 65535) × ((r.size ≤ 65535) × (r.digits ≤ 18)))
    by true b c d x y z w h = apart refl h
    by false false c d x y z w h = apart refl h
    by false true false d x y z w h = apart refl h
    by false true true false x y z w h = apart refl h
    by false true true true x y z w h =
        (leb-false 64 i x, (leb-true r.offset 65535 z, (omega (arith, leb-true r.size (most r.kind) y, most_le r.kind), leb-true r.digits 18 w)))

pub row_small : (i : ℕ) (r : Row) → over i r ≡ false → (r.offset ≤ 65535) × (r.size ≤ 65535)
row_small i r h = let k = not_over i r h in (k.1.0, k.1.1.0)

-- Sizes.
module _ (flat : List ℕ) (i : ℕ) where
  pub size_group : get_or flat (i * 7 + 3) 0 ≡ 0 → Sized flat i 0
  size_group h = record { is = rw h; small = omega arith }

  pub size_item : ¬ (get_or flat (i * 7 + 3) 0 ≡ 0) → {r : ℕ} → r ≡ get_or flat (i * 7 + 4) 0 → get_or flat (i * 7 + 4) 0 < 4294967296 → Sized flat i r
  size_item h e l = record { is = e ∙ rw (eqb_no (get_or flat (i * 7 + 3) 0) 0 h); small = omega arith }

-- A group is kind 0 in the buffer, and that is no signed kind.
signed_kind : (k z s d : ℕ) → eqb k 4 || eqb k 5 || eqb k 6 || eqb k 8 ≡ is_signed (content_of k z s d)
signed_kind k z s d = by (eqb k 0) refl
  where
    by : (t : Bool) → eqb k 0 ≡ t → eqb k 4 || eqb k 5 || eqb k 6 || eqb k 8 ≡ is_signed (cond t group (item k z s d))
    by true h = rw (eqb-true k 0 h)
    by false h = refl

pub signed_is : (flat : List ℕ) (i : ℕ) →
    Signed flat i (eqb (get_or flat (i * 7 + 3) 0) 4 || eqb (get_or flat (i * 7 + 3) 0) 5 || eqb (get_or flat (i * 7 + 3) 0) 6 || eqb (get_or flat (i * 7 + 3) 0) 8)
signed_is flat i = record { is = signed_kind (get_or flat (i * 7 + 3) 0) (get_or flat (i * 7 + 4) 0) (get_or flat (i * 7 + 5) 0) (get_or flat (i * 7 + 6) 0) }

-- the entries from i on: that one, and the others
pub entries_cons : (flat : List ℕ) (i n : ℕ) → i < n → entries_in flat i n ≡ entry_of (noted_at flat i) ∷ entries_in flat (suc i) n
unfolding noted_from
entries_cons flat i n l = let z : n - i ≡ suc (n - suc i) = omega arith in rw z

pub entries_end : (flat : List ℕ) (i n : ℕ) → n ≤ i → entries_in flat i n ≡ []
unfolding noted_from
entries_end flat i n l = let z : n - i ≡ 0 = omega arith in rw z

module _ (flat : List ℕ) (i n l : ℕ) where
  -- The entries i to k are of the group; the sum and the sign of all are theirs with those of the others.
  pub record SoFar (k sum : ℕ) (signed : Bool) : Type 0 where
    pub from : i ≤ k
    pub sums : below l (entries_in flat i n) ≡ sum + below l (entries_in flat k n)
    pub small : sum ≤ 4294967295 * k
    pub signs : signed_below l (entries_in flat i n) ≡ signed || signed_below l (entries_in flat k n)

  abbrev pub in_group : ℕ → Bool
  in_group k = ltb l (get_or flat (k * 7) 0) && leb (get_or flat (k * 7) 0) 49

  pub sum_none : SoFar i 0 false
  sum_none = record { from = omega arith; sums = omega arith; small = omega arith; signs = refl }

  pub sum_more : (k sum : ℕ) (b : Bool) {s : ℕ} {c : Bool} → k < n → SoFar k sum b → in_group k ≡ true → Sized flat k s → Signed flat k c → SoFar (k + 1) (sum + s) (b || c)
  unfolding below signed_below
  sum_more k sum b {s} {c} h f t z g =
      record {
        from = omega (arith, f.from);
        sums = f.sums ∙ rw (entries_cons flat k n h, t, add-one, ← z.is) (omega arith);
        small = omega (arith, f.small, z.small);
        signs = f.signs ∙ rw (entries_cons flat k n h, t, add-one, ← g.is) (sym (or_assoc b c (signed_below l (entries_in flat (suc k) n))));
      }

  pub sum_stop : (k sum : ℕ) (b : Bool) → k < n → n ≤ 820 → SoFar k sum b → in_group k ≡ false → Summed flat i n l sum b
  unfolding below signed_below
  sum_stop k sum b h m f t =
      record {
        is = sym (f.sums ∙ rw (entries_cons flat k n h, t) (omega arith));
        small = omega (arith, f.small);
        signs = sym (f.signs ∙ rw (entries_cons flat k n h, t) (or-false b));
      }

  pub sum_end : (k sum : ℕ) (b : Bool) → n ≤ k → k ≤ n → SoFar k sum b → Summed flat i n l sum b
  unfolding below signed_below
  sum_end k sum b h g f =
      record {
        is = sym (f.sums ∙ rw (entries_end flat k n h) (omega arith));
        small = omega (arith, f.small);
        signs = sym (f.signs ∙ rw (entries_end flat k n h) (or-false b));
      }

-- One row.
pub row-group : (flat : List ℕ) (i n o : ℕ) {k s : ℕ} {b : Bool} → get_or flat (i * 7 + 3) 0 ≡ 0 → Summed flat (i + 1) n (get_or flat (i * 7) 0) s b → k ≡ group_kind b →
    row k o s 0 0 ≡ row_in flat i n o
row-group flat i n o h z g =
    let k : entries_in flat (i + 1) n ≡ entries_in flat (suc i) n = ap (λ (m : ℕ). entries_in flat m n) (add-one i) in
    rw (h, g, z.is, z.signs, k)

pub row_item : (flat : List ℕ) (i n o : ℕ) {s : ℕ} → ¬ (get_or flat (i * 7 + 3) 0 ≡ 0) → s ≡ get_or flat (i * 7 + 4) 0 →
    row (get_or flat (i * 7 + 3) 0) o s (get_or flat (i * 7 + 5) 0) (get_or flat (i * 7 + 6) 0) ≡ row_in flat i n o
row_item flat i n o h e = rw (eqb_no (get_or flat (i * 7 + 3) 0) 0 h, e)

-- Stores one after the other.
pub row_stores : (l : List ℕ) (a : ℕ) (r : Row) →
    set (set (set (set (set l a r.kind) (a + 1) r.offset) (a + 2) r.size) (a + 3) r.scale) (a + 4) r.digits ≡ sets l a (numbers_of r)
row_stores l a r =
    let b : a + 1 ≡ suc a = omega arith in
    let c : a + 2 ≡ suc (suc a) = omega arith in
    let d : a + 3 ≡ suc (suc (suc a)) = omega arith in
    let e : a + 4 ≡ suc (suc (suc (suc a))) = omega arith in
    rw (b, c, d, e)

-- Numbers stored behind those that stand.
front_sets : {w before now : List ℕ} {k : ℕ} (vs : List ℕ) → Front w before k now → k + length vs ≤ length before → Front (w ++ vs) before (k + length vs) (sets now k vs)
front_sets {w} {before} {now} {k} vs f l =
    let a : take k now ≡ w = rw f.holds (take_at w (drop k before) k (sym f.size)) in
    let b : drop k now ≡ drop k before = rw f.holds (drop_at w (drop k before) k (sym f.size)) in
    record {
      size = omega (arith, f.size, length-append w vs);
      fits = l;
      holds = sets-eq vs now k (omega (arith, front_length f)) ∙ rw (a, ← drop-drop (length vs) k now, b, drop-drop (length vs) k before);
    }

numbers-length : (rs : List Row) → length (row_numbers rs) ≡ length rs * 5
unfolding row_numbers
numbers-length [] = refl
numbers-length (r ∷ rs) = omega (arith, numbers-length rs)

numbers_more : (rs : List Row) (r : Row) → row_numbers (rs ++ r ∷ []) ≡ row_numbers rs ++ numbers_of r
unfolding row_numbers
numbers_more [] r = refl
numbers_more (s ∷ rs) r = ap (λ (v : List ℕ). numbers_of s ++ v) (numbers_more rs r)

-- The rows up to i.
module _ (flat : List ℕ) (n : ℕ) where
  abbrev es : List Entry
  es = entries_in flat 0 n

  pub record Laying (before rows : List ℕ) (o i : ℕ) : Type 0 where
    pub limit : first_over 0 es (layout 0 es) ≡ first_over i (entries_in flat i n) (layout o (entries_in flat i n))
    pub done : List Row
    pub counted : length done ≡ i
    pub all : written_rows flat n ≡ done ++ rows_within i (layout o (entries_in flat i n))
    pub front : Front (row_numbers done) before (i * 5) rows
    pub within : i ≤ n
    pub few : i ≤ 64
    pub low : o ≤ 4294967295 * i

  pub lay_none : (rows : List ℕ) → Laying rows rows 0 0
  unfolding row_numbers
  lay_none rows =
      record {
        limit = refl;
        done = [];
        counted = refl;
        all = refl;
        front = front_none rows;
        within = omega arith;
        few = omega arith;
        low = omega arith;
      }

  module _ {before : List ℕ} (rows : List ℕ) (o i : ℕ) (L : Laying before rows o i) where
    -- No row follows.
    laid_so_far : rows_within i (layout o (entries_in flat i n)) ≡ [] → rows ≡ row_numbers (written_rows flat n) ++ drop (length (written_rows flat n) * 5) before
    laid_so_far e =
        let k : written_rows flat n ≡ L.done = L.all ∙ rw (e, append-nil L.done) in
        rw (k, L.counted) L.front.holds

    module _ (l : i < n) {r : Row} (e : r ≡ row_in flat i n o) where
      pub lay_over : {p : ℕ} → over i r ≡ true → p ≡ get_or flat (i * 7 + 1) 0 → LaidOut flat n (Some p) before rows
      unfolding first_over layout rows_within
      lay_over h f =
          let k : over i (row_in flat i n o) ≡ true = rw (← e) h in
          record {
            limit = L.limit ∙ rw (entries_cons flat i n l, k, f);
            written = laid_so_far (rw (entries_cons flat i n l, k));
            few = λ x. let z : ◌≡◌ {A = ℕ} 0 1 = cc in absurd (omega arith);
          }

      pub lay_more : {s : ℕ} → over i r ≡ false → i * 5 + 5 ≤ length before → Sized flat i s → Laying before (sets rows (i * 5) (numbers_of r)) (o + s) (i + 1)
      unfolding first_over layout rows_within
      lay_more {s} h m z =
          let k : over i (row_in flat i n o) ≡ false = rw (← e) h in
          let five : (i + 1) * 5 ≡ i * 5 + 5 = omega arith in
          let more : List Row = rows_within (suc i) (layout (o + size_of (entry_of (noted_at flat i)).content) (entries_in flat (suc i) n)) in
          record {
            limit = L.limit ∙ rw (entries_cons flat i n l, k, add-one i, z.is);
            done = L.done ++ r ∷ [];
            counted = omega (arith, length-append L.done (r ∷ []), L.counted);
            all = L.all ∙ rw (entries_cons flat i n l, k, ← e, add-one i, z.is) (sym (append_assoc L.done (r ∷ []) more));
            front = rw (five, numbers_more L.done r) (front_sets (numbers_of r) L.front m);
            within = omega arith;
            few = omega (arith, not_over i r h);
            low = omega (arith, L.low, z.small);
          }

    pub lay_end : n ≤ i → LaidOut flat n None before rows
    unfolding first_over layout rows_within
    lay_end l =
        record {
          limit = L.limit ∙ rw (entries_end flat i n l);
          written = laid_so_far (rw (entries_end flat i n l));
          few = λ x. omega (arith, L.few, L.within);
        }

-- Where no entry is over a limit, every row is written.
all-within : (n : ℕ) (xs : List Entry) (rs : List Row) → length rs ≡ length xs → first_over n xs rs ≡ none → rows_within n rs ≡ rs
unfolding first_over rows_within
all-within n xs [] h e = refl
all-within n [] (r ∷ rs) h e = absurd (omega arith)
all-within n (x ∷ xs) (r ∷ rs) h e = by (over n r) e (all-within (suc n) xs rs (omega arith))
  where
    by : (t : Bool) → cond t (some x.place) (first_over (suc n) xs rs) ≡ none → (first_over (suc n) xs rs ≡ none → rows_within (suc n) rs ≡ rs) →
        cond t [] (r ∷ rows_within (suc n) rs) ≡ r ∷ rs
    by true e f = let z : ◌≡◌ {A = ℕ} 0 1 = cc in absurd (omega arith)
    by false e f = ap (λ (l : List Row). r ∷ l) (f e)

pub all_laid : (flat : List ℕ) (n : ℕ) {r : Option ℕ} {before after : List ℕ} → LaidOut flat n r before after → r ≡ None →
    take (n * 5) after ≡ row_numbers (layout 0 (entries_in flat 0 n))
all_laid flat n L e =
    let xs = entries_in flat 0 n in
    let rs = layout 0 xs in
    let m : length xs ≡ n = omega (arith, length-map (noted_from flat 0 (n - 0)) entry_of, noted-length flat 0 (n - 0)) in
    let k : rows_within 0 rs ≡ rs = all-within 0 xs rs (layout-length 0 xs) (L.limit ∙ ap over_place e) in
    rw (L.written, k) (take_at (row_numbers rs) _ (n * 5) (omega (arith, numbers-length rs, layout-length 0 xs)))
