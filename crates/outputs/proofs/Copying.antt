-- Numbers and bytes copied one after another.
use mathlib.Core.Path.{◌≡◌, refl, sym, ap, ◌∙◌}
use mathlib.Core.List.{List, [], ◌∷◌, ◌++◌, append_assoc, append-nil, map}
use Prim.Native.Nat.{ℕ, zero, suc, ◌+◌, ◌*◌, ◌-◌, ◌≤◌, ◌<◌}
use native.Mathlib.Omega.{arith}
use native.Mathlib.Numerals.{add-one}
use borrow.Rule.Slice.PartMut.{put_mid}
use lib.ListN.{length, get_or, take, drop, set, length-append, length-take, length-drop, length-map}
use lib.Seq.{sets, take-suc}
use Rattle.tables.proofs.Front.{Front, front_none, front_length, front_store, front_part}
use Rattle.entries.specs.declared.Noted.{Noted}
use Rattle.noting.specs.Stored.{noted_at, noted_from}
use Rattle.noting.proofs.Flat.{noted-length, noted_snoc}
use Rattle.literal_bytes.specs.Written.{literal_by, written_over}
use Rattle.outputs.specs.Noted.{named_of, row_at, word_at, bytes_at, rows_from, bytes_from, Words}

-- One number more.
pub copy_more : (from before : List ℕ) (i : ℕ) {to : List ℕ} → i < length from → i < length before → Front (take i from) before i to →
    Front (take (i + 1) from) before (i + 1) (set to i (get_or from i 0))
copy_more from before i l m f =
    let k : take (i + 1) from ≡ take i from ++ get_or from i 0 ∷ [] = rw (add-one i) (take-suc from i 0 l) in
    rw k (front_store f (get_or from i 0) m)

pub named-length : (flat : List ℕ) (n : ℕ) → length (map named_of (noted_from flat 0 n)) ≡ n
named-length flat n = length-map (noted_from flat 0 n) named_of ∙ noted-length flat 0 n

map_snoc : (xs : List Noted) (x : Noted) → map named_of (xs ++ x ∷ []) ≡ map named_of xs ++ named_of x ∷ []
map_snoc [] x = refl
map_snoc (y ∷ xs) x = ap (λ (l : List ℕ). named_of y ∷ l) (map_snoc xs x)

pub named_none : (flat before : List ℕ) → Front (map named_of (noted_from flat 0 0)) before 0 before
unfolding noted_from
named_none flat before = front_none before

pub named_more : (flat before : List ℕ) (i : ℕ) {to : List ℕ} → i < length before → Front (map named_of (noted_from flat 0 i)) before i to →
    Front (map named_of (noted_from flat 0 (i + 1))) before (i + 1) (set to i (get_or flat (i * 7 + 2) 0))
named_more flat before i m f =
    let z : 0 + i ≡ i = omega arith in
    let n : noted_from flat 0 (i + 1) ≡ noted_from flat 0 i ++ noted_at flat i ∷ [] = rw (add-one i, noted_snoc flat 0 i, z) in
    let k : map named_of (noted_from flat 0 (i + 1)) ≡ map named_of (noted_from flat 0 i) ++ get_or flat (i * 7 + 2) 0 ∷ [] =
    ap (map named_of) n ∙ map_snoc (noted_from flat 0 i) (noted_at flat i) in
    rw k (front_store f (get_or flat (i * 7 + 2) 0) m)

-- Literals in two parts.
rows_split : (notes : List ℕ) (i m n : ℕ) → rows_from notes i (m + n) ≡ rows_from notes i m ++ rows_from notes (i + m) n
unfolding rows_from
rows_split notes i zero n = let z : i + 0 ≡ i = omega arith in let y : 0 + n ≡ n = omega arith in rw (z, y)
rows_split notes i (suc m) n =
    let z : i + suc m ≡ suc i + m = omega arith in
    let y : suc m + n ≡ suc (m + n) = omega arith in
    rw (z, y, rows_split notes (suc i) m n) (sym (append_assoc (row_at notes i) (rows_from notes (suc i) m) (rows_from notes (suc i + m) n)))

rows_one : (notes : List ℕ) (i : ℕ) → rows_from notes 0 (i + 1) ≡ rows_from notes 0 i ++ row_at notes i
unfolding rows_from
rows_one notes i = let z : 0 + i ≡ i = omega arith in rw z at (rows_split notes 0 i 1)

pub rows-length : (notes : List ℕ) (i n : ℕ) → length (rows_from notes i n) ≡ n * 5
unfolding rows_from
rows-length notes i zero = refl
rows-length notes i (suc n) = omega (arith, rows-length notes (suc i) n)

pub bytes_split : (text notes : List ℕ) (i m n : ℕ) → bytes_from text notes i (m + n) ≡ bytes_from text notes i m ++ bytes_from text notes (i + m) n
unfolding bytes_from
bytes_split text notes i zero n = let z : i + 0 ≡ i = omega arith in let y : 0 + n ≡ n = omega arith in rw (z, y)
bytes_split text notes i (suc m) n =
    let z : i + suc m ≡ suc i + m = omega arith in
    let y : suc m + n ≡ suc (m + n) = omega arith in
    rw (z, y, bytes_split text notes (suc i) m n)
    (sym (append_assoc (bytes_at text notes i) (bytes_from text notes (suc i) m) (bytes_from text notes (suc i + m) n)))

pub bytes_one : (text notes : List ℕ) (i : ℕ) → bytes_from text notes 0 (i + 1) ≡ bytes_from text notes 0 i ++ bytes_at text notes i
unfolding bytes_from
bytes_one text notes i = let z : 0 + i ≡ i = omega arith in rw (z, append-nil) at (bytes_split text notes 0 i 1)

-- Numbers stored one after another.
front_stores : {w before to : List ℕ} {k : ℕ} (ns : List ℕ) → Front w before k to → k + length ns ≤ length before →
    Front (w ++ ns) before (k + length ns) (sets to k ns)
front_stores {w} {before} {to} {k} [] f h = let z : k + 0 ≡ k = omega arith in rw (append-nil w, z) f
front_stores {w} {before} {to} {k} (x ∷ ns) f h =
    let z : k + suc (length ns) ≡ suc k + length ns = omega arith in
    rw (z, ← append_assoc w (x ∷ []) ns) (front_stores ns (rw (add-one k) at (front_store f x (omega arith))) (omega arith))

-- One row more.
pub rows_none : (notes before : List ℕ) → Front (rows_from notes 0 0) before 0 before
unfolding rows_from
rows_none notes before = front_none before

pub row_more : (notes before : List ℕ) (i : ℕ) {to : List ℕ} → i * 5 + 5 ≤ length before → Front (rows_from notes 0 i) before (i * 5) to →
    Front (rows_from notes 0 (i + 1)) before ((i + 1) * 5)
    (set (set (set (set (set to (i * 5) (get_or notes (i * 7) 0)) (i * 5 + 1) (get_or notes (i * 7 + 1) 0)) (i * 5 + 2) (get_or notes (i * 7 + 2) 0)) (i * 5 + 3)
    (get_or notes (i * 7 + 3) 0)) (i * 5 + 4) (get_or notes (i * 7 + 4) 0))
row_more notes before i l f =
    let e1 : i * 5 + 1 ≡ suc (i * 5) = omega arith in
    let e2 : i * 5 + 2 ≡ suc (suc (i * 5)) = omega arith in
    let e3 : i * 5 + 3 ≡ suc (suc (suc (i * 5))) = omega arith in
    let e4 : i * 5 + 4 ≡ suc (suc (suc (suc (i * 5)))) = omega arith in
    let z : (i + 1) * 5 ≡ i * 5 + 5 = omega arith in
    rw (z, e1, e2, e3, e4, rows_one notes i) (front_stores (row_at notes i) f l)

-- The bytes of one literal more.
module _ (text notes before : List ℕ) (n i : ℕ) (w : Words text notes n) (l : i < n) (h : length (bytes_from text notes 0 n) ≤ length before) where
  bytes_room : length (bytes_from text notes 0 i) + length (bytes_at text notes i) ≤ length before
  bytes_room =
      let z : n ≡ i + 1 + (n - (i + 1)) = omega arith in
      let s = ap (λ (m : ℕ). bytes_from text notes 0 m) z ∙ bytes_split text notes 0 (i + 1) (n - (i + 1)) in
      omega (
        arith,
        ap length s,
        length-append (bytes_from text notes 0 (i + 1)) (bytes_from text notes (0 + (i + 1)) (n - (i + 1))),
        ap length (bytes_one text notes i),
        length-append (bytes_from text notes 0 i) (bytes_at text notes i),
      )

  module _ {to : List ℕ} (f : Front (bytes_from text notes 0 i) before (length (bytes_from text notes 0 i)) to) {at from until : ℕ} (e : at ≡ get_or notes (i * 7 + 1) 0)
      (g : from ≡ get_or notes (i * 7 + 5) 0) (k : until ≡ get_or notes (i * 7 + 6) 0) where
    same_word : take (until - from) (drop from text) ≡ word_at text notes i
    same_word = rw (g, k)

    abbrev same_bytes : (literal_by (get_or notes (i * 7) 0) (take (until - from) (drop from text))).bytes ≡ bytes_at text notes i
    same_bytes = ap (λ (v : List ℕ). (literal_by (get_or notes (i * 7) 0) v).bytes) same_word

    laid_at : at ≡ length (bytes_from text notes 0 i)
    laid_at = e ∙ (w.each i l).laid

    pub bytes_inside : (from ≤ until) × (until ≤ length text) × (at ≤ length to)
    bytes_inside = (
      omega (arith, g, k, (w.each i l).starts),
      omega (arith, k, (w.each i l).ends),
      omega (arith, bytes_room, laid_at, front_length f),
    )

    pub bytes_asked : (get_or notes (i * 7) 0 ≡ 2 → 2 ≤ length (take (until - from) (drop from text)))
        × (length (literal_by (get_or notes (i * 7) 0) (take (until - from) (drop from text))).bytes ≤ length (take (length to - at) (drop at to)))
    bytes_asked = (
      λ q. rw same_word ((w.each i l).quoted q),
      omega (arith, ap length same_bytes, bytes_room, laid_at, front_length f, length-take (length to - at) (drop at to), length-drop at to),
    )

    pub bytes_more : {back : List ℕ} →
        back ≡ written_over (literal_by (get_or notes (i * 7) 0) (take (until - from) (drop from text))).bytes (take (length to - at) (drop at to)) →
        Front (bytes_from text notes 0 (i + 1)) before (length (bytes_from text notes 0 (i + 1))) (put_mid at (length to - at) to back)
    bytes_more {back} q =
        let o = q ∙ ap (λ (v : List ℕ). written_over v (take (length to - at) (drop at to))) same_bytes in
        let size : length (bytes_from text notes 0 i ++ bytes_at text notes i) ≡ length (bytes_from text notes 0 i) + length (bytes_at text notes i) =
        length-append (bytes_from text notes 0 i) (bytes_at text notes i) in
        rw (bytes_one text notes i, size, laid_at)
        (front_part f (bytes_at text notes i) back (length (bytes_at text notes i)) refl bytes_room (rw laid_at at o))

pub bytes_none : (text notes before : List ℕ) → Front (bytes_from text notes 0 0) before (length (bytes_from text notes 0 0)) before
unfolding bytes_from
bytes_none text notes before = front_none before
