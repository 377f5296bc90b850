-- The name rows of a description are sound.
use mathlib.Core.Path.{◌≡◌, refl, ap, ap₂, ◌∙◌}
use mathlib.Core.Bool.{Bool, true, false}
use mathlib.Core.List.{List, [], ◌∷◌, ◌++◌}
use Prim.Native.Nat.{ℕ, zero, suc, ◌+◌, ◌-◌, ◌*◌, ◌≤◌, ◌<◌}
use native.Mathlib.Omega.{arith}
use lib.Dec.{leb, ltb}
use lib.ListN.{length, get_or, drop, replicate, length-append, length-replicate, get_or-append}
use lib.Seq.{get_or-append-add}
use borrow.Author.Tests.{le-leb, lt-ltb, ltb-true, ltb-false}
use Rattle.content.specs.declared.Row as Rules
use Rattle.tables.specs.Rows.{row_count, row_at}
use Rattle.tables.specs.Operands.{Lent}
use Rattle.tables.specs.Names.{name_item, name_pairs, name_low, name_high}
use Rattle.tables.proofs.Tests.{and_both}
use Rattle.values.specs.Names.{every, pair_sound, place_sound, name_sound}
use Rattle.description.specs.Grammar.{Row, row, Literal, Value, Condition, literals, literals_of, Pair, pair, pairs, name_row, name_rows, Word, Values, Names, Entry, Entries}
use Rattle.description.specs.Limits.{ruled, any_barred}
use Rattle.name_entries.specs.Named.{pair_numbers}
use Rattle.name_entries.proofs.Holding.{numbers-length}
use Rattle.storing.specs.Naming.{row_numbers, name_numbers}
use Rattle.layouts.specs.Layouts as Layouts
use Rattle.lending.proofs.Rows.{count_is, row_at_lem}
use Rattle.lending.proofs.Literals.{nothing}
use Rattle.lending.proofs.Values.{Holds, values_sound, next-literals}

-- What a level 88 entry keeps, beside the rows of the items.
pub record Good (rows : List Row) (c : Condition) : Type 0 where
  pub there : c.item < length rows
  pub some : 0 < length c.values
  pub few : length c.values ≤ 8
  pub free : any_barred (get_or rows c.item (row 0 0 0 0 0)) c.values ≡ false

abbrev pub AllGood : List Row → List Condition → Type 0
AllGood rows [] = Unit {0}
AllGood rows (c ∷ cs) = Good rows c × AllGood rows cs

-- an entry's item stands before it, and it has a value
some-values : {ws : List Word} {vs : List Value} → Values ws vs → 0 < length vs
some-values (Values.last_single s) = omega arith
some-values (Values.last_range s t) = omega arith
some-values (Values.more_single s v) = omega arith
some-values (Values.more_range s t v) = omega arith

named_some : {k : ℕ} {ws : List Word} {c : Condition} → Names k ws c → (c.item ≡ k) × (0 < length c.values)
named_some (Names.names n v) = (refl, some-values v)

pub all_good : {k : ℕ} {ws : List Word} {es : List Entry} {cs : List Condition} (rows : List Row) → Entries k ws es cs → k + length es ≤ length rows →
    ((j : ℕ) (d : Condition) → j < length cs →
    (length (get_or cs j d).values ≤ 8) × (any_barred (get_or rows (get_or cs j d).item (row 0 0 0 0 0)) (get_or cs j d).values ≡ false)) → AllGood rows cs
all_good rows Entries.none h f = tt
all_good rows (Entries.more d es) h f = all_good rows es (omega arith) f
all_good rows (Entries.name {k = k} {c = c} p n es) h f =
    let m = named_some n in (
      record { there = omega (arith, m.0); some = m.1; few = (f 0 c (omega arith)).0; free = (f 0 c (omega arith)).1 },
      all_good rows es h (λ j d l. f (suc j) d (omega arith)),
    )

-- 18 numbers a name
pairs-length : (k : ℕ) (vs : List Value) → length (pairs k vs) ≡ length vs
unfolding pairs
pairs-length k [] = refl
pairs-length k (Value.single x ∷ vs) = ap suc (pairs-length (k + 1) vs)
pairs-length k (Value.range x y ∷ vs) = ap suc (pairs-length (k + 2) vs)

module _ (k : ℕ) (vs : List Value) (h : length vs ≤ 8) where
  abbrev tail : List ℕ
  tail = pair_numbers (pairs k vs) ++ replicate (16 - length (pairs k vs) * 2) 0

  tail_length : length tail ≡ 16
  tail_length =
      omega (
        arith,
        numbers-length k vs,
        pairs-length k vs,
        length-replicate {A = ℕ} (16 - length (pairs k vs) * 2) 0,
        length-append (pair_numbers (pairs k vs)) (replicate (16 - length (pairs k vs) * 2) 0),
      )

pub names-length : (rows : List Row) (k : ℕ) (cs : List Condition) → AllGood rows cs → length (name_numbers (name_rows k cs)) ≡ length cs * 18
unfolding name_numbers name_rows
names-length rows k [] g = refl
names-length rows k (c ∷ cs) g =
    let n = k + length (literals c.values) in
    omega (
      arith,
      tail_length k c.values g.0.few,
      names-length rows n cs g.1,
      length-append (row_numbers (name_row c.item (pairs k c.values))) (name_numbers (name_rows n cs)),
    )

-- pairs by their numbers, and zeros after them
pair_low : (ps : List Pair) (rest : List ℕ) (j : ℕ) → j < length ps → (get_or (pair_numbers ps ++ rest) (j * 2) 0 ≡ (get_or ps j (pair 0 0)).low)
    × (get_or (pair_numbers ps ++ rest) (j * 2 + 1) 0 ≡ (get_or ps j (pair 0 0)).high)
unfolding pair_numbers
pair_low [] rest j l = absurd (omega arith)
pair_low (p ∷ ps) rest zero l = (refl, refl)
pair_low (p ∷ ps) rest (suc j) l =
    let i = pair_low ps rest j (omega arith) in
    let y : suc j * 2 ≡ 2 + j * 2 = omega arith in
    let z : suc j * 2 + 1 ≡ 2 + (j * 2 + 1) = omega arith in
    let two : List ℕ = p.low ∷ p.high ∷ [] in
    (rw y (get_or-append-add two (pair_numbers ps ++ rest) (j * 2) 0 ∙ i.0), rw z (get_or-append-add two (pair_numbers ps ++ rest) (j * 2 + 1) 0 ∙ i.1))

zeros : (n m : ℕ) → ◌≡◌ {A = ℕ} (get_or (replicate n 0) m 0) 0
zeros zero m = refl
zeros (suc n) zero = refl
zeros (suc n) (suc m) = zeros n m

after-pairs : (ns : List ℕ) (n m : ℕ) → length ns ≤ m → get_or (ns ++ replicate n 0) m 0 ≡ 0
after-pairs ns n m h = let z : m ≡ length ns + (m - length ns) = omega arith in rw z (get_or-append-add ns (replicate n 0) (m - length ns) 0 ∙ zeros n (m - length ns))

every_of : (test : ℕ → Bool) (n : ℕ) → ((k : ℕ) → k < n → test k ≡ true) → every test n ≡ true
unfolding every
every_of test zero f = refl
every_of test (suc n) f = and_both (every test n) (test n) (every_of test n (λ k l. f k (omega arith))) (f n (omega arith))

-- The tables: items of these rows, and a literal table that holds xs.
module _ (l : Lent) (rows : List Row) (items-are : l.items ≡ Layouts.row_numbers rows) (xs : List Literal)
    (all : (k : ℕ) → k < length xs → Holds l k (get_or xs k nothing)) where
  pair_as : {q r : Rules.Row} {a b m n : ℕ} → q ≡ r → a ≡ m → b ≡ n → pair_sound l r m n ≡ true → pair_sound l q a b ≡ true
  pair_as {q} {r} {a} {b} {m} {n} e f g h =
      ap (λ (x : Rules.Row). pair_sound l x a b) e ∙ ap (λ (x : ℕ). pair_sound l r x b) f ∙ ap (λ (x : ℕ). pair_sound l r m x) g ∙ h

  -- from row i on these are the rows of cs, with k literals before them
  abbrev pub From : ℕ → ℕ → List Condition → Type 0
  From i k cs = (m : ℕ) → get_or l.names (i * 18 + m) 0 ≡ get_or (name_numbers (name_rows k cs)) m 0

  module _ (i k : ℕ) (c : Condition) (cs : List Condition) (f : From i k (c ∷ cs)) (g : Good rows c) (e : drop k xs ≡ literals c.values ++ literals_of cs) where
    abbrev vs : List Value
    vs = c.values

    abbrev rest : List ℕ
    rest = name_numbers (name_rows (k + length (literals vs)) cs)

    item_is : name_item l.names i ≡ c.item
    unfolding name_numbers name_rows
    item_is = let z : i * 18 + 0 ≡ i * 18 = omega arith in rw z at (f 0)

    pairs_are : name_pairs l.names i ≡ length vs
    unfolding name_numbers name_rows
    pairs_are = f 1 ∙ pairs-length k vs

    in_tail : (m : ℕ) → m < 16 → get_or l.names (i * 18 + (2 + m)) 0 ≡ get_or (tail k vs g.few) m 0
    unfolding name_numbers name_rows
    in_tail m h =
        f (2 + m) ∙ get_or-append-add (c.item ∷ length (pairs k vs) ∷ []) (tail k vs g.few ++ rest) m 0
        ∙ get_or-append (tail k vs g.few) rest 0 m (omega (arith, tail_length k vs g.few))

    low_is : (j : ℕ) → j < 8 → name_low l.names i j ≡ get_or (tail k vs g.few) (j * 2) 0
    low_is j h = let z : i * 18 + 2 + j * 2 ≡ i * 18 + (2 + j * 2) = omega arith in rw z (in_tail (j * 2) (omega arith))

    high_is : (j : ℕ) → j < 8 → name_high l.names i j ≡ get_or (tail k vs g.few) (j * 2 + 1) 0
    high_is j h = let z : i * 18 + 3 + j * 2 ≡ i * 18 + (2 + (j * 2 + 1)) = omega arith in rw z (in_tail (j * 2 + 1) (omega arith))

    row_is : row_at l.items (name_item l.names i) ≡ ruled (get_or rows c.item (row 0 0 0 0 0))
    row_is = ap₂ row_at items-are item_is ∙ row_at_lem rows c.item (row 0 0 0 0 0) g.there

    place_sound_lem : (j : ℕ) → j < 8 → place_sound l i j ≡ true
    place_sound_lem j h = by (ltb j (length vs)) refl
      where
        zs : List ℕ
        zs = replicate (16 - length (pairs k vs) * 2) 0

        by : (b : Bool) → ltb j (length vs) ≡ b → place_sound l i j ≡ true
        by true t =
            let u : ltb j (name_pairs l.names i) ≡ true = rw pairs_are t in
            let there : j < length (pairs k vs) = omega (arith, ltb-true j (length vs) t, pairs-length k vs) in
            let p = pair_low (pairs k vs) zs j there in
            rw u
            (pair_as row_is (low_is j h ∙ p.0) (high_is j h ∙ p.1)
            (values_sound l xs all (get_or rows c.item (row 0 0 0 0 0)) k vs (literals_of cs) e g.free j (ltb-true j (length vs) t)))
        by false t =
            let u : ltb j (name_pairs l.names i) ≡ false = rw pairs_are t in
            let past : length (pair_numbers (pairs k vs)) ≤ j * 2 = omega (arith, ltb-false j (length vs) t, numbers-length k vs) in
            let a : name_low l.names i j ≡ 0 = low_is j h ∙ after-pairs (pair_numbers (pairs k vs)) (16 - length (pairs k vs) * 2) (j * 2) past in
            let b : name_high l.names i j ≡ 0 =
            high_is j h ∙ after-pairs (pair_numbers (pairs k vs)) (16 - length (pairs k vs) * 2) (j * 2 + 1) (omega (arith, past)) in
            rw (u, a, b)

    name_sound_lem : name_sound l i ≡ true
    name_sound_lem =
        let n : row_count l.items ≡ length rows = ap row_count items-are ∙ count_is rows in
        and_both _ (every (place_sound l i) 8)
        (and_both _ (leb (name_pairs l.names i) 8)
        (and_both (ltb (name_item l.names i) (row_count l.items)) (leb 1 (name_pairs l.names i))
        (lt-ltb (name_item l.names i) (row_count l.items) (omega (arith, item_is, n, g.there)))
        (le-leb 1 (name_pairs l.names i) (omega (arith, pairs_are, g.some))))
        (le-leb (name_pairs l.names i) 8 (omega (arith, pairs_are, g.few))))
        (every_of (place_sound l i) 8 place_sound_lem)

    next : From (suc i) (k + length (literals vs)) cs
    unfolding name_numbers name_rows
    next m =
        let own : List ℕ = row_numbers (name_row c.item (pairs k vs)) in
        let z : suc i * 18 + m ≡ i * 18 + (length own + m) = omega (arith, tail_length k vs g.few) in
        rw z (f (length own + m) ∙ get_or-append-add own rest m 0)

  pub names_sound : (i k : ℕ) (cs : List Condition) → From i k cs → AllGood rows cs → drop k xs ≡ literals_of cs →
      (v : ℕ) → v < length cs → name_sound l (i + v) ≡ true
  unfolding literals_of
  names_sound i k [] f g e v h = absurd (omega arith)
  names_sound i k (c ∷ cs) f g e zero h = let z : i + 0 ≡ i = omega arith in rw z (name_sound_lem i k c cs f g.0 e)
  names_sound i k (c ∷ cs) f g e (suc v) h =
      let z : i + suc v ≡ suc i + v = omega arith in
      rw z
      (names_sound (suc i) (k + length (literals c.values)) cs (next i k c cs f g.0 e) g.1
      (next-literals l xs all k (literals c.values) (literals_of cs) e) v (omega arith))
