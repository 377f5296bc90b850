-- Names as code finds them: byte by byte, row by row.
use mathlib.Core.Path.{◌≡◌, refl, sym, ap, ◌∙◌}
use mathlib.Core.Bool.{Bool, true, false, cond, not, ◌&&◌}
use mathlib.Core.List.{List, [], ◌∷◌, ◌++◌}
use Prim.Native.Nat.{ℕ, zero, suc, ◌+◌, ◌-◌, ◌≤◌, ◌<◌}
use native.Mathlib.Omega.{arith}
use native.Mathlib.Numerals.{add-one}
use lib.ListN.{length, get_or, take, drop, length-drop, drop_of_length-le, take-append-drop}
use lib.Seq.{drop-cons, length-take-le, get_or-take}
use lib.Dec.{eqb}
use borrow.Author.Tests.{eq-eqb, ne_eqb, lt-ltb, le-ltb}
use Rattle.description.specs.Grammar.{all, is_name_byte, same}
use Rattle.description.proofs.Bytes.{and_both}
use Rattle.spelling.specs.Names.{leading, names_at, every_name}
use Rattle.spelling.specs.Meanings.{count, position}
use Rattle.spelling.proofs.Cutting.{same_true}
use Rattle.spelling.proofs.Describing.{length-map}
use Rattle.std.specs.Prelude.{Some, None}
use Rattle.naming.specs.declared.Called.TheVariants.{Item, Condition}
use Rattle.naming.specs.Named.{known_at, row_by, called_by}

-- how far a name goes
pub leading-ended : (rest : List ℕ) (k : ℕ) → length rest ≤ k → leading (drop k rest) ≡ []
unfolding leading
leading-ended rest k h = rw (drop_of_length-le rest h)

pub leading_stopped : (rest : List ℕ) (k : ℕ) → k < length rest → is_name_byte (get_or rest k 0) ≡ false → leading (drop k rest) ≡ []
unfolding leading
leading_stopped rest k h e = rw (drop-cons rest k 0 h, e)

pub leading_on : (rest : List ℕ) (k : ℕ) → k < length rest → is_name_byte (get_or rest k 0) ≡ true
    → leading (drop k rest) ≡ get_or rest k 0 ∷ leading (drop (k + 1) rest)
unfolding leading
leading_on rest k h e = rw (add-one, drop-cons rest k 0 h, e)

pub leading_short : (rest : List ℕ) → length (leading rest) ≤ length rest
unfolding leading
leading_short [] = omega arith
leading_short (b ∷ rest) = by (is_name_byte b) (leading_short rest)
  where
    by : (t : Bool) → length (leading rest) ≤ length rest → length (cond t (b ∷ leading rest) []) ≤ suc (length rest)
    by true h = omega arith
    by false h = omega arith

leading-first : (rest : List ℕ) → take (length (leading rest)) rest ≡ leading rest
unfolding leading
leading-first [] = refl
leading-first (b ∷ rest) = by (is_name_byte b) (leading-first rest)
  where
    by : (t : Bool) → take (length (leading rest)) rest ≡ leading rest → take (length (cond t (b ∷ leading rest) [])) (b ∷ rest) ≡ cond t (b ∷ leading rest) []
    by true h = ap (λ (v : List ℕ). b ∷ v) h
    by false h = refl

-- the part that is given
module _ (rest : List ℕ) (n : ℕ) (e : n ≡ length (leading rest)) where
  pub part-within : n ≤ length rest
  part-within = omega (arith, e, leading_short rest)

  pub part_is : take n rest ≡ leading rest
  part_is = rw e (leading-first rest)

-- words of unequal lengths are not the same
same_lengths : (u v : List ℕ) → (length u ≡ length v → ⊥) → false ≡ same u v
unfolding same
same_lengths [] [] h = absurd (h refl)
same_lengths [] (b ∷ v) h = refl
same_lengths (a ∷ u) [] h = refl
same_lengths (a ∷ u) (b ∷ v) h = by (eqb a b) (same_lengths u v (λ e. h (ap suc e)))
  where
    by : (t : Bool) → false ≡ same u v → false ≡ t && same u v
    by true e = e
    by false e = refl

-- a word beside the name at the head of some bytes
pub too_short : (word rest : List ℕ) → length rest < length word → false ≡ same word (leading rest)
too_short word rest h = same_lengths word (leading rest) (λ e. omega (arith, leading_short rest))

-- a word that is the name has the bytes that stand there, the last one too
pub byte_differs : (word rest : List ℕ) (k : ℕ) → k < length word → (get_or rest k 0 ≡ get_or word k 0 → ⊥) → same word (leading rest) ≡ false
byte_differs word rest k h e = by (same word (leading rest)) refl
  where
    by : (t : Bool) → same word (leading rest) ≡ t → t ≡ false
    by false q = refl
    by true q =
        let name : word ≡ leading rest = same_true word (leading rest) q in
        absurd (e (sym (get_or-take (length (leading rest)) rest k 0 (omega (arith, ap length name))) ∙ ap (λ (v : List ℕ). get_or v k 0) (leading-first rest ∙ sym name)))

every_at : (word : List ℕ) (k : ℕ) → all is_name_byte word ≡ true → k < length word → is_name_byte (get_or word k 0) ≡ true
unfolding all
every_at [] k e h = absurd (omega arith)
every_at (b ∷ word) zero e h = (and_both (is_name_byte b) (all is_name_byte word) e).0
every_at (b ∷ word) (suc k) e h = every_at word k (and_both (is_name_byte b) (all is_name_byte word) e).1 (omega arith)

pub name_goes_on : (word rest : List ℕ) (k : ℕ) → all is_name_byte word ≡ true → k < length word → k < length rest → get_or rest k 0 ≡ get_or word k 0
    → same (drop k word) (leading (drop k rest)) ≡ same (drop (k + 1) word) (leading (drop (k + 1) rest))
unfolding same
name_goes_on word rest k named h g e =
    rw (leading_on rest k g (ap is_name_byte e ∙ every_at word k named h), add-one, drop-cons word k 0 h, eq-eqb (get_or word k 0) (get_or rest k 0) (sym e))

pub name_ends : (word rest : List ℕ) (k : ℕ) (b : ℕ) (r : Bool) → length word ≤ k → b ≡ get_or rest k 0 → r ≡ is_name_byte b
    → not r ≡ same (drop k word) (leading (drop k rest))
unfolding same leading
name_ends word rest k b r h e f = rw (drop_of_length-le word h) (ap not (f ∙ ap is_name_byte e) ∙ by (drop k rest) (is_name_byte (get_or rest k 0)) (first_is rest k))
  where
    first_is : (rest : List ℕ) (k : ℕ) → is_name_byte (get_or rest k 0) ≡ is_name_byte (get_or (drop k rest) 0 0)
    first_is rest zero = refl
    first_is [] (suc k) = refl
    first_is (c ∷ rest) (suc k) = first_is rest k

    by : (v : List ℕ) (t : Bool) → t ≡ is_name_byte (get_or v 0 0) → not t ≡ same [] (leading v)
    by [] t e = ap not e
    by (c ∷ v) t e = ap not e ∙ pick (is_name_byte c)
      where
        pick : (t : Bool) → not t ≡ same [] (cond t (c ∷ leading v) [])
        pick true = refl
        pick false = refl

-- rows by their names
names_from : (text places : List ℕ) (k : ℕ) → k < length places
    → drop k (names_at text places) ≡ leading (drop (get_or places k 0) text) ∷ drop (suc k) (names_at text places)
names_from text [] k h = absurd (omega arith)
names_from text (p ∷ places) zero h = refl
names_from text (p ∷ places) (suc k) h = names_from text places k (omega arith)

pub name_at_lem : (text places : List ℕ) (v : ℕ) → v < length places → get_or (names_at text places) v [] ≡ leading (drop (get_or places v 0) text)
name_at_lem text [] v h = absurd (omega arith)
name_at_lem text (p ∷ places) zero h = refl
name_at_lem text (p ∷ places) (suc v) h = name_at_lem text places v (omega arith)

pub names-length : (text places : List ℕ) → length (names_at text places) ≡ length places
names-length text places = length-map (λ (p : ℕ). leading (drop p text)) places

module _ (text places word : List ℕ) (k : ℕ) where
  pub none_left : length places ≤ k → position word (drop k (names_at text places)) ≡ 0
  unfolding position
  none_left h =
      let g : length (names_at text places) ≤ k = omega (arith, names-length text places) in
      rw (drop_of_length-le (names_at text places) g)

  module _ (h : k < length places) where
    pub found_here : same word (leading (drop (get_or places k 0) text)) ≡ true → position word (drop k (names_at text places)) ≡ 0
    unfolding position
    found_here e = rw (names_from text places k h, e)

    pub found_later : same word (leading (drop (get_or places k 0) text)) ≡ false
        → position word (drop k (names_at text places)) ≡ suc (position word (drop (k + 1) (names_at text places)))
    unfolding position
    found_later e = rw (add-one, names_from text places k h, e)

-- the count of rows that have a name, by where the first one is
pub position-within : (word : List ℕ) (names : List (List ℕ)) → position word names ≤ length names
unfolding position
position-within word [] = omega arith
position-within word (n ∷ names) = by (same word n) (position-within word names)
  where
    by : (t : Bool) → position word names ≤ length names → cond t 0 (suc (position word names)) ≤ suc (length names)
    by true h = omega arith
    by false h = omega arith

count_none : (word : List ℕ) (names : List (List ℕ)) → length names ≤ position word names → count word names ≡ 0
unfolding position count
count_none word [] h = refl
count_none word (n ∷ names) h = by (same word n) h (count_none word names)
  where
    by : (t : Bool) → suc (length names) ≤ cond t 0 (suc (position word names)) → (length names ≤ position word names → count word names ≡ 0)
        → cond t (suc (count word names)) (count word names) ≡ 0
    by true h rec = absurd (omega arith)
    by false h rec = rec (omega arith)

count-first : (word : List ℕ) (names : List (List ℕ)) → position word names < length names
    → count word names ≡ suc (count word (drop (suc (position word names)) names))
unfolding position count
count-first word [] h = absurd (omega arith)
count-first word (n ∷ names) h = by (same word n) h (count-first word names)
  where
    by : (t : Bool) → cond t 0 (suc (position word names)) < suc (length names)
        → (position word names < length names → count word names ≡ suc (count word (drop (suc (position word names)) names)))
        → cond t (suc (count word names)) (count word names) ≡ suc (count word (drop (cond t 0 (suc (position word names))) names))
    by true h rec = refl
    by false h rec = rec (omega arith)

-- places of items and of conditions are one list of places
names-joined : (text us vs : List ℕ) → names_at text us ++ names_at text vs ≡ names_at text (us ++ vs)
names-joined text [] vs = refl
names-joined text (u ∷ us) vs = ap (λ (ns : List (List ℕ)). leading (drop u text) ∷ ns) (names-joined text us vs)

pub every_name_lem : (text : List ℕ) (items : ℕ) (places : List ℕ) → every_name (known_at text items places) ≡ names_at text places
every_name_lem text items places = names-joined text (take items places) (drop items places) ∙ ap (names_at text) (take-append-drop items places)

pub items-length : (text : List ℕ) (items : ℕ) (places : List ℕ) → items ≤ length places → length (known_at text items places).items ≡ items
items-length text items places h = names-length text (take items places) ∙ length-take-le items places h

pub conditions_length : (text : List ℕ) (items : ℕ) (places : List ℕ) → length (known_at text items places).conditions ≡ length places - items
conditions_length text items places = names-length text (drop items places) ∙ length-drop items places

module _ (text places word : List ℕ) (items : ℕ) (few : items ≤ length places) (first : ℕ) (e : first ≡ 0 + position word (names_at text places)) where
  abbrev names : List (List ℕ)
  names = names_at text places

  at : first ≡ position word names
  at = omega (arith, e)

  -- what has the name, by the one list
  by_names : called_by word (known_at text items places) ≡ cond (eqb (count word names) 1) (Some (row_by items (position word names))) None
  by_names = rw (every_name_lem text items places, items-length text items places few)

  pub unknown : first ≡ length places → None ≡ called_by word (known_at text items places)
  unknown h =
      let z : count word names ≡ 0 = count_none word names (omega (arith, at, names-length text places)) in
      sym (by_names ∙ rw z)

  module _ (some : first ≡ length places → ⊥) where
    pub first-within : first < length places
    first-within = omega (arith, at, position-within word names, names-length text places, some)

    module _ (second : ℕ) (f : second ≡ first + 1 + position word (drop (first + 1) names)) where
      others : count word names ≡ suc (count word (drop (first + 1) names))
      others =
          count-first word names (omega (arith, at, first-within, names-length text places))
          ∙ rw (← at, add-one)

      once : second ≡ length places → called_by word (known_at text items places) ≡ Some (row_by items first)
      once h =
          let rest : List (List ℕ) = drop (first + 1) names in
          let z : count word rest ≡ 0 =
          count_none word rest (omega (arith, length-drop (first + 1) names, names-length text places, first-within)) in
          let n : count word names ≡ 1 = omega (arith, others) in
          by_names ∙ rw (n, at)

      pub once_item : second ≡ length places → first < items → Some (Item first) ≡ called_by word (known_at text items places)
      once_item h l = sym (once h ∙ rw (lt-ltb first items l))

      pub once_condition : second ≡ length places → items ≤ first → Some (Condition (first - items)) ≡ called_by word (known_at text items places)
      once_condition h l = sym (once h ∙ rw (le-ltb first items l))

      pub twice : (second ≡ length places → ⊥) → None ≡ called_by word (known_at text items places)
      twice h =
          let rest : List (List ℕ) = drop (first + 1) names in
          let l : position word rest < length rest =
          omega (arith, position-within word rest, length-drop (first + 1) names, names-length text places, first-within, h) in
          let n : (count word names ≡ 1 → ⊥) = λ q. omega (arith, others, count-first word rest l) in
          sym (by_names ∙ rw (ne_eqb (count word names) 1 n))
