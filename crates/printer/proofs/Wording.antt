-- The word of a token, by its kind.
use mathlib.Core.Path.{◌≡◌, refl, sym, ap, ◌∙◌}
use mathlib.Core.Bool.{Bool, true, false, cond, ◌&&◌, ◌||◌, and-false}
use mathlib.Core.List.{List, [], ◌∷◌, map}
use Prim.Native.Nat.{ℕ, ◌+◌, ◌*◌, ◌/◌, ◌%◌, ◌≤◌, ◌<◌}
use native.Mathlib.Omega.{arith}
use lib.Dec.{eqb, leb, ltb}
use lib.ListN.{length, get_or, take, drop, length-drop}
use lib.Seq.{length-take-le, get_or-take, get_or-drop}
use borrow.Author.Tests.{leb-true, ltb-true, ne_eqb}
use Rattle.content.specs.declared.Row.{Row}
use Rattle.tables.specs.Rows.{row_count, row_at}
use Rattle.tables.specs.Tokens.{is_item, is_literal, is_on, is_off, is_word, is_name, name_there}
use Rattle.tables.specs.Tables.{literal_sound}
use Rattle.tables.proofs.Tests.{both}
use Rattle.description.specs.Grammar.{same}
use Rattle.spelling.specs.Literals.{written}
use Rattle.spelling.specs.Keywords.{spellings, UPSI}
use Rattle.spelling.specs.Names.{leading, Known}
use Rattle.naming.specs.Named.{known_at}
use Rattle.spelling.specs.Printing.{printable, word_of, literal_at}
use Rattle.spelling.proofs.Cutting.{same_true}
use Rattle.naming.proofs.Finding.{items-length, conditions_length, name_at_lem}
use Rattle.vocabulary.specs.Spellings.{spelt}
use Rattle.vocabulary.proofs.Cells.{all_below, below}
use Rattle.printer.specs.Prints.{literal_of, Printable}

-- words and switches in the table
abbrev words_right : ℕ → Bool
words_right k = same (get_or spelt k []) (get_or spellings k [])

abbrev switches_right : ℕ → Bool
switches_right k = same (get_or spelt (17 + k) []) (UPSI k)

all_words : all_below 17 words_right ≡ true
unfolding all_below same
all_words = refl

all_switches : all_below 8 switches_right ≡ true
unfolding all_below same
all_switches = refl

-- which of four is true
only_first : (a b c d : Bool) → b ≡ false → c ≡ false → d ≡ false → a || b || c || d ≡ true → a ≡ true
only_first true b c d p q r e = refl
only_first false b c d p q r e = rw (p, q, r) at e

only_second : (a b c d : Bool) → a ≡ false → c ≡ false → d ≡ false → a || b || c || d ≡ true → b ≡ true
only_second a true c d p q r e = refl
only_second a false c d p q r e = rw (p, q, r) at e

only_third : (a b c d : Bool) → a ≡ false → b ≡ false → d ≡ false → a || b || c || d ≡ true → c ≡ true
only_third a b true d p q r e = refl
only_third a b false d p q r e = rw (p, q, r) at e

only_fourth : (a b c d : Bool) → a ≡ false → b ≡ false → c ≡ false → a || b || c || d ≡ true → d ≡ true
only_fourth a b c true p q r e = refl
only_fourth a b c false p q r e = rw (p, q, r) at e

last : (a b : Bool) → a ≡ false → a || b ≡ true → b ≡ true
last true b p e = let z : ◌≡◌ {A = ℕ} 0 1 = cc in absurd (omega arith)
last false b p e = e

but_last : (a b : Bool) → b ≡ false → a || b ≡ true → a ≡ true
but_last true b p e = refl
but_last false b p e = rw p at e

module _ (description : List ℕ) (items : ℕ) (places rows content : List ℕ) (t : ℕ) (P : Printable description items places rows content t) where
  abbrev known : Known
  known = known_at description items places

  abbrev v : ℕ
  v = t % 65536

  abbrev a : Bool
  a = is_item t && ltb v (length known.items)

  abbrev b : Bool
  b = is_literal t && ltb v (row_count rows)

  abbrev c : Bool
  c = (is_on t || is_off t && false) && leb v 7

  abbrev d : Bool
  d = is_word t && leb v 16

  abbrev n : Bool
  n = name_there (length known.conditions) t

  may : (a || b || c || d) || n ≡ true
  may = P.there

  -- no condition-name
  there : is_name t ≡ false → a || b || c || d ≡ true
  there e = but_last (a || b || c || d) n (rw e) may

  -- an item
  module _ (k : t / 65536 ≡ 0) where
    pub item_row_lem : v < items
    item_row_lem =
        let e = only_first a b c d (rw k) (rw k) (rw k) (there (rw k)) in
        omega (arith, ltb-true v (length known.items) (both (is_item t) (ltb v (length known.items)) e).1, items-length description items places P.listed)

    pub item_there : v < length places
    item_there = omega (arith, item_row_lem, P.listed)

    pub item_word_lem : word_of known rows content t ≡ leading (drop (get_or places v 0) description)
    item_word_lem =
        let h : v < length (take items places) = omega (arith, item_row_lem, length-take-le items places P.listed) in
        rw k (name_at_lem description (take items places) v h ∙ ap (λ (p : ℕ). leading (drop p description)) (get_or-take items places v 0 item_row_lem))

  -- a condition-name
  module _ (k : t / 65536 ≡ 5) where
    pub condition_there : items + v < length places
    condition_there =
        let e = last (a || b || c || d) n (rw k) may in
        omega (arith, ltb-true v (length known.conditions) (both (is_name t) (ltb v (length known.conditions)) e).1, conditions_length description items places)

    pub condition-word : word_of known rows content t ≡ leading (drop (get_or places (items + v) 0) description)
    condition-word =
        let h : v < length (drop items places) = omega (arith, condition_there, length-drop items places) in
        rw k (name_at_lem description (drop items places) v h ∙ ap (λ (p : ℕ). leading (drop p description)) (get_or-drop items places v 0))

  -- a literal
  module _ (k : t / 65536 ≡ 1) where
    pub literal_there : v * 5 + 4 < length rows
    literal_there =
        let e = only_second a b c d (rw k) (rw k) (rw k) (there (rw k)) in
        omega (arith, ltb-true v (row_count rows) (both (is_literal t) (ltb v (row_count rows)) e).1)

    pub literal_sound_lem : literal_sound content (row_at rows v) ≡ true
    literal_sound_lem = P.sound v (omega (arith, literal_there))

    pub literal-word : word_of known rows content t ≡ written (literal_of (row_at rows v) content)
    literal-word = rw k

  -- a switch
  module _ (k : t / 65536 ≡ 2) where
    pub switch_there : v ≤ 7
    switch_there =
        let e = only_third a b c d (rw k) (rw k) (rw k) (there (rw k)) in
        leb-true v 7 (both (is_on t || is_off t && false) (leb v 7) e).1

    pub switch-word : word_of known rows content t ≡ get_or spelt (17 + v) []
    switch-word = rw k (sym (same_true (get_or spelt (17 + v) []) (UPSI v) (below 8 switches_right all_switches v (omega (arith, switch_there)))))

  -- a word
  module _ (p : t / 65536 ≡ 0 → ⊥) (q : t / 65536 ≡ 1 → ⊥) (r : t / 65536 ≡ 2 → ⊥) (s : t / 65536 ≡ 5 → ⊥) where
    pub word_there : v ≤ 16
    word_there =
        let i : is_item t ≡ false = ne_eqb (t / 65536) 0 p in
        let l : is_literal t ≡ false = ne_eqb (t / 65536) 1 q in
        let o : is_on t ≡ false = ne_eqb (t / 65536) 2 r in
        let e = only_fourth a b c d (rw i) (rw l) (rw (o, and-false (is_off t))) (there (ne_eqb (t / 65536) 5 s)) in
        leb-true v 16 (both (is_word t) (leb v 16) e).1

    pub word-word : word_of known rows content t ≡ get_or spelt v []
    word-word =
        let i : is_item t ≡ false = ne_eqb (t / 65536) 0 p in
        let l : is_literal t ≡ false = ne_eqb (t / 65536) 1 q in
        let o : is_on t ≡ false = ne_eqb (t / 65536) 2 r in
        let x : is_name t ≡ false = ne_eqb (t / 65536) 5 s in
        rw (i, l, o, x) (sym (same_true (get_or spelt v []) (get_or spellings v []) (below 17 words_right all_words v (omega (arith, word_there)))))
