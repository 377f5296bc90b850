-- Words as code walks them: one byte, and one word.
use mathlib.Core.Path.{◌≡◌, refl, sym, ap, ◌∙◌, subst}
use mathlib.Core.Bool.{Bool, true, false, cond, ◌&&◌, ◌||◌, true≢false}
use mathlib.Core.List.{List, [], ◌∷◌, ◌++◌}
use Prim.Native.Nat.{ℕ, zero, suc, ◌+◌, ◌-◌, ◌≤◌, ◌<◌}
use native.Mathlib.Omega.{arith}
use native.Mathlib.Numerals.{add-one}
use lib.ListN.{length, get_or, take, drop, length-drop, drop_of_length-le}
use lib.Seq.{drop-cons, drop-drop, take_all}
use borrow.Author.Tests.{lt-ltb, le-ltb}
use Rattle.description.specs.Grammar.{Word, is_blank, same}
use Rattle.spelling.specs.Words.{is_bracket, is_order, is_equals, is_quote, ends_word, runs, word_length, words_from}
use Rattle.spelling.specs.Meanings.{next}
use Rattle.std.specs.Prelude.{Option, Some, None}
use Rattle.splitter.specs.declared.Span.{Span}
use Rattle.splitter.specs.Splits.{stops, turned, words_at, between, from_next, NextFrom, Past}

-- at the end, at a byte that ends the word, and past any other byte
pub run-ended : (bytes : List ℕ) (quoted : Bool) (i : ℕ) → length bytes ≤ i → runs quoted (drop i bytes) ≡ 0
unfolding runs
run-ended bytes quoted i h = rw (drop_of_length-le bytes h)

stopped : (quoted : Bool) (b : ℕ) (rest : List ℕ) → stops quoted b ≡ true → runs quoted (b ∷ rest) ≡ 0
unfolding runs
stopped true b rest e = absurd (true≢false (sym e))
stopped false b rest e = rw e

went_on : (quoted : Bool) (b : ℕ) (rest : List ℕ) → stops quoted b ≡ false → runs quoted (b ∷ rest) ≡ suc (runs (turned quoted b) rest)
unfolding runs
went_on true b rest e = refl
went_on false b rest e = rw e

pub run-stopped : (bytes : List ℕ) (quoted : Bool) (i : ℕ) → i < length bytes → stops quoted (get_or bytes i 0) ≡ true → runs quoted (drop i bytes) ≡ 0
run-stopped bytes quoted i h e = rw (drop-cons bytes i 0 h) (stopped quoted (get_or bytes i 0) (drop (suc i) bytes) e)

pub run_on : (bytes : List ℕ) (quoted : Bool) (i : ℕ) → i < length bytes → stops quoted (get_or bytes i 0) ≡ false
    → runs quoted (drop i bytes) ≡ suc (runs (turned quoted (get_or bytes i 0)) (drop (i + 1) bytes))
run_on bytes quoted i h e = rw (add-one, drop-cons bytes i 0 h) (went_on quoted (get_or bytes i 0) (drop (suc i) bytes) e)

-- a word has a byte, and ends within the bytes
runs-within : (quoted : Bool) (bytes : List ℕ) → runs quoted bytes ≤ length bytes
unfolding runs
runs-within quoted [] = omega arith
runs-within true (b ∷ bytes) = omega (arith, runs-within (turned true b) bytes)
runs-within false (b ∷ bytes) = by (ends_word b) (runs-within (turned false b) bytes)
  where
    by : (t : Bool) → runs (is_quote b) bytes ≤ length bytes → cond t 0 (suc (runs (is_quote b) bytes)) ≤ suc (length bytes)
    by true h = omega arith
    by false h = omega arith

-- the second byte is there
second : (b : ℕ) (bytes : List ℕ) → is_equals (get_or (b ∷ bytes) 1 0) ≡ true → 2 ≤ length (b ∷ bytes)
second b [] e = absurd (true≢false (sym e))
second b (c ∷ bytes) e = omega arith

ends_none : (p q r s : Bool) → p ≡ false → q || s ≡ false → r ≡ false → p || q || r || s ≡ false
ends_none false false false s e f g = f
ends_none false false true s e f g = g
ends_none false true r s e f g = f
ends_none true q r s e f g = e

pub word-within : (b : ℕ) (bytes : List ℕ) → is_blank b ≡ false
    → (1 ≤ word_length (b ∷ bytes)) × (word_length (b ∷ bytes) ≤ length (b ∷ bytes))
unfolding word_length
word-within b bytes e = by (is_bracket b || is_equals b) refl (is_order b) refl (is_equals (get_or (b ∷ bytes) 1 0)) refl
  where
    by : (t : Bool) → is_bracket b || is_equals b ≡ t → (u : Bool) → is_order b ≡ u → (v : Bool) → is_equals (get_or (b ∷ bytes) 1 0) ≡ v
        → (1 ≤ cond t 1 (cond u (cond v 2 1) (runs false (b ∷ bytes))))
        × (cond t 1 (cond u (cond v 2 1) (runs false (b ∷ bytes))) ≤ suc (length bytes))
    by true f u g v h = (omega arith, omega arith)
    by false f true g true h = (omega arith, second b bytes h)
    by false f true g false h = (omega arith, omega arith)
    by false f false g v h =
        let on = went_on false b bytes (ends_none (is_blank b) (is_bracket b) (is_order b) (is_equals b) e f g) in
        (omega (arith, on), runs-within false (b ∷ bytes))

-- the bytes that belong to the word before are passed
passed : (k at : ℕ) (bytes : List ℕ) → words_from k at bytes ≡ words_from 0 (at + k) (drop k bytes)
unfolding words_from
passed zero at bytes = let e : at + 0 ≡ at = omega arith in rw e
passed (suc k) at [] = refl
passed (suc k) at (b ∷ bytes) = let e : at + suc k ≡ suc at + k = omega arith in rw e (passed k (suc at) bytes)

pub no_word : (text : List ℕ) (at : ℕ) → length text ≤ at → words_from 0 at (drop at text) ≡ []
unfolding words_from
no_word text at h = rw (drop_of_length-le text h)

pub blank_passed : (text : List ℕ) (at : ℕ) → at < length text → is_blank (get_or text at 0) ≡ true
    → words_from 0 at (drop at text) ≡ words_from 0 (at + 1) (drop (at + 1) text)
unfolding words_from
blank_passed text at h e = rw (add-one, drop-cons text at 0 h, e)

word_first : (at b : ℕ) (bytes : List ℕ) → is_blank b ≡ false
    → words_from 0 at (b ∷ bytes)
    ≡ record { place = at; text = take (word_length (b ∷ bytes)) (b ∷ bytes) } ∷ words_from (word_length (b ∷ bytes) - 1) (suc at) bytes
unfolding words_from
word_first at b bytes e = rw e

-- the same at a place of the text
pub word_fits : (text : List ℕ) (at : ℕ) → at < length text → is_blank (get_or text at 0) ≡ false
    → (1 ≤ word_length (drop at text)) × (at + word_length (drop at text) ≤ length text)
word_fits text at h e =
    let d = drop-cons text at 0 h in
    let w = word-within (get_or text at 0) (drop (suc at) text) e in
    rw d (omega (arith, w.0), omega (arith, w.1, length-drop (suc at) text))

pub word-found : (text : List ℕ) (at : ℕ) → at < length text → is_blank (get_or text at 0) ≡ false
    → words_from 0 at (drop at text) ≡ from_next text (Some (record { at = at; end = at + word_length (drop at text) }))
word-found text at h e =
    let n : ℕ = word_length (drop at text) in
    let w = word_fits text at h e in
    let d : drop at text ≡ get_or text at 0 ∷ drop (suc at) text = drop-cons text at 0 h in
    let long : at + n - at ≡ n = omega arith in
    let there : suc at + (n - 1) ≡ at + n = omega (arith, w.0) in
    let first = word_first at (get_or text at 0) (drop (suc at) text) e in
    rw long
    (rw (← d) at first
    ∙ ap (λ (ws : List Word). record { place = at; text = take n (drop at text) } ∷ ws)
    (passed (n - 1) (suc at) (drop (suc at) text) ∙ rw (drop-drop (n - 1) (suc at) text, there)))

-- the same of the part of the text that is lent
rest_whole : (text : List ℕ) (at : ℕ) → take (length text - at) (drop at text) ≡ drop at text
rest_whole text at = take_all (length text - at) (drop at text) (omega (arith, length-drop at text))

pub word_at_lem : (text : List ℕ) (at n : ℕ) → n ≡ word_length (take (length text - at) (drop at text)) → at < length text
    → is_blank (get_or text at 0) ≡ false
    → (at < at + n) × (at + n ≤ length text) × (words_from 0 at (drop at text) ≡ from_next text (Some (record { at = at; end = at + n })))
word_at_lem text at n e h b =
    let q : n ≡ word_length (drop at text) = e ∙ ap word_length (rest_whole text at) in
    let w = word_fits text at h b in rw q (omega (arith, w.0), w.1, word-found text at h b)

-- the length of a word by its first byte and the next
module _ (bytes : List ℕ) (b : ℕ) (first : b ≡ get_or bytes 0 0) where
  pub length_one : is_bracket b || is_equals b ≡ true → 1 ≡ word_length bytes
  unfolding word_length
  length_one e = rw (← first, e)

  module _ (other : is_bracket b || is_equals b ≡ false) where
    pub length_symbol : is_order b ≡ true → (c : ℕ) → c ≡ get_or bytes 1 0 → cond (is_equals c) 2 1 ≡ word_length bytes
    unfolding word_length
    length_symbol e c next = rw (← first, ← next, other, e)

    pub length_run : is_order b ≡ false → runs false bytes ≡ word_length bytes
    unfolding word_length
    length_run e = rw (← first, other, e)

-- a word that is the next one, one that is not, and none
module _ (text word : List ℕ) (from : ℕ) where
  pub past_word : (at end : ℕ) → from ≤ at → at < end → end ≤ length text → words_at text from ≡ from_next text (Some (record { at = at; end = end }))
      → same (between text at end) word ≡ true → Past word text from end
  unfolding next
  past_word at end f l h e s =
      record { within = h; passed = omega arith; told = rw (e, s) (lt-ltb from end (omega arith)); words = rw (e, s) }

  pub not_past : (at end : ℕ) → from ≤ length text → words_at text from ≡ from_next text (Some (record { at = at; end = end }))
      → same (between text at end) word ≡ false → Past word text from from
  unfolding next
  not_past at end h e s =
      record { within = h; passed = omega arith; told = rw (e, s) (le-ltb from from (omega arith)); words = rw (e, s) }

  pub none_past : from ≤ length text → words_at text from ≡ [] → Past word text from from
  unfolding next
  none_past h e = record { within = h; passed = omega arith; told = rw e (le-ltb from from (omega arith)); words = rw e }

-- what is known of the next word, once it is told apart
pub found-next : {text : List ℕ} {from : ℕ} (r : Option Span) (s : Span) → NextFrom text from r → r ≡ Some s
    → (from ≤ s.at) × (s.at < s.end) × (s.end ≤ length text) × (words_at text from ≡ from_next text (Some s))
found-next {text} {from} r s n e =
    let m : NextFrom text from (Some s) = subst (NextFrom text from) e n in
    (m.within.0, m.within.1, m.within.2, m.words)

pub found_end : {text : List ℕ} {from : ℕ} (r : Option Span) → NextFrom text from r → r ≡ None → words_at text from ≡ []
found_end {text} {from} r n e = let m : NextFrom text from None = subst (NextFrom text from) e n in m.words
