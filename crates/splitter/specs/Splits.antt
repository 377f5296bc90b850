-- The words of a text as code walks them, one byte and one word at a time.
use Rattle.std.specs.Prelude.{Bool, true, false, not, ◌≡◌, Option, Some, None, List, [], ◌∷◌, ℕ, ◌-◌, ◌≤◌, ◌<◌, ltb, length, take, drop}
use Rattle.description.specs.Grammar.{Word}
use Rattle.spelling.specs.Words.{is_quote, ends_word, words_from}
use Rattle.spelling.specs.Meanings.{next, taken}
use Rattle.splitter.specs.declared.Span.{Span}

-- whether a byte ends a word, inside quotes or outside; and whether what comes after it is inside
abbrev pub stops : Bool → ℕ → Bool
stops true b = false
stops false b = ends_word b

abbrev pub turned : Bool → ℕ → Bool
turned true b = not (is_quote b)
turned false b = is_quote b

-- the words of a text from a place on
abbrev pub words_at : List ℕ → ℕ → List Word
words_at text at = words_from 0 at (drop at text)

-- the bytes from a place to another
abbrev pub between : List ℕ → ℕ → ℕ → List ℕ
between text at end = take (end - at) (drop at text)

-- the next word, and the words after it
abbrev pub from_next : List ℕ → Option Span → List Word
from_next text (Some s) = record { place = s.at; text = between text s.at s.end } ∷ words_at text s.end
from_next text None = []

-- its place lies within the text, not before `from`
abbrev pub in_text : List ℕ → ℕ → Option Span → Type 0
in_text text from (Some s) = (from ≤ s.at) × (s.at < s.end) × (s.end ≤ length text)
in_text text from None = Unit {0}

-- the words from `from` on are the next and those after it
pub record NextFrom (text : List ℕ) (from : ℕ) (found : Option Span) : Type 0 where
  pub within : in_text text from found
  pub words : words_at text from ≡ from_next text found

-- `past` is after the word, if that is the next one; else it is `from`
pub record Past (word text : List ℕ) (from past : ℕ) : Type 0 where
  pub within : past ≤ length text
  pub passed : from ≤ past
  pub told : ltb from past ≡ next word (words_at text from)
  pub words : words_at text past ≡ drop (taken word (words_at text from)) (words_at text from)
