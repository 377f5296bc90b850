-- A text of up to 8 bytes as one word.
use Rattle.std.specs.Prelude.{Bool, ◌&&◌, ◌||◌, List, ℕ, eqb, leb}
use Rattle.content.specs.declared.Row.{Row}
use Rattle.tables.specs.Rows.{is_group}
use Rattle.compare.specs.Compared.{filled}
use Rattle.byte_words.specs.Words.{word_from}

-- A row that is read so: a group or kind 2 of at most 8 bytes. Of kind 1 a relation looks at the letters.
abbrev pub fits_text : Row → Bool
fits_text row = (is_group row || eqb row.kind 2) && leb row.size 8

-- "the shorter side filled on the right with hex 20": the word of a text filled to n bytes
abbrev pub text_word : ℕ → List ℕ → ℕ
text_word n bytes = word_from 0 (filled n bytes)
