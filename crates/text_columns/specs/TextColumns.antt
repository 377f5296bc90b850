-- Which relations are judged by the words of texts.
use Rattle.std.specs.Prelude.{Bool, ◌&&◌, ◌||◌, List, ℕ, ◌≤◌, length}
use Rattle.tables.specs.Tokens.{is_item}
use Rattle.tables.specs.Operands.{Lent, row_of}
use Rattle.grammar.specs.declared.PlanRow.{PlanRow}
use Rattle.text_words.specs.Texts.{fits_text}

-- the bytes of a literal, filled to at most 8
pub record Literal (bytes : List ℕ) (filled : ℕ) : Type 0 where
  pub some : 1 ≤ length bytes
  pub most : length bytes ≤ filled
  pub short : filled ≤ 8

-- which relations are judged by the words of texts: both sides are texts or groups of up to 8 bytes, and one at least is an item
abbrev pub by_texts : Lent → PlanRow → Bool
by_texts lent r = (fits_text (row_of lent r.subject) && fits_text (row_of lent r.object)) && (is_item r.subject || is_item r.object)
