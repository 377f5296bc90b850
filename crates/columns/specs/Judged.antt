-- Which rows are judged by words.
use Rattle.std.specs.Prelude.{Bool, true, false, cond, ◌&&◌, [], ℕ, eqb, ltb}
use Rattle.tables.specs.Tokens.{is_item}
use Rattle.tables.specs.Operands.{Lent, row_of, operand_bytes}
use Rattle.typing.specs.declared.Test.{Test}
use Rattle.typing.specs.declared.Test.TheVariants.{Alone, Relation, Class, Sign, Unknown}
use Rattle.typing.specs.Tests.{test_of}
use Rattle.grammar.specs.declared.PlanRow.{PlanRow}
use Rattle.byte_words.specs.Words.{digit_word, digits_in}
use Rattle.digit_words.specs.Words.{fits_word}
use Rattle.text_columns.specs.TextColumns.{by_texts}

-- a literal is of digits; its bytes are the same on any record
abbrev pub digits_of : Lent → ℕ → Bool
digits_of lent token = digits_in 8 (digit_word (operand_bytes lent [] token))

-- a relation of two items that are read as words at one scale, or of such an item and a literal of digits; else one of short texts
abbrev pub relation_by_words : Lent → PlanRow → Bool
relation_by_words lent r =
    cond ((fits_word (row_of lent r.subject) && fits_word (row_of lent r.object)) && eqb (row_of lent r.subject).scale (row_of lent r.object).scale)
    (cond (is_item r.subject) (cond (is_item r.object) true (digits_of lent r.object)) (cond (is_item r.object) (digits_of lent r.subject) false))
    (by_texts lent r)

-- NUMERIC of an item that is read as a word
abbrev pub numeric_by_word : Lent → PlanRow → Bool
numeric_by_word lent r = fits_word (row_of lent r.subject) && is_item r.subject

abbrev pub test_by_words : Lent → PlanRow → Test → Bool
test_by_words lent r (Relation word negated) = relation_by_words lent r
test_by_words lent r (Class word negated) = cond (eqb word 10) (numeric_by_word lent r) false
test_by_words lent r Alone = false
test_by_words lent r (Sign word negated) = false
test_by_words lent r Unknown = false

-- not in a block that starts in the file's first bytes
abbrev pub by_words : Lent → ℕ → PlanRow → Bool
by_words lent from r = cond (ltb from 8) false (test_by_words lent r (test_of r.relation))
