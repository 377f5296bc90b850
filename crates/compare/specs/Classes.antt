-- Document 01, "Truth on a record": class tests.
use Rattle.std.specs.Prelude.{Bool, cond, ◌||◌, List, ℕ, eqb}
use Rattle.content.specs.Content.{all, is_digit}
use Rattle.content.specs.Letters.{in_alphabet}
use Rattle.content.specs.WrongByte.{valid_content}
use Rattle.content.specs.Relations.{word_numeric}
use Rattle.content.specs.Kinds.{kind_alphanumeric, kind_unsigned_group}

-- "NUMERIC on kind 2 means all digits; on 3 to 6, valid content." Document 02, b): "NUMERIC on [kind 7] means all digits"; f): on packed items
-- it means valid content, "as 001 has it". Word "10 NUMERIC".
-- Typing lets it test no other kind. Each other word tests for its alphabet.
unfoldable pub class_holds : ℕ → ℕ → ℕ → List ℕ → Bool
class_holds word kind digits bytes =
    cond (eqb word word_numeric) (cond (eqb kind kind_alphanumeric || eqb kind kind_unsigned_group) (all is_digit bytes) (valid_content kind digits bytes)) (all (in_alphabet word) bytes)
