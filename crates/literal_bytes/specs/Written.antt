-- Bytes of literals as code writes them.
use Rattle.std.specs.Prelude.{cond, List, ◌++◌, ℕ, eqb, length, drop}
use Rattle.spelling.specs.Literals.{Literal, number_of, text_of}
use Rattle.content.specs.Kinds.{kind_alphanumeric}

-- the literal of a kind that a word writes
abbrev pub literal_by : ℕ → List ℕ → Literal
literal_by kind word = cond (eqb kind kind_alphanumeric) (text_of word) (number_of word)

-- an output with these bytes written over its start
abbrev pub written_over : List ℕ → List ℕ → List ℕ
written_over bytes before = bytes ++ drop (length bytes) before
