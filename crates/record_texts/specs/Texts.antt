-- The texts and groups of up to 8 bytes in the records of a block.
use Rattle.std.specs.Prelude.{List, ℕ, ◌+◌, ◌-◌, ◌*◌, ◌≤◌, take, drop}
use Rattle.content.specs.declared.Row.{Row}
use Rattle.text_words.specs.Texts.{text_word}
use Rattle.block_truths.specs.Columns.{Field}

-- a text of at least one byte, which ends in the record and is filled to at most 8 bytes
pub record Text (size end width filled : ℕ) : Type 0 where
  pub field : Field size end width
  pub most : width ≤ filled
  pub short : filled ≤ 8

-- an item of this row is one
abbrev pub TextOf : ℕ → Row → ℕ → Type 0
TextOf size row filled = Text size (row.offset + row.size) row.size filled

-- "the shorter side filled on the right with hex 20": its word in a record that starts at this byte
abbrev pub text_in : List ℕ → ℕ → ℕ → ℕ → ℕ → ℕ
text_in records base end width filled = text_word filled (take width (drop (base + end - width) records))

-- and in record k
abbrev pub text_at : List ℕ → ℕ → ℕ → ℕ → ℕ → ℕ → ℕ → ℕ
text_at records from size end width filled k = text_in records (from + k * size) end width filled

-- the word of an item of this row in record k
abbrev pub text_of : List ℕ → ℕ → ℕ → Row → ℕ → ℕ → ℕ
text_of records from size row filled k = text_at records from size (row.offset + row.size) row.size filled k
