-- What the printer needs of its tokens, and what it writes.
use Rattle.std.specs.Prelude.{◌≡◌, true, List, ℕ, ◌≤◌, ◌<◌, length, get_or}
use Rattle.content.specs.declared.Row.{Row}
use Rattle.tables.specs.Rows.{row_count, row_at, part}
use Rattle.tables.specs.Tables.{literal_sound}
use Rattle.spelling.specs.Literals.{Literal}
use Rattle.naming.specs.Named.{known_at}
use Rattle.spelling.specs.Printing.{printable}

-- the literal of a row
abbrev pub literal_of : Row → List ℕ → Literal
literal_of row content = record { kind = row.kind; scale = row.scale; bytes = part row content }

-- a token that refusals 4 and 6 leave
pub record Printable (description : List ℕ) (items : ℕ) (places rows content : List ℕ) (t : ℕ) : Type 0 where
  pub there : printable (known_at description items places) rows t ≡ true
  pub sound : (v : ℕ) → v < row_count rows → literal_sound content (row_at rows v) ≡ true
  pub listed : items ≤ length places

-- tokens that refusals 4 to 6 leave, and a description that 14 leaves
pub record AllPrintable (description : List ℕ) (items : ℕ) (places rows content tokens : List ℕ) : Type 0 where
  pub short : length description ≤ 4096
  pub few : length tokens ≤ 256
  pub each : (i : ℕ) → i < length tokens → Printable description items places rows content (get_or tokens i 0)
