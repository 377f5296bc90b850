-- What 7 to 9 leave: a refusal, or the rows of the condition's tree in a buffer.
use Rattle.std.specs.Prelude.{◌≡◌, Bool, List, [], ◌++◌, ℕ, suc, ◌*◌, length, drop, Err, Ok, Result}
use Rattle.tables.specs.declared.Refusal.{Refusal}
use Rattle.tables.specs.declared.Refusal.TheVariants.{Grammar}
use Rattle.tables.specs.Operands.{Lent, lend_names, under}
use Rattle.tables.specs.Tables.{token_check}
use Rattle.tables.specs.Refusals.{place, first_of, Check}
use Rattle.grammar.specs.Grammar.{Tree}
use Rattle.grammar.specs.Parser.{Reading, accepted, read}
use Rattle.grammar.specs.Judging.{simple_count}
use Rattle.grammar.specs.Plan.{planned}
use Rattle.rules.specs.Calls.{grammar_lines}

-- every token exists, whatever the names are, by the rules with or without the switch-off words: 7 to 9 do not ask for them
pub record There (items literals tokens : List ℕ) : Type 0 where
  pub off : Bool
  pub names : List ℕ
  pub exist : token_check (under off (lend_names items literals [] names)) tokens ≡ Ok tt

-- 7, of what was parsed
abbrev pub parse_check : Result ℕ ℕ → Check
parse_check (Ok n) = Ok tt
parse_check (Err at) = Err (Grammar at)

-- how many tokens 7 is looked for in: up to the "(" at which 8 refuses
abbrev pub parsed_tokens : List ℕ → Check → ℕ
parsed_tokens tokens (Ok _) = length tokens
parsed_tokens tokens (Err eight) = suc (place eight)

-- the buffer is so many rows of a tree, and then as it was
pub record RowsStand (reading : Reading) (count : ℕ) (before after : List ℕ) : Type 0 where
  pub tree : Tree
  pub read_as : reading ≡ accepted tree
  pub counted : count ≡ simple_count tree
  pub rows : after ≡ planned tree ++ drop (count * 5) before

-- What is prepared: the refusal of the lines, or the rows. Of a condition that is refused the first 640 numbers of the buffer,
-- 128 rows, are free: there may stand rows of what was parsed.
abbrev pub Readies : Check → Reading → Result ℕ Refusal → List ℕ → List ℕ → Type 0
Readies check reading (Err refusal) before after = (check ≡ Err refusal) × (drop 640 after ≡ drop 640 before)
Readies check reading (Ok count) before after = (check ≡ Ok tt) × RowsStand reading count before after

-- 7 to 9
pub record Resolves (lent : Lent) (tokens : List ℕ) (r : Result ℕ Refusal) (before after : List ℕ) : Type 0 where
  pub readied : Readies (first_of (grammar_lines lent tokens)) (read tokens) r before after
