-- The converted condition as the code writes it, token by token.
use Rattle.std.specs.Prelude.{Bool, cond, not, List, [], ◌∷◌, ◌++◌, ℕ, eqb}
use Rattle.tables.specs.Tokens.{is_off}
use Rattle.grammar.specs.Converted.{on_token, not_if}
use Rattle.tables.specs.Words.{NOT}

-- the on token of an off token; any other token as it is
abbrev pub on_word : ℕ → ℕ
on_word x = cond (is_off x) (on_token x) x

-- "NOT before an off token becomes the on token alone, a bare off token becomes NOT and the on token": whether NOT is written before a
-- token, where one waits or none does
abbrev pub leads : Bool → ℕ → Bool
leads waits x = cond (is_off x) (not waits) waits

-- what is written for a token: a NOT waits for the token after it
abbrev pub step : Bool → ℕ → List ℕ
step waits x = not_if (leads waits x) ++ cond (eqb x NOT) [] (on_word x ∷ [])
