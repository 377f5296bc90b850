-- Document 01, "Truth on a record": switches.
use Rattle.std.specs.Prelude.{Bool, not, cond, ℕ, ◌-◌, ◌/◌, ◌%◌, ◌^◌, eqb}
use Rattle.tables.specs.Tokens.{index_of, is_on}

-- "The switch byte numbers its bits from the left: switch 0 is hex 80, switch 7 hex 01"
abbrev pub switch_on : ℕ → ℕ → Bool
switch_on switches v = eqb (switches / 2 ^ (7 - v) % 2) 1

-- "switch v is on; switch v is off": the second only by the rules before document 02, l)
unfoldable pub switch_holds : ℕ → ℕ → Bool
switch_holds switches token = cond (is_on token) (switch_on switches (index_of token)) (not (switch_on switches (index_of token)))
