-- Tokens before the first that fails a test.
use Rattle.std.specs.Prelude.{◌≡◌, Bool, false, cond, List, [], ◌∷◌, ℕ, suc, ◌+◌, ◌/◌, ◌%◌, ◌<◌, length, get_or}
use Rattle.tables.specs.Tokens.{token_there, kind_of, index_of}

-- how many tokens stand before the first that fails a test
unfoldable pub passing : (ℕ → Bool) → List ℕ → ℕ
passing test [] = 0
passing test (t ∷ ts) = cond (test t) (suc (passing test ts)) 0

-- `printable`, by the numbers of names and rows
abbrev pub may_print : ℕ → ℕ → ℕ → ℕ → Bool
may_print items literals names t = token_there false items literals names t

-- an item token and a condition-name have a place
pub record There (items : ℕ) (places : List ℕ) (t : ℕ) : Type 0 where
  pub item : kind_of t ≡ 0 → index_of t < items
  pub condition : kind_of t ≡ 5 → items + index_of t < length places

abbrev pub AllThere : ℕ → List ℕ → List ℕ → Type 0
AllThere items places tokens = (i : ℕ) → i < length tokens → There items places (get_or tokens i 0)
