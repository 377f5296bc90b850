-- Runs of bytes that a name may have.
use Rattle.std.specs.Prelude.{cond, List, [], ◌∷◌, ℕ, zero, suc}
use Rattle.description.specs.Grammar.{is_name_byte}

-- how many such bytes stand first, so many at most
unfoldable pub name_run : ℕ → List ℕ → ℕ
name_run zero bs = 0
name_run (suc n) [] = 0
name_run (suc n) (b ∷ bs) = cond (is_name_byte b) (suc (name_run n bs)) 0
