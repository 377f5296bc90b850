-- The words of a list that begin with a byte.
use Rattle.std.specs.Prelude.{cond, List, [], ◌∷◌, ℕ, eqb, get_or}

abbrev pub beginning : ℕ → List (List ℕ) → List (List ℕ)
beginning b [] = []
beginning b (v ∷ vs) = cond (eqb b (get_or v 0 0)) (v ∷ beginning b vs) (beginning b vs)
