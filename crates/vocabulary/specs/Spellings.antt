-- The bytes of the vocabulary, as code keeps them: one word after the other, and where each starts.
use Rattle.std.specs.Prelude.{List, [], ◌∷◌, ◌++◌, map, ℕ, ◌+◌, length}
use Rattle.spelling.specs.Keywords.{Keyword, vocabulary}

abbrev pub spelt : List (List ℕ)
spelt = map (λ (k : Keyword). k.bytes) vocabulary

abbrev pub joined : List (List ℕ) → List ℕ
joined [] = []
joined (w ∷ ws) = w ++ joined ws

abbrev pub starts_from : ℕ → List (List ℕ) → List ℕ
starts_from at [] = at ∷ []
starts_from at (w ∷ ws) = at ∷ starts_from (at + length w) ws

abbrev pub starts : List ℕ
starts = starts_from 0 spelt
