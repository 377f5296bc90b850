-- Words that are the same.
use mathlib.Core.Path.{◌≡◌, refl, ap}
use mathlib.Core.Bool.{Bool, ◌&&◌}
use mathlib.Core.List.{List, [], ◌∷◌}
use Prim.Native.Nat.{ℕ}
use lib.Dec.{eqb}
use Rattle.std.specs.Str.{bytes_eq}
use Rattle.description.specs.Grammar.{same}

pub same_is : (u v : List ℕ) → bytes_eq u v ≡ same u v
unfolding same
same_is [] [] = refl
same_is [] (b ∷ v) = refl
same_is (a ∷ u) [] = refl
same_is (a ∷ u) (b ∷ v) = ap (λ (t : Bool). eqb a b && t) (same_is u v)
