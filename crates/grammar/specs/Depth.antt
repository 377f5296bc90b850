-- Document 01, refusal 8: "17 brackets open at once", "the first "(" that makes 17 open".
use Rattle.std.specs.Prelude.{cond, List, [], ◌∷◌, ℕ, suc, pred, eqb, Err, Ok}
use Rattle.tables.specs.Words.{OPEN, CLOSE}
use Rattle.tables.specs.declared.Refusal.TheVariants.{Depth}
use Rattle.tables.specs.Refusals.{Check}

-- The tokens from place `at` on, with `opened` brackets open. A ")" too many opens nothing.
unfoldable pub depth_from : ℕ → ℕ → List ℕ → Check
depth_from at opened [] = Ok tt
depth_from at opened (x ∷ ts) =
    cond (eqb x OPEN)
    (cond (eqb opened 16) (Err (Depth at)) (depth_from (suc at) (suc opened) ts))
    (depth_from (suc at) (cond (eqb x CLOSE) (pred opened) opened) ts)

abbrev pub depth_check : List ℕ → Check
depth_check tokens = depth_from 0 0 tokens
