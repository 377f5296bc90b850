-- The groups that are open, as the code has them: a stack of the level numbers of their members, outermost first, how many of
-- these are open, and one more than the level of a group that has no member yet, or 0.
use Rattle.std.specs.Prelude.{Bool, cond, ◌&&◌, ◌||◌, List, [], ◌∷◌, Option, Some, None, ℕ, zero, suc, ◌+◌, ◌-◌, eqb, leb, ltb, get_or}
use Rattle.std.proofs.Math.Option as maybe
use Rattle.std.proofs.Math.Option.{none, some}
use Rattle.description.specs.Reader.{Groups, awaiting, inside}

-- the level numbers of the members of so many groups, innermost first
unfoldable pub opened : List ℕ → ℕ → List ℕ
opened stack zero = []
opened stack (suc d) = get_or stack d 0 ∷ opened stack d

abbrev pub groups_of : List ℕ → ℕ → ℕ → Groups
groups_of stack depth waiting = cond (eqb waiting 0) (inside (opened stack depth)) (awaiting (waiting - 1) (opened stack depth))

-- how many groups stay open where a member of this level comes, or 0
unfoldable pub back_depth : List ℕ → ℕ → ℕ → ℕ
back_depth stack zero l = 0
back_depth stack (suc d) l = cond (eqb (get_or stack d 0) l) (suc d) (back_depth stack d l)

abbrev pub backed : ℕ → Option ℕ
backed d = cond (eqb d 0) None (Some d)

abbrev pub entered_by : List ℕ → ℕ → ℕ → ℕ → Option ℕ
entered_by stack depth waiting l =
    cond (eqb waiting 0) (cond (eqb l 1 || eqb l 77) (Some 0) (backed (back_depth stack depth l)))
    (cond (ltb (waiting - 1) l && leb l 49) (Some (depth + 1)) None)

-- the level numbers of the members, where an entry of level l is in the innermost of d groups
abbrev pub topped : List ℕ → ℕ → ℕ → List ℕ
topped stack l zero = []
topped stack l (suc d) = l ∷ opened stack d

abbrev pub topped_by : List ℕ → ℕ → Option ℕ → maybe.Option (List ℕ)
topped_by stack l (Some d) = some (topped stack l d)
topped_by stack l None = none
