-- Kind 7 is a group: the definitions ask `is_group`, and compute to the same for kinds 0 and 7.
use mathlib.Core.Path.{◌≡◌, refl, sym, ap, ◌∙◌}
use mathlib.Core.Bool.{Bool, true, false, cond}
use mathlib.Core.List.{List, [], ◌∷◌}
use Prim.Native.Nat.{ℕ, suc}
use lib.ListN.{length}
use Rattle.content.specs.WrongByte.{Wrong, Nowhere, right_at, first_from}
use Rattle.tables.specs.declared.Outcome.{Outcome}
use Rattle.content.specs.declared.Row.{Row}
use Rattle.tables.specs.Rows.{is_group}
use Rattle.compare.specs.Classes.{class_holds}
use Rattle.values.specs.Comparison.{Side, comparison, moved, fault}
use Rattle.values.specs.Truth.{or_stop}
use Rattle.rules.specs.Groups.{side_as, LikeAGroup}

-- any byte may stand in a group, so that it has no fault beside any row
no_wrong : (digits n at : ℕ) (bytes : List ℕ) → first_from (right_at 7 digits n) at bytes ≡ Nowhere
unfolding first_from
no_wrong digits n at [] = refl
no_wrong digits n at (b ∷ bytes) = no_wrong digits n (suc at) bytes

no_fault : (s : Side) (other : Row) → fault (side_as 7 s) other ≡ Nowhere
no_fault s other =
    ap (λ w. cond (is_group other) Nowhere (cond s.item (moved s.row.offset w) Nowhere)) (no_wrong s.row.digits (length s.bytes) 0 s.bytes)
    ∙ go (is_group other) s.item
  where
    go : (unseen item : Bool) → cond unseen Nowhere (cond item Nowhere Nowhere) ≡ Nowhere
    go true item = refl
    go false true = refl
    go false false = refl

no_stop : (s : Side) (other : Row) (rest : Outcome) → or_stop 7 (fault (side_as 7 s) other) rest ≡ or_stop 0 (fault (side_as 0 s) other) rest
no_stop s other rest = ap (λ w. or_stop 7 w rest) (no_fault s other) ∙ sym (ap (λ w. or_stop 0 w rest) (no_fault s other))

pub like_a_group : LikeAGroup
unfolding comparison class_holds
like_a_group =
    record {
      sized = λ r. refl;
      beside_typed = λ r other. refl;
      other_typed = λ r other. refl;
      subject = λ word negated s o. no_stop s o.row _;
      object = λ word negated s o. no_stop o s.row _;
      unchecked = λ s r. refl;
      faultless = no_fault;
      letters_typed = λ r. refl;
      letters = λ word negated s e. rw e;
      numeric_typed = λ r. refl;
      numeric_barred = λ r. refl;
      numeric = λ negated s. refl;
    }
