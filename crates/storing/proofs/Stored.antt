-- What is stored of the names, seen otherwise.
use mathlib.Core.Path.{◌≡◌, refl, ◌∙◌}
use mathlib.Core.Bool.{Bool, true, false, cond}
use mathlib.Core.List.{List}
use Prim.Native.Nat.{ℕ, ◌*◌}
use native.Mathlib.Omega.{arith}
use lib.ListN.{length, take}
use lib.Seq.{take_all}
use Rattle.description.specs.Grammar.{Condition}
use Rattle.storing.specs.Naming.{names, passed_by, Stores}
use Rattle.storing.specs.declared.Names.{Names}

pub all_stored : {text : List ℕ} {cs : List Condition} {s : Names} {rows places notes : List ℕ} → s.count ≡ length cs →
    Stores text (take s.count cs) s rows places notes → Stores text cs s rows places notes
all_stored {cs = cs} {s = s} e S = rw (take_all s.count cs (omega (arith, e))) at S

-- other notes, alike as far as literals are counted
pub stored_alike : {text : List ℕ} {cs : List Condition} {s : Names} {rows places notes notes' : List ℕ} → take (s.literals * 7) notes' ≡ take (s.literals * 7) notes →
    Stores text cs s rows places notes → Stores text cs s rows places notes'
stored_alike e S =
    record {
      spans = S.spans;
      noted =
          record {
            laid = e ∙ S.noted.laid;
            standing = S.noted.standing;
            counted = S.noted.counted;
            sized = S.noted.sized;
            few = S.noted.few;
            small = S.noted.small;
          };
      valued = S.valued;
      counted = S.counted;
      few = S.few;
      named = S.named;
      placed = S.placed;
    }

-- a limit is passed
module _ (s : Names) (p : ℕ) where
  pub passed_over : (passed_by s p).over ≡ true
  passed_over = by s.over refl
    where
      by : (a : Bool) → s.over ≡ a → (cond a s (names true p s.count s.literals s.bytes)).over ≡ true
      by true e = e
      by false e = refl

  pub passed_count : (passed_by s p).count ≡ s.count
  passed_count = by s.over
    where
      by : (a : Bool) → (cond a s (names true p s.count s.literals s.bytes)).count ≡ s.count
      by true = refl
      by false = refl

  pub stored_passed : {text : List ℕ} {cs : List Condition} {rows places notes : List ℕ} → Stores text cs s rows places notes → Stores text cs (passed_by s p) rows places notes
  stored_passed {text} {cs} {rows} {places} {notes} S = by s.over
    where
      by : (a : Bool) → Stores text cs (cond a s (names true p s.count s.literals s.bytes)) rows places notes
      by true = S
      by false =
          record { spans = S.spans; noted = S.noted; valued = S.valued; counted = S.counted; few = S.few; named = S.named; placed = S.placed }
