-- Document 02, h): what a condition-name means. It is judged as the relations that it stands for would be.
use Rattle.std.specs.Prelude.{◌≡◌, ℕ, zero, suc, ◌+◌, ◌-◌, ◌<◌, List, Ok}
use Rattle.tables.specs.Rows.{name_count}
use Rattle.tables.specs.Operands.{Lent}
use Rattle.tables.specs.Names.{name_item, name_pairs, name_low, name_high}
use Rattle.tables.specs.Words.{literal_token, name_token}
use Rattle.tables.specs.Refusals.{first_of}
use Rattle.values.specs.Names.{lent_lines}
use Rattle.values.specs.Truth.{outcome}
use Rattle.grammar.specs.Grammar.{Tree, simple, both, either}
use Rattle.grammar.specs.Judging.{judged}
use Rattle.rules.specs.Demands.{WellTyped}

-- item >= low AND item <= high, for one pair
abbrev pub pair_tree : ℕ → ℕ → ℕ → Tree
pair_tree item low high = both (simple item 8 low) (simple item 9 high)

-- the pairs 0 to k, joined by OR
unfoldable pub pairs_tree : ℕ → (ℕ → ℕ) → (ℕ → ℕ) → ℕ → Tree
pairs_tree item low high zero = pair_tree item (low 0) (high 0)
pairs_tree item low high (suc k) = either (pairs_tree item low high k) (pair_tree item (low (suc k)) (high (suc k)))

-- the relations of name v: the token of an item row is its number
abbrev pub name_tree : Lent → ℕ → Tree
name_tree lent v = pairs_tree (name_item lent.names v) (λ k. literal_token (name_low lent.names v k)) (λ k. literal_token (name_high lent.names v k)) (name_pairs lent.names v - 1)

-- The relations are well typed by 01's rules, and the name is true, false or stopped, with the same refusal, place and byte, as they are.
pub record Means (lent : Lent) (v : ℕ) : Type 0 where
  pub typed : WellTyped lent (name_tree lent v)
  pub judges : (content : List ℕ) (switches n : ℕ) →
      judged (outcome lent content switches) n (simple (name_token v) 0 0) ≡ judged (outcome lent content switches) n (name_tree lent v)

-- of every name, in tables that none of 1 to 4 and 18 refuses
abbrev pub NamesMean : Type 0
NamesMean = (lent : Lent) → first_of (lent_lines lent) ≡ Ok tt → (v : ℕ) → v < name_count lent.names → Means lent v
