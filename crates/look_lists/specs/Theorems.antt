-- Document 02, n): what the lists of `looked_at`, `looked_at_plan` and `named_items` mean. The proofs are in proofs/Suffices.antt.
use Rattle.std.specs.Prelude.{◌≡◌, ℕ, suc, ◌<◌, length, get_or}
use mathlib.Core.List.{List, Memᴰ}
use Rattle.tables.specs.Operands.{Lent}
use Rattle.grammar.specs.Grammar.{Tree}
use Rattle.grammar.specs.Parser.{accepted, read}
use Rattle.rules.specs.Calls.{judge_walk, run_walk}
use Rattle.rules.specs.Footprint.{footprint, Agree}
use Rattle.look_lists.specs.Looked.{rising, looked_at, looked_at_plan, named_items}

-- "two records of equal length which agree on the items named in the simple conditions judged on the first .. give the same answer,
-- count, place and byte, with tables, literals and switch byte the same": of the very lists that the calls write. Whatever else is changed in
-- the record, judge and run come to the same, simple condition for simple condition. And a record that agrees on all that a condition
-- names needs no judging to know.
pub record Suffices (lent : Lent) (content other : List ℕ) (switches : ℕ) : Type 0 where
  pub judge : (tokens : List ℕ) → Agree lent (looked_at lent tokens content switches) content other →
      judge_walk lent tokens content switches ≡ judge_walk lent tokens other switches
  pub run : (plan : List ℕ) → Agree lent (looked_at_plan lent plan content switches) content other →
      run_walk lent plan content switches ≡ run_walk lent plan other switches
  pub named : (tokens : List ℕ) (t : Tree) → read tokens ≡ accepted t → Agree lent (named_items lent t) content other →
      judge_walk lent tokens content switches ≡ judge_walk lent tokens other switches

abbrev pub LookedAtSuffices : Type 0
LookedAtSuffices = (lent : Lent) (content other : List ℕ) (switches : ℕ) → length content ≡ length other → Suffices lent content other switches

-- a list has these members, and no others
pub record SameMembers (list rows : List ℕ) : Type 0 where
  pub all : (v : ℕ) → Memᴰ v rows → Memᴰ v list
  pub only : (v : ℕ) → Memᴰ v list → Memᴰ v rows

-- the lists leave nothing out: each is the footprint, no row of which lies beyond the item table
pub record ListsAll (lent : Lent) (content : List ℕ) (switches : ℕ) : Type 0 where
  pub judge : (tokens : List ℕ) → SameMembers (looked_at lent tokens content switches) (footprint lent (judge_walk lent tokens content switches).visits)
  pub run : (plan : List ℕ) → SameMembers (looked_at_plan lent plan content switches) (footprint lent (run_walk lent plan content switches).visits)

-- "in rising order, each once": of any rows
abbrev pub Rises : List ℕ → Type 0
Rises list = (i : ℕ) → suc i < length list → get_or list i 0 < get_or list (suc i) 0

abbrev pub ListsRise : Type 0
ListsRise = (items rows : List ℕ) → Rises (rising items rows)
