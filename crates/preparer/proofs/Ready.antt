-- What is prepared: a refusal of every call, or the rows of a condition that passes.
use mathlib.Core.Path.{◌≡◌, ap, ◌∙◌}
use mathlib.Core.List.{List}
use Prim.Native.Nat.{ℕ, ◌*◌, ◌≤◌}
use lib.ListN.{length, take}
use Rattle.tables.specs.declared.Refusal.{Refusal}
use Rattle.tables.specs.Operands.{Lent}
use Rattle.tables.specs.Refusals.{first_of}
use Rattle.grammar.specs.Grammar.{Tree}
use Rattle.grammar.specs.Parser.{read}
use Rattle.grammar.specs.Judging.{simple_count}
use Rattle.grammar.specs.Plan.{planned}
use Rattle.grammar.proofs.Segment.{planned-length}
use Rattle.rules.specs.Calls.{condition_lines}
use Rattle.rules.specs.Demands.{Refuses}
use Rattle.rules.proofs.Passing.{Passes, passed, read_as}
use Rattle.rules.proofs.Answers.{few_leaves, refuses}
use Rattle.resolver.specs.Resolved.{RowsStand}
use Rattle.preparer.specs.Prepared.{Prepares}
use Rattle.resolver.proofs.Resolving.{stands_rows}
use Rattle.std.specs.Prelude.{Ok, Err, Result}

-- what is prepared is a refusal
module _ {lent : Lent} {tokens : List ℕ} {r : Result ℕ Refusal} {before after : List ℕ} (p : Prepares lent tokens r before after) {refusal : Refusal} (e : r ≡ Err refusal) where
  pub unready : Refuses lent tokens refusal
  unready = refuses lent tokens (rw e at p.readied).0

-- the rows that stand prepared, of a condition that passes
pub record Ready (lent : Lent) (tokens : List ℕ) (count : ℕ) (after : List ℕ) : Type 0 where
  pub tree : Tree
  pub passes : Passes lent tokens tree
  pub counted : count ≡ simple_count tree
  pub rows : take (count * 5) after ≡ planned tree

-- what is prepared is rows
module _ {lent : Lent} {tokens : List ℕ} {r : Result ℕ Refusal} {before after : List ℕ} (p : Prepares lent tokens r before after) {count : ℕ} (e : r ≡ Ok count) where
  pub ready : Ready lent tokens count after
  ready =
      let h : (first_of (condition_lines lent tokens) ≡ Ok tt) × RowsStand (read tokens) count before after = rw e at p.readied in
      let (t, q) = passed lent tokens h.0 in
      let z : h.1.tree ≡ t = cc (h.1.read_as, read_as q) in
      record { tree = t; passes = q; counted = h.1.counted ∙ ap simple_count z; rows = stands_rows h.1 ∙ ap planned z }

  pub few_prepared : count ≤ 128
  few_prepared = let y = ready in rw y.counted (few_leaves y.passes)

  pub row_numbers_lem : count * 5 ≡ length (take (count * 5) after)
  row_numbers_lem = let y = ready in rw (y.rows, planned-length y.tree) (ap (λ n. n * 5) y.counted)
