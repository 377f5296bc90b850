-- What expand and plan answer, one law for each of their returns.
use mathlib.Core.Path.{◌≡◌, sym, ap, ◌∙◌}
use mathlib.Core.List.{List, ◌++◌}
use Prim.Native.Nat.{ℕ, ◌*◌, ◌≤◌, ◌<◌}
use native.Mathlib.Omega.{arith}
use lib.ListN.{length, take, drop}
use lib.Seq.{take_at}
use Rattle.tables.specs.declared.Refusal.{Refusal}
use Rattle.tables.specs.declared.Refusal.TheVariants.{Room}
use Rattle.tables.specs.Operands.{Lent}
use Rattle.grammar.specs.Grammar.{Tree}
use Rattle.grammar.specs.Expanded.{expanded}
use Rattle.grammar.specs.Plan.{planned}
use Rattle.grammar.proofs.Size.{expanded_bound}
use Rattle.expander.specs.Spelled.{spelled}
use Rattle.expander.proofs.Spelled.{spelled-expanded}
use Rattle.rules.specs.Numbers.{of_written}
use Rattle.rules.specs.Calls.{Gives, Leaves, writing, expand_gives, plan_gives}
use Rattle.rules.proofs.Passing.{Passes, read_as, few_tokens}
use Rattle.rules.proofs.Answers.{leaves_as, writes-over, lacks_room}
use Rattle.preparer.specs.Prepared.{Prepares}
use Rattle.preparer.proofs.Ready.{unready, ready, row_numbers_lem}
use Rattle.tables.specs.Refusals.{Written}
use Rattle.std.specs.Prelude.{Err, Ok, Result}

-- n numbers are to be written, those of the tree
module _ {lent : Lent} {tokens : List ℕ} {t : Tree} (p : Passes lent tokens t) (make : Tree → List ℕ) {numbers : List ℕ} (e : numbers ≡ make t)
    {n : ℕ} (s : n ≡ length numbers) (output : List ℕ) where
  size : n ≡ length (make t)
  size = s ∙ ap length e

  no_room : length output < n → Leaves (writing make lent tokens output) (Err (Room n)) output
  no_room l = let f = size in rw f (leaves_as (lacks_room p make output (omega arith)))

  written : {last : List ℕ} → n ≤ length output → last ≡ numbers ++ drop n output → Leaves (writing make lent tokens output) (Ok n) last
  written l w = let f = size in rw (w, e, f) (leaves_as (writes-over p make output (omega arith)))

-- the same answer in this paper's numbers
pub in_numbers : {gives : Gives} {answer : Written} {output : List ℕ} → Leaves gives answer output →
    Leaves gives answer output × (of_written answer ≡ of_written gives.answer)
in_numbers l = (l, ap of_written l.answered)

-- what is prepared is a refusal
module _ {lent : Lent} {tokens : List ℕ} {r : Result ℕ Refusal} {before after : List ℕ} (p : Prepares lent tokens r before after) {refusal : Refusal} (e : r ≡ Err refusal) where
  pub expand_refused : (output : List ℕ) → Leaves (expand_gives lent tokens output) (Err refusal) output
  expand_refused output = leaves_as ((unready p e).expand output)

  pub plan_refused : (output : List ℕ) → Leaves (plan_gives lent tokens output) (Err refusal) output
  plan_refused output = leaves_as ((unready p e).plan output)

-- what is prepared is rows
module _ {lent : Lent} {tokens : List ℕ} {r : Result ℕ Refusal} {before after : List ℕ} (p : Prepares lent tokens r before after) {count : ℕ} (e : r ≡ Ok count) where
  spelled_as : spelled tokens ≡ expanded (ready p e).tree
  spelled_as = spelled-expanded tokens (ready p e).tree (read_as (ready p e).passes)

  -- "256 tokens expand to at most 634"
  pub few_spelled : length (spelled tokens) ≤ 634
  few_spelled = let y = ready p e in rw spelled_as (expanded_bound y.passes.accepts.derives (few_tokens y.passes))

  -- n numbers are counted in the spelling
  module _ {n : ℕ} (s : n ≡ length (spelled tokens)) (output : List ℕ) where
    pub expand_no_room : length output < n → Leaves (expand_gives lent tokens output) (Err (Room n)) output
    unfolding expand_gives
    expand_no_room = no_room (ready p e).passes expanded spelled_as s output

    -- the numbers stand at the start of a scratch, and are copied from there
    pub expand_written : (scratch rest : List ℕ) {last : List ℕ} → scratch ≡ spelled tokens ++ rest → n ≤ length output →
        last ≡ take n scratch ++ drop (length (take n scratch)) output → Leaves (expand_gives lent tokens output) (Ok n) last
    unfolding expand_gives
    expand_written scratch rest stands l w =
        let form : take n scratch ≡ spelled tokens = rw stands (take_at (spelled tokens) rest n (sym s)) in
        written (ready p e).passes expanded spelled_as s output l (rw (form, ← s) at w)

  pub plan_no_room : (output : List ℕ) → length output < count * 5 → Leaves (plan_gives lent tokens output) (Err (Room (count * 5))) output
  unfolding plan_gives
  plan_no_room = no_room (ready p e).passes planned (ready p e).rows (row_numbers_lem p e)

  pub plan-written : (output : List ℕ) {last : List ℕ} → count * 5 ≤ length output →
      last ≡ take (count * 5) after ++ drop (length (take (count * 5) after)) output → Leaves (plan_gives lent tokens output) (Ok (count * 5)) last
  unfolding plan_gives
  plan-written output l w = written (ready p e).passes planned (ready p e).rows (row_numbers_lem p e) output l (rw (← (row_numbers_lem p e)) at w)
