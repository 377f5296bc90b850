-- What show gives, from what its calls leave: the counted numbers lie inside the buffers, and demand 3 holds of the answers.
use mathlib.Core.Path.{◌≡◌, sym, ap, ◌∙◌}
use mathlib.Core.List.{List}
use Prim.Native.Nat.{ℕ, ◌≤◌}
use native.Mathlib.Omega.{arith}
use lib.ListN.{length, take, length-append}
use Rattle.tables.specs.declared.Judged.{Judged}
use Rattle.tables.specs.Operands.{Lent}
use Rattle.grammar.specs.Grammar.{Tree}
use Rattle.grammar.specs.Expanded.{expanded}
use Rattle.grammar.specs.Plan.{planned}
use Rattle.rules.specs.Calls.{written_over, Gives, Leaves, writing, expand_gives, plan_gives, run_gives}
use Rattle.rules.specs.Demands.{Demand3}
use Rattle.show.specs.Shown.{Replans, ShownCalls}
use Rattle.rules.proofs.Answers.{writes-over}
use Rattle.rules.proofs.Demands.{counted, count_is, numbers_are, demand_three}
use Rattle.tables.specs.Refusals.{Written}
use Rattle.std.specs.Prelude.{Ok}

-- what a call that writes over its output leaves
left_over : {gives : Gives} {answer : Written} {last : List ℕ} → Leaves gives answer last → (numbers output : List ℕ) → gives ≡ written_over numbers output →
    (answer ≡ Ok (length numbers)) × (take (length numbers) last ≡ numbers)
left_over {gives} l numbers output w = (l.answered ∙ rw w, rw l.left (numbers_are gives numbers output (length numbers) w (rw w)))

-- the numbers that were counted lie inside what is left
module _ (lent : Lent) (tokens output : List ℕ) {n : ℕ} {last : List ℕ} where
  inside : (make : Tree → List ℕ) → Leaves (writing make lent tokens output) (Ok n) last → n ≤ length last
  inside make l =
      let a = sym l.answered in
      let (t, p, f) = counted lent tokens make output n a in
      let w = writes-over p make output f in
      let c = count_is (writing make lent tokens output) (make t) output n w a in
      rw (l.left, w, length-append) (omega arith)

  pub plan_inside : Leaves (plan_gives lent tokens output) (Ok n) last → n ≤ length last
  unfolding plan_gives
  plan_inside = inside planned

  pub expand_inside : Leaves (expand_gives lent tokens output) (Ok n) last → n ≤ length last
  unfolding expand_gives
  expand_inside = inside expanded

-- plan counted so many numbers, which were run; expand left a form, and what it counted was planned again
pub shown : (lent : Lent) (tokens content : List ℕ) (switches : ℕ) (rows form second : List ℕ)
    {count : ℕ} {judged : Judged} {formed again : Written} {rows-after form-after second-after : List ℕ} →
    Leaves (plan_gives lent tokens rows) (Ok count) rows-after → judged ≡ run_gives lent (take count rows-after) content switches →
    Leaves (expand_gives lent tokens form) formed form-after → Replans lent second formed form-after again second-after →
    ShownCalls lent tokens content switches rows form second count judged formed again rows-after form-after second-after
shown lent tokens content switches rows form second {count} {formed = formed} {again} {rows-after} {form-after} {second-after} p v x r =
    record {
      plan = p;
      expand = x;
      replan = r;
      tree = d.tree;
      accepted = d.accepted;
      counts = d.counts ∙ ap length d.rows;
      plans = d.rows;
      runs = v ∙ d.runs content switches;
      expands = expands;
      plans_again = λ l few room.
          let left : Leaves (plan_gives lent (expanded d.tree) second) again second-after = rw ((expands l).0, (expands l).1) at r in
          rw (← d.counts) at (left_over left (take count rows-after) second (d.plans_again few second (rw (← d.counts) room)));
    }
  where
    d : Demand3 lent tokens (take count rows-after) count
    d = rw p.left (demand_three lent tokens rows count (sym p.answered))

    expands : length (expanded d.tree) ≤ length form →
        (formed ≡ Ok (length (expanded d.tree))) × (take (length (expanded d.tree)) form-after ≡ expanded d.tree)
    expands l = left_over x (expanded d.tree) form (d.expands form l)
