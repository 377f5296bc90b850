-- One part after another.
-- the next part lies in the file, and its numbers have room
use mathlib.Core.Path.{◌≡◌, sym}
use mathlib.Core.List.{List}
use Prim.Native.Nat.{ℕ}
use native.Mathlib.Omega.{arith}
use lib.ListN.{length}
use Rattle.std.proofs.lemmas.Grind.{common_steps}
use Rattle.tables.specs.declared.Judged.{Judged}
use Rattle.tables.specs.Operands.{lend_names}
use Rattle.rules.specs.Calls.{run_gives}
use Rattle.sweeps.specs.Parts.{Part}
use Rattle.sweeps.proofs.Going.{begins, part, goes_on, long, ends, filled}
use Rattle.sweeper.proofs.calls.sweep_records.Goals as goal

pub nonzero_div-left : goal.nonzero_div-left
nonzero_div-left c =
    omega (arith, (filled c.args.size (length c.args.records.now) c.requires.sizes).0)

pub sweep_part-requires : goal.sweep_part-requires
sweep_part-requires c =
    let run : (List ℕ → Judged) = (λ content. let a = c.args in
    run_gives (lend_names a.items.now a.literals.now a.bytes.now a.names.now) a.plan.now content a.switches) in
    let next : (Part c.args.records.now c.args.size c.loop-left.from
    c.part_records-n.result c.loop-left.out (length c.loop-left.answers)) = (let start = c in
    let a = start.args in
    let told = c.part_records-n.ensures in
    part run a.records.now a.size a.answers.now start.requires.sizes start.requires.fits c.loop-left.invariant c.part_records-n.result
    told.1 told.0 told.2) in
    let as_many : (length c.loop-left.answers ≡ length c.args.answers.now) = (let a = c.args in
    long run a.records.now a.size a.answers.now c.requires.sizes c.requires.fits c.loop-left.invariant) in
    record {
      sweepable = rw (sym as_many) at c.requires;
      part = next;
    }

pub loop-left-preserved : goal.loop-left-preserved
loop-left-preserved c =
    let run : (List ℕ → Judged) = (λ content. let a = c.args in
    run_gives (lend_names a.items.now a.literals.now a.bytes.now a.names.now) a.plan.now content a.switches) in
    let a = c.args in
    goes_on run a.records.now a.size a.answers.now c.requires.sizes c.requires.fits c.loop-left.invariant c.part_records-n.result
    c.part_records-n.ensures.1 c.sweep_part.ensures

pub returns : goal.returns
returns c =
    let run : (List ℕ → Judged) = (λ content. let a = c.args in
    run_gives (lend_names a.items.now a.literals.now a.bytes.now a.names.now) a.plan.now content a.switches) in
    let a = c.args in
    ends run a.records.now a.size a.answers.now c.requires.sizes c.requires.fits c.loop-left.invariant (omega (arith, c.loop-left-test.false))

pub loop-left-init : goal.loop-left-init
loop-left-init c = begins _ _ _ _
