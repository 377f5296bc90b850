-- One record after the other.
use mathlib.Core.Path.{◌≡◌, refl, ap, ◌∙◌}
use Prim.Native.Nat.{◌+◌, ◌-◌, ◌≤◌}
use native.Mathlib.Omega.{arith}
use lib.ListN.{length, drop}
use lib.Seq.{sets, length-sets}
use Rattle.tables.specs.Operands.{lend_names}
use Rattle.block_truths.proofs.Bases.{next_base}
use Rattle.rules.specs.Calls.{run_gives}
use Rattle.rules.proofs.Places.{run_fits}
use Rattle.sweeps.specs.Sweep.{laid, answer_of, answers_of}
use Rattle.sweeps.proofs.Lines.{runnable, ran}
use Rattle.sweeps.proofs.Blocks.{inside, answered}
use Rattle.sweeps.proofs.parts.answer_part.Goals as goal

pub loop-j-init : goal.loop-j-init
unfolding laid answers_of
loop-j-init c = (omega arith, omega arith, omega arith, refl)

pub judged_at-judged-requires : goal.judged_at-judged-requires
judged_at-judged-requires c =
    let l = c.loop-j in
    let a = c.args in
    let lent = lend_names a.items.now a.literals.now a.bytes.now a.names.now in
    let within : l.base + a.block.size ≤ length a.records.now = omega (arith, l.invariant.1, inside c.requires.part l.j (omega arith)) in
    let width : l.base + a.block.size - l.base ≡ a.block.size = omega arith in record {
      runnable = runnable lent a.plan.now a.records.now a.block.size a.switches c.requires.sweepable l.base within;
      settled = rw (width, l.invariant.1) (c.requires.at_len.2.settled l.j (omega arith));
    }

pub put_answer-requires : goal.put_answer-requires
put_answer-requires c =
    let l = c.loop-j in
    let a = c.args in
    let lent = lend_names a.items.now a.literals.now a.bytes.now a.names.now in
    let within : l.base + a.block.size ≤ length a.records.now = omega (arith, l.invariant.1, inside c.requires.part l.j (omega arith)) in (
      rw (ran lent a.plan.now a.records.now a.block.size a.switches c.requires.sweepable l.base within c.judged_at-judged.ensures) (run_fits _ _ _ _),
      omega (
        arith,
        l.invariant.2,
        c.requires.part.fits,
        ap length l.invariant.3,
        length-sets a.answers.now a.out (answers_of (λ content. run_gives lent a.plan.now content a.switches) (laid l.j a.block.size
            (drop a.block.from a.records.now))),
      ),
    )

pub loop-j-preserved : goal.loop-j-preserved
loop-j-preserved c =
    let l = c.loop-j in
    let a = c.args in
    let lent = lend_names a.items.now a.literals.now a.bytes.now a.names.now in
    let within : l.base + a.block.size ≤ length a.records.now = omega (
      arith,
      l.invariant.1,
      inside c.requires.part l.j
          (omega arith),
    ) in (
      omega arith,
      next_base a.block.from l.j a.block.size l.invariant.1,
      omega (arith, l.invariant.2),
      answered (λ content. run_gives lent a.plan.now content a.switches) a.records.now a.answers.now l.answers c.put_answer.new.answers a.block.size
          a.block.from a.out l.j l.base l.to
          l.invariant.1 l.invariant.2 l.invariant.3 (c.put_answer.ensures ∙ ap (λ v. sets l.answers l.to (answer_of v)) (ran lent a.plan.now a.records.now
          a.block.size a.switches c.requires.sweepable l.base within c.judged_at-judged.ensures)),
    )
