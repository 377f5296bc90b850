-- A verdict or a row.
use native.Mathlib.Omega.{arith}
use Rattle.description.proofs.Bytes.{eqb_no}
use Rattle.lines.proofs.Lining.{begun, with_text, with_number}
use Rattle.plan_lines.proofs.plans.put_target.Goals as goal

pub returns-then-target-eq65535 : goal.returns-then-target-eq65535
returns-then-target-eq65535 c =
    rw c.if-target-eq65535.true (with_text (begun c.args.out.now c.args.at) c.put.ensures)

pub returns-then-target-eq65534 : goal.returns-then-target-eq65534
returns-then-target-eq65534 c =
    rw (eqb_no c.args.target 65535 (λ e. omega arith))
    (rw c.if-target-eq65534.true (with_text (begun c.args.out.now c.args.at) c.put-then-target-eq65534.ensures))

pub returns : goal.returns
returns c =
    rw (eqb_no c.args.target 65535 (λ e. omega arith))
    (rw (eqb_no c.args.target 65534 c.if-target-eq65534.false)
    (with_number (with_text (begun c.args.out.now c.args.at) c.put-lead.ensures) c.put_number.ensures))
