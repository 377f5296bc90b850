-- Rests on the lines of a run, and on what it reaches where none refuses.
use mathlib.Core.Path.{sym, ◌∙◌}
use native.Mathlib.Omega.{arith}
use Rattle.std.proofs.Common.{◌≡◌, Err}
use Rattle.look_lists.proofs.Looking.{run_refused, run_ready, run-listed}
use Rattle.looks.proofs.calls.looked_at_plan.Goals as goal

pub returns-in_err-check_run : goal.returns-in_err-check_run
returns-in_err-check_run c =
    let e : c.from_residual.result ≡ Err c.in_err-check_run.field-0.0 = grind arith in
    rw e (run_refused _ _ _ _ _ (sym c.check_run.ensures ∙ c.in_err-check_run.was))

pub list_reached-requires : goal.list_reached-requires
list_reached-requires c = run_ready _ _ _ (sym c.check_run.ensures ∙ c.in_ok-check_run.was)

pub returns : goal.returns
returns c =
    run-listed _ _ _ (sym c.check_run.ensures ∙ c.in_ok-check_run.was) _ _ c.list_reached.ensures
