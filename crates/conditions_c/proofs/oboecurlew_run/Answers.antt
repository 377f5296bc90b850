-- Rests on what the call of the library and the telling ensure.
use Rattle.rules.proofs.Places.{run_fits}
use Rattle.conditions_c.proofs.oboecurlew_run.Goals as goal

pub tell_judged-requires : goal.tell_judged-requires
tell_judged-requires c = rw c.run.ensures.value (run_fits _ _ _ _)
