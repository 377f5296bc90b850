-- Rests on what the call of the library and the telling ensure.
use Rattle.rules.proofs.Places.{judge_fits}
use Rattle.conditions_c.proofs.oboecurlew_judge.Goals as goal

pub tell_judged-requires : goal.tell_judged-requires
tell_judged-requires c = rw c.judge.ensures.value (judge_fits _ _ _ _)
