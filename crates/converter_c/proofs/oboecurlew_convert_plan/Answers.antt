-- Rests on what the call of the library and the telling ensure.
use Rattle.rules.proofs.Places.{convert_plan_small}
use Rattle.answers.proofs.Telling.{small_left}
use Rattle.converter_c.proofs.oboecurlew_convert_plan.Goals as goal

pub tell_written-requires : goal.tell_written-requires
tell_written-requires c =
    small_left c.convert_plan.ensures (convert_plan_small _ _ _)
