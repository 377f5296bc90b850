-- The sixteen cases hold, by computation.
use mathlib.Core.Path.{refl}
use Rattle.content.specs.Content.{all, number_from}
use Rattle.content.specs.WrongByte.{first_from, valid_content}
use Rattle.tables.specs.Refusals.{first_failing, first_of}
use Rattle.typing.specs.Typing.{typed}
use Rattle.compare.specs.Compared.{byte_order}
use Rattle.values.specs.Comparison.{comparison}
use Rattle.compare.specs.Classes.{class_holds}
use Rattle.compare.specs.Switches.{switch_holds}
use Rattle.values.specs.Truth.{outcome}
use Rattle.grammar.specs.Grammar.{class}
use Rattle.grammar.specs.Parser.{on, parse_condition, read}
use Rattle.grammar.specs.Depth.{depth_from}
use Rattle.grammar.specs.Typed.{typing_from}
use Rattle.grammar.specs.Expanded.{full_form, expanded}
use Rattle.grammar.specs.Judging.{simple_count, when, at, judged, visited}
use Rattle.grammar.specs.Plan.{rows_of, flat, planned, plan_row, plan_row_sound, follow, run, reached, run_visits}
use Rattle.rules.specs.Calls.{expand_gives, plan_gives, judge_walk, run_walk}
use Rattle.rules.specs.Cases.{SixteenCases, sixteen}

pub sixteen_cases : SixteenCases
unfolding all number_from first_from valid_content first_failing first_of typed byte_order comparison class_holds switch_holds outcome class on parse_condition read depth_from typing_from full_form expanded simple_count when at judged rows_of flat planned plan_row plan_row_sound follow run visited reached run_visits expand_gives plan_gives judge_walk run_walk sixteen
sixteen_cases =
    record {
      hold = (refl, (refl, (refl, (refl, (refl, ((refl, refl, refl), ((refl, refl, refl), ((refl, refl, refl), ((refl, refl, refl), ((refl, refl, refl), (refl, (refl, ((refl, refl), ((refl, refl), ((refl, refl), ((refl, refl), ((refl, refl), ((refl, refl), ((refl, refl), ((refl, refl), ((refl, refl), ((refl, refl), ((refl, refl), ((refl, refl), tt))))))))))))))))))))))));
    }
