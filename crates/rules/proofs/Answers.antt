-- What the calls give, over the definitions: of a condition that passes 1 to 9, of one that a line refuses, and of a plan.
use mathlib.Core.Path.{◌≡◌, refl, ap₂, ◌∙◌}
use mathlib.Core.List.{List, [], ◌∷◌, ◌++◌}
use Prim.Native.Nat.{ℕ, ◌≤◌, ◌<◌}
use native.Mathlib.Omega.{arith}
use borrow.Author.Tests.{le-leb, lt-leb}
use lib.ListN.{length}
use Rattle.tables.specs.declared.Refusal.{Refusal}
use Rattle.tables.specs.declared.Refusal.TheVariants.{Room}
use Rattle.tables.specs.declared.Verdict.TheVariants.{Refused as Unjudged}
use Rattle.tables.specs.Operands.{Lent}
use Rattle.tables.specs.Refusals.{first_of, Check, Written}
use Rattle.tables.specs.Tables.{record_check}
use Rattle.values.specs.Names.{lent_lines}
use Rattle.tables.proofs.Lines.{line_sound, line_refused, line_last, lines_before}
use Rattle.values.specs.Truth.{outcome}
use Rattle.grammar.specs.Grammar.{Tree}
use Rattle.grammar.specs.Parser.{read}
use Rattle.grammar.specs.Expanded.{expanded}
use Rattle.grammar.specs.Judging.{simple_count, Walk, walk, judging}
use Rattle.grammar.specs.Plan.{planned, plan_check, plan_rows, running}
use Rattle.grammar.proofs.Size.{few_rows}
use Rattle.grammar.proofs.Segment.{run_is_judging, run_visits_lem, run-count}
use Rattle.grammar.proofs.Shapes.{planned-plan_sound}
use Rattle.rules.specs.Calls.{written_over, Gives, Leaves, condition_lines, room_check, numbers_of, writing, expand_gives, plan_gives, answers, told, judge_walk, run_walk, run_gives}
use Rattle.rules.specs.Demands.{rules_walk, Refuses}
use Rattle.rules.proofs.Passing.{typing_passes, after_lines_lem, Passes, read_as, condition-passes, tables_pass, few_tokens, tokens_exist}
use Rattle.std.specs.Prelude.{Err, Ok}

-- a call leaves what it gives
pub leaves_as : {gives : Gives} {answer : Written} {output : List ℕ} → gives ≡ record { answer = answer; output = output } → Leaves gives answer output
leaves_as e = rw e (record { answered = refl; left = refl })

-- a condition that passes
module _ {lent : Lent} {tokens : List ℕ} {t : Tree} (p : Passes lent tokens t) where
  -- the room is what is left to check
  pub room-left : (make : Tree → List ℕ) (output : List ℕ) →
      first_of (condition_lines lent tokens ++ room_check (numbers_of make (read tokens)) output ∷ []) ≡ room_check (make t) output
  room-left make output =
      after_lines_lem (condition_lines lent tokens) (room_check (numbers_of make (read tokens)) output ∷ []) (condition-passes p)
      ∙ line_last _
      ∙ rw (read_as p)

  pub writes-over : (make : Tree → List ℕ) (output : List ℕ) → length (make t) ≤ length output →
      writing make lent tokens output ≡ written_over (make t) output
  writes-over make output l = rw (room-left make output, read_as p, le-leb _ _ l)

  pub lacks_room : (make : Tree → List ℕ) (output : List ℕ) → length output < length (make t) →
      writing make lent tokens output ≡ record { answer = Err (Room (length (make t))); output = output }
  lacks_room make output l = rw (room-left make output, lt-leb _ _ l)

  pub judges_as : (content : List ℕ) (switches : ℕ) → judge_walk lent tokens content switches ≡ rules_walk lent content switches t
  unfolding judge_walk
  judges_as content switches =
      rw (after_lines_lem (condition_lines lent tokens) (record_check lent content ∷ []) (condition-passes p), line_last, read_as p)

  pub few_leaves : simple_count t ≤ 128
  few_leaves = few_rows p.accepts.derives (few_tokens p)

  pub plan-passes : plan_check lent (planned t) ≡ Ok tt
  plan-passes = planned-plan_sound lent p.accepts.derives (few_tokens p) (tokens_exist p) (typing_passes lent 0 t p.accepts.typed)

  pub run_judges : (content : List ℕ) (switches : ℕ) → running (outcome lent content switches) (planned t) ≡ judging (outcome lent content switches) t
  run_judges content switches =
      ap₂ walk (run_is_judging (outcome lent content switches) t (omega (arith, few_leaves))) (run_visits_lem (outcome lent content switches) t (omega (arith, few_leaves)))

-- a condition that a line refuses
module _ (lent : Lent) (tokens : List ℕ) {refusal : Refusal} (e : first_of (condition_lines lent tokens) ≡ Err refusal) where
  before : (others : List Check) → first_of (condition_lines lent tokens ++ others) ≡ Err refusal
  before others = lines_before (condition_lines lent tokens) others ∙ line_refused others e

  pub refuses : Refuses lent tokens refusal
  unfolding expand_gives plan_gives judge_walk
  refuses =
      record {
        expand = λ output. rw (before (room_check (numbers_of expanded (read tokens)) output ∷ []));
        plan = λ output. rw (before (room_check (numbers_of planned (read tokens)) output ∷ []));
        judge = λ content switches. rw (before (record_check lent content ∷ []));
      }

-- a plan, whatever numbers it has
module _ (lent : Lent) (plan content : List ℕ) (switches : ℕ) where
  abbrev others : List Check
  others = plan_check lent plan ∷ record_check lent content ∷ []

  pub tables_refuse : {refusal : Refusal} → first_of (lent_lines lent) ≡ Err refusal → walk (Unjudged refusal) [] ≡ run_walk lent plan content switches
  unfolding run_walk
  tables_refuse e = rw (lines_before (lent_lines lent) others, line_refused others e)

  pub after_tables : first_of (lent_lines lent) ≡ Ok tt → run_walk lent plan content switches ≡ answers (first_of others) (running (outcome lent content switches) plan)
  unfolding run_walk
  after_tables t = rw (after_lines_lem (lent_lines lent) others t)

  pub after-plan : first_of (lent_lines lent) ≡ Ok tt → plan_check lent plan ≡ Ok tt →
      run_walk lent plan content switches ≡ answers (record_check lent content) (running (outcome lent content switches) plan)
  after-plan t e = after_tables t ∙ rw (line_sound (record_check lent content ∷ []) e, line_last)

-- no run goes through more rows than the plan has
answers_few : (line : Check) (w : Walk) (n : ℕ) → length w.visits ≤ n → (told (answers line w)).count ≤ n
answers_few (Ok _) w n h = h
answers_few (Err refusal) w n h = omega arith

pub run_few : (lent : Lent) (plan content : List ℕ) (switches : ℕ) → (run_gives lent plan content switches).count ≤ plan_rows plan
unfolding run_walk
run_few lent plan content switches =
    answers_few (first_of (lent_lines lent ++ plan_check lent plan ∷ record_check lent content ∷ [])) (running (outcome lent content switches) plan) (plan_rows plan)
    (run-count (outcome lent content switches) plan)

pub runs_as : {lent : Lent} {tokens : List ℕ} {t : Tree} → Passes lent tokens t → (content : List ℕ) (switches : ℕ) →
    run_walk lent (planned t) content switches ≡ rules_walk lent content switches t
runs_as {lent} {tokens} {t} p content switches =
    after-plan lent (planned t) content switches (tables_pass p) (plan-passes p) ∙ rw (run_judges p content switches)
