-- Document 01, "What each call may say": the whole answer of expand, plan, judge and run, for every input.
use Rattle.std.specs.Prelude.{◌≡◌, cond, List, [], ◌∷◌, ◌++◌, ℕ, length, drop, leb, Err, Ok}
use Rattle.tables.specs.declared.Refusal.TheVariants.{Grammar, Room}
use Rattle.tables.specs.declared.Judged.{Judged}
use Rattle.tables.specs.declared.Verdict.TheVariants.{Refused as Unjudged}
use Rattle.tables.specs.Operands.{Lent}
use Rattle.tables.specs.Refusals.{place, unless, first_of, Check, Written}
use Rattle.tables.specs.Tables.{token_count_check, token_check, record_check}
use Rattle.values.specs.Names.{lent_lines}
use Rattle.values.specs.Truth.{outcome}
use Rattle.grammar.specs.Grammar.{Tree}
use Rattle.grammar.specs.Parser.{Reading, accepted, refused, read}
use Rattle.grammar.specs.Depth.{depth_check}
use Rattle.grammar.specs.Typed.{typing_from}
use Rattle.grammar.specs.Expanded.{expanded}
use Rattle.grammar.specs.Judging.{Walk, walk, judging}
use Rattle.grammar.specs.Plan.{planned, plan_check, running}

-- 7: "the grammar derives no such sequence"
abbrev pub grammar_check : Reading → Check
grammar_check (accepted t) = Ok tt
grammar_check (refused at) = Err (Grammar at)

-- "of 7 and 8 the smaller place wins, and 7 on a tie": 7 is the first argument, 8 the second
abbrev pub earlier : Check → Check → Check
earlier (Ok _) eight = eight
earlier (Err seven) (Ok _) = Err seven
earlier (Err seven) (Err eight) = cond (leb (place seven) (place eight)) (Err seven) (Err eight)

-- 9: "typing broken", of a sequence that has a tree
abbrev pub typing_check : Lent → Reading → Check
typing_check lent (accepted t) = typing_from lent 0 t
typing_check lent (refused at) = Ok tt

-- 1 to 6, in the order of their numbers, 18 "just after 4" (02, h)
abbrev pub token_lines : Lent → List ℕ → List Check
token_lines lent tokens = lent_lines lent ++ token_count_check tokens ∷ token_check lent tokens ∷ []

-- 7 and 8
abbrev pub grammar_line : List ℕ → Check
grammar_line tokens = earlier (grammar_check (read tokens)) (depth_check tokens)

-- 7 to 9
abbrev pub grammar_lines : Lent → List ℕ → List Check
grammar_lines lent tokens = grammar_line tokens ∷ typing_check lent (read tokens) ∷ []

-- 1 to 9, with 18
abbrev pub condition_lines : Lent → List ℕ → List Check
condition_lines lent tokens = token_lines lent tokens ++ grammar_lines lent tokens

-- 10: "output shorter than needed", "numbers needed in it"
abbrev pub room_check : List ℕ → List ℕ → Check
room_check numbers output = unless (leb (length numbers) (length output)) (Room (length numbers))

-- what a writing call gives: its answer, and the output as it leaves it
pub record Gives : Type 0 where
  pub answer : Written
  pub output : List ℕ

-- the answer and the output that a call leaves are these
pub record Leaves (gives : Gives) (answer : Written) (output : List ℕ) : Type 0 where
  pub answered : answer ≡ gives.answer
  pub left : output ≡ gives.output

-- "Success: expand and plan give the count of numbers written from the start of the output, the rest of it unchanged"
abbrev pub written_over : List ℕ → List ℕ → Gives
written_over numbers output = record { answer = Ok (length numbers); output = numbers ++ drop (length numbers) output }

-- and "A refusal gives a number and a place, counted from 0, and changes nothing."
abbrev pub writes : Check → List ℕ → List ℕ → Gives
writes (Err refusal) numbers output = record { answer = Err refusal; output = output }
writes (Ok _) numbers output = written_over numbers output

-- the numbers made of a sequence's tree; a sequence without one is refused with 7
abbrev pub numbers_of : (Tree → List ℕ) → Reading → List ℕ
numbers_of make (accepted t) = make t
numbers_of make (refused at) = []

-- "Expand and plan can give 1 to 10", and 18 (02, h)
abbrev pub writing : (Tree → List ℕ) → Lent → List ℕ → List ℕ → Gives
writing make lent tokens output =
    let numbers = numbers_of make (read tokens) in
    writes (first_of (condition_lines lent tokens ++ room_check numbers output ∷ [])) numbers output

unfoldable pub expand_gives : Lent → List ℕ → List ℕ → Gives
expand_gives = writing expanded

unfoldable pub plan_gives : Lent → List ℕ → List ℕ → Gives
plan_gives = writing planned

-- a walk, after the lines that refuse: where one does, nothing was judged
abbrev pub answers : Check → Walk → Walk
answers (Err refusal) w = walk (Unjudged refusal) []
answers (Ok _) w = w

-- "Judge and run also report how many simple conditions were judged, a refused one counted, 0 if refused earlier."
abbrev pub told : Walk → Judged
told w = record { verdict = w.verdict; count = length w.visits }

-- "the answer of the derived tree"; a sequence without one is refused with 7
abbrev pub tree_answer : Lent → List ℕ → ℕ → Reading → Walk
tree_answer lent content switches (accepted t) = judging (outcome lent content switches) t
tree_answer lent content switches (refused at) = walk (Unjudged (Grammar at)) []

-- "judge 1 to 9, 12, 13", and 17 (02, g), and 18 (02, h). "The rules' answer, for tokens and tables that none of 1 to 9 refuses, is refusal 12
-- where the table below gives it, else the answer of the derived tree."
unfoldable pub judge_walk : Lent → List ℕ → List ℕ → ℕ → Walk
judge_walk lent tokens content switches =
    answers (first_of (condition_lines lent tokens ++ record_check lent content ∷ [])) (tree_answer lent content switches (read tokens))

abbrev pub judge_gives : Lent → List ℕ → List ℕ → ℕ → Judged
judge_gives lent tokens content switches = told (judge_walk lent tokens content switches)

-- "run 1 to 4, 11, 12, 13", and 17 (02, g), and 18 (02, h)
unfoldable pub run_walk : Lent → List ℕ → List ℕ → ℕ → Walk
run_walk lent plan content switches =
    answers (first_of (lent_lines lent ++ plan_check lent plan ∷ record_check lent content ∷ [])) (running (outcome lent content switches) plan)

abbrev pub run_gives : Lent → List ℕ → List ℕ → ℕ → Judged
run_gives lent plan content switches = told (run_walk lent plan content switches)
