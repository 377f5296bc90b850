-- Document 01, "How strong a promise is": demands 2 and 3, over the definitions that the calls' contracts cite. Their proofs are
-- in proofs/Demands.antt. Document 02, l): "demand 3 speaks of plans written from then on": the calls' `Lent` has no switch-off words.
use Rattle.std.specs.Prelude.{◌≡◌, true, List, ◌++◌, ℕ, ◌≤◌, ◌<◌, length, take, drop, Err, Ok}
use Rattle.tables.specs.declared.Refusal.{Refusal}
use Rattle.tables.specs.declared.Refusal.TheVariants.{Grammar}
use Rattle.tables.specs.declared.Verdict.{Verdict}
use Rattle.tables.specs.declared.Judged.{Judged}
use Rattle.tables.specs.declared.Verdict.TheVariants.{True, False, Refused}
use Rattle.tables.specs.Operands.{Lent}
use Rattle.tables.specs.Refusals.{number, place, first_of, Written}
use Rattle.tables.specs.Tables.{record_check}
use Rattle.typing.specs.Typing.{typed}
use Rattle.values.specs.Truth.{outcome}
use Rattle.grammar.specs.Grammar.{Tree, simple, negated, bracketed, both, either, Derives, Place}
use Rattle.grammar.specs.Depth.{depth_check}
use Rattle.grammar.specs.Typed.{typing_from}
use Rattle.grammar.specs.Expanded.{expanded}
use Rattle.grammar.specs.Judging.{Walk, judging}
use Rattle.grammar.specs.Plan.{planned, plan_rows}
use Rattle.rules.specs.Calls.{written_over, token_lines, grammar_line, answers, told, expand_gives, plan_gives, judge_gives, run_walk, run_gives}

-- every part of the tree is well typed
abbrev pub WellTyped : Lent → Tree → Type 0
WellTyped lent (simple a r b) = typed lent a r b ≡ true
WellTyped lent (negated t) = WellTyped lent t
WellTyped lent (bracketed t) = WellTyped lent t
WellTyped lent (both t u) = WellTyped lent t × WellTyped lent u
WellTyped lent (either t u) = WellTyped lent t × WellTyped lent u

-- "the rules derive a condition tree whose parts are well typed"
pub record Accepted (lent : Lent) (tokens : List ℕ) (t : Tree) : Type 0 where
  pub derives : Derives tokens t
  pub typed : WellTyped lent t

-- "The rules' answer .. is refusal 12 where the table below gives it, else the answer of the derived tree."
-- Document 02, i): with the simple conditions that the rules' own judging comes to.
abbrev pub rules_walk : Lent → List ℕ → ℕ → Tree → Walk
rules_walk lent content switches t = answers (record_check lent content) (judging (outcome lent content switches) t)

abbrev pub rules_answer : Lent → List ℕ → ℕ → Tree → Judged
rules_answer lent content switches t = told (rules_walk lent content switches t)

-- an answer that is none of the refusals 1 to 9
abbrev pub Writes : Written → Type 0
Writes (Ok n) = Unit {0}
Writes (Err refusal) = 9 < number refusal

abbrev pub Judges : Verdict → Type 0
Judges True = Unit {0}
Judges False = Unit {0}
Judges (Refused refusal) = 9 < number refusal

-- expand, plan and judge give this refusal
pub record Refuses (lent : Lent) (tokens : List ℕ) (refusal : Refusal) : Type 0 where
  pub expand : (output : List ℕ) → expand_gives lent tokens output ≡ record { answer = Err refusal; output = output }
  pub plan : (output : List ℕ) → plan_gives lent tokens output ≡ record { answer = Err refusal; output = output }
  pub judge : (content : List ℕ) (switches : ℕ) → judge_gives lent tokens content switches ≡ record { verdict = Refused refusal; count = 0 }

-- Refusals 7 and 8 by what is derived, of every sequence of tokens, however deep: 7 where "the grammar derives no such sequence", at the
-- "length of the longest beginning that some derived sequence shares"; "of 7 and 8 the smaller place wins, and 7 on a tie".
pub record SevenAndEight (lent : Lent) (tokens : List ℕ) : Type 0 where
  pub derived : (t : Tree) → Derives tokens t → grammar_line tokens ≡ depth_check tokens
  pub seven_first : ((t : Tree) → ¬ Derives tokens t) → (at : ℕ) → Place tokens at →
      ((eight : Refusal) → depth_check tokens ≡ Err eight → at ≤ place eight) → grammar_line tokens ≡ Err (Grammar at)
  pub eight_first : ((t : Tree) → ¬ Derives tokens t) → (at : ℕ) → Place tokens at →
      (eight : Refusal) → depth_check tokens ≡ Err eight → place eight < at → grammar_line tokens ≡ Err eight
  -- 7, where it is given, is so placed
  pub placed : (at : ℕ) → grammar_line tokens ≡ Err (Grammar at) → ((t : Tree) → ¬ Derives tokens t) × Place tokens at
  -- and where 1 to 6 do not refuse, every call gives the one or the other
  pub given : first_of (token_lines lent tokens) ≡ Ok tt → (refusal : Refusal) → grammar_line tokens ≡ Err refusal → Refuses lent tokens refusal

abbrev pub SevenAndEightGiven : Type 0
SevenAndEightGiven = (lent : Lent) (tokens : List ℕ) → SevenAndEight lent tokens

-- Demand 2. For tables and tokens that refusals 1 to 6, 18 and 8 do not refuse: a condition is accepted exactly when the rules derive
-- a tree whose parts are well typed; and its expanded form, its plan, its truth and its stop on invalid numeric or alphabetic data
-- (02, g), with its byte (02, c), are those of that tree.
pub record Demand2 (lent : Lent) (tokens : List ℕ) : Type 0 where
  pub expands : (t : Tree) → Accepted lent tokens t → (output : List ℕ) → length (expanded t) ≤ length output →
      expand_gives lent tokens output ≡ written_over (expanded t) output
  pub plans : (t : Tree) → Accepted lent tokens t → (output : List ℕ) → length (planned t) ≤ length output →
      plan_gives lent tokens output ≡ written_over (planned t) output
  pub judges : (t : Tree) → Accepted lent tokens t → (content : List ℕ) (switches : ℕ) →
      judge_gives lent tokens content switches ≡ rules_answer lent content switches t
  -- and no other condition is accepted: what has no tree is refused with 7, and what is ill typed with 9
  pub expand_only : (output : List ℕ) → Writes (expand_gives lent tokens output).answer → (t : Tree) × Accepted lent tokens t
  pub plan_only : (output : List ℕ) → Writes (plan_gives lent tokens output).answer → (t : Tree) × Accepted lent tokens t
  pub judge_only : (content : List ℕ) (switches : ℕ) → Judges (judge_gives lent tokens content switches).verdict → (t : Tree) × Accepted lent tokens t
  pub underived : ((t : Tree) → ¬ Derives tokens t) → (at : ℕ) → Place tokens at → Refuses lent tokens (Grammar at)
  pub ill_typed : (t : Tree) → Derives tokens t → (refusal : Refusal) → typing_from lent 0 t ≡ Err refusal → Refuses lent tokens refusal

abbrev pub DemandTwo : Type 0
DemandTwo = (lent : Lent) (tokens : List ℕ) → first_of (token_lines lent tokens) ≡ Ok tt → depth_check tokens ≡ Ok tt → Demand2 lent tokens

-- Demand 3, of a condition for which a plan is written, with the numbers that plan counted.
pub record Demand3 (lent : Lent) (tokens plan : List ℕ) (n : ℕ) : Type 0 where
  -- the rules' tree
  pub tree : Tree
  pub accepted : Accepted lent tokens tree
  -- "row for row as "The plan" says"
  pub rows : plan ≡ planned tree
  pub counts : n ≡ length plan
  -- "For every record and switch byte, what run gives equals the rules' answer for the condition": the truth value, or the refusal's
  -- number, place and (02, c) byte, also on invalid alphabetic data (02, g); and (02, i) how many simple conditions were judged
  pub runs : (content : List ℕ) (switches : ℕ) → run_gives lent plan content switches ≡ rules_answer lent content switches tree
  -- the rows that run reaches are the simple conditions that the rules' judging comes to, number for number, and no more than the
  -- plan's rows
  pub reaches : (content : List ℕ) (switches : ℕ) → (run_walk lent plan content switches).visits ≡ (rules_walk lent content switches tree).visits
  pub few : (content : List ℕ) (switches : ℕ) → (run_gives lent plan content switches).count ≤ plan_rows plan
  -- "Expand succeeds on the same condition with every output that has room, and the tokens that it counts are the rules' own
  -- expanded form."
  pub expands : (output : List ℕ) → length (expanded tree) ≤ length output →
      expand_gives lent tokens output ≡ written_over (expanded tree) output
  -- "If they are at most 256, plan succeeds on them with every output that has room for the first plan's numbers, and gives the
  -- same count and the same numbers."
  pub plans_again : length (expanded tree) ≤ 256 → (output : List ℕ) → length plan ≤ length output →
      plan_gives lent (expanded tree) output ≡ written_over plan output

-- "A plan is written where plan succeeds .. run gets exactly the numbers that plan counted"
abbrev pub DemandThree : Type 0
DemandThree = (lent : Lent) (tokens output : List ℕ) (n : ℕ) → (plan_gives lent tokens output).answer ≡ Ok n →
    Demand3 lent tokens (take n (plan_gives lent tokens output).output) n
