-- Demands 2 and 3 hold of the definitions that the calls' contracts cite.
use mathlib.Core.Path.{◌≡◌, refl, ap}
use mathlib.Core.List.{List, [], ◌∷◌, ◌++◌}
use Prim.Native.Nat.{ℕ, ◌≤◌}
use native.Mathlib.Omega.{arith}
use borrow.Author.Tests.{leb-true}
use lib.ListN.{length, take, drop}
use lib.Seq.{take_at}
use Rattle.tables.specs.Operands.{Lent}
use Rattle.tables.specs.Refusals.{first_of, Check}
use Rattle.tables.specs.Tables.{record_check}
use Rattle.tables.proofs.Lines.{test_sound, lines_before, lines_sound}
use Rattle.grammar.specs.Grammar.{Tree}
use Rattle.grammar.specs.Parser.{read}
use Rattle.grammar.specs.Expanded.{expanded}
use Rattle.grammar.specs.Plan.{planned}
use Rattle.rules.specs.Calls.{written_over, condition_lines, room_check, Gives, writes, numbers_of, writing, expand_gives, plan_gives, answers, told, tree_answer, judge_walk, judge_gives}
use Rattle.rules.specs.Demands.{Accepted, Writes, Judges, DemandTwo, Demand3, DemandThree}
use Rattle.rules.proofs.Passing.{both_sound, Passes, passed, read_as, passes_again, Nine, condition_nine, underived_refused, ill_typed_refused}
use Rattle.rules.proofs.Answers.{writes-over, judges_as, runs_as, refuses, run_few}
use Rattle.std.specs.Prelude.{Err, Ok}

-- no condition is written, nor judged, but one that passes
module _ (lent : Lent) (tokens : List ℕ) where
  written_only : (make : Tree → List ℕ) → Nine (first_of (condition_lines lent tokens)) → (output : List ℕ) → Writes (writing make lent tokens output).answer → (t : Tree) × Passes lent tokens t
  unfolding first_of
  written_only make s output w =
      go (first_of (condition_lines lent tokens)) refl s (rw (lines_before (condition_lines lent tokens) (room_check (numbers_of make (read tokens)) output ∷ [])) at w)
    where
      go : (line : Check) → first_of (condition_lines lent tokens) ≡ line → Nine line →
          Writes (writes (first_of (line ∷ room_check (numbers_of make (read tokens)) output ∷ [])) (numbers_of make (read tokens)) output).answer → (t : Tree) × Passes lent tokens t
      go (Ok _) q s w = passed lent tokens q
      go (Err refusal) q s w = absurd (omega arith)

  judged_only : Nine (first_of (condition_lines lent tokens)) → (content : List ℕ) (switches : ℕ) → Judges (judge_gives lent tokens content switches).verdict → (t : Tree) × Passes lent tokens t
  unfolding judge_walk first_of
  judged_only s content switches j =
      go (first_of (condition_lines lent tokens)) refl s (rw (lines_before (condition_lines lent tokens) (record_check lent content ∷ [])) at j)
    where
      go : (line : Check) → first_of (condition_lines lent tokens) ≡ line → Nine line →
          Judges (answers (first_of (line ∷ record_check lent content ∷ [])) (tree_answer lent content switches (read tokens))).verdict → (t : Tree) × Passes lent tokens t
      go (Ok _) q s j = passed lent tokens q
      go (Err refusal) q s j = absurd (omega arith)

  -- where numbers are counted, they are those of the tree
  pub counted : (make : Tree → List ℕ) (output : List ℕ) (n : ℕ) → (writing make lent tokens output).answer ≡ Ok n →
      (t : Tree) × Passes lent tokens t × (length (make t) ≤ length output)
  counted make output n e = go (first_of (condition_lines lent tokens ++ room ∷ [])) refl e
    where
      room : Check
      room = room_check (numbers_of make (read tokens)) output

      go : (line : Check) → first_of (condition_lines lent tokens ++ room ∷ []) ≡ line →
          (writes line (numbers_of make (read tokens)) output).answer ≡ Ok n → (t : Tree) × Passes lent tokens t × (length (make t) ≤ length output)
      go (Ok _) q e =
          let (f, g) = both_sound (condition_lines lent tokens) (room ∷ []) q in
          let (t, p) = passed lent tokens f in
          (t, p, leb-true _ _ (test_sound _ _ (rw (read_as p) at (lines_sound (room ∷ []) g).0)))
      go (Err refusal) q e = absurd (let z : ◌≡◌ {A = ℕ} 0 1 = cc in omega arith)

pub demand_two : DemandTwo
unfolding expand_gives plan_gives
demand_two lent tokens f d =
    record {
      expands = λ t a. writes-over (passes t a) expanded;
      plans = λ t a. writes-over (passes t a) planned;
      judges = λ t a content switches. ap told (judges_as (passes t a) content switches);
      expand_only = λ output w. let (t, p) = written_only lent tokens expanded nine output w in (t, p.accepts);
      plan_only = λ output w. let (t, p) = written_only lent tokens planned nine output w in (t, p.accepts);
      judge_only = λ content switches j. let (t, p) = judged_only lent tokens nine content switches j in (t, p.accepts);
      underived = λ h at p. refuses lent tokens (underived_refused lent tokens f d h at p);
      ill_typed = λ t h refusal e. refuses lent tokens (ill_typed_refused lent tokens f d t h refusal e);
    }
  where
    nine : Nine (first_of (condition_lines lent tokens))
    nine = condition_nine lent tokens f d

    passes : (t : Tree) → Accepted lent tokens t → Passes lent tokens t
    passes t a = record { token_lines_lem = f; shallow = d; accepts = a }

-- the numbers that a call counted are those that it wrote
module _ (gives : Gives) (numbers output : List ℕ) (n : ℕ) (w : gives ≡ written_over numbers output) (e : gives.answer ≡ Ok n) where
  pub count_is : length numbers ≡ n
  count_is = cc

  pub numbers_are : take n gives.output ≡ numbers
  numbers_are = rw w (take_at numbers (drop (length numbers) output) n count_is)

demanded : {lent : Lent} {tokens : List ℕ} {t : Tree} (plan : List ℕ) (n : ℕ) → Passes lent tokens t → plan ≡ planned t → length (planned t) ≡ n → Demand3 lent tokens plan n
unfolding expand_gives plan_gives
demanded {lent} {tokens} {t} plan n p e c =
    record {
      tree = t;
      accepted = p.accepts;
      rows = e;
      counts = rw (e, c);
      runs = λ content switches. rw e (ap told (runs_as p content switches));
      reaches = λ content switches. rw e (ap (λ w. w.visits) (runs_as p content switches));
      few = λ content switches. run_few lent plan content switches;
      expands = writes-over p expanded;
      plans_again = λ l output r. rw e (writes-over (passes_again p l) planned output (rw e at r));
    }

pub demand_three : DemandThree
unfolding plan_gives
demand_three lent tokens output n e =
    let (t, p, l) = counted lent tokens planned output n e in
    let w = writes-over p planned output l in
    demanded _ n p (numbers_are (plan_gives lent tokens output) (planned t) output n w e) (count_is (plan_gives lent tokens output) (planned t) output n w e)
