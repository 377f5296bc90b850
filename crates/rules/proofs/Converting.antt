-- Document 02, l): what the converters give means what was converted.
use mathlib.Core.Path.{◌≡◌, refl, sym, ap, ap₂, ◌∙◌}
use mathlib.Core.Bool.{Bool, true, false, cond, not}
use mathlib.Core.List.{List, [], ◌∷◌, ◌++◌}
use Prim.Native.Nat.{ℕ, ◌+◌, ◌-◌, ◌/◌, ◌%◌, ◌≤◌}
use native.Mathlib.Omega.{arith}
use borrow.Author.Tests.{eqb-true, le-leb, leb-true}
use lib.ListN.{length, take, drop}
use lib.Seq.{take_at}
use Rattle.tables.specs.declared.Verdict.TheVariants.{True, False, Refused as Stopped}
use Rattle.tables.specs.Tokens.{is_off, is_name}
use Rattle.tables.specs.Operands.{Lent, under, operand_sound, alone_sound}
use Rattle.tables.specs.Refusals.{Check, Written, first_of}
use Rattle.tables.specs.Tables.{token_count_check, token_check, record_check}
use Rattle.values.specs.Names.{lent_lines}
use Rattle.tables.proofs.Lines.{test_sound, line_sound, line_last, lines_sound}
use Rattle.typing.specs.declared.Test.{Test}
use Rattle.typing.specs.declared.Test.TheVariants.{Alone, Relation, Class, Sign, Unknown}
use Rattle.typing.specs.Tests.{test_of}
use Rattle.typing.specs.Shape.{shape_sound}
use Rattle.typing.specs.Typing.{typed}
use Rattle.compare.specs.Switches.{switch_on, switch_holds}
use Rattle.values.specs.Truth.{truth, outcome}
use Rattle.grammar.specs.Grammar.{Tree, simple, negated, bracketed, both, either}
use Rattle.grammar.specs.Judging.{when, at, judged, visited, Walk, walk, judging}
use Rattle.grammar.specs.Parser.{accepted as a-tree}
use Rattle.grammar.proofs.Reading.{complete}
use Rattle.grammar.specs.Plan.{planned, plan_row, plan_rows, plan_check, run, run_visits, running}
use Rattle.grammar.specs.Converted.{on_token, converted_tokens, negated_if, tree_on, converted_tree, on_visits, converted_plan}
use Rattle.grammar.proofs.Judging.{some_leaf}
use Rattle.grammar.proofs.Size.{rows_bound}
use Rattle.grammar.proofs.Sure.{some-rows, sure}
use Rattle.grammar.proofs.Planned.{Each, ShapedTree}
use Rattle.grammar.proofs.Shapes.{shaped}
use Rattle.grammar.proofs.Converted.{converted_derives, converted_planned}
use Rattle.grammar.proofs.ConvertedWalk.{Opposite, converted_judged, converted_visited, converted_runs, visits_length}
use Rattle.grammar.proofs.ConvertedSound.{converted_tokens_lem, converted_depth, off_switch, on_typed, typed_rules, converted_count, converted_row, converted_plan_sound}
use Rattle.rules.specs.Calls.{condition_lines, room_check, writes, plan_gives, answers, told, judge_walk, run_walk}
use Rattle.rules.specs.Demands.{WellTyped, Accepted}
use Rattle.rules.specs.Converting.{fit_check, convert_gives, convert_plan_gives, Converted, ConditionsConvert, ConvertedRun, PlansConvert, RetiredWords}
use Rattle.rules.proofs.Passing.{after_lines_lem, both_sound, Passes, passed, tables_pass, tokens_exist, read_as}
use Rattle.rules.proofs.Answers.{room-left, judges_as, plan-passes, after-plan}
use Rattle.rules.proofs.Demands.{demand_three}
use Rattle.std.specs.Prelude.{Err, Ok}

-- a sequence has one tree
one_tree : {lent : Lent} {tokens : List ℕ} {t u : Tree} → Accepted lent tokens t → Accepted lent tokens u → t ≡ u
one_tree {tokens = tokens} {t} {u} a b =
    let p = complete tokens t a.derives in
    let q = complete tokens u b.derives in
    let e : a-tree t ≡ a-tree u = sym p ∙ q in
    cc

-- an off switch gives the opposite of its on switch, under either rules
module _ (lent : Lent) (content : List ℕ) (switches : ℕ) where
  turned-truth : (n : ℕ) (b : Bool) → at n (truth b) ≡ when (at n (truth (not b))) False True Stopped
  unfolding at when
  turned-truth n true = refl
  turned-truth n false = refl

  switch_opposite : (a n : ℕ) → is_off a ≡ true → at n (truth (switch_holds switches (on_token a))) ≡ when (at n (truth (switch_holds switches a))) False True Stopped
  unfolding switch_holds
  switch_opposite a n e =
      let k : a / 65536 ≡ 3 = eqb-true (a / 65536) 3 e in
      let q : (a - 65536) / 65536 ≡ 2 = omega arith in
      let v : (a - 65536) % 65536 ≡ a % 65536 = omega arith in
      rw (q, k, v) (turned-truth n (switch_on switches (a % 65536)))

  opposite : (shapes : Lent) (a r b : ℕ) → shape_sound shapes (test_of r) a b ≡ true → Opposite (outcome lent content switches) a r b
  unfolding outcome
  opposite shapes a r b h e n =
      let k : a / 65536 ≡ 3 = eqb-true (a / 65536) 3 e in
      let q : (a - 65536) / 65536 ≡ 2 = omega arith in
      let here : is_name a ≡ false = rw k in
      let there : is_name (on_token a) ≡ false = rw q in
      rw (off_switch shapes r a b h e, here, there) (switch_opposite a n e)

  opposite_tree : (shapes : Lent) (t : Tree) → ShapedTree shapes t → Each (Opposite (outcome lent content switches)) t
  opposite_tree shapes (simple a r b) h = opposite shapes a r b h
  opposite_tree shapes (negated t) h = opposite_tree shapes t h
  opposite_tree shapes (bracketed t) h = opposite_tree shapes t h
  opposite_tree shapes (both t u) h = (opposite_tree shapes t h.0, opposite_tree shapes u h.1)
  opposite_tree shapes (either t u) h = (opposite_tree shapes t h.0, opposite_tree shapes u h.1)

-- truth does not ask whether there are off words
outcome_rules : (lent : Lent) (content : List ℕ) (switches : ℕ) → outcome (under false lent) content switches ≡ outcome (under true lent) content switches
unfolding outcome
outcome_rules lent content switches = refl

-- typing of the converted tree
typed_if : (lent : Lent) (w : Bool) (t : Tree) → WellTyped lent t → WellTyped lent (negated_if w t)
typed_if lent true t h = h
typed_if lent false t h = h

module _ (lent : Lent) where
  typed_simple : (w : Bool) (a r b : ℕ) → typed (under true lent) a r b ≡ true → shape_sound (under true lent) (test_of r) a b ≡ true →
      WellTyped (under false lent) (tree_on w (simple a r b))
  unfolding tree_on
  typed_simple w a r b h s = go (is_off a) refl
    where
      go : (f : Bool) → is_off a ≡ f → WellTyped (under false lent) (cond f (negated_if (not w) (simple (on_token a) r b)) (negated_if w (simple a r b)))
      go true e = typed_if (under false lent) (not w) (simple (on_token a) r b) (on_typed (under false lent) r (on_token a) b (off_switch (under true lent) r a b s e))
      go false e = typed_if (under false lent) w (simple a r b) (sym (typed_rules lent a r b) ∙ h)

  typed_on : (w : Bool) (t : Tree) → WellTyped (under true lent) t → ShapedTree (under true lent) t → WellTyped (under false lent) (tree_on w t)
  unfolding tree_on
  typed_on w (simple a r b) h s = typed_simple w a r b h s
  typed_on w (negated t) h s = typed_if (under false lent) w (tree_on true t) (typed_on true t h s)
  typed_on w (bracketed t) h s = typed_if (under false lent) w (bracketed (tree_on false t)) (typed_on false t h s)
  typed_on w (both t u) h s =
      typed_if (under false lent) w (both (tree_on false t) (tree_on false u)) (typed_on false t h.0 s.0, typed_on false u h.1 s.1)
  typed_on w (either t u) h s =
      typed_if (under false lent) w (either (tree_on false t) (tree_on false u)) (typed_on false t h.0 s.0, typed_on false u h.1 s.1)

-- a condition that the old rules let pass
module _ (lent : Lent) {tokens : List ℕ} {t : Tree} (p : Passes (under true lent) tokens t) where
  shapes : ShapedTree (under true lent) t
  shapes = shaped (under true lent) p.accepts.derives (tokens_exist p)

  -- converted, where it is not too long, the new rules let it pass
  pub passes_on : length (converted_tokens tokens) ≤ 256 → Passes (under false lent) (converted_tokens tokens) (converted_tree t)
  unfolding first_of
  passes_on l =
      let h = converted_derives p.accepts.derives in
      record {
        token_lines_lem =
            after_lines_lem (lent_lines (under false lent)) (token_count_check (converted_tokens tokens) ∷ token_check (under false lent) (converted_tokens tokens) ∷ []) (tables_pass p)
            ∙ rw (
              le-leb 1 (length (converted_tokens tokens)) (omega (arith, rows_bound h, some_leaf (converted_tree t))),
              le-leb (length (converted_tokens tokens)) 256 l,
              converted_tokens_lem lent tokens (tokens_exist p),
            );
        shallow = converted_depth tokens p.shallow;
        accepts = record { derives = h; typed = typed_on lent false t p.accepts.typed shapes };
      }

  module _ (content : List ℕ) (switches : ℕ) where
    verdict_on : judged (outcome (under false lent) content switches) 0 (converted_tree t) ≡ judged (outcome (under true lent) content switches) 0 t
    verdict_on =
        rw (outcome_rules lent content switches)
        (converted_judged (outcome (under true lent) content switches) t (opposite_tree (under true lent) content switches (under true lent) t shapes))

    visits_on : visited (outcome (under false lent) content switches) 0 (converted_tree t) ≡ on_visits (visited (outcome (under true lent) content switches) 0 t)
    visits_on =
        rw (outcome_rules lent content switches)
        (converted_visited (outcome (under true lent) content switches) t (opposite_tree (under true lent) content switches (under true lent) t shapes))

-- two walks that judge the same conditions, one by on switches, after the same line
answers_on : (line : Check) (w : Walk) → answers line (walk w.verdict (on_visits w.visits)) ≡ walk (answers line w).verdict (on_visits (answers line w).visits)
unfolding on_visits
answers_on (Ok _) w = refl
answers_on (Err refusal) w = refl

told_on : (v : Walk) (w : Walk) → v ≡ walk w.verdict (on_visits w.visits) → told v ≡ told w
told_on v w e = ap told e ∙ rw (visits_length w.visits)

-- the plan that was written of a condition that passes is that of its tree
old_plan_is : {lent : Lent} {tokens : List ℕ} {t : Tree} → Passes lent tokens t → (output : List ℕ) (m : ℕ) → (plan_gives lent tokens output).answer ≡ Ok m →
    take m (plan_gives lent tokens output).output ≡ planned t
old_plan_is {lent} {tokens} {t} p output m e = (demand_three lent tokens output m e).rows ∙ ap planned (one_tree (demand_three lent tokens output m e).accepted p.accepts)

-- what a condition converts to
module _ (lent : Lent) {tokens : List ℕ} {t : Tree} (p : Passes (under true lent) tokens t) (l : length (converted_tokens tokens) ≤ 256) where
  judge_on : (content : List ℕ) (switches : ℕ) → judge_walk (under false lent) (converted_tokens tokens) content switches
      ≡ walk (judge_walk (under true lent) tokens content switches).verdict (on_visits (judge_walk (under true lent) tokens content switches).visits)
  judge_on content switches =
      judges_as (passes_on lent p l) content switches
      ∙ ap (answers (record_check lent content)) (ap₂ walk (verdict_on lent p content switches) (visits_on lent p content switches))
      ∙ answers_on (record_check lent content) (judging (outcome (under true lent) content switches) t)
      ∙ ap (λ w. walk w.verdict (on_visits w.visits)) (sym (judges_as p content switches))

  -- the plan of the new condition, whatever the output, is the converted plan of the old one
  plan_on : (other : List ℕ) → plan_gives (under false lent) (converted_tokens tokens) other ≡ convert_plan_gives lent (planned t) other
  unfolding plan_gives convert_plan_gives
  plan_on other =
      let q = passes_on lent p l in
      let rest = room_check (converted_plan (planned t)) other ∷ [] in
      rw (
        room-left q planned other,
        read_as q,
        after_lines_lem (lent_lines (under true lent)) (plan_check (under true lent) (planned t) ∷ rest) (tables_pass p),
        line_sound rest (plan-passes p),
        line_last,
        converted_planned t,
      )

  means : Converted lent tokens (converted_tokens tokens)
  means =
      record {
        tree = t;
        accepted = p.accepts;
        accepted_on = (passes_on lent p l).accepts;
        tokens_are = refl;
        judges = λ content switches. told_on _ (judge_walk (under true lent) tokens content switches) (judge_on content switches);
        visits = λ content switches. ap (λ w. w.visits) (judge_on content switches);
        one_plan = λ output m e other.
            let h = old_plan output m e in
            rw h (plan_on other);
      }
    where
      old_plan : (output : List ℕ) (m : ℕ) → (plan_gives (under true lent) tokens output).answer ≡ Ok m → take m (plan_gives (under true lent) tokens output).output ≡ planned t
      old_plan output m e = old_plan_is p output m e

-- the numbers that a converter counted
module _ (numbers output : List ℕ) where
  written_count : (line : Check) (n : ℕ) → (writes line numbers output).answer ≡ Ok n → (line ≡ Ok tt) × (take n (writes line numbers output).output ≡ numbers)
  written_count (Ok _) n e = (refl, count_of n e)
    where
      count_of : (n : ℕ) → ◌≡◌ {A = Written} (Ok (length numbers)) (Ok n) → take n (numbers ++ drop (length numbers) output) ≡ numbers
      count_of n e = let c : length numbers ≡ n = cc in take_at numbers (drop (length numbers) output) n c
  written_count (Err refusal) n e = absurd (let z : ◌≡◌ {A = ℕ} 0 1 = cc in omega arith)

-- an off token is no token under the new rules, and no row has one
pub retired_words : RetiredWords
retired_words lent x e =
    record {
      token = rw (eqb-true (x / 65536) 3 e);
      row = λ r b. go (test_of r) b;
    }
  where
    no_operand : operand_sound (under false lent) x ≡ false
    no_operand = rw (eqb-true (x / 65536) 3 e)

    no_switch : alone_sound (under false lent) x ≡ false
    no_switch = rw (eqb-true (x / 65536) 3 e)

    go : (test : Test) (b : ℕ) → shape_sound (under false lent) test x b ≡ false
    go Alone b = rw no_switch
    go (Relation word flag) b = rw no_operand
    go (Class word flag) b = rw no_operand
    go (Sign word flag) b = rw no_operand
    go Unknown b = refl

pub conditions_convert : ConditionsConvert
unfolding convert_gives
conditions_convert lent tokens output n e =
    let (s, f) = written_count (converted_tokens tokens) output _ n e in
    let (c, g) = both_sound (condition_lines (under true lent) tokens) (fit_check (converted_tokens tokens) ∷ room_check (converted_tokens tokens) output ∷ []) s in
    let (t, p) = passed (under true lent) tokens c in
    let l = leb-true _ _ (test_sound _ _ (lines_sound _ g).0) in
    rw f (means lent p l)

-- a plan that the old rules let pass
module _ (lent : Lent) (plan : List ℕ) (s : plan_check (under true lent) plan ≡ Ok tt) where
  module _ (content : List ℕ) (switches : ℕ) where
    run_on : running (outcome (under false lent) content switches) (converted_plan plan)
        ≡ walk (running (outcome (under true lent) content switches) plan).verdict (on_visits (running (outcome (under true lent) content switches) plan).visits)
    unfolding run run_visits
    run_on =
        let out = outcome (under true lent) content switches in
        let r = converted_runs out (plan_row plan) (plan_row (converted_plan plan)) (plan_rows plan) (converted_row plan)
        (λ k l. let h = sure (under true lent) plan s k l in (h.holds, h.fails))
        (λ k l. opposite (under true lent) content switches (under true lent) _ _ _ (sure (under true lent) plan s k l).shape)
        (plan_rows plan) (omega (arith, some-rows (under true lent) plan s)) in
        rw (outcome_rules lent content switches, converted_count plan) (ap₂ walk r.0 r.1)

    plan-walk : first_of (lent_lines (under true lent)) ≡ Ok tt → run_walk (under false lent) (converted_plan plan) content switches
        ≡ walk (run_walk (under true lent) plan content switches).verdict (on_visits (run_walk (under true lent) plan content switches).visits)
    plan-walk h =
        after-plan (under false lent) (converted_plan plan) content switches h (converted_plan_sound lent plan s)
        ∙ ap (answers (record_check lent content)) run_on
        ∙ answers_on (record_check lent content) (running (outcome (under true lent) content switches) plan)
        ∙ ap (λ w. walk w.verdict (on_visits w.visits)) (sym (after-plan (under true lent) plan content switches h s))

  run_means : first_of (lent_lines (under true lent)) ≡ Ok tt → ConvertedRun lent plan (converted_plan plan)
  run_means h =
      record {
        numbers_are = refl;
        runs = λ content switches. told_on _ (run_walk (under true lent) plan content switches) (plan-walk content switches h);
        visits = λ content switches. ap (λ w. w.visits) (plan-walk content switches h);
      }

pub plans_convert : PlansConvert
unfolding convert_plan_gives
plans_convert lent plan output n e =
    let (s, f) = written_count (converted_plan plan) output _ n e in
    let (c, g) = both_sound (lent_lines (under true lent)) (plan_check (under true lent) plan ∷ room_check (converted_plan plan) output ∷ []) s in
    rw f (run_means lent plan (lines_sound (plan_check (under true lent) plan ∷ room_check (converted_plan plan) output ∷ []) g).0 c)
