-- The loop that follows a plan's targets: what it keeps, and where it ends.
use mathlib.Core.Path.{◌≡◌, refl, sym, ap, ap₂, ◌∙◌}
use mathlib.Core.List.{List}
use Prim.Native.Nat.{ℕ, zero, suc, ◌+◌, ◌-◌, ◌<◌, ◌≤◌}
use lib.ListN.{length}
use Rattle.tables.specs.declared.Judged.{Judged}
use Rattle.rules.specs.Calls.{told}
use native.Mathlib.Omega.{arith}
use Rattle.tables.specs.declared.Outcome.{Outcome}
use Rattle.tables.specs.declared.Outcome.TheVariants.{True as Holds, False as Fails, Stopped}
use Rattle.tables.specs.declared.Stop.{Stop}
use Rattle.tables.specs.declared.Verdict.{Verdict}
use Rattle.tables.specs.declared.Verdict.TheVariants.{True, False, Refused}
use Rattle.tables.specs.Operands.{Lent}
use Rattle.values.specs.Truth.{Readable}
use Rattle.grammar.specs.Judging.{Outcomes, when, stopped, at}
use Rattle.grammar.specs.Plan.{on_true, on_false, plan_row, plan_rows, follow, run, reached, run_visits, running}
use Rattle.grammar.proofs.Sure.{Later, Sure, some-rows, sure}
use Rattle.grammar.proofs.Segment.{follow-row, follow_true, follow_false, reached-row, reached_true, reached_false, run-count}
use Rattle.runner.specs.Runs.{Runnable}

module _ (lent : Lent) (plan content : List ℕ) (p : Runnable lent plan content) where
  pub certain : (k : ℕ) → k < plan_rows plan → Sure lent (plan_rows plan) k (plan_row plan k)
  certain = sure lent plan p.sound

  -- the simple condition of row k can be read
  pub readable : (k : ℕ) → k < plan_rows plan → Readable lent content (plan_row plan k).subject (plan_row plan k).relation (plan_row plan k).object
  readable k h = let s = certain k h in record { tables = p.tables; holds = p.holds; shape = s.shape; well = s.well }

-- The run has come to k: with enough rows left to go through, the rest of the run is the whole.
pub record Going (out : Outcomes) (plan : List ℕ) (k count : ℕ) : Type 0 where
  pub top : k ≤ on_true
  pub inside : k < on_false → k < plan_rows plan
  pub left : ℕ
  pub enough : plan_rows plan - k ≤ left
  pub same : follow out (plan_row plan) left k ≡ run out plan
  pub counted : count + length (reached out (plan_row plan) left k) ≡ length (run_visits out plan)

module _ (lent : Lent) (plan content : List ℕ) (p : Runnable lent plan content) (out : Outcomes) where
  pub start : Going out plan 0 0
  unfolding run run_visits
  start =
      let s = some-rows lent plan p.sound in
      record { top = omega arith; inside = λ _. s.1; left = plan_rows plan; enough = omega arith; same = refl; counted = omega arith }

  -- what row k comes to
  abbrev pub found : ℕ → Outcome
  found k = out (plan_row plan k).subject (plan_row plan k).relation (plan_row plan k).object

  -- to a target of row k, where one row less is left
  goes : (k target count : ℕ) → Going out plan k count → k < on_false → Later (plan_rows plan) k target →
      ((m : ℕ) → follow out (plan_row plan) (suc m) k ≡ follow out (plan_row plan) m target) →
      ((m : ℕ) → length (reached out (plan_row plan) (suc m) k) ≡ suc (length (reached out (plan_row plan) m target))) → Going out plan target (count + 1)
  goes k target count g l t e f = go g.left g.enough g.same g.counted
    where
      go : (m : ℕ) → plan_rows plan - k ≤ m → follow out (plan_row plan) m k ≡ run out plan →
          count + length (reached out (plan_row plan) m k) ≡ length (run_visits out plan) → Going out plan target (count + 1)
      go zero n h c = absurd (omega (arith, g.inside l))
      go (suc m) n h c =
          record { top = t.top; inside = t.inside; left = m; enough = omega (arith, t.after); same = sym (e m) ∙ h; counted = omega (arith, f m) }

  pub goes_true : (k count : ℕ) → Going out plan k count → k < on_false → found k ≡ Holds → Going out plan (plan_row plan k).holds (count + 1)
  unfolding when at
  goes_true k count g l e =
      goes k (plan_row plan k).holds count g l (certain lent plan content p k (g.inside l)).holds
      (λ m. follow-row out (plan_row plan) m k l ∙ rw e) (λ m. ap length (reached-row out (plan_row plan) m k l) ∙ rw e)

  pub goes_false : (k count : ℕ) → Going out plan k count → k < on_false → found k ≡ Fails → Going out plan (plan_row plan k).fails (count + 1)
  unfolding when at
  goes_false k count g l e =
      goes k (plan_row plan k).fails count g l (certain lent plan content p k (g.inside l)).fails
      (λ m. follow-row out (plan_row plan) m k l ∙ rw e) (λ m. ap length (reached-row out (plan_row plan) m k l) ∙ rw e)

  -- the count never passes the rows
  pub few : (k count : ℕ) → Going out plan k count → k < on_false → count < 128
  few k count g l = go g.left g.enough g.counted
    where
      go : (m : ℕ) → plan_rows plan - k ≤ m → count + length (reached out (plan_row plan) m k) ≡ length (run_visits out plan) → count < 128
      go zero n c = absurd (omega (arith, g.inside l))
      go (suc m) n c = omega (arith, ap length (reached-row out (plan_row plan) m k l), run-count out plan, some-rows lent plan p.sound)

  abbrev Answer : Verdict → ℕ → Type 0
  Answer verdict count = ◌≡◌ {A = Judged} (record { verdict = verdict; count = count }) (told (running out plan))

  answer : {v : Verdict} {n : ℕ} → v ≡ run out plan → n ≡ length (run_visits out plan) → Answer v n
  answer e f = ap₂ (λ v n. record { verdict = v; count = n }) e f

  pub stops : (k count : ℕ) {stop : Stop} → Going out plan k count → k < on_false → found k ≡ Stopped stop → Answer (Refused (stopped k stop)) (count + 1)
  unfolding when at
  stops k count {stop} g l e = go g.left g.enough g.same g.counted
    where
      go : (m : ℕ) → plan_rows plan - k ≤ m → follow out (plan_row plan) m k ≡ run out plan →
          count + length (reached out (plan_row plan) m k) ≡ length (run_visits out plan) → Answer (Refused (stopped k stop)) (count + 1)
      go zero n h c = absurd (omega (arith, g.inside l))
      go (suc m) n h c =
          let one : length (reached out (plan_row plan) (suc m) k) ≡ 1 = ap length (reached-row out (plan_row plan) m k l) ∙ rw e in
          answer (sym (follow-row out (plan_row plan) m k l ∙ rw e) ∙ h) (omega arith)

  pub ends_true : (k count : ℕ) → Going out plan k count → k ≡ on_true → Answer True count
  ends_true k count g e =
      answer (sym (follow_true out (plan_row plan) g.left) ∙ ap (follow out (plan_row plan) g.left) (sym e) ∙ g.same)
      (let none : length (reached out (plan_row plan) g.left k) ≡ 0 =
      ap (λ j. length (reached out (plan_row plan) g.left j)) e ∙ ap length (reached_true out (plan_row plan) g.left) in omega (arith, g.counted))

  pub ends_false : (k count : ℕ) → Going out plan k count → k ≡ on_false → Answer False count
  ends_false k count g e =
      answer (sym (follow_false out (plan_row plan) g.left) ∙ ap (follow out (plan_row plan) g.left) (sym e) ∙ g.same)
      (let none : length (reached out (plan_row plan) g.left k) ≡ 0 =
      ap (λ j. length (reached out (plan_row plan) g.left j)) e ∙ ap length (reached_false out (plan_row plan) g.left) in omega (arith, g.counted))
