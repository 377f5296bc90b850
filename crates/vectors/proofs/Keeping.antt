-- Demand 3 on a case: where a plan is written, what the program tries holds.
use Rattle.std.proofs.Common.{◌≡◌, ℕ, ◌≤◌, Bool, true, false, List, length, take, drop, sym, refl, ap, ◌∙◌, subst, arith, length-take, drop_at, eq-eqb}
use lib.ListN.{length-replicate}
use Rattle.tables.specs.declared.Refusal.{Refusal}
use Rattle.tables.specs.declared.Judged.{Judged}
use Rattle.tables.specs.Operands.{Lent}
use Rattle.grammar.specs.Expanded.{expanded}
use Rattle.grammar.specs.Plan.{planned}
use Rattle.grammar.proofs.Size.{expanded_bound}
use Rattle.rules.specs.Calls.{Gives, Leaves, written_over, told, expand_gives, plan_gives}
use Rattle.rules.proofs.Passing.{few_tokens, passes_again}
use Rattle.rules.proofs.Answers.{writes-over, judges_as, runs_as}
use Rattle.rules.proofs.Demands.{counted, count_is, numbers_are}
use Rattle.vectors.specs.declared.answer.Answer.{Answer}
use Rattle.vectors.specs.Answers.{judged_as, same_answer}
use Rattle.vectors.specs.Parts.{lent_in, tokens_in, switches_in, words_of, Decodes, Held}
use Rattle.vectors.specs.Sums.{SameNumbers}
use Rattle.vectors.specs.Kept.{zeros, HasPlan, FormHasPlan, Kept}
use Rattle.tables.specs.Refusals.{Written}
use Rattle.std.specs.Prelude.{Err, Ok}

-- what was decoded is held
pub held : {raw words after : List ℕ} {r : ℕ} → Decodes raw words r after → Held r words after
held {raw} {words} {after} {r} D =
    record {
      within = omega (arith, D.counted, length-take (length words) (words_of raw));
      stays = ap (drop r) D.stands ∙ drop_at (take (length words) (words_of raw)) (drop r words) r (sym D.counted);
    }

-- what a call wrote where it has to write these numbers
module _ {gives : Gives} {given : Written} {out : List ℕ} (L : Leaves gives given out) where
  wrote : {n : ℕ} (numbers : List ℕ) → given ≡ Ok n → gives ≡ written_over numbers zeros → (take n out ≡ numbers) × (length numbers ≡ n)
  wrote {n} numbers q w =
      let e : gives.answer ≡ Ok n = sym L.answered ∙ q in
      (ap (take n) L.left ∙ numbers_are gives numbers zeros n w e, count_is gives numbers zeros n w e)

  pub same-plan : {n : ℕ} {r : Bool} (rows : List ℕ) → given ≡ Ok n → SameNumbers (take n out) rows r → gives ≡ written_over rows zeros → r ≡ true
  same-plan rows q S w = S.same (wrote rows q w).0

  pub none_written : {refusal : Refusal} (rows : List ℕ) → given ≡ Err refusal → gives ≡ written_over rows zeros → false ≡ true
  none_written {refusal} rows q w =
      let e : Ok (length rows) ≡ Err refusal = sym (ap (λ (g : Gives). g.answer) w) ∙ sym L.answered ∙ q in
      let z : ◌≡◌ {A = ℕ} 0 1 = cc in absurd (omega arith)

module _ {lent : Lent} {tokens rows : List ℕ} {given : Written} {out : List ℕ} (L : Leaves (expand_gives lent tokens zeros) given out) (F : FormHasPlan lent tokens rows) where
  pub form_plan : {n : ℕ} {r : Bool} → given ≡ Ok n → n ≤ 256 → (HasPlan lent (take n out) rows → r ≡ true) → r ≡ true
  form_plan q h p =
      let w = wrote L F.form q F.expands in
      p (subst (λ (f : List ℕ). HasPlan lent f rows) (sym w.0) (F.again (omega (arith, w.1))))

  pub none_formed : {refusal : Refusal} → given ≡ Err refusal → false ≡ true
  none_formed q = none_written L F.form q F.expands

same_self : (a : Answer) → same_answer a a ≡ true
same_self a =
    rw (eq-eqb a.number a.number refl, eq-eqb a.value a.value refl, eq-eqb a.byte a.byte refl, eq-eqb a.judged a.judged refl)

pub same-judged : {ran judged : Judged} {r : Bool} → r ≡ same_answer (judged_as ran) (judged_as judged) → ran ≡ judged → r ≡ true
same-judged {ran} {judged} e q = e ∙ ap (λ (j : Judged). same_answer (judged_as ran) (judged_as j)) (sym q) ∙ same_self (judged_as ran)

module _ (words bytes content : List ℕ) {given : Written} {out : List ℕ} {n : ℕ} (L : Leaves (plan_gives (lent_in words bytes) (tokens_in words) zeros) given out)
    (q : given ≡ Ok n) where
  pub kept : Kept words bytes content (take n out)
  unfolding plan_gives expand_gives
  kept =
      let lent = lent_in words bytes in
      let tokens = tokens_in words in
      let e : (plan_gives lent tokens zeros).answer ≡ Ok n = sym L.answered ∙ q in
      let (t, p, l) = counted lent tokens planned zeros n e in
      let rows_are : take n out ≡ planned t = (wrote L (planned t) q (writes-over p planned zeros l)).0 in
      let room : length zeros ≡ 640 = length-replicate {A = ℕ} 640 0 in
      rw rows_are
      record {
        runs = ap told (runs_as p content (switches_in words) ∙ sym (judges_as p content (switches_in words)));
        formed =
            record {
              form = expanded t;
              expands = writes-over p expanded zeros (omega (arith, expanded_bound p.accepts.derives (few_tokens p), room));
              again = λ few. writes-over (passes_again p few) planned zeros l;
            };
      }
