-- The loop's invariant: the check of all tokens is the check of those from `at` on, with at most 16 brackets open.
use Prim.Native.Nat.{ℕ, suc, pred, ◌+◌, ◌-◌, ◌≤◌, ◌<◌}
use native.Mathlib.Omega.{arith}
use native.Mathlib.Numerals.{add-one}
use mathlib.Core.Path.{◌≡◌, refl, sym, ◌∙◌}
use mathlib.Core.Bool.{Bool, true, false, cond, ◌&&◌, true≢false}
use mathlib.Core.List.{List}
use lib.Dec.{eqb}
use lib.ListN.{length, get_or, drop, drop_of_length-le}
use lib.Seq.{drop-cons}
use borrow.Author.Tests.{eqb-false}
use Rattle.tables.specs.declared.Refusal.TheVariants.{Depth}
use Rattle.tables.proofs.Tests.{both}
use Rattle.grammar.specs.Depth.{depth_from, depth_check}
use Rattle.brackets.proofs.check_depth.Invariants.{Reached}
use Rattle.brackets.proofs.check_depth.Goals as goal
use Rattle.tables.specs.Refusals.{Check}
use Rattle.std.specs.Prelude.{Err, Ok}

-- with the tests as variables, so that their cases are told apart here
go_on : (F : ℕ → Check) (refused : Check) (opens full : Bool) (m n : ℕ) → opens && full ≡ false →
    cond opens (cond full refused (F m)) (F n) ≡ F (cond opens m n)
go_on F refused true true m n e = absurd (true≢false e)
go_on F refused true false m n e = refl
go_on F refused false full m n e = refl

few : (opens closes : Bool) (n : ℕ) → n ≤ 16 → opens && eqb n 16 ≡ false → cond opens (suc n) (cond closes (pred n) n) ≤ 16
few true closes n h e = let k : suc n ≤ 16 = omega (arith, eqb-false n 16 e) in k
few false true n h e = let k : pred n ≤ 16 = omega arith in k
few false false n h e = h

module _ {tokens : List ℕ} {opened at : ℕ} (r : Reached tokens opened at) where
  further : at < length tokens → eqb (get_or tokens at 0) 262144 && eqb opened 16 ≡ false → {n : ℕ} →
      n ≡ cond (eqb (get_or tokens at 0) 262144) (suc opened) (cond (eqb (get_or tokens at 0) 262145) (pred opened) opened) → Reached tokens n (at + 1)
  unfolding depth_from
  further h e p =
      rw p
      (record {
        within = omega arith;
        most = few (eqb (get_or tokens at 0) 262144) (eqb (get_or tokens at 0) 262145) opened r.most e;
        same =
            r.same
            ∙ rw (drop-cons tokens at 0 h, add-one at)
            (go_on (λ n. depth_from (suc at) n (drop (suc at) tokens)) (Err (Depth at)) (eqb (get_or tokens at 0) 262144) (eqb opened 16) _ _ e);
      })

  full : at < length tokens → eqb (get_or tokens at 0) 262144 && eqb opened 16 ≡ true → Err (Depth at) ≡ depth_check tokens
  unfolding depth_from
  full h e = let p = both (eqb (get_or tokens at 0) 262144) (eqb opened 16) e in sym (r.same ∙ rw (drop-cons tokens at 0 h, p.0, p.1))

  ended : length tokens ≤ at → Ok tt ≡ depth_check tokens
  unfolding depth_from
  ended h = sym (r.same ∙ rw (drop_of_length-le tokens h))

pub returns-then-token-opened : goal.returns-then-token-opened
returns-then-token-opened c = full c.loop-at.invariant c.loop-at-test.true c.if-token-opened.true

pub loop-at-preserved : goal.loop-at-preserved
loop-at-preserved c =
    further c.loop-at.invariant c.loop-at-test.true c.if-token-opened.false c.opened_after-opened.ensures

pub returns : goal.returns
returns c = ended c.loop-at.invariant c.loop-at-test.false
