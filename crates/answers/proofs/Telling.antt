-- What is told of an answer is small, and is what the call gave.
use mathlib.Core.Path.{◌≡◌, refl, sym, ap, ◌∙◌}
use mathlib.Core.List.{List}
use Prim.Native.Nat.{ℕ, ◌≤◌}
use native.Mathlib.Omega.{arith}
use Rattle.tables.specs.declared.Verdict.{Verdict}
use Rattle.tables.specs.declared.Verdict.TheVariants.{True, False, Refused}
use Rattle.tables.specs.declared.Judged.{Judged}
use Rattle.rules.specs.Calls.{Gives, Leaves as Left}
use Rattle.rules.specs.Places.{Small, Modest}
use Rattle.answers.specs.Answer.{written_number, written_place, written_count, written_numbers, listed_numbers, verdict_value, verdict_byte, Told, Leaves, Lists}
use Rattle.tables.specs.Refusals.{Written}
use Rattle.std.specs.Prelude.{Err, Ok}

pub place_small : (written : Written) → Small written → written_place written ≤ 640
place_small (Ok n) h = omega arith
place_small (Err refusal) h = h.0

pub count_small : (written : Written) → Small written → written_count written ≤ 640
count_small (Ok n) h = h
count_small (Err refusal) h = omega arith

pub value_small : (verdict : Verdict) → Modest verdict → verdict_value verdict ≤ 640
value_small True h = omega arith
value_small False h = omega arith
value_small (Refused refusal) h = h.0

pub byte_small : (verdict : Verdict) → Modest verdict → verdict_byte verdict ≤ 131071
byte_small True h = omega arith
byte_small False h = omega arith
byte_small (Refused refusal) h = omega (arith, h.1)

pub small_left : {gives : Gives} {written : Written} {output : List ℕ} → Left gives written output → Small gives.answer → Small written
small_left l h = rw l.answered h

pub left-told : {gives : Gives} {written : Written} {output : List ℕ} {returned : ℕ} {answer : List ℕ} → Left gives written output →
    Told (written_number written) (written_numbers written) returned answer → Leaves gives returned answer output
left-told l t =
    record {
      told = record { returns = t.returns ∙ ap written_number l.answered; answers = t.answers ∙ ap written_numbers l.answered };
      left = l.left;
    }

pub list-told : {gives : Gives} {written : Written} {output : List ℕ} {returned : ℕ} {answer : List ℕ} → Left gives written output →
    Told (written_number written) (listed_numbers written) returned answer → Lists gives returned answer output
list-told l t =
    record {
      told = record { returns = t.returns ∙ ap written_number l.answered; answers = t.answers ∙ ap listed_numbers l.answered };
      left = l.left;
    }

-- what is told of the answer that is given is told of the one that it equals
pub answer-told : {written other : Written} {returned : ℕ} {answer : List ℕ} → written ≡ other → Told (written_number written) (listed_numbers written) returned answer
    → Told (written_number other) (listed_numbers other) returned answer
answer-told w t = record { returns = t.returns ∙ ap written_number w; answers = t.answers ∙ ap listed_numbers w }
