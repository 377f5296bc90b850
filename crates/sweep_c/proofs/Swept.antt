-- The answer of `sweep` told.
use mathlib.Core.Path.{◌≡◌, ap, ◌∙◌}
use mathlib.Core.List.{List}
use Prim.Native.Nat.{ℕ}
use Rattle.std.specs.Prelude.{Result}
use Rattle.sweeps.specs.declared.Unswept.{Unswept}
use Rattle.sweeps.specs.Sweep.{Sweep, Leaves}
use Rattle.answers.specs.Answer.{Told}
use Rattle.record_answers.specs.Sweeping.{swept_number, swept_numbers}
use Rattle.sweep_c.specs.Sweeping.{SweepsTo}

pub sweep_told : {sweep : Sweep} {given : Result ℕ Unswept} {returned : ℕ} {answer answers : List ℕ} → Leaves sweep given answers
    → Told (swept_number given) (swept_numbers given) returned answer → SweepsTo sweep returned answer answers
sweep_told l t =
    record {
      told = record { returns = t.returns ∙ ap swept_number l.answered; answers = t.answers ∙ ap swept_numbers l.answered };
      left = l.left;
    }
