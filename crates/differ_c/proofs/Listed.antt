-- The answer of `differ`, told.
use mathlib.Core.Path.{◌≡◌}
use mathlib.Core.List.{List}
use Prim.Native.Nat.{ℕ}
use Rattle.differences.specs.Differ.{differing}
use Rattle.answers.specs.Answer.{written_number, listed_numbers, Told}
use Rattle.answers.proofs.Telling.{answer-told}
use Rattle.differ_c.specs.Differences.{Differs}
use Rattle.tables.specs.Refusals.{Written}

pub differ_told : {items first second output answer after : List ℕ} {written : Written} {returned : ℕ}
    → written ≡ (differing items first second output).answer → after ≡ (differing items first second output).output
    → Told (written_number written) (listed_numbers written) returned answer → Differs items first second output returned answer after
differ_told w l t = record { told = answer-told w t; left = l }
