-- The answer of `mend`, told.
use mathlib.Core.Path.{◌≡◌}
use mathlib.Core.List.{List}
use Prim.Native.Nat.{ℕ}
use Rattle.mending.specs.Mend.{mending}
use Rattle.answers.specs.Answer.{written_number, listed_numbers, Told}
use Rattle.answers.proofs.Telling.{answer-told}
use Rattle.mend_c.specs.Mending.{Mends}
use Rattle.tables.specs.Refusals.{Written}

pub mend_told : {items content list answer after listed : List ℕ} {written : Written} {returned : ℕ}
    → written ≡ (mending items content list).answer → after ≡ (mending items content list).content → listed ≡ (mending items content list).list
    → Told (written_number written) (listed_numbers written) returned answer → Mends items content list returned answer after listed
mend_told w k l t = record { told = answer-told w t; kept = k; listed = l }
