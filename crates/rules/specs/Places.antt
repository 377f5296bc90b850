-- Every count and every place is at most 640 (proofs/Places.antt): 640 numbers hold the longest plan, 634 the longest expanded
-- form, and no table, condition or plan has as many places. Every byte is below 131,072: an item starts at 65,535 or before, and has
-- at most so many bytes.
use Rattle.std.specs.Prelude.{◌≡◌, ◌≤◌, ◌<◌, Err, Ok}
use Rattle.tables.specs.declared.Verdict.{Verdict}
use Rattle.tables.specs.declared.Verdict.TheVariants.{True, False, Refused as Unjudged}
use Rattle.tables.specs.declared.Judged.{Judged}
use Rattle.tables.specs.Refusals.{place, byte_of, Written}

-- of a writing call, which gives no byte
abbrev pub Small : Written → Type 0
Small (Ok n) = n ≤ 640
Small (Err refusal) = (place refusal ≤ 640) × (byte_of refusal ≡ 0)

-- of judge and run
abbrev pub Modest : Verdict → Type 0
Modest True = Unit {0}
Modest False = Unit {0}
Modest (Unjudged refusal) = (place refusal ≤ 640) × (byte_of refusal < 131072)

abbrev pub Fits : Judged → Type 0
Fits judged = Modest judged.verdict × (judged.count ≤ 128)
