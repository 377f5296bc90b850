-- The answer of `merge` told.
use mathlib.Core.Path.{◌≡◌, ap, ◌∙◌}
use mathlib.Core.List.{List}
use Prim.Native.Nat.{ℕ}
use Rattle.std.specs.Prelude.{Result}
use Rattle.tables.specs.declared.Refusal.{Refusal}
use Rattle.merging.specs.declared.Merged.{Merged}
use Rattle.merging.specs.Merge.{Merging}
use Rattle.merger.specs.Desk.{Leaves}
use Rattle.answers.specs.Answer.{Told}
use Rattle.record_answers.specs.Merging.{merged_number, merged_numbers}
use Rattle.merger_c.specs.Merging.{MergesTo}

pub merge_told : {merging : Merging} {given : Result Merged Refusal} {returned : ℕ} {answer merged contested : List ℕ} → Leaves merging given merged contested
    → Told (merged_number given) (merged_numbers given) returned answer → MergesTo merging returned answer merged contested
merge_told l t =
    record {
      told = record { returns = t.returns ∙ ap merged_number l.answered; answers = t.answers ∙ ap merged_numbers l.answered };
      record_is = l.record_is;
      contested_are = l.contested_are;
    }
