-- 1 to 4 and then 18, as the code tries them.
use mathlib.Core.Path.{◌≡◌, sym, ◌∙◌}
use mathlib.Core.List.{[], ◌∷◌}
use Rattle.tables.specs.declared.Refusal.{Refusal}
use Rattle.tables.specs.Operands.{Lent}
use Rattle.tables.specs.Refusals.{first_of, Check}
use Rattle.tables.specs.Tables.{table_lines}
use Rattle.tables.proofs.Lines.{lines_before, line_sound, line_refused, line_last}
use Rattle.values.specs.Names.{name_check, lent_lines}
use Rattle.std.specs.Prelude.{Err, Ok}

module _ (lent : Lent) {t : Check} (tables : t ≡ first_of (table_lines lent)) where
  pub tables_refused : {refusal : Refusal} → t ≡ Err refusal → first_of (lent_lines lent) ≡ Err refusal
  tables_refused e = lines_before (table_lines lent) (name_check lent ∷ []) ∙ line_refused _ (sym tables ∙ e)

  pub names_tried : t ≡ Ok tt → {n : Check} → n ≡ name_check lent → n ≡ first_of (lent_lines lent)
  names_tried e names = names ∙ sym (lines_before (table_lines lent) (name_check lent ∷ []) ∙ line_sound _ (sym tables ∙ e) ∙ line_last _)
