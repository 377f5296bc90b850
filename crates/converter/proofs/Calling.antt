-- What the converters answer, one law for each of their returns.
use mathlib.Core.Path.{◌≡◌, sym, ◌∙◌}
use mathlib.Core.Bool.{true}
use mathlib.Core.List.{List, [], ◌∷◌, ◌++◌}
use Prim.Native.Nat.{ℕ, ◌≤◌, ◌<◌}
use native.Mathlib.Omega.{arith}
use borrow.Author.Tests.{le-leb, lt-leb}
use lib.ListN.{length, drop}
use Rattle.tables.specs.declared.Refusal.{Refusal}
use Rattle.tables.specs.declared.Refusal.TheVariants.{TokenCount, Room}
use Rattle.tables.specs.Operands.{Lent, lend_names, under}
use Rattle.tables.specs.Refusals.{first_of, Check}
use Rattle.tables.proofs.Lines.{line_sound, line_refused, line_last, lines_before, lines_sound}
use Rattle.values.specs.Names.{lent_lines}
use Rattle.grammar.specs.Plan.{plan_check}
use Rattle.grammar.specs.Converted.{converted_tokens, converted_plan}
use Rattle.grammar.proofs.Lent.{plan-lent}
use Rattle.grammar.proofs.Sure.{some-rows}
use Rattle.grammar.proofs.ConvertedSound.{converted_length}
use Rattle.rules.specs.Calls.{condition_lines, room_check, Leaves}
use Rattle.rules.specs.Converting.{fit_check, convert_gives, convert_plan_gives}
use Rattle.rules.proofs.Passing.{after_lines_lem, both_sound}
use Rattle.rules.proofs.Answers.{leaves_as}
use Rattle.preparer.specs.Prepared.{Prepares}
use Rattle.std.specs.Prelude.{Err, Ok, Result}

-- a condition
module _ (lent : Lent) (tokens output : List ℕ) {r : Result ℕ Refusal} {before after : List ℕ} (p : Prepares (under true lent) tokens r before after) where
  abbrev numbers : List ℕ
  numbers = converted_tokens tokens

  abbrev lines : List Check
  lines = condition_lines (under true lent) tokens

  abbrev rest : List Check
  rest = fit_check numbers ∷ room_check numbers output ∷ []

  pub convert_refused : {refusal : Refusal} → r ≡ Err refusal → Leaves (convert_gives lent tokens output) (Err refusal) output
  unfolding convert_gives
  convert_refused {refusal} e =
      let h : first_of lines ≡ Err refusal = (rw e at p.readied).0 in
      leaves_as (rw (lines_before lines rest ∙ line_refused rest h))

  module _ {count : ℕ} (e : r ≡ Ok count) {n : ℕ} (s : n ≡ length numbers) where
    past : first_of (lines ++ rest) ≡ first_of rest
    past = after_lines_lem lines rest (rw e at p.readied).0

    pub convert_long : 256 < n → Leaves (convert_gives lent tokens output) (Err TokenCount) output
    unfolding convert_gives
    convert_long l =
        let long : fit_check numbers ≡ Err TokenCount = rw (lt-leb (length numbers) 256 (omega arith)) in
        leaves_as (rw (past ∙ line_refused _ long))

    fits : n ≤ 256 → first_of (lines ++ rest) ≡ room_check numbers output
    fits l =
        let short : fit_check numbers ≡ Ok tt = rw (le-leb (length numbers) 256 (omega arith)) in
        past ∙ line_sound _ short ∙ line_last _

    pub convert_no_room : n ≤ 256 → length output < n → Leaves (convert_gives lent tokens output) (Err (Room n)) output
    unfolding convert_gives
    convert_no_room l m = rw s (leaves_as (rw (fits l, lt-leb (length numbers) (length output) (omega arith))))

    pub convert_written : {last : List ℕ} → n ≤ 256 → n ≤ length output → last ≡ numbers ++ drop n output → Leaves (convert_gives lent tokens output) (Ok n) last
    unfolding convert_gives
    convert_written l m w = rw (w, s) (leaves_as (rw (fits l, le-leb (length numbers) (length output) (omega arith))))

-- the lines of a plan, tried in order
module _ (items literals bytes names plan : List ℕ) where
  abbrev old : Lent
  old = under true (lend_names items literals bytes names)

  abbrev checks : List Check
  checks = lent_lines old ++ plan_check old plan ∷ []

  pub lent_refused : {refusal : Refusal} → first_of (lent_lines old) ≡ Err refusal → Err refusal ≡ first_of checks
  lent_refused e = sym (lines_before (lent_lines old) (plan_check old plan ∷ []) ∙ line_refused _ e)

  -- the check of a plan is lent no literal bytes
  pub plan_tried : first_of (lent_lines old) ≡ Ok tt → {line : Check} → line ≡ plan_check (under true (lend_names items literals [] names)) plan → line ≡ first_of checks
  plan_tried e f = f ∙ sym (after_lines_lem (lent_lines old) (plan_check old plan ∷ []) e ∙ line_last _ ∙ plan-lent true items literals bytes names plan)

  module _ (output : List ℕ) {line : Check} (tried : line ≡ first_of checks) where
    abbrev room : List Check
    room = room_check (converted_plan plan) output ∷ []

    pub plan_refused : {refusal : Refusal} → line ≡ Err refusal → Leaves (convert_plan_gives (lend_names items literals bytes names) plan output) (Err refusal) output
    unfolding convert_plan_gives
    plan_refused e = leaves_as (rw (lines_before checks room ∙ line_refused _ (sym tried ∙ e)))

    module _ (e : line ≡ Ok tt) where
      -- a sound plan is rows of five, so that it is as long as the converted one
      pub plan_size : length plan ≡ length (converted_plan plan)
      plan_size =
          let s = (both_sound (lent_lines old) (plan_check old plan ∷ []) (sym tried ∙ e)).1 in
          omega (arith, converted_length plan, some-rows old plan (lines_sound _ s).0)

      room-left : first_of (checks ++ room) ≡ room_check (converted_plan plan) output
      room-left = after_lines_lem checks room (sym tried ∙ e) ∙ line_last _

      module _ {n : ℕ} (s : n ≡ length (converted_plan plan)) where
        pub plan_no_room : length output < n → Leaves (convert_plan_gives (lend_names items literals bytes names) plan output) (Err (Room n)) output
        unfolding convert_plan_gives
        plan_no_room l = rw s (leaves_as (rw (room-left, lt-leb (length (converted_plan plan)) (length output) (omega arith))))

        pub plan-written : {last : List ℕ} → n ≤ length output → last ≡ converted_plan plan ++ drop (length (converted_plan plan)) output →
            Leaves (convert_plan_gives (lend_names items literals bytes names) plan output) (Ok n) last
        unfolding convert_plan_gives
        plan-written l w = rw (w, s) (leaves_as (rw (room-left, le-leb (length (converted_plan plan)) (length output) (omega arith))))
