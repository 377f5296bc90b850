-- What the lines 1 to 9 and 18 come to, one law for each answer of the functions that try them.
use mathlib.Core.Path.{◌≡◌, refl, sym, ◌∙◌}
use mathlib.Core.Bool.{Bool}
use mathlib.Core.List.{List, []}
use Prim.Native.Nat.{ℕ, ◌≤◌}
use native.Mathlib.Omega.{arith}
use lib.ListN.{length}
use lib.Dec.{leb}
use borrow.Author.Tests.{leb-true}
use Rattle.tables.specs.declared.Refusal.{Refusal}
use Rattle.tables.specs.Operands.{Lent, lend, lend_names, under}
use Rattle.tables.specs.Refusals.{first_of, Check}
use Rattle.tables.specs.Tables.{token_count_check, token_check}
use Rattle.values.specs.Names.{lent_lines}
use Rattle.tables.proofs.Lines.{test_sound, line_sound, line_refused, line_last, lines_before, lines_sound}
use Rattle.tables.proofs.Tests.{both}
use Rattle.grammar.specs.Parser.{Reading, accepted, refused, read}
use Rattle.grammar.proofs.Lent.{typing_lent}
use Rattle.rules.specs.Calls.{typing_check, token_lines, grammar_lines, condition_lines}
use Rattle.resolver.specs.Resolved.{There, Readies, Resolves}
use Rattle.preparer.specs.Prepared.{Prepares}
use Rattle.std.specs.Prelude.{Err, Ok, Result}

-- 1 to 6
module _ (lent : Lent) (tokens : List ℕ) {t : Check} (tables : t ≡ first_of (lent_lines lent)) where
  pub tables_refused : {refusal : Refusal} → t ≡ Err refusal → Err refusal ≡ first_of (token_lines lent tokens)
  tables_refused e = sym (lines_before (lent_lines lent) _ ∙ line_refused _ (sym tables ∙ e))

  pub count_refused : t ≡ Ok tt → {n : Check} → n ≡ token_count_check tokens → {refusal : Refusal} → n ≡ Err refusal →
      Err refusal ≡ first_of (token_lines lent tokens)
  count_refused e count f = sym (lines_before (lent_lines lent) _ ∙ line_sound _ (sym tables ∙ e) ∙ line_refused _ (sym count ∙ f))

  pub tokens_checked : t ≡ Ok tt → {n : Check} → n ≡ token_count_check tokens → n ≡ Ok tt → {r : Check} → r ≡ token_check lent tokens →
      r ≡ first_of (token_lines lent tokens)
  tokens_checked e count f last =
      last ∙ sym (lines_before (lent_lines lent) _ ∙ line_sound _ (sym tables ∙ e) ∙ line_sound _ (sym count ∙ f) ∙ line_last _)

-- 1 to 9 and 18: what is resolved depends neither on the literal bytes nor on the names, nor on the rules for switch-off words
typing_check-lent : (off : Bool) (items literals bytes names : List ℕ) (reading : Reading) →
    typing_check (under off (lend_names items literals bytes names)) reading ≡ typing_check (lend items literals []) reading
typing_check-lent off items literals bytes names (accepted t) = typing_lent off items literals bytes names 0 t
typing_check-lent off items literals bytes names (refused at) = refl

module _ (off : Bool) (items literals bytes names tokens : List ℕ) {lines : Check}
    (six : lines ≡ first_of (token_lines (under off (lend_names items literals bytes names)) tokens)) where
  abbrev tables : Lent
  tables = under off (lend_names items literals bytes names)

  pub lent_refused : {refusal : Refusal} {buffer : List ℕ} → lines ≡ Err refusal →
      Prepares tables tokens (Err refusal) buffer buffer
  lent_refused e = record { readied = (lines_before (token_lines tables tokens) _ ∙ line_refused _ (sym six ∙ e), refl); untouched = λ _. refl }

  whole : lines ≡ Ok tt → first_of (condition_lines tables tokens) ≡ first_of (grammar_lines (lend items literals []) tokens)
  whole e =
      lines_before (token_lines tables tokens) _
      ∙ line_sound _ (sym six ∙ e)
      ∙ rw (typing_check-lent off items literals bytes names (read tokens))

  readied : lines ≡ Ok tt → (r : Result ℕ Refusal) (before after : List ℕ) →
      Readies (first_of (grammar_lines (lend items literals []) tokens)) (read tokens) r before after →
      Readies (first_of (condition_lines tables tokens)) (read tokens) r before after
  readied e (Ok count) before after h = (whole e ∙ h.0, h.1)
  readied e (Err refusal) before after h = (whole e ∙ h.0, h.1)

  -- what is sound is not refused
  unrefused : lines ≡ Ok tt → {refusal : Refusal} → first_of (token_lines tables tokens) ≡ Err refusal → ⊥
  unrefused e f = let z : ◌≡◌ {A = ℕ} 0 1 = cc (six, e, f) in omega arith

  pub prepared : lines ≡ Ok tt → {r : Result ℕ Refusal} {before after : List ℕ} → Resolves (lend items literals []) tokens r before after →
      Prepares tables tokens r before after
  prepared e {r} {before} {after} h = record { readied = readied e r before after h.readied; untouched = λ f. absurd (unrefused e f) }

  -- what resolving needs to know of the tokens
  pub resolvable : lines ≡ Ok tt → (length tokens ≤ 256) × There items literals tokens
  resolvable e =
      let s = lines_sound (token_lines tables tokens) (sym six ∙ e) in
      (leb-true _ _ (both (leb 1 (length tokens)) (leb (length tokens) 256) (test_sound _ _ s.1.1.1.1.1.0)).1, record { off = off; names = names; exist = s.1.1.1.1.1.1.0 })
