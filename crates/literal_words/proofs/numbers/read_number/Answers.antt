-- `read_number` meets its contract.
use mathlib.Core.Path.{sym, ap, ap₂, ◌∙◌}
use mathlib.Core.Bool.{Bool, true, false, cond}
use lib.ListN.{length}
use Rattle.std.proofs.lemmas.Grind.{common_steps}
use Rattle.content.specs.WrongByte.{valid_content}
use Rattle.spelling.specs.Literals.{without_point}
use Rattle.literal_words.specs.Found.{row_by}
use native.Mathlib.Omega.{arith}
use Rattle.literal_bytes.proofs.Parting.{place-within}
use Rattle.literal_words.proofs.Numerals.{too_short, too_long, point_last, row_unsound, by_content}
use Rattle.literal_words.proofs.numbers.read_number.Goals as goal

pub returns-then-n-eq0 : goal.returns-then-n-eq0
returns-then-n-eq0 c = too_short c.args.word.now c.if-n-eq0.true

pub returns-then-n-gt20 : goal.returns-then-n-gt20
returns-then-n-gt20 c = too_long c.args.word.now c.if-n-gt20.true

pub returns-then-word-n-eq46 : goal.returns-then-word-n-eq46
returns-then-word-n-eq46 c = point_last c.args.word.now c.if-word-n-eq46.true

pub row_of_number-row-requires : goal.row_of_number-row-requires
row_of_number-row-requires c =
    omega (arith, place-within c.args.word.now, c.point_place-p.ensures, c.if-n-gt20.false)

pub returns-then-not-row_sound : goal.returns-then-not-row_sound
returns-then-not-row_sound c = grind (arith, common_steps, length, row_unsound)

pub returns-then-not-number_content : goal.returns-then-not-number_content
returns-then-not-number_content c =
    let word = c.args.word.now in
    by_content word c.row_of_number-row.result (c.row_of_number-row.ensures ∙ ap₂ (row_by (length word)) c.point_place-p.ensures c.is_sign-signed.ensures)
    false (λ e. omega arith) (sym c.row_sound.ensures ∙ c.if-not-row_sound.false) (λ digits. sym c.if-not-number_content.true ∙ c.number_content.ensures digits ∙ ap (λ (s : Bool). valid_content (cond s 5 3) digits (without_point word)) c.is_sign-signed.ensures)

pub returns : goal.returns
returns c =
    let word = c.args.word.now in
    by_content word c.row_of_number-row.result (c.row_of_number-row.ensures ∙ ap₂ (row_by (length word)) c.point_place-p.ensures c.is_sign-signed.ensures)
    true (λ e. omega arith) (sym c.row_sound.ensures ∙ c.if-not-row_sound.false) (λ digits. sym c.if-not-number_content.false ∙ c.number_content.ensures digits ∙ ap (λ (s : Bool). valid_content (cond s 5 3) digits (without_point word)) c.is_sign-signed.ensures)
