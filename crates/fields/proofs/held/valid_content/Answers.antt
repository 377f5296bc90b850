-- `valid_content` meets its contract, by the kind: from what the tests of the parts ensure. Assumes nothing.
use mathlib.Core.Path.{sym, ap, ap₂, ◌∙◌}
use mathlib.Core.Bool.{◌&&◌}
use Rattle.content.specs.Content.{all, is_digit}
use Rattle.content.proofs.Bytes.{but_first_lem}
use Rattle.content.proofs.WrongByte.{valid_digits, valid_signed, valid_leading, valid_trailing, valid_letters, valid_packed, valid_other}
use Rattle.fields.proofs.held.valid_content.Goals as goal

pub returns-then-kind-eq-UNSIGNED : goal.returns-then-kind-eq-UNSIGNED
returns-then-kind-eq-UNSIGNED c = rw (c.if-kind-eq-UNSIGNED.true, valid_digits) c.all_digits.ensures

pub returns-then-kind-eq-SIGNED : goal.returns-then-kind-eq-SIGNED
returns-then-kind-eq-SIGNED c =
    rw (c.if-kind-eq-SIGNED.true, valid_signed c.args.row.digits c.args.bytes.now c.requires)
    (ap₂ ◌&&◌ c.all_digits-then-kind-eq-SIGNED.ensures c.is_signed_digit.ensures)

pub returns-then-kind-eq-SIGN_LEADING : goal.returns-then-kind-eq-SIGN_LEADING
returns-then-kind-eq-SIGN_LEADING c =
    rw (c.if-kind-eq-SIGN_LEADING.true, valid_leading c.args.row.digits c.args.bytes.now c.requires)
    (ap₂ ◌&&◌ c.is_sign.ensures
    (c.all_digits-then-kind-eq-SIGN_LEADING.ensures ∙ ap (all is_digit) (but_first_lem c.args.bytes.now)))

pub returns-then-kind-eq-SIGN_TRAILING : goal.returns-then-kind-eq-SIGN_TRAILING
returns-then-kind-eq-SIGN_TRAILING c =
    rw (c.if-kind-eq-SIGN_TRAILING.true, valid_trailing c.args.row.digits c.args.bytes.now c.requires)
    (ap₂ ◌&&◌ c.all_digits-then-kind-eq-SIGN_TRAILING.ensures c.is_sign-then-kind-eq-SIGN_TRAILING.ensures)

pub returns-then-kind-eq-ALPHABETIC : goal.returns-then-kind-eq-ALPHABETIC
returns-then-kind-eq-ALPHABETIC c = rw (c.if-kind-eq-ALPHABETIC.true, valid_letters) c.all_in_alphabet.ensures

pub returns-then-is_packed : goal.returns-then-is_packed
returns-then-is_packed c =
    c.packed_valid.ensures
    ∙ sym (valid_packed c.args.row.kind c.args.row.digits c.args.bytes.now c.requires (sym c.is_packed.ensures ∙ c.if-is_packed.true))

pub returns : goal.returns
returns c =
    sym
    (valid_other _ _ _ c.if-kind-eq-UNSIGNED.false c.if-kind-eq-SIGNED.false c.if-kind-eq-SIGN_LEADING.false
    c.if-kind-eq-SIGN_TRAILING.false c.if-kind-eq-ALPHABETIC.false (sym c.is_packed.ensures ∙ c.if-is_packed.false))
