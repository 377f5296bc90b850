-- Characters hold any bytes; of the other kinds the first byte of one is a sign, and the rest are digits.
use native.Mathlib.Omega.{arith}
use mathlib.Core.Path.{◌≡◌, refl, sym, ◌∙◌}
use borrow.Author.Tests.{ne_eqb, eqb-true}
use Rattle.content.proofs.Bytes.{but_first_lem}
use Rattle.content.proofs.WrongByte.{valid_other, valid_digits, valid_leading}
use Rattle.checks.proofs.lent.literal_valid.Goals as goal

pub returns-then-kind-eq-ALPHANUMERIC : goal.returns-then-kind-eq-ALPHANUMERIC
returns-then-kind-eq-ALPHANUMERIC c = rw c.if-kind-eq-ALPHANUMERIC.true (sym (valid_other 2 _ _ (λ e. omega (arith, e)) (λ e. omega (arith, e)) (λ e. omega (arith, e)) (λ e. omega (arith, e)) (λ e. omega (arith, e)) refl))

pub returns-then-kind-eq-UNSIGNED : goal.returns-then-kind-eq-UNSIGNED
returns-then-kind-eq-UNSIGNED c = rw c.if-kind-eq-UNSIGNED.true (c.only_digits.ensures ∙ sym (valid_digits _ _))

pub returns : goal.returns
returns c =
    let bytes = c.args.bytes.now in
    let five : c.args.row.kind ≡ 5 = eqb-true _ 5 (rw (ne_eqb _ 2 c.if-kind-eq-ALPHANUMERIC.false, ne_eqb _ 3 c.if-kind-eq-UNSIGNED.false) at c.requires.0) in
    rw (c.is_sign.ensures, c.only_digits-2.ensures, but_first_lem bytes, five) (sym (valid_leading _ bytes c.requires.1))
