-- Rests on what the callees return, by the kind: the digits beside the sign are those of a field of kind 3.
use mathlib.Core.Path.{◌≡◌, ap, ◌∙◌}
use mathlib.Core.List.{List}
use mathlib.Core.Bool.{◌&&◌}
use Prim.Native.Nat.{ℕ, ◌+◌, ◌-◌, ◌*◌, ◌%◌}
use native.Mathlib.Omega.{arith}
use lib.ListN.{length, get_or}
use Rattle.content.specs.Content.{number_from}
use Rattle.content.proofs.WrongByte.{valid_digits, valid_signed, valid_leading, valid_trailing}
use Rattle.compare.specs.declared.Number.{Number}
use Rattle.compare.specs.Compared.{number_of}
use Rattle.numbers.proofs.NumberLaws.{number_last, number-room}
use Rattle.numbers.proofs.reading.read_display.Goals as goal

-- the number of the digits beside a sign
rest_number : {r : Number} {plain xs : List ℕ} → r ≡ number_of 3 0 plain → plain ≡ xs → r.digits ≡ number_from 0 xs
rest_number e p = ap (λ (r : Number). r.digits) e ∙ ap (number_from 0) p

pub returns-then-kind-eq-UNSIGNED : goal.returns-then-kind-eq-UNSIGNED
returns-then-kind-eq-UNSIGNED c count =
    let bytes = c.args.bytes.now in
    rw (c.read_digits-rest.ensures, c.plain_digits.ensures, c.if-kind-eq-UNSIGNED.true, valid_digits 0 bytes, valid_digits count bytes)

pub returns-then-kind-eq-SIGN_LEADING : goal.returns-then-kind-eq-SIGN_LEADING
returns-then-kind-eq-SIGN_LEADING c count =
    rw (
      c.is_minus.ensures,
      c.is_sign.ensures,
      c.read_digits-rest.ensures,
      c.plain_digits.ensures,
      c.if-kind-eq-SIGN_LEADING.true,
      valid_digits,
      valid_leading count c.args.bytes.now c.requires.in_bounds.0,
    )

pub overflow_mul-result : goal.overflow_mul-result
overflow_mul-result c =
    let bytes = c.args.bytes.now in
    let four = c.if-kind-eq-SIGNED.true in
    let few = rw four at c.requires.in_bounds.1 in
    omega (arith, few, number-room bytes (length bytes - 1) (omega arith) few, rest_number c.read_digits-rest.ensures (rw four at c.plain_digits.ensures))

pub overflow_add-result : goal.overflow_add-result
overflow_add-result c =
    let bytes = c.args.bytes.now in
    let four = c.if-kind-eq-SIGNED.true in
    let few = rw four at c.requires.in_bounds.1 in
    let rest = rest_number c.read_digits-rest.ensures (rw four at c.plain_digits.ensures) in
    omega (arith, few, number-room bytes (length bytes - 1) (omega arith) few, rest)

pub returns-then-kind-eq-SIGNED : goal.returns-then-kind-eq-SIGNED
returns-then-kind-eq-SIGNED c count =
    let bytes = c.args.bytes.now in
    let four = c.if-kind-eq-SIGNED.true in
    let rest = rest_number c.read_digits-rest.ensures (rw four at c.plain_digits.ensures) in
    let number = ap (λ (m : ℕ). m * 10 + get_or bytes (length bytes - 1) 0 % 16) rest ∙ number_last bytes c.requires.in_bounds.0 in
    let with : ℕ → Number = λ d. record { valid = c.read_digits-rest.result.valid && c.is_signed_digit.result; minus = c.is_minus-then-kind-eq-SIGNED.result; digits = d } in
    ap with number ∙ rw (
      c.is_minus-then-kind-eq-SIGNED.ensures,
      c.is_signed_digit.ensures,
      c.read_digits-rest.ensures,
      c.plain_digits.ensures,
      four,
      valid_digits,
      valid_signed count bytes c.requires.in_bounds.0,
    )

pub returns : goal.returns
returns c count =
    let six : c.args.row.kind ≡ 6 = omega arith in
    rw (
      c.is_minus-2.ensures,
      c.is_sign-2.ensures,
      c.read_digits-rest.ensures,
      c.plain_digits.ensures,
      six,
      valid_digits,
      valid_trailing count c.args.bytes.now c.requires.in_bounds.0,
    )
