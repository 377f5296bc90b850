-- Rests on what `prepare` ensures of the old rules, and on the length and the tokens of the converted condition.
use native.Mathlib.Omega.{arith}
use Rattle.std.proofs.Common.{◌≡◌, Err}
use Rattle.tables.specs.Operands.{lend_names}
use Rattle.converter.proofs.Calling.{convert_refused, convert_long, convert_no_room, convert_written}
use Rattle.converter.proofs.calls.convert_condition.Goals as goal

pub returns-then-length-gt256 : goal.returns-then-length-gt256
returns-then-length-gt256 c =
    let a = c.args in
    let lent = lend_names a.items.now a.literals.now a.bytes.now a.names.now in
    convert_long lent a.tokens.now a.output.now c.prepare.ensures c.in_ok-prepare.was c.converted_length-length.ensures c.if-length-gt256.true

pub returns-then-output-length : goal.returns-then-output-length
returns-then-output-length c =
    let a = c.args in
    let lent = lend_names a.items.now a.literals.now a.bytes.now a.names.now in
    let rows = c.in_ok-prepare.was in
    convert_no_room lent a.tokens.now a.output.now c.prepare.ensures rows c.converted_length-length.ensures (omega arith) c.if-output-length.true

pub returns-in_err-prepare : goal.returns-in_err-prepare
returns-in_err-prepare c =
    let e : c.from_residual.result ≡ Err c.in_err-prepare.field-0.0 = grind arith in
    rw e (let a = c.args in
    let lent = lend_names a.items.now a.literals.now a.bytes.now a.names.now in
    convert_refused lent a.tokens.now a.output.now c.prepare.ensures c.in_err-prepare.was)

pub returns : goal.returns
returns c =
    let a = c.args in
    let lent = lend_names a.items.now a.literals.now a.bytes.now a.names.now in
    let rows = c.in_ok-prepare.was in
    let size = c.write_converted.ensures.value in let left = c.write_converted.ensures.out_after in
    let n = c.converted_length-length.ensures in
    let room = c.if-output-length.false in
    convert_written lent a.tokens.now a.output.now c.prepare.ensures rows size (omega (arith, size, n)) (omega (arith, size, n, room)) left
