-- The lines 1 to 9: the first six, and then what `resolve` ensures.
use native.Mathlib.Omega.{arith}
use Rattle.std.proofs.Common.{◌≡◌, Err}
use Rattle.preparer.proofs.Preparing.{lent_refused, prepared, resolvable}
use Rattle.preparer.proofs.prepare.prepare.Goals as goal

pub resolve-requires : goal.resolve-requires
resolve-requires c =
    let a = c.args in
    let h = resolvable a.off a.items.now a.literals.now a.bytes.now a.names.now a.tokens.now c.check_lines.ensures c.in_ok-check_lines.was in
    (h.0, h.1, c.requires)

pub returns-in_err-check_lines : goal.returns-in_err-check_lines
returns-in_err-check_lines c =
    let e : c.from_residual.result ≡ Err c.in_err-check_lines.field-0.0 = grind arith in
    rw e (let a = c.args in
    lent_refused a.off a.items.now a.literals.now a.bytes.now a.names.now a.tokens.now c.check_lines.ensures c.in_err-check_lines.was)

pub returns : goal.returns
returns c =
    let a = c.args in
    let six = c.check_lines.ensures in
    let told = c.in_ok-check_lines.was in
    prepared a.off a.items.now a.literals.now a.bytes.now a.names.now a.tokens.now six told c.resolve.ensures
