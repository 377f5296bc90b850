-- The lines 1 to 4, 18, 5 and 6, tried in order.
use native.Mathlib.Omega.{arith}
use Rattle.std.proofs.Common.{◌≡◌, Err}
use Rattle.tables.specs.Operands.{lend_names, under}
use Rattle.preparer.proofs.Preparing.{tables_refused, count_refused, tokens_checked}
use Rattle.preparer.proofs.prepare.check_lines.Goals as goal

pub returns-in_err-check_lent : goal.returns-in_err-check_lent
returns-in_err-check_lent c =
    let e : c.from_residual.result ≡ Err c.in_err-check_lent.field-0.0 = grind arith in
    rw e (let a = c.args in
    let lent = under a.off (lend_names a.items.now a.literals.now a.bytes.now a.names.now) in
    tables_refused lent a.tokens.now c.check_lent.ensures c.in_err-check_lent.was)

pub returns-in_err-check_token_count : goal.returns-in_err-check_token_count
returns-in_err-check_token_count c =
    let e : c.from_residual-in_err-check_token_count.result ≡ Err c.in_err-check_token_count.field-0.0 = grind arith in
    rw e (let a = c.args in
    let lent = under a.off (lend_names a.items.now a.literals.now a.bytes.now a.names.now) in
    count_refused lent a.tokens.now c.check_lent.ensures c.in_ok-check_lent.was
    c.check_token_count.ensures c.in_err-check_token_count.was)

pub returns : goal.returns
returns c =
    let a = c.args in
    let lent = under a.off (lend_names a.items.now a.literals.now a.bytes.now a.names.now) in
    tokens_checked lent a.tokens.now c.check_lent.ensures c.in_ok-check_lent.was
    c.check_token_count.ensures c.in_ok-check_token_count.was c.check_tokens.ensures
