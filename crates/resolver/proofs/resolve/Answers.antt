-- The lines 7 to 9: what was parsed tells 7 and 8 of all tokens, and its rows are typed in order. `e` is what was known where 7 and 8
-- were weighed.
use native.Mathlib.Omega.{arith}
use Rattle.std.proofs.Common.{◌≡◌, Err}
use Rattle.std.proofs.lemmas.Grind.{common_steps}
use Rattle.resolver.proofs.Resolving.{grammar_refused, shaped_rows, typing_refused, resolved}
use Rattle.resolver.proofs.resolve.Goals as goal

pub returns-in_err-earlier_of : goal.returns-in_err-earlier_of
returns-in_err-earlier_of c =
    let e : c.from_residual.result ≡ Err c.in_err-earlier_of.field-0.0 = grind arith in
    rw e (grammar_refused _ _ _ _ _ c.check_depth-depth.ensures c.parsed_tokens-end.ensures.0 c.parse-parsed.ensures
    c.requires.0 c.parsed_tokens-end.ensures.1 c.earlier_of.ensures c.in_err-earlier_of.was)

pub check_typing-requires : goal.check_typing-requires
check_typing-requires c =
    let found = c.in-Ok.is in
    shaped_rows _ _ _ _ _ _ c.check_depth-depth.ensures c.parsed_tokens-end.ensures.0 (rw found at c.parse-parsed.ensures)
    (rw found at c.earlier_of.ensures) c.in_ok-earlier_of.was
    c.requires.1

pub returns-in_ok-check_typing-in-Ok : goal.returns-in_ok-check_typing-in-Ok
returns-in_ok-check_typing-in-Ok c =
    let found = c.in-Ok.is in
    resolved _ _ _ _ _ _ c.check_depth-depth.ensures c.parsed_tokens-end.ensures.0 (rw found at c.parse-parsed.ensures)
    (rw found at c.earlier_of.ensures) c.in_ok-earlier_of.was c.requires.1
    c.check_typing.ensures c.in_ok-check_typing-in-Ok.was

pub returns-in_err-check_typing-in-Ok : goal.returns-in_err-check_typing-in-Ok
returns-in_err-check_typing-in-Ok c =
    let e : c.from_residual-in_err-check_typing-in-Ok.result ≡ Err c.in_err-check_typing-in-Ok.field-0.0 = grind arith in
    rw e (let found = c.in-Ok.is in
    typing_refused _ _ _ _ _ _ c.check_depth-depth.ensures c.parsed_tokens-end.ensures.0 (rw found at c.parse-parsed.ensures)
    (rw found at c.earlier_of.ensures) c.in_ok-earlier_of.was c.requires.1 c.requires.0
    c.check_typing.ensures c.in_err-check_typing-in-Ok.was)
