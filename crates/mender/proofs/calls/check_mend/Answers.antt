-- What the checks of each line ensure, and the laws of the first line that applies.
use mathlib.Core.Path.{sym, ◌∙◌}
use native.Mathlib.Omega.{arith}
use Rattle.std.proofs.Common.{◌≡◌, Err}
use Rattle.mender.proofs.Answering.{table_stops, overlap_stops, record_decides}
use Rattle.mender.proofs.calls.check_mend.Goals as goal

pub returns-in_err-check_items : goal.returns-in_err-check_items
returns-in_err-check_items c =
    let e : c.from_residual.result ≡ Err c.in_err-check_items.field-0.0 = grind arith in
    rw e (let a = c.args in
    sym (table_stops a.items.now a.«record».now (sym c.check_items.ensures ∙ c.in_err-check_items.was)))

pub returns-in_err-check_overlap : goal.returns-in_err-check_overlap
returns-in_err-check_overlap c =
    let e : c.from_residual-in_err-check_overlap.result ≡ Err c.in_err-check_overlap.field-0.0 = grind arith in
    rw e (let a = c.args in
    let table = sym c.check_items.ensures ∙ c.in_ok-check_items.was in
    sym (overlap_stops a.items.now a.«record».now table (sym c.check_overlap.ensures ∙ c.in_err-check_overlap.was)))

pub returns : goal.returns
returns c =
    let a = c.args in
    let table = sym c.check_items.ensures ∙ c.in_ok-check_items.was in
    let overlap = sym c.check_overlap.ensures ∙ c.in_ok-check_overlap.was in
    c.check_record.ensures ∙ sym (record_decides a.items.now a.«record».now table overlap)
