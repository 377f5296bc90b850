-- The name goes on, ends here, or is all that is left.
use Rattle.std.proofs.Common.{sym, ◌∙◌, arith}
use Rattle.logbook_program.proofs.Naming.{name_goes_on, name_ends, name_is_all}
use Rattle.logbook_program.proofs.wording.first_word.Goals as goal

pub returns-then-ends_name : goal.returns-then-ends_name
returns-then-ends_name c =
    c.front_bytes.ensures
    ∙ name_ends c.args.rest.now c.loop-end.end c.loop-end.invariant (omega arith) (sym c.ends_name.ensures ∙ c.if-ends_name.true)

pub loop-end-preserved : goal.loop-end-preserved
loop-end-preserved c =
    name_goes_on c.args.rest.now c.loop-end.end c.loop-end.invariant (omega arith) (sym c.ends_name.ensures ∙ c.if-ends_name.false)

pub returns : goal.returns
returns c = name_is_all c.args.rest.now c.loop-end.end c.loop-end.invariant (omega arith)
