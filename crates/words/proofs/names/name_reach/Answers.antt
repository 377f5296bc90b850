-- `name_reach` meets its contract: from the laws of proofs/ and what its callees ensure. Assumes nothing.
use Prim.Native.Nat.{◌-◌}
use mathlib.Core.Path.{sym, ◌∙◌}
use Rattle.words.proofs.Reaches.{reach_none, reach_hyphen, reach_short, reach_29, reach_whole, reach_not}
use Rattle.words.proofs.names.name_reach.Goals as goal

pub returns-then-rest-eq0 : goal.returns-then-rest-eq0
returns-then-rest-eq0 c = reach_none c.args.rest.now c.if-rest-eq0.true

pub returns-then-rest-eq45 : goal.returns-then-rest-eq45
returns-then-rest-eq45 c = reach_hyphen c.args.rest.now c.if-rest-eq45.true

pub returns-then-m-ne29 : goal.returns-then-m-ne29
returns-then-m-ne29 c = reach_short c.args.rest.now c.name_run-m.result c.name_run-m.ensures
    c.if-rest-eq45.false c.if-m-ne29.true

pub returns-then-rest-le29 : goal.returns-then-rest-le29
returns-then-rest-le29 c = reach_29 c.args.rest.now c.name_run-m.result
    c.name_run-m.ensures c.if-rest-eq45.false c.if-m-ne29.false c.if-rest-le29.true

pub returns-then-is_name : goal.returns-then-is_name
returns-then-is_name c = reach_whole c.args.rest.now
    c.name_run-m.result c.name_run-m.ensures
    c.if-rest-eq45.false c.if-m-ne29.false c.if-rest-le29.false
    (sym c.is_name.ensures ∙ c.if-is_name.true)

pub returns : goal.returns
returns c = reach_not c.args.rest.now
    c.name_run-m.result c.name_run-m.ensures
    c.if-rest-eq45.false c.if-m-ne29.false c.if-rest-le29.false
    (sym c.is_name.ensures ∙ c.if-is_name.false)
