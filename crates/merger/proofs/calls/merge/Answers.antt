-- What the desk refuses; else what is decided, which is the run's verdict wherever it matters.
use mathlib.Core.Path.{sym, ◌∙◌}
use Rattle.tables.specs.Operands.{lend_names}
use Rattle.rules.specs.Calls.{run_gives}
use Rattle.merging.specs.Merge.{copies_of, desk_lines}
use Rattle.merger.proofs.Desk.{desk_ready, desk_few, lines_refuse, lines_pass, decided_as, leaves_as}
use Rattle.merger.proofs.calls.merge.Goals as goal

pub returns-in-Err : goal.returns-in-Err
returns-in-Err c =
    let a = c.args in
    let lent = lend_names a.items.now a.literals.now a.bytes.now a.names.now in
    lines_refuse (desk_lines lent a.plan.now a.old.now a.first.now a.second.now) (copies_of a.items.now a.old.now a.first.now a.second.now)
    (run_gives lent a.plan.now a.first.now a.switches).verdict a.merged.now a.contested.now
    (sym c.check_desk-desk.ensures ∙ c.in-Err.is)

pub count_apart-apart-requires : goal.count_apart-apart-requires
count_apart-apart-requires c =
    let a = c.args in
    desk_ready a.items.now a.literals.now a.bytes.now a.names.now a.plan.now a.old.now a.first.now a.second.now
    (sym c.check_desk-desk.ensures ∙ c.in_default.is)

pub merge_decided-requires : goal.merge_decided-requires
merge_decided-requires c =
    let a = c.args in
    let fine = sym c.check_desk-desk.ensures ∙ c.in_default.is in (
      desk_ready a.items.now a.literals.now a.bytes.now a.names.now
          a.plan.now a.old.now a.first.now a.second.now fine,
      desk_few a.items.now a.literals.now a.bytes.now a.names.now
          a.plan.now a.old.now a.first.now a.second.now fine,
      c.count_apart-apart.ensures,
    )

pub returns : goal.returns
returns c =
    let a = c.args in
    let lent = lend_names a.items.now a.literals.now a.bytes.now a.names.now in
    let lines = desk_lines lent a.plan.now a.old.now a.first.now a.second.now in
    let verdict = c.decide-verdict.result in
    let fine = sym c.check_desk-desk.ensures ∙ c.in_default.is in
    let same = lines_pass lines (copies_of a.items.now a.old.now a.first.now a.second.now) verdict a.merged.now a.contested.now
    fine ∙ decided_as lent a.plan.now a.old.now a.first.now a.second.now a.switches c.count_apart-apart.result verdict
    c.count_apart-apart.ensures c.decide-verdict.ensures lines a.merged.now a.contested.now in
    leaves_as same c.merge_decided.ensures
