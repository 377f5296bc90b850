use mathlib.Core.Path.{sym, ap, ◌∙◌}
use Rattle.tables.specs.declared.Verdict.{Verdict}
use Rattle.merging.specs.Merge.{decided}
use Rattle.copies.proofs.Choosing.{pick_second, pick_first, pick_alike, pick_decided}
use Rattle.copies.proofs.merged_item.Goals as goal

pub returns-then-same_bytes : goal.returns-then-same_bytes
returns-then-same_bytes c =
    let a = c.args in
    pick_second a.verdict a.old.now a.first.now a.second.now (sym c.same_bytes.ensures ∙ c.if-same_bytes.true)

pub returns-then-same_bytes-2 : goal.returns-then-same_bytes-2
returns-then-same_bytes-2 c =
    let a = c.args in
    pick_first a.verdict a.old.now a.first.now a.second.now (sym c.same_bytes.ensures ∙ c.if-same_bytes.false)
    (sym c.same_bytes-2.ensures ∙ c.if-same_bytes-2.true)

pub returns-then-same_bytes-3 : goal.returns-then-same_bytes-3
returns-then-same_bytes-3 c =
    let a = c.args in
    pick_alike a.verdict a.old.now a.first.now a.second.now
    (sym c.same_bytes.ensures ∙ c.if-same_bytes.false)
    (sym c.same_bytes-2.ensures ∙ c.if-same_bytes-2.false) (sym c.same_bytes-3.ensures ∙ c.if-same_bytes-3.true)

pub returns-in-True : goal.returns-in-True
returns-in-True c =
    let a = c.args in
    sym (ap (λ (w : Verdict). decided w a.old.now a.first.now a.second.now) c.in-True.is)
    ∙ pick_decided a.verdict a.old.now a.first.now a.second.now
    (sym c.same_bytes.ensures ∙ c.if-same_bytes.false)
    (sym c.same_bytes-2.ensures ∙ c.if-same_bytes-2.false)
    (sym c.same_bytes-3.ensures ∙ c.if-same_bytes-3.false)

pub returns-in-False : goal.returns-in-False
returns-in-False c =
    let a = c.args in
    sym (ap (λ (w : Verdict). decided w a.old.now a.first.now a.second.now) c.in-False.is)
    ∙ pick_decided a.verdict a.old.now a.first.now a.second.now
    (sym c.same_bytes.ensures ∙ c.if-same_bytes.false)
    (sym c.same_bytes-2.ensures ∙ c.if-same_bytes-2.false)
    (sym c.same_bytes-3.ensures ∙ c.if-same_bytes-3.false)

pub returns-in-Refused : goal.returns-in-Refused
returns-in-Refused c =
    let a = c.args in
    sym (ap (λ (w : Verdict). decided w a.old.now a.first.now a.second.now) c.in-Refused.is)
    ∙ pick_decided a.verdict a.old.now a.first.now a.second.now
    (sym c.same_bytes.ensures ∙ c.if-same_bytes.false)
    (sym c.same_bytes-2.ensures ∙ c.if-same_bytes-2.false)
    (sym c.same_bytes-3.ensures ∙ c.if-same_bytes-3.false)
