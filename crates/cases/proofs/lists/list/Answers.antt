-- One word more, or none.
use Rattle.std.proofs.Common.{refl, sym, ◌∙◌}
use Rattle.cases.proofs.Listing.{one_word, no_word}
use Rattle.cases.proofs.lists.list.Goals as goal

pub loop-at-preserved : goal.loop-at-preserved
loop-at-preserved c =
    let next = one_word c.args.part c.args.text.now c.loop-at.store c.add.new.store c.loop-at.at c.find-end.result _ c.loop-at-test.true
    c.find-end.ensures.value refl c.add.ensures in
    next ∙ c.loop-at.invariant

pub returns : goal.returns
returns c = sym (no_word c.args.part c.args.text.now c.loop-at.store c.loop-at.at c.loop-at-test.false) ∙ c.loop-at.invariant
