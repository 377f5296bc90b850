-- `weigh` meets its contract: from the laws of proofs/ and what its callees ensure. Assumes nothing.
-- `weigh` meets its contract: from the laws of proofs/ and what its callees ensure. Assumes nothing.
use mathlib.Core.Bool.{not}
use native.Mathlib.Omega.{arith}
use Rattle.std.proofs.lemmas.Grind.{common_steps}
use Rattle.description.specs.Stages.{literal_in}
use mathlib.Core.Path.{sym, ap, ◌∙◌}
use Rattle.value_weights.proofs.Barring.{written_is, alone-apart, alone_fine, alone-unfit, value-barred, value_single}
use Rattle.value_weights.proofs.weights.weigh.Goals as goal

pub returns-then-not-may_compare : goal.returns-then-not-may_compare
returns-then-not-may_compare c = grind (arith, common_steps, alone-apart, value-barred)

pub weigh_high-requires : goal.weigh_high-requires
weigh_high-requires c =
    record {
      stands = (c.requires, c.if-found.true);
      written = written_is _ _ c.requires.low (sym c.literal_row.ensures ∙ c.in-Some.is);
      mid_value = alone_fine (literal_in c.args.text.now c.args.found.low c.args.found.mid) _ (sym c.literal_row.ensures ∙ c.in-Some.is) c.args.item (sym
          c.may_compare.ensures ∙ c.if-not-may_compare.false);
    }

pub returns-else-found : goal.returns-else-found
returns-else-found c =
    value_single c.args.text.now c.args.item c.args.found c.if-found.false (alone_fine (literal_in c.args.text.now
    c.args.found.low c.args.found.mid) _ (sym c.literal_row.ensures ∙ c.in-Some.is) c.args.item (sym
    c.may_compare.ensures ∙ c.if-not-may_compare.false)) _ (sym c.literal_row.ensures ∙ c.in-Some.is)

pub returns-in-None : goal.returns-in-None
returns-in-None c =
    value-barred c.args.text.now c.args.item c.args.found (alone-unfit (literal_in c.args.text.now c.args.found.low
    c.args.found.mid) c.args.item (sym c.literal_row.ensures ∙ c.in-None.is))
