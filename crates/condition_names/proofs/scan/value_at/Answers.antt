-- `value_at` meets its contract: from the laws of proofs/ and what its callees ensure. Assumes nothing.
use mathlib.Core.Path.{sym, ap, ◌∙◌}
use native.Mathlib.Omega.{arith}
use Rattle.std.proofs.Common.{Ok}
use Rattle.condition_names.proofs.Leads.{literal-ended}
use Rattle.condition_names.proofs.scan.value_at.Goals as goal

pub overflow_add-result : goal.overflow_add-result
overflow_add-result c = omega (arith, (literal-ended c.args.text.now c.args.n c.requires _ (sym c.in_ok-mid.ensures ∙ ap Ok c.in-Ended.is)).1)
