-- `all_name_bytes` meets its contract: from the laws of proofs/ and what its callees ensure. Assumes nothing.
use native.Mathlib.Omega.{arith}
use mathlib.Core.Path.{sym, ◌∙◌}
use Rattle.description.specs.Grammar.{all, is_name_byte}
use Rattle.words.proofs.Reaches.{all_more, all_other, all_end}
use Rattle.words.proofs.names.all_name_bytes.Goals as goal

pub returns-then-not-is_name_byte : goal.returns-then-not-is_name_byte
returns-then-not-is_name_byte c = all_other is_name_byte c.args.w.now c.loop-b.b-index
    (omega arith) (sym c.is_name_byte.ensures ∙ c.if-not-is_name_byte.true) c.loop-b.invariant

pub loop-b-preserved : goal.loop-b-preserved
loop-b-preserved c = all_more is_name_byte c.args.w.now c.loop-b.b-index
    (omega arith) (sym c.is_name_byte.ensures ∙ c.if-not-is_name_byte.false) c.loop-b.invariant

pub returns : goal.returns
returns c = all_end is_name_byte c.args.w.now c.loop-b.b-index (omega arith) c.loop-b.invariant
