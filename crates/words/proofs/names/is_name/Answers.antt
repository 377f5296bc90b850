-- `is_name` meets its contract: from the laws of proofs/ and what its callees ensure. Assumes nothing.
use Prim.Native.Nat.{◌-◌}
use Rattle.description.specs.Reader.{is_name}
use Rattle.words.proofs.Reaches.{not_a_name}
use Rattle.words.proofs.names.is_name.Goals as goal

pub returns-then-w-eq0 : goal.returns-then-w-eq0
returns-then-w-eq0 c = not_a_name c.args.w.now c.if-w-eq0.true

pub returns : goal.returns
unfolding is_name
returns c = rw (c.all_name_bytes.ensures, c.any_letter.ensures, c.is_keyword.ensures)
