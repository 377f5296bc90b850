-- `all_name_bytes` meets its contract: from the laws of proofs/ and what its callees ensure. Assumes nothing.
use mathlib.Core.Path.{◌≡◌}
use lib.ListN.{drop}
use Rattle.description.specs.Grammar.{all, is_name_byte}
use Rattle.words.proofs.names.all_name_bytes.Given as goal

abbrev pub invariant-loop-b : goal.invariant-loop-b
invariant-loop-b l = all is_name_byte l.w ≡ all is_name_byte (drop l.b-index l.w)
