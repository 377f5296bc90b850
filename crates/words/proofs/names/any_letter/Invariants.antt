-- `any_letter` meets its contract: from the laws of proofs/ and what its callees ensure. Assumes nothing.
use mathlib.Core.Path.{◌≡◌}
use lib.ListN.{drop}
use Rattle.description.specs.Grammar.{any, is_letter}
use Rattle.words.proofs.names.any_letter.Given as goal

abbrev pub invariant-loop-b : goal.invariant-loop-b
invariant-loop-b l = any is_letter l.w ≡ any is_letter (drop l.b-index l.w)
