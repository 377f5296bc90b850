-- `few_digits` meets its contract. The loop's invariant: every byte is a digit where every byte from the loop's place on is one. Assumes nothing.
use mathlib.Core.Path.{◌≡◌}
use lib.ListN.{drop}
use Rattle.content.specs.Content.{all, is_digit}
use Rattle.field_digits.proofs.digits.few_digits.Given as goal

abbrev pub invariant-loop-b : goal.invariant-loop-b
invariant-loop-b l = all is_digit l.bytes ≡ all is_digit (drop l.b-index l.bytes)
