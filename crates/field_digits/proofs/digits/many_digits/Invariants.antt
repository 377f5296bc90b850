-- `many_digits` meets its contract. The loop's invariant: `fine` says whether the bytes that were passed are digits. Assumes nothing.
use mathlib.Core.Path.{◌≡◌}
use lib.ListN.{take}
use Rattle.content.specs.Content.{all, is_digit}
use Rattle.field_digits.proofs.digits.many_digits.Given as goal

abbrev pub invariant-loop-b : goal.invariant-loop-b
invariant-loop-b l = l.fine ≡ all is_digit (take l.b-index l.bytes)
