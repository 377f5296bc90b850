-- `held` meets its contract. The loop's invariant: the bytes close, and are as many, as the bytes left do and are after the `n` counted.
use mathlib.Core.Path.{◌≡◌}
use mathlib.Core.Bool.{false}
use Prim.Native.Nat.{◌+◌, ◌≤◌}
use lib.ListN.{length, drop}
use Rattle.literal_words.specs.Found.{closes, inner}
use Rattle.literal_words.proofs.quotes.held.Given as goal

abbrev pub invariant-loop-b : goal.invariant-loop-b
invariant-loop-b l =
    (l.n ≤ l.b-index)
    × (closes false l.bytes ≡ closes l.pending (drop l.b-index l.bytes))
    × (length (inner false l.bytes) ≡ l.n + length (inner l.pending (drop l.b-index l.bytes)))
