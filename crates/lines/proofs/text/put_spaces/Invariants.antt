-- One space after another.
use lib.ListN.{replicate}
use Rattle.lines.specs.Put.{Puts}
use Rattle.lines.proofs.text.put_spaces.Given as goal

abbrev pub invariant-loop : goal.invariant-loop
invariant-loop l = Puts l.initial.out l.at (replicate l.counter 0x20) l.end l.out
