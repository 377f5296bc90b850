-- `put_doubled` meets its contract. The loop's invariant: the first bytes are written, doubled.
use Rattle.quoting.proofs.Doubling.{Doubles}
use Rattle.quoting.proofs.parts.put_doubled.Given as goal

abbrev pub invariant-loop-b : goal.invariant-loop-b
invariant-loop-b l = Doubles l.part l.initial.out l.n l.b-index l.out
