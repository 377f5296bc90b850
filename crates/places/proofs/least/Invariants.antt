-- The least of the places passed.
use Rattle.places.specs.Places.{Lowest}
use Rattle.places.proofs.least.Given as goal

abbrev pub invariant-loop-j : goal.invariant-loop-j
invariant-loop-j l = Lowest l.at l.low l.j
