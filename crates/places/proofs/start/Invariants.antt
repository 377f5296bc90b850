-- One record after the other.
use mathlib.Core.Path.{◌≡◌}
use Rattle.places.specs.Places.{start_place}
use Rattle.places.proofs.Storing.{Stored}
use Rattle.places.proofs.start.Given as goal

abbrev pub invariant-loop-j : goal.invariant-loop-j
invariant-loop-j l = Stored (λ k v. v ≡ start_place l.n k) l.initial.at l.at l.j
