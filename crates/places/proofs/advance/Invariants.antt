-- Each record that stands at the row goes on.
use mathlib.Core.Path.{◌≡◌}
use lib.ListN.{get_or}
use Rattle.places.proofs.Storing.{Stored}
use Rattle.places.specs.Places.{next_place, next_count}
use Rattle.places.proofs.advance.Given as goal

abbrev pub invariant-loop-j : goal.invariant-loop-j
invariant-loop-j l = Stored (λ k v. v ≡ next_place l.row l.holds l.fails (get_or l.initial.at k 0) (get_or l.truths k 0)) l.initial.at l.at l.j
    × Stored (λ k v. v ≡ next_count l.row (get_or l.initial.at k 0) (get_or l.initial.counts k 0)) l.initial.counts l.counts l.j
