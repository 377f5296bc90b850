-- One record after the other.
use mathlib.Core.Path.{◌≡◌}
use Prim.Native.Nat.{◌+◌, ◌*◌, ◌≤◌}
use lib.ListN.{drop}
use lib.Seq.{sets}
use Rattle.tables.specs.Operands.{lend_names}
use Rattle.rules.specs.Calls.{run_gives}
use Rattle.sweeps.specs.Sweep.{laid, answers_of}
use Rattle.sweeps.proofs.parts.answer_part.Given as goal

abbrev pub invariant-loop-j : goal.invariant-loop-j
invariant-loop-j l =
    (l.j ≤ l.n) × (l.base ≡ l.initial.base + l.j * l.size) × (l.to ≡ l.out + l.j * 4)
    × (l.answers ≡ sets l.initial.answers l.out (answers_of (λ content. run_gives (lend_names l.items l.literals l.bytes l.names) l.plan content l.switches) (laid l.j l.size (drop l.initial.base l.records))))
