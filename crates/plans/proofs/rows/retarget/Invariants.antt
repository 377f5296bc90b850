use mathlib.Core.Path.{◌≡◌}
use mathlib.Core.List.{◌++◌}
use Prim.Native.Nat.{◌*◌, ◌-◌}
use lib.ListN.{length, take, drop}
use Rattle.plans.specs.Rows.{turn}
use Rattle.plans.proofs.rows.retarget.Given as goal

-- with the rows from `i` on retargeted, those from `from` on are
abbrev pub invariant-loop-i : goal.invariant-loop-i
invariant-loop-i l =
    (length l.rows ≡ length l.initial.rows)
    × (take (l.i * 5) l.rows ++ turn l.holds.number l.fails.number (l.end - l.i) (drop (l.i * 5) l.rows)
    ≡ take (l.from * 5) l.initial.rows ++ turn l.holds.number l.fails.number (l.end - l.from) (drop (l.from * 5) l.initial.rows))
