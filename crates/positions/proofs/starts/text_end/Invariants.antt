-- Each byte that is no blank ends the text anew.
use mathlib.Core.Path.{◌≡◌}
use lib.ListN.{drop}
use Rattle.positions.specs.Positions.{end_from}
use Rattle.positions.proofs.starts.text_end.Given as goal

abbrev pub invariant-loop-i : goal.invariant-loop-i
invariant-loop-i l = end_from l.end l.i (drop l.i l.text) ≡ end_from 0 0 l.text
