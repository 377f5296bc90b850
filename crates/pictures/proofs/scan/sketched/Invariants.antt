-- `sketched` meets its contract: from the laws of proofs/ and what its callees ensure. Assumes nothing.
use Prim.Native.Nat.{◌+◌}
use mathlib.Core.Path.{◌≡◌, ap}
use mathlib.Core.List.{[]}
use lib.ListN.{take, drop}
use Rattle.description.specs.Machine.{after}
use Rattle.description.specs.Reader.{nothing, pictures}
use Rattle.description.specs.Stages.{reach}
use Rattle.pictures.specs.Drawings.{draws}
use Rattle.pictures.proofs.Caps.{cap_o}
use Rattle.pictures.proofs.scan.sketched.Given as goal
use Rattle.std.specs.Prelude.{Some}

abbrev pub invariant-loop-k : goal.invariant-loop-k
invariant-loop-k l = (reach draws [] l.rest ≡ l.k + reach draws (take l.k l.rest) (drop l.k l.rest)) × (Some l.d ≡ cap_o (after pictures nothing (take l.k l.rest)))
