-- `sketched` meets its contract: from the laws of proofs/ and what its callees ensure. Assumes nothing.
use mathlib.Core.Path.{◌≡◌, refl}
use native.Mathlib.Omega.{arith}
use lib.ListN.{length}
use Rattle.description.specs.Machine.{after}
use Rattle.pictures.proofs.Caps.{goes_on, gets_stuck, all_read}
use Rattle.pictures.proofs.scan.sketched.Goals as goal

pub loop-k-init : goal.loop-k-init
unfolding after
loop-k-init c = (omega arith, refl)

pub loop-k-preserved : goal.loop-k-preserved
loop-k-preserved c = goes_on c.args.rest.now c.loop-k.k
    (omega arith) c.loop-k.invariant.1
    c.draw_byte.ensures c.loop-k.invariant.0 c.in-Some.is

pub returns-in-None : goal.returns-in-None
returns-in-None c = gets_stuck c.args.rest.now c.loop-k.k
    (omega arith) c.loop-k.invariant.1 c.draw_byte.ensures
    c.loop-k.invariant.0 c.in-None.is

pub returns : goal.returns
returns c =
    let z : length c.args.rest.now ≡ c.loop-k.k = omega arith in
    rw z (all_read c.args.rest.now c.loop-k.k (omega arith) c.loop-k.invariant.1 c.loop-k.invariant.0)
