-- `ends_apart` meets its contract: a word that is the name has its last byte too.
use native.Mathlib.Omega.{arith}
use Prim.Native.Nat.{◌-◌}
use lib.ListN.{length}
use Rattle.naming.proofs.Finding.{byte_differs}
use borrow.Author.Tests.{eqb-false, not-true}
use Rattle.naming.proofs.names.ends_apart.Goals as goal

pub returns : goal.returns
returns c e =
    let word = c.args.word.now in
    let rest = c.args.rest.now in
    byte_differs word rest (length word - 1) (omega (arith, c.if-n-eq0.false)) (eqb-false _ _ (not-true _ e))
