-- `is_even` meets its contract.
use Rattle.sweeps.proofs.Going.{nothing_fills, fills}
use Rattle.sweeper.proofs.calls.is_even.Goals as goal

pub returns-then-size-eq0 : goal.returns-then-size-eq0
returns-then-size-eq0 c = nothing_fills c.args.size c.args.bytes c.if-size-eq0.true

pub returns : goal.returns
returns c = fills c.args.size c.args.bytes c.if-size-eq0.false
