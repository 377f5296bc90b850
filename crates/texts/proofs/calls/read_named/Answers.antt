-- `read_named` meets its contract.
use Prim.Native.Nat.{◌-◌}
use Rattle.books.proofs.Giving.{whole_reading, fault-reading, as_reading, refused_reading}
use Rattle.texts.proofs.calls.read_named.Goals as goal

pub returns-in-Ok : goal.returns-in-Ok
returns-in-Ok c = as_reading (whole_reading
    c.gather-lexed.result
    c.gather-lexed.ensures
    c.in-Ok.is)
    c.give.ensures

pub returns-in-Err : goal.returns-in-Err
returns-in-Err c = refused_reading (fault-reading c.gather-lexed.result
    c.gather-lexed.ensures c.in-Err.is) c.refused.ensures
