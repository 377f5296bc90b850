-- `read` meets its contract.
use mathlib.Core.Path.{refl, sym}
use Prim.Native.Nat.{◌-◌}
use native.Mathlib.Omega.{arith}
use lib.ListN.{length, take}
use lib.Seq.{length-take-le}
use Rattle.books.proofs.Finding.{book-found, places-listed}
use Rattle.books.proofs.Giving.{named-reading, undescribed_reading, as_reading, refused_reading}
use Rattle.texts.proofs.calls.read.Goals as goal

pub slice_bounds-places-end : goal.slice_bounds-places-end
slice_bounds-places-end c = (book-found c.book_of-named.result c.book_of-named.ensures
    c.in-Ok.is).there

pub slice_bounds-read_named-end : goal.slice_bounds-read_named-end
slice_bounds-read_named-end c = sym (length-take-le _ _ (book-found c.book_of-named.result
    c.book_of-named.ensures c.in-Ok.is).there)

pub read_named-requires : goal.read_named-requires
read_named-requires c = let f = book-found c.book_of-named.result
    c.book_of-named.ensures
    c.in-Ok.is in (
      places-listed
          c.book_of-named.result
          c.book_of-named.ensures
          c.in-Ok.is,
      omega arith,
      omega arith,
      f.few_literals,
      f.few_bytes,
    )

pub returns-in-Ok : goal.returns-in-Ok
returns-in-Ok c =
    as_reading (named-reading c.book_of-named.result c.book_of-named.ensures c.args.condition.now c.in-Ok.is) c.read_named.ensures

pub returns-in-Err : goal.returns-in-Err
returns-in-Err c = refused_reading (undescribed_reading c.book_of-named.result
    c.book_of-named.ensures c.args.condition.now
    c.in-Err.is) refl
