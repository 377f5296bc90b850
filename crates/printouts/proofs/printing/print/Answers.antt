-- `print` meets its contract.
use mathlib.Core.Path.{refl, sym}
use Prim.Native.Nat.{◌-◌}
use lib.ListN.{length, take}
use lib.Seq.{length-take-le}
use Rattle.books.proofs.Finding.{book-found, places-listed}
use Rattle.printouts.proofs.Refusing.{named_print, undescribed_print, as_print, refused_print}
use Rattle.printouts.proofs.printing.print.Goals as goal

pub slice_bounds-places-end : goal.slice_bounds-places-end
slice_bounds-places-end c = (book-found c.book_of-named.result c.book_of-named.ensures
    c.in-Ok.is).there

pub slice_bounds-print_named-end : goal.slice_bounds-print_named-end
slice_bounds-print_named-end c = sym (length-take-le _ _ (book-found c.book_of-named.result
    c.book_of-named.ensures c.in-Ok.is).there)

pub print_named-requires : goal.print_named-requires
print_named-requires c = (
  (book-found c.book_of-named.result
      c.book_of-named.ensures c.in-Ok.is).short,
  places-listed
      c.book_of-named.result c.book_of-named.ensures
      c.in-Ok.is,
)

pub returns-in-Ok : goal.returns-in-Ok
returns-in-Ok c = as_print (named_print c.book_of-named.result
    c.book_of-named.ensures c.args.literals.now
    c.args.bytes.now
    c.args.tokens.now
    c.in-Ok.is) c.print_named.ensures

pub returns-in-Err : goal.returns-in-Err
returns-in-Err c = refused_print (undescribed_print c.book_of-named.result
    c.book_of-named.ensures c.args.literals.now c.args.bytes.now c.args.tokens.now c.in-Err.is) refl
