-- `row_named` meets its contract.
use Prim.Native.Nat.{◌-◌}
use native.Mathlib.Omega.{arith}
use Rattle.naming.proofs.Finding.{unknown, first-within, once_item, once_condition, twice}
use Rattle.naming.proofs.names.row_named.Goals as goal

pub returns-then-first-places : goal.returns-then-first-places
returns-then-first-places c = unknown c.args.description.now c.args.places.now c.args.word.now c.args.items c.requires.1.within
    c.first_named-first.result c.first_named-first.ensures c.if-first-places.true

pub overflow_add-first : goal.overflow_add-first
overflow_add-first c = omega (
  arith,
  first-within c.args.description.now c.args.places.now
      c.args.word.now c.args.items
      c.requires.1.within c.first_named-first.result c.first_named-first.ensures c.if-first-places.false,
)

pub first_named-second-requires : goal.first_named-second-requires
first_named-second-requires c = (
  c.requires.0,
  omega (
    arith,
    first-within c.args.description.now
        c.args.places.now c.args.word.now
        c.args.items c.requires.1.within c.first_named-first.result
        c.first_named-first.ensures c.if-first-places.false,
  ),
)

pub returns-then-second-places : goal.returns-then-second-places
returns-then-second-places c = twice c.args.description.now c.args.places.now c.args.word.now
    c.args.items c.requires.1.within
    c.first_named-first.result c.first_named-first.ensures c.if-first-places.false c.first_named-second.result
    c.first_named-second.ensures c.if-second-places.true

pub returns-then-first-items : goal.returns-then-first-items
returns-then-first-items c = once_item c.args.description.now c.args.places.now c.args.word.now
    c.args.items c.requires.1.within
    c.first_named-first.result c.first_named-first.ensures c.if-first-places.false
    c.first_named-second.result c.first_named-second.ensures c.if-second-places.false c.if-first-items.true

pub returns : goal.returns
returns c = once_condition c.args.description.now c.args.places.now c.args.word.now
    c.args.items c.requires.1.within
    c.first_named-first.result c.first_named-first.ensures c.if-first-places.false
    c.first_named-second.result c.first_named-second.ensures c.if-second-places.false c.if-first-items.false
