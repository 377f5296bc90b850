-- The invariant: none of the ranges passed holds the item.
use Prim.Native.Nat.{◌<◌}
use native.Mathlib.Omega.{arith}
use mathlib.Core.Path.{◌≡◌, sym, ◌∙◌}
use mathlib.Core.Bool.{true, false}
use Rattle.tables.specs.Names.{name_pairs}
use Rattle.values.specs.Comparison.{side}
use Rattle.values.specs.Names.{some, in_range}
use Rattle.names.proofs.Counting.{none_yet, some_more, some_holds}
use Rattle.names.proofs.ranges.some_range.Invariants.{lies}
use Rattle.names.proofs.ranges.some_range.Goals as goal

pub loop-k-init : goal.loop-k-init
loop-k-init c = none_yet _

pub returns-then-in_range : goal.returns-then-in_range
returns-then-in_range c =
    let a = c.args in
    let pairs : c.number_at-pairs.result ≡ name_pairs a.names.now a.v = c.number_at-pairs.ensures in
    let l : c.loop-k.k < name_pairs a.names.now a.v = omega arith in
    let test = lies (side true a.row a.part.now) a.literals.now a.bytes.now a.names.now a.v in
    let found = rw (c.number_at-low.ensures, c.number_at-high.ensures) at c.in_range.ensures in
    sym (some_holds test c.loop-k.k (name_pairs a.names.now a.v) l (sym found ∙ c.if-in_range.true))

pub loop-k-preserved : goal.loop-k-preserved
loop-k-preserved c =
    let a = c.args in
    let test = lies (side true a.row a.part.now) a.literals.now a.bytes.now a.names.now a.v in
    let found = rw (c.number_at-low.ensures, c.number_at-high.ensures) at c.in_range.ensures in
    some_more test c.loop-k.k c.loop-k.invariant (sym found ∙ c.if-in_range.false)
