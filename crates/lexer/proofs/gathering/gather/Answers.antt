-- `gather` meets its contract. The loop's invariant: what is gathered, with what is left, is the whole.
use mathlib.Core.Path.{◌≡◌, ◌∙◌}
use Prim.Native.Nat.{◌-◌}
use lib.ListN.{length}
use native.Mathlib.Omega.{arith}
use Rattle.std.proofs.lemmas.Grind.{common_steps}
use Rattle.naming.specs.Named.{known_at}
use Rattle.spelling.specs.Names.{Book}
use Rattle.lexer.specs.Gathers.{book_in}
use Rattle.lexer.proofs.Ending.{on_step, whole_past, long_past, whole_end, long_end, fault_end}
use Rattle.lexer.proofs.gathering.gather.Goals as goal

pub loop-held-preserved : goal.loop-held-preserved
loop-held-preserved c =
    let a = c.args in
    let book = book_in (known_at a.description.now a.items a.places.now) a.literals a.content a.rows.now a.bytes.now in
    let i = c.loop-held.invariant in
    let s = c.step in
    let on = on_step book a.text.now _ _ _ i.0 i.1 i.5 s.result s.ensures (rw c.in-Ok-Some.field-0-is at c.in-Ok-Some.is) in
    (on.0, on.1, s.auto.tokens ∙ i.2, s.auto.rows ∙ i.3, s.auto.bytes ∙ i.4, on.3)

pub returns-then-text-le2048 : goal.returns-then-text-le2048
returns-then-text-le2048 c =
    let a = c.args in
    let book = book_in (known_at a.description.now a.items a.places.now) a.literals a.content a.rows.now a.bytes.now in
    let l = c.loop-held in
    whole_end book c.args.text.now _ _ _ l.invariant.0 l.invariant.1 l.invariant.5 c.step.result c.step.ensures (rw c.in-Ok-None.field-0-is at c.in-Ok-None.is) c.if-text-le2048.true

pub returns-in-Ok-None : goal.returns-in-Ok-None
returns-in-Ok-None c =
    let a = c.args in
    let book = book_in (known_at a.description.now a.items a.places.now) a.literals a.content a.rows.now a.bytes.now in
    let l = c.loop-held in
    long_end book c.args.text.now _ _ _ l.invariant.0 l.invariant.1 l.invariant.5 c.step.result c.step.ensures (rw c.in-Ok-None.field-0-is at c.in-Ok-None.is) c.if-text-le2048.false

pub returns-in-Err : goal.returns-in-Err
returns-in-Err c =
    let a = c.args in
    let book = book_in (known_at a.description.now a.items a.places.now) a.literals a.content a.rows.now a.bytes.now in
    let l = c.loop-held in
    fault_end book c.args.text.now _ _ _ l.invariant.0 l.invariant.1 l.invariant.5 c.step.result c.step.ensures
    c.in-Err.is c.early.ensures

pub returns-then-text-le2048-2 : goal.returns-then-text-le2048-2
returns-then-text-le2048-2 c =
    let a = c.args in
    let book = book_in (known_at a.description.now a.items a.places.now) a.literals a.content a.rows.now a.bytes.now in
    whole_past book c.args.text.now _ _ _ c.loop-held.invariant.0 c.loop-held.invariant.1 c.loop-held.invariant.5 c.loop-held-test.false c.if-text-le2048-2.true

pub returns : goal.returns
returns c =
    let a = c.args in
    let book = book_in (known_at a.description.now a.items a.places.now) a.literals a.content a.rows.now a.bytes.now in
    long_past book c.args.text.now _ _ _ c.loop-held.invariant.0 c.loop-held.invariant.1 c.loop-held.invariant.5 c.loop-held-test.false c.if-text-le2048-2.false
