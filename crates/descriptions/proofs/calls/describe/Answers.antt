-- `describe` meets its contract: from the laws of proofs/ and what its callees ensure. Assumes nothing.
use native.Mathlib.Omega.{arith}
use borrow.Author.Tests.{not-true, not-false}
use Rattle.std.proofs.lemmas.Grind.{common_steps}
use Rattle.descriptions.proofs.Answers.{answers-over, answers_faulty, ready, answers-given}
use Rattle.descriptions.proofs.calls.describe.Goals as goal

pub returns-then-not-found : goal.returns-then-not-found
returns-then-not-found c =
    let p = c.parse-parsed in
    let P = p.ensures in
    answers_faulty c.args.text.now p.new.entries _ _ _ p.new.rows p.result.found P.read P.lays P.sooner
    c.args.rows.now c.args.places.now c.args.names.now c.args.name_places.now c.args.literals.now c.args.bytes.now
    c.in-None.is (not-true _ c.if-not-found.true)

pub give-requires : goal.give-requires
give-requires c =
    let p = c.parse-parsed in
    let P = p.ensures in
    ready c.args.text.now p.new.entries _ _ _ p.new.rows p.result.found P.read P.lays P.sooner
    c.in-None.is (not-false _ c.if-not-found.false)
    (omega (arith, p.auto.entries)) (omega (arith, p.auto.rows)) (omega (arith, p.auto.named)) (omega (arith, p.auto.spots))
    (omega (arith, p.auto.notes))

pub returns-in-Some : goal.returns-in-Some
returns-in-Some c =
    let p = c.parse-parsed in
    let P = p.ensures in
    answers-over c.args.text.now p.new.entries _ _ _ p.new.rows p.result.found P.read P.lays P.sooner
    c.args.rows.now c.args.places.now c.args.names.now c.args.name_places.now c.args.literals.now c.args.bytes.now
    c.in-Some.is

pub returns-else-not-found : goal.returns-else-not-found
returns-else-not-found c =
    let p = c.parse-parsed in
    let P = p.ensures in
    answers-given c.args.text.now p.new.entries _ _ _ p.new.rows p.result.found P.read P.lays P.sooner
    c.in-None.is (not-false _ c.if-not-found.false)
    (omega (arith, p.auto.entries)) (omega (arith, p.auto.rows)) (omega (arith, p.auto.named)) (omega (arith, p.auto.spots))
    (omega (arith, p.auto.notes))
    c.give.ensures
