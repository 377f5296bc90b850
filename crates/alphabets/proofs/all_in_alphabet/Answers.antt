-- Rests on the invariant that `all` of the bytes is `all` of those from the loop's place on.
use mathlib.Core.Path.{◌≡◌, sym, ap, ◌∙◌}
use mathlib.Core.Bool.{Bool}
use mathlib.Core.List.{List}
use Prim.Native.Nat.{ℕ, ◌+◌, ◌-◌, ◌<◌}
use native.Mathlib.Omega.{arith}
use lib.ListN.{length, get_or, take, drop}
use Rattle.std.proofs.lemmas.List.{take_rest}
use Rattle.content.specs.Content.{all}
use Rattle.content.specs.Letters.{in_alphabet}
use Rattle.content.proofs.Bytes.{all_then, all_end, all_past}
use Rattle.alphabets.proofs.all_in_alphabet.Goals as goal

pub loop-b-init : goal.loop-b-init
loop-b-init c = let (within, pass) = c.alphabet_blocks-first.ensures in all_past _ c.args.bytes.now c.alphabet_blocks-first.result pass

pub returns-then-not-in_alphabet : goal.returns-then-not-in_alphabet
returns-then-not-in_alphabet c =
    let l = c.loop-b in
    let rest = take_rest c.args.bytes.now c.alphabet_blocks-first.result in
    let within = c.loop-b-test.true in
    let fails = sym c.in_alphabet.ensures ∙ c.if-not-in_alphabet.true in
    sym (l.invariant ∙ all_then _ (drop c.alphabet_blocks-first.result c.args.bytes.now) l.b-index (rw rest at within) (rw rest at fails))

pub loop-b-preserved : goal.loop-b-preserved
loop-b-preserved c =
    let l = c.loop-b in
    let rest = take_rest c.args.bytes.now c.alphabet_blocks-first.result in
    let within = c.loop-b-test.true in
    let holds = sym c.in_alphabet.ensures ∙ c.if-not-in_alphabet.false in
    l.invariant ∙ all_then _ (drop c.alphabet_blocks-first.result c.args.bytes.now) l.b-index (rw rest at within) (rw rest at holds)

pub returns : goal.returns
returns c =
    let rest = take_rest c.args.bytes.now c.alphabet_blocks-first.result in
    let past = c.loop-b-test.false in
    sym (c.loop-b.invariant ∙ all_end _ (drop c.alphabet_blocks-first.result c.args.bytes.now) _ (rw rest at past))
