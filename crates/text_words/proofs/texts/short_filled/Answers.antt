-- Rests on the invariant that the word is that of the bytes that were passed, which leaves room for one more, and on what `fill` returns.
use mathlib.Core.Path.{refl, sym}
use native.Mathlib.Omega.{arith}
use Rattle.byte_words.specs.Words.{word_from}
use Rattle.byte_words.proofs.WordLaws.{bytes_of}
use Rattle.text_words.proofs.TextLaws.{plain_more, plain-room, plain_end, plain-filled}
use Rattle.text_words.proofs.texts.short_filled.Goals as goal

pub loop-b-init : goal.loop-b-init
unfolding word_from
loop-b-init c = refl

pub overflow_mul-word : goal.overflow_mul-word
overflow_mul-word c =
    let l = c.loop-b in
    let bytes = bytes_of c.args.bytes.now (λ i. (c.type_inv.bytes i).fits) in
    omega (arith, l.invariant, plain-room bytes l.b-index c.loop-b-test.true (omega arith))

pub overflow_add-word : goal.overflow_add-word
overflow_add-word c =
    let l = c.loop-b in
    let bytes = bytes_of c.args.bytes.now (λ i. (c.type_inv.bytes i).fits) in
    omega (arith, l.invariant, plain-room bytes l.b-index c.loop-b-test.true (omega arith), (c.type_inv.bytes l.b-index).fits)

pub loop-b-preserved : goal.loop-b-preserved
loop-b-preserved c =
    let l = c.loop-b in
    let bytes = c.args.bytes.now in
    rw l.invariant (sym (plain_more bytes l.b-index c.loop-b-test.true))

pub fill-requires : goal.fill-requires
fill-requires c =
    let bytes = bytes_of c.args.bytes.now (λ i. (c.type_inv.bytes i).fits) in
    (c.requires.0, c.requires.1, c.requires.2, plain_end bytes c.loop-b.invariant c.loop-b-test.false)

pub returns : goal.returns
returns c =
    plain-filled c.args.bytes.now c.args.n c.loop-b.invariant c.loop-b-test.false c.fill.ensures
