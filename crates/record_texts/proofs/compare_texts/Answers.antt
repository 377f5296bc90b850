-- One record after the other.
use mathlib.Core.Path.{◌≡◌, ap₂, ◌∙◌}
use Prim.Native.Nat.{ℕ, ◌+◌}
use native.Mathlib.Omega.{arith}
use Rattle.block_truths.proofs.Passing.{tells, all_told}
use Rattle.record_texts.specs.Texts.{text_in}
use Rattle.record_texts.proofs.compare_texts.Goals as goal

pub loop-j-preserved : goal.loop-j-preserved
loop-j-preserved c =
    let a = c.args in
    let l = c.loop-j.invariant in
    let first = c.extent_of-first.ensures in
    let second = c.extent_of-second.ensures in
    let word = λ (end width : ℕ). text_in a.records.now c.loop-j.base end width a.filled in
    let one : (c.text_at-a.result ≡ word (a.row1.offset + a.row1.size) a.row1.size) = c.text_at-a.ensures ∙ ap₂ word first.0 first.1 in
    let other : (c.text_at-b.result ≡ word (a.row2.offset + a.row2.size) a.row2.size) = c.text_at-b.ensures ∙ ap₂ word second.0 second.1 in
    tells c.requires.laid.0 c.requires.laid.2 l (omega arith) (rw (c.compare_words.ensures, other, one, l.starts))

pub returns : goal.returns
returns c = all_told c.loop-j.invariant (omega arith)
