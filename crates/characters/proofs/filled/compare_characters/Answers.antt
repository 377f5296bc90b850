-- Rests on the invariant that the two filled sides compare as what is left of them from i on.
use mathlib.Core.Path.{sym, ap₂, ◌∙◌}
use Prim.Native.Nat.{◌-◌, max}
use native.Mathlib.Omega.{arith}
use Rattle.characters.proofs.CharacterLaws.{unsigned_length, agree-start, agree_less, agree_greater, agree_more, agree_end}
use Rattle.characters.proofs.filled.compare_characters.Goals as goal

pub loop-i-init : goal.loop-i-init
loop-i-init c =
    let l = unsigned_length c.args.left_signed c.args.left.now c.requires.0 in
    let r = unsigned_length c.args.right_signed c.args.right.now c.requires.1 in
    let start = c.same_start-start.ensures in
    let n = c.longer-n.ensures ∙ sym (ap₂ max l r) in
    agree-start c.same_start-start.result n (omega arith) (omega arith) start.2

pub returns-then-x-y : goal.returns-then-x-y
returns-then-x-y c =
    sym
    (agree_less c.loop-i.invariant c.loop-i-test.true
    c.character_at-x.ensures c.character_at-y.ensures c.if-x-y.true)

pub returns-then-y-x : goal.returns-then-y-x
returns-then-y-x c =
    sym
    (agree_greater c.loop-i.invariant c.loop-i-test.true
    c.character_at-x.ensures c.character_at-y.ensures c.if-y-x.true)

pub loop-i-preserved : goal.loop-i-preserved
loop-i-preserved c =
    let more = agree_more c.loop-i.invariant c.loop-i-test.true in
    more c.character_at-x.ensures c.character_at-y.ensures c.if-x-y.false c.if-y-x.false

pub returns : goal.returns
returns c = sym (agree_end c.loop-i.invariant c.loop-i-test.false)
