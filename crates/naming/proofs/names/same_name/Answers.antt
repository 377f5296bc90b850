-- `same_name` meets its contract. The loop's invariant: the first k bytes are the name's, so the rest decides.
use mathlib.Core.Path.{◌≡◌, refl, sym, ap, ◌∙◌}
use Prim.Native.Nat.{ℕ}
use native.Mathlib.Omega.{arith}
use lib.ListN.{length, drop}
use Rattle.description.specs.Grammar.{same}
use Rattle.spelling.specs.Names.{leading}
use Rattle.naming.proofs.Finding.{too_short, byte_differs, name_goes_on, name_ends}
use Rattle.naming.proofs.names.same_name.Goals as goal

pub returns-then-rest-word : goal.returns-then-rest-word
returns-then-rest-word c = too_short c.args.word.now c.args.rest.now c.if-rest-word.true

pub loop-k-init : goal.loop-k-init
loop-k-init c = (omega arith, refl)

pub returns-then-rest-k : goal.returns-then-rest-k
returns-then-rest-k c = sym (byte_differs c.args.word.now c.args.rest.now c.loop-k.k c.loop-k-test.true c.if-rest-k.true)

pub loop-k-preserved : goal.loop-k-preserved
loop-k-preserved c =
    let l = c.loop-k in
    let there = name_goes_on c.args.word.now c.args.rest.now l.k c.requires c.loop-k-test.true in
    (l.invariant.0, l.invariant.1 ∙ there (omega (arith, l.invariant.0)) c.if-rest-k.false)

pub returns : goal.returns
returns c =
    let word = c.args.word.now in
    let rest = c.args.rest.now in
    let all : c.loop-k.k ≡ length word = omega arith in
    let ended = name_ends word rest (length word) c.byte_at.result c.is_name_byte.result (omega arith) c.byte_at.ensures c.is_name_byte.ensures in
    ended ∙ sym (c.loop-k.invariant.1 ∙ ap (λ (n : ℕ). same (drop n word) (leading (drop n rest))) all)
