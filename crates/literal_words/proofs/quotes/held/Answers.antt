-- `held` meets its contract. The loop's invariant: the bytes close, and are as many, as the bytes left do and are after the `n` counted.
use mathlib.Core.Path.{sym, ap, ◌∙◌}
use mathlib.Core.Bool.{Bool, true, false, cond}
use Prim.Native.Nat.{ℕ}
use native.Mathlib.Omega.{arith}
use Rattle.literal_words.proofs.Holding.{text-ended, text_broken, text_on, held_not, held_is, one_most}
use Rattle.literal_words.proofs.quotes.held.Goals as goal

pub returns-then-broken : goal.returns-then-broken
returns-then-broken c =
    let l = c.loop-b in
    let bytes = c.args.bytes.now in
    held_not bytes
    (l.invariant.1 ∙ text_broken bytes l.pending l.b-index c.loop-b-test.true (sym c.broken.ensures ∙ c.if-broken.true))

pub loop-b-preserved : goal.loop-b-preserved
loop-b-preserved c =
    let l = c.loop-b in
    let bytes = c.args.bytes.now in
    let on =
    text_on bytes l.pending l.b-index c.loop-b-test.true
    (sym c.broken.ensures ∙ c.if-broken.false) in
    let one = c.one_unless-n.ensures ∙ ap (λ (t : Bool). cond {A = ℕ} t 0 1) c.waits-pending.ensures in (
      omega (arith, one_most c.waits-pending.result c.one_unless-n.result c.one_unless-n.ensures),
      rw c.waits-pending.ensures (l.invariant.1 ∙ on.0),
      rw c.waits-pending.ensures (omega (arith, l.invariant.2, on.1, one)),
    )

pub returns-then-pending-n : goal.returns-then-pending-n
returns-then-pending-n c =
    let l = c.loop-b in
    let bytes = c.args.bytes.now in
    let ended = text-ended bytes l.pending l.b-index c.loop-b-test.false in
    held_is bytes l.pending l.n true (l.invariant.1 ∙ ended.0) (omega (arith, l.invariant.2, ended.1)) c.if-pending-n.true

pub returns : goal.returns
returns c =
    let l = c.loop-b in
    let bytes = c.args.bytes.now in
    let ended = text-ended bytes l.pending l.b-index c.loop-b-test.false in
    held_is bytes l.pending l.n false (l.invariant.1 ∙ ended.0) (omega (arith, l.invariant.2, ended.1)) c.if-pending-n.false
