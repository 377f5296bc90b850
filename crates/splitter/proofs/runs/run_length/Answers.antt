-- `run_length` meets its contract. The loop's invariant: the first `i` bytes go on the word, and what is left goes on as it does after
-- them.
use mathlib.Core.Path.{sym, ◌∙◌}
use native.Mathlib.Omega.{arith}
use Rattle.splitter.proofs.Walking.{run-ended, run-stopped, run_on}
use Rattle.splitter.proofs.runs.run_length.Goals as goal

pub returns-then-stops_word : goal.returns-then-stops_word
returns-then-stops_word c =
    let l = c.loop-i in
    let bytes = c.args.bytes.now in
    omega (
      arith,
      l.invariant,
      run-stopped bytes l.quoted l.i c.loop-i-test.true (sym c.stops_word.ensures ∙ c.if-stops_word.true),
    )

pub loop-i-preserved : goal.loop-i-preserved
loop-i-preserved c =
    let l = c.loop-i in
    let bytes = c.args.bytes.now in
    let on =
    run_on bytes l.quoted l.i c.loop-i-test.true
    (sym c.stops_word.ensures ∙ c.if-stops_word.false) in
    rw c.turn-quoted.ensures (omega (arith, l.invariant, on))

pub returns : goal.returns
returns c =
    let l = c.loop-i in
    let bytes = c.args.bytes.now in
    omega (arith, l.invariant, run-ended bytes l.quoted l.i c.loop-i-test.false)
