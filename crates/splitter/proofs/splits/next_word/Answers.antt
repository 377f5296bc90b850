-- `next_word` meets its contract. The loop's invariant: the words from `at` on are those from `from` on.
use mathlib.Core.Path.{sym, ◌∙◌}
use native.Mathlib.Omega.{arith}
use Rattle.splitter.proofs.Walking.{no_word, blank_passed, word_at_lem}
use Rattle.splitter.proofs.splits.next_word.Goals as goal

pub overflow_add-end : goal.overflow_add-end
overflow_add-end c =
    omega (
      arith,
      (word_at_lem c.args.text.now c.loop-at.at
          c.word_length.result c.word_length.ensures c.loop-at-test.true
          (sym c.is_blank.ensures ∙ c.if-not-is_blank.true)).1,
    )

pub returns-then-not-is_blank : goal.returns-then-not-is_blank
returns-then-not-is_blank c =
    let found =
    word_at_lem c.args.text.now c.loop-at.at
    c.word_length.result c.word_length.ensures c.loop-at-test.true
    (sym c.is_blank.ensures ∙ c.if-not-is_blank.true) in
    record { within = (omega arith, found.0, found.1); words = c.loop-at.invariant ∙ found.2 }

pub loop-at-preserved : goal.loop-at-preserved
loop-at-preserved c =
    c.loop-at.invariant
    ∙ blank_passed c.args.text.now _ c.loop-at-test.true
    (sym c.is_blank.ensures ∙ c.if-not-is_blank.false)

pub returns : goal.returns
returns c =
    record { within = tt; words = c.loop-at.invariant ∙ no_word c.args.text.now _ c.loop-at-test.false }
