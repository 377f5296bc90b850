-- `word_length` meets its contract.
use mathlib.Core.Path.{◌≡◌, sym, ◌∙◌}
use Prim.Native.Nat.{ℕ}
use mathlib.Core.Bool.{cond}
use borrow.Author.Tests.{ne_eqb}
use Rattle.spelling.specs.Words.{is_equals}
use Rattle.splitter.proofs.Walking.{length_one, length_symbol, length_run}
use Rattle.splitter.proofs.runs.word_length.Goals as goal

pub returns-then-b : goal.returns-then-b
returns-then-b c = length_one c.args.bytes.now c.byte_at-b.result c.byte_at-b.ensures c.if-b.true

pub returns-then-byte_at-eq61 : goal.returns-then-byte_at-eq61
returns-then-byte_at-eq61 c =
    let first = c.byte_at-b in
    let next = c.byte_at in
    let two : ◌≡◌ {A = ℕ} 2 (cond (is_equals next.result) 2 1) = rw c.if-byte_at-eq61.true in
    two
    ∙ length_symbol c.args.bytes.now first.result first.ensures c.if-b.false
    c.if-b-2.true next.result next.ensures

pub returns-then-b-2 : goal.returns-then-b-2
returns-then-b-2 c =
    let first = c.byte_at-b in
    let next = c.byte_at in
    let one : ◌≡◌ {A = ℕ} 1 (cond (is_equals next.result) 2 1) = rw (ne_eqb _ _ c.if-byte_at-eq61.false) in
    one
    ∙ length_symbol c.args.bytes.now first.result first.ensures c.if-b.false
    c.if-b-2.true next.result next.ensures

pub returns : goal.returns
returns c =
    let first = c.byte_at-b in
    c.run_length.ensures
    ∙ length_run c.args.bytes.now first.result first.ensures c.if-b.false c.if-b-2.false
