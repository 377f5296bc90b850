-- One field.
use mathlib.Core.Bool.{not}
use mathlib.Core.Path.{ap}
use mathlib.Core.Path.{◌≡◌, sym, ◌∙◌, refl}
use mathlib.Core.Bool.{true}
use Prim.Native.Nat.{◌+◌, ◌-◌}
use lib.ListN.{take, drop}
use native.Mathlib.Omega.{arith}
use Rattle.std.proofs.lemmas.Bool.{true≢false}
use Rattle.std.proofs.lemmas.Grind.{common_steps}
use Rattle.tables.specs.Operands.{Lent, lend_names, row_of}
use Rattle.tables.specs.Tokens.{is_item}
use Rattle.tables.proofs.Tests.{both}
use Rattle.values.specs.Truth.{Sided}
use Rattle.values.proofs.Reading.{read-class}
use Rattle.digit_words.specs.Words.{fits_word}
use Rattle.byte_words.proofs.WordLaws.{bytes_of}
use Rattle.block_truths.proofs.Firsts.{first_readable, item_inside}
use Rattle.block_truths.proofs.Passing.{retold, judged}
use Rattle.block_truths.proofs.Sides.{field_of}
use Rattle.columns.proofs.Sides.{word_size, numeric-right}
use Rattle.columns.proofs.rows.judge_numeric.Goals as goal

pub row_of-row-requires : goal.row_of-row-requires
row_of-row-requires c =
    let lent = lend_names c.args.items.now c.args.literals.now c.args.bytes.now c.args.names.now in
    let subject : (Sided lent (take (c.args.block.from + c.args.block.size - c.args.block.from) (drop c.args.block.from c.args.records.now)) c.args.condition.subject) = (read-class (first_readable c.requires.judgeable.0) c.requires.relation_value) in
    (subject).within.there

pub test_field-requires : goal.test_field-requires
test_field-requires c =
    let lent = lend_names c.args.items.now c.args.literals.now c.args.bytes.now c.args.names.now in
    let subject : (Sided lent (take (c.args.block.from + c.args.block.size - c.args.block.from) (drop c.args.block.from c.args.records.now)) c.args.condition.subject) = (read-class (first_readable c.requires.judgeable.0) c.requires.relation_value) in
    let fits : (fits_word (row_of lent c.args.condition.subject) ≡ true) = (rw c.row_of-row.ensures at
    (sym c.fits_word.ensures ∙ (both c.fits_word.result c.is_item.result c.if-not-fits_word-is_item.false).0)) in
    let item : (is_item c.args.condition.subject ≡ true) = (sym c.is_item.ensures ∙ (both c.fits_word.result c.is_item.result c.if-not-fits_word-is_item.false).1) in
    let m = word_size (row_of lent c.args.condition.subject) fits in
    record {
      laid = (c.requires.judgeable.0.laid, c.requires.judgeable.1, c.requires.judgeable.2);
      field_of = rw c.row_of-row.ensures (field_of c.requires.judgeable.0 subject item m);
    }

pub returns : goal.returns
returns c =
    let lent = lend_names c.args.items.now c.args.literals.now c.args.bytes.now c.args.names.now in
    let subject : (Sided lent (take (c.args.block.from + c.args.block.size - c.args.block.from) (drop c.args.block.from c.args.records.now)) c.args.condition.subject) = (read-class (first_readable c.requires.judgeable.0) c.requires.relation_value) in
    let fits : (fits_word (row_of lent c.args.condition.subject) ≡ true) = (rw c.row_of-row.ensures at
    (sym c.fits_word.ensures ∙ (both c.fits_word.result c.is_item.result c.if-not-fits_word-is_item.false).0)) in
    let item : (is_item c.args.condition.subject ≡ true) = (sym c.is_item.ensures ∙ (both c.fits_word.result c.is_item.result c.if-not-fits_word-is_item.false).1) in
    let e = c in
    let row = e in
    record {
      judges_all = λ _. (
          retold (rw (c.bits_of.ensures, row.row_of-row.ensures) at c.test_field.ensures)
          (λ k _ v h. numeric-right lent c.args.records.now c.args.block.from c.args.block.size c.args.switches c.args.condition
          (bytes_of c.args.records.now (λ i. (c.type_inv.records i).fits))
          (bytes_of c.args.bytes.now (λ i. (c.type_inv.bytes i).fits)) k c.requires.relation_value fits item
          (item_inside c.requires.judgeable.0 subject item) h)
          );
      truths_unchanged = λ e. absurd (true≢false e);
      value = (sym (rw (fits, item)));
    }
