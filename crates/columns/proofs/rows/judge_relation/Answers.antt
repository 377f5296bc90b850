-- By the kinds of the two sides.
use mathlib.Core.Bool.{not}
use mathlib.Core.Path.{ap}
use mathlib.Core.Path.{sym, ◌∙◌, refl}
use mathlib.Core.Bool.{true, false}
use mathlib.Core.List.{List}
use Prim.Native.Nat.{ℕ, ◌+◌, ◌-◌}
use native.Mathlib.Omega.{arith}
use lib.Dec.{eqb}
use lib.ListN.{take, drop}
use borrow.Author.Tests.{eqb-true}
use Rattle.std.proofs.lemmas.Bool.{true≢false}
use Rattle.std.proofs.lemmas.Grind.{common_steps}
use Rattle.tables.specs.Operands.{Lent, lend_names}
use Rattle.tables.proofs.Tests.{both}
use Rattle.values.specs.Truth.{Sided}
use Rattle.byte_words.proofs.WordLaws.{Bytes, bytes_of}
use Rattle.byte_words.specs.Words.{digit_word, digits_in}
use Rattle.block_truths.proofs.Firsts.{first-within, within_unnamed}
use Rattle.block_truths.proofs.Sides.{field_of, first_sides, items-judged, object-judged, subject_judged}
use Rattle.block_truths.proofs.Passing.{judged}
use Rattle.columns.proofs.Sides.{Worded, sizes, by_sides, literal_digits_lem, by_words_lem}
use Rattle.columns.proofs.rows.judge_relation.Goals as goal

pub row_of-row1-requires : goal.row_of-row1-requires
row_of-row1-requires c =
    let lent = lend_names c.args.items.now c.args.literals.now c.args.bytes.now c.args.names.now in
    let first = take (c.args.block.from + c.args.block.size - c.args.block.from) (drop c.args.block.from c.args.records.now) in
    let sides : (Sided lent first c.args.condition.subject × Sided lent first c.args.condition.object) = (first_sides c.requires.judgeable.0 c.requires.relation_value) in
    (sides).0.within.there

pub row_of-row2-requires : goal.row_of-row2-requires
row_of-row2-requires c =
    let lent = lend_names c.args.items.now c.args.literals.now c.args.bytes.now c.args.names.now in
    let first = take (c.args.block.from + c.args.block.size - c.args.block.from) (drop c.args.block.from c.args.records.now) in
    let sides : (Sided lent first c.args.condition.subject × Sided lent first c.args.condition.object) = (first_sides c.requires.judgeable.0 c.requires.relation_value) in
    (sides).1.within.there

pub relate_fields-requires : goal.relate_fields-requires
relate_fields-requires c =
    let lent = lend_names c.args.items.now c.args.literals.now c.args.bytes.now c.args.names.now in
    let first = take (c.args.block.from + c.args.block.size - c.args.block.from) (drop c.args.block.from c.args.records.now) in
    let sides : (Sided lent first c.args.condition.subject × Sided lent first c.args.condition.object) = (first_sides c.requires.judgeable.0 c.requires.relation_value) in
    let worded : (Worded lent c.args.condition) = (let rows = c in
    let t = both _ _ c.if-not-fits_word-row1.false in
    let u = both _ _ t.0 in
    record {
      subject = rw rows.row_of-row1.ensures at (sym c.fits_word.ensures ∙ u.0);
      object = rw rows.row_of-row2.ensures at (sym c.fits_word-2.ensures ∙ u.1);
      scale = rw (rows.row_of-row1.ensures, rows.row_of-row2.ensures) at (eqb-true rows.row_of-row1.result.scale rows.row_of-row2.result.scale t.1);
    }) in
    let J = c.requires.judgeable.0 in
    let m = sizes worded in
    let i = sym c.is_item.ensures ∙ c.if-is_item.true in
    let j = sym c.is_item-then-is_item.ensures ∙ c.if-is_item-2.true in
    record {
      laid = (J.laid, c.requires.judgeable.1, c.requires.judgeable.2);
      field_of = rw (c.row_of-row1.ensures, c.row_of-row2.ensures) (field_of J sides.0 i m.0, field_of J sides.1 j m.1);
    }

pub returns-then-is_item-2 : goal.returns-then-is_item-2
returns-then-is_item-2 c =
    let lent = lend_names c.args.items.now c.args.literals.now c.args.bytes.now c.args.names.now in
    let first = take (c.args.block.from + c.args.block.size - c.args.block.from) (drop c.args.block.from c.args.records.now) in
    let worded : (Worded lent c.args.condition) = (let rows = c in
    let t = both _ _ c.if-not-fits_word-row1.false in
    let u = both _ _ t.0 in
    record {
      subject = rw rows.row_of-row1.ensures at (sym c.fits_word.ensures ∙ u.0);
      object = rw rows.row_of-row2.ensures at (sym c.fits_word-2.ensures ∙ u.1);
      scale = rw (rows.row_of-row1.ensures, rows.row_of-row2.ensures) at (eqb-true rows.row_of-row1.result.scale rows.row_of-row2.result.scale t.1);
    }) in
    let in_file : (Bytes c.args.records.now × Bytes c.args.bytes.now) = ((bytes_of _ (λ i. (c.type_inv.records i).fits), bytes_of _ (λ i. (c.type_inv.bytes i).fits))) in
    let e = c in
    let rows = e in
    let i = sym c.is_item.ensures ∙ c.if-is_item.true in
    let j = sym c.is_item-then-is_item.ensures ∙ c.if-is_item-2.true in
    record {
      judges_all = λ _. (
          items-judged c.requires.judgeable.0 c.requires.relation_value digit_word (digits_in 8) c.args.switches
          (λ k _. by_words_lem lent c.args.records.now c.args.block.from c.args.block.size c.args.switches c.args.condition in_file.0 in_file.1 k
          c.requires.relation_value worded) i j
          (rw (rows.row_of-row1.ensures, rows.row_of-row2.ensures, c.asked_of-asked.ensures) at
          c.relate_fields.ensures)
          );
      truths_unchanged = λ e. absurd (true≢false e);
      value = (sym (by_sides worded ∙ rw (i, j)));
    }

pub relate_literal-requires : goal.relate_literal-requires
relate_literal-requires c =
    let lent = lend_names c.args.items.now c.args.literals.now c.args.bytes.now c.args.names.now in
    let first = take (c.args.block.from + c.args.block.size - c.args.block.from) (drop c.args.block.from c.args.records.now) in
    let sides : (Sided lent first c.args.condition.subject × Sided lent first c.args.condition.object) = (first_sides c.requires.judgeable.0 c.requires.relation_value) in
    let worded : (Worded lent c.args.condition) = (let rows = c in
    let t = both _ _ c.if-not-fits_word-row1.false in
    let u = both _ _ t.0 in
    record {
      subject = rw rows.row_of-row1.ensures at (sym c.fits_word.ensures ∙ u.0);
      object = rw rows.row_of-row2.ensures at (sym c.fits_word-2.ensures ∙ u.1);
      scale = rw (rows.row_of-row1.ensures, rows.row_of-row2.ensures) at (eqb-true rows.row_of-row1.result.scale rows.row_of-row2.result.scale t.1);
    }) in
    let J = c.requires.judgeable.0 in
    let m = sizes worded in
    let i = sym c.is_item.ensures ∙ c.if-is_item.true in record {
      laid = (J.laid, c.requires.judgeable.1, c.requires.judgeable.2);
      field_of = (rw c.row_of-row1.ensures (field_of J sides.0 i m.0), first-within J);
      within = (within_unnamed sides.1, omega (arith, (sides).1.fit.sized, m.1));
    }

pub returns-then-is_item : goal.returns-then-is_item
returns-then-is_item c =
    let lent = lend_names c.args.items.now c.args.literals.now c.args.bytes.now c.args.names.now in
    let first = take (c.args.block.from + c.args.block.size - c.args.block.from) (drop c.args.block.from c.args.records.now) in
    let worded : (Worded lent c.args.condition) = (let rows = c in
    let t = both _ _ c.if-not-fits_word-row1.false in
    let u = both _ _ t.0 in
    record {
      subject = rw rows.row_of-row1.ensures at (sym c.fits_word.ensures ∙ u.0);
      object = rw rows.row_of-row2.ensures at (sym c.fits_word-2.ensures ∙ u.1);
      scale = rw (rows.row_of-row1.ensures, rows.row_of-row2.ensures) at (eqb-true rows.row_of-row1.result.scale rows.row_of-row2.result.scale t.1);
    }) in
    let in_file : (Bytes c.args.records.now × Bytes c.args.bytes.now) = ((bytes_of _ (λ i. (c.type_inv.records i).fits), bytes_of _ (λ i. (c.type_inv.bytes i).fits))) in
    let E = c.relate_literal.ensures in
    let i = sym c.is_item.ensures ∙ c.if-is_item.true in
    let j = sym c.is_item-then-is_item.ensures ∙ c.if-is_item-2.false in record {
      judges_all = λ h.
          let R = E.related h in
          object-judged c.requires.judgeable.0 c.requires.relation_value digit_word (digits_in 8) c.args.switches
          (λ k _. by_words_lem lent c.args.records.now c.args.block.from c.args.block.size c.args.switches c.args.condition in_file.0 in_file.1 k
          c.requires.relation_value worded) first i j R.digits
          (rw (c.row_of-row1.ensures, c.asked_of-asked.ensures) at R.numbers);
      truths_unchanged = E.truths_unchanged;
      value = E.value ∙ literal_digits_lem lent first c.args.condition.object j ∙ sym (by_sides worded ∙ rw (i, j));
    }

pub relate_literal-requires-then-is_item-3 : goal.relate_literal-requires-then-is_item-3
relate_literal-requires-then-is_item-3 c =
    let lent = lend_names c.args.items.now c.args.literals.now c.args.bytes.now c.args.names.now in
    let first = take (c.args.block.from + c.args.block.size - c.args.block.from) (drop c.args.block.from c.args.records.now) in
    let sides : (Sided lent first c.args.condition.subject × Sided lent first c.args.condition.object) = (first_sides c.requires.judgeable.0 c.requires.relation_value) in
    let worded : (Worded lent c.args.condition) = (let rows = c in
    let t = both _ _ c.if-not-fits_word-row1.false in
    let u = both _ _ t.0 in
    record {
      subject = rw rows.row_of-row1.ensures at (sym c.fits_word.ensures ∙ u.0);
      object = rw rows.row_of-row2.ensures at (sym c.fits_word-2.ensures ∙ u.1);
      scale = rw (rows.row_of-row1.ensures, rows.row_of-row2.ensures) at (eqb-true rows.row_of-row1.result.scale rows.row_of-row2.result.scale t.1);
    }) in
    let J = c.requires.judgeable.0 in
    let m = sizes worded in
    let j = sym c.is_item-2.ensures ∙ c.if-is_item-3.true in record {
      laid = (J.laid, c.requires.judgeable.1, c.requires.judgeable.2);
      field_of = (rw c.row_of-row2.ensures (field_of J sides.1 j m.1), first-within J);
      within = (within_unnamed sides.0, omega (arith, (sides).0.fit.sized, m.0));
    }

pub returns-then-is_item-3 : goal.returns-then-is_item-3
returns-then-is_item-3 c =
    let lent = lend_names c.args.items.now c.args.literals.now c.args.bytes.now c.args.names.now in
    let first = take (c.args.block.from + c.args.block.size - c.args.block.from) (drop c.args.block.from c.args.records.now) in
    let worded : (Worded lent c.args.condition) = (let rows = c in
    let t = both _ _ c.if-not-fits_word-row1.false in
    let u = both _ _ t.0 in
    record {
      subject = rw rows.row_of-row1.ensures at (sym c.fits_word.ensures ∙ u.0);
      object = rw rows.row_of-row2.ensures at (sym c.fits_word-2.ensures ∙ u.1);
      scale = rw (rows.row_of-row1.ensures, rows.row_of-row2.ensures) at (eqb-true rows.row_of-row1.result.scale rows.row_of-row2.result.scale t.1);
    }) in
    let in_file : (Bytes c.args.records.now × Bytes c.args.bytes.now) = ((bytes_of _ (λ i. (c.type_inv.records i).fits), bytes_of _ (λ i. (c.type_inv.bytes i).fits))) in
    let E = c.relate_literal-then-is_item-3.ensures in
    let i = sym c.is_item.ensures ∙ c.if-is_item.false in
    let j = sym c.is_item-2.ensures ∙ c.if-is_item-3.true in record {
      judges_all = λ h.
          let R = E.related h in
          subject_judged c.requires.judgeable.0 c.requires.relation_value digit_word (digits_in 8) c.args.switches
          (λ k _. by_words_lem lent c.args.records.now c.args.block.from c.args.block.size c.args.switches c.args.condition in_file.0 in_file.1 k
          c.requires.relation_value worded) first i j R.digits
          (rw (c.row_of-row2.ensures, c.asked_of-asked.ensures) at R.numbers);
      truths_unchanged = E.truths_unchanged;
      value = E.value ∙ literal_digits_lem lent first c.args.condition.subject i ∙ sym (by_sides worded ∙ rw (i, j));
    }
