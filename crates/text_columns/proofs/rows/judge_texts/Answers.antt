-- By the kinds of the two sides.
use mathlib.Core.Bool.{not}
use mathlib.Core.Path.{ap}
use mathlib.Core.Path.{◌≡◌, sym, ◌∙◌, refl}
use mathlib.Core.Bool.{true}
use mathlib.Core.List.{List}
use Prim.Native.Nat.{ℕ, ◌+◌, ◌-◌}
use native.Mathlib.Omega.{arith}
use lib.ListN.{take, drop}
use Rattle.std.proofs.lemmas.Bool.{true≢false}
use Rattle.std.proofs.lemmas.Grind.{common_steps}
use Rattle.tables.specs.Operands.{Lent, lend_names}
use Rattle.tables.proofs.Tests.{both}
use Rattle.values.specs.Truth.{Sided}
use Rattle.byte_words.proofs.WordLaws.{Bytes, bytes_of}
use Rattle.text_words.specs.Texts.{text_word}
use Rattle.block_truths.proofs.Firsts.{first-within, within_unnamed}
use Rattle.block_truths.proofs.Passing.{judged}
use Rattle.block_truths.proofs.Sides.{first_sides, items-judged, object-judged, subject_judged}
use Rattle.text_columns.proofs.Sides.{Texts, longer, short, text_of, literal_of_lem, by_both, by_texts_lem}
use Rattle.text_columns.proofs.rows.judge_texts.Goals as goal

pub row_of-row1-requires : goal.row_of-row1-requires
row_of-row1-requires c =
    let a = c.args in
    let lent = lend_names a.items.now a.literals.now a.bytes.now a.names.now in
    let first = take (a.block.from + a.block.size - a.block.from) (drop a.block.from a.records.now) in
    let sides : (Sided lent first c.args.condition.subject × Sided lent first c.args.condition.object) = (first_sides c.requires.judgeable.0 c.requires.relation_value) in
    (sides).0.within.there

pub row_of-row2-requires : goal.row_of-row2-requires
row_of-row2-requires c =
    let a = c.args in
    let lent = lend_names a.items.now a.literals.now a.bytes.now a.names.now in
    let first = take (a.block.from + a.block.size - a.block.from) (drop a.block.from a.records.now) in
    let sides : (Sided lent first c.args.condition.subject × Sided lent first c.args.condition.object) = (first_sides c.requires.judgeable.0 c.requires.relation_value) in
    (sides).1.within.there

pub compare_texts-requires : goal.compare_texts-requires
compare_texts-requires c =
    let a = c.args in
    let lent = lend_names a.items.now a.literals.now a.bytes.now a.names.now in
    let first = take (a.block.from + a.block.size - a.block.from) (drop a.block.from a.records.now) in
    let sides : (Sided lent first c.args.condition.subject × Sided lent first c.args.condition.object) = (first_sides c.requires.judgeable.0 c.requires.relation_value) in
    let texts : (Texts lent c.args.condition) = (let t = both c.fits_text.result c.fits_text-2.result (assumption c) in
    record {
      subject = rw c.row_of-row1.ensures at (sym c.fits_text.ensures ∙ t.0);
      object = rw c.row_of-row2.ensures at (sym c.fits_text-2.ensures ∙ t.1);
    }) in
    let filled : (c.filled_size-filled.result ≡ longer lent c.args.condition) = (rw (c.row_of-row1.ensures, c.row_of-row2.ensures) at c.filled_size-filled.ensures) in
    let J = c.requires.judgeable.0 in
    let h = short texts in
    let i = sym c.is_item.ensures ∙ c.if-is_item.true in
    let j = sym c.is_item-then-is_item.ensures ∙ c.if-is_item-2.true in record {
      laid = (J.laid, c.requires.judgeable.1, c.requires.judgeable.2);
      text_of = rw (c.row_of-row1.ensures, c.row_of-row2.ensures, filled)
          (text_of J sides.0 i (omega arith) h, text_of J sides.1 j (omega arith) h);
    }

pub returns-then-is_item-2 : goal.returns-then-is_item-2
returns-then-is_item-2 c =
    let a = c.args in
    let lent = lend_names a.items.now a.literals.now a.bytes.now a.names.now in
    let first = take (a.block.from + a.block.size - a.block.from) (drop a.block.from a.records.now) in
    let texts : (Texts lent c.args.condition) = (let t = both c.fits_text.result c.fits_text-2.result (assumption c) in
    record {
      subject = rw c.row_of-row1.ensures at (sym c.fits_text.ensures ∙ t.0);
      object = rw c.row_of-row2.ensures at (sym c.fits_text-2.ensures ∙ t.1);
    }) in
    let filled : (c.filled_size-filled.result ≡ longer lent c.args.condition) = (rw (c.row_of-row1.ensures, c.row_of-row2.ensures) at c.filled_size-filled.ensures) in
    let in_file : (Bytes c.args.records.now × Bytes c.args.bytes.now) = (let c8 = c in
    (bytes_of _ (λ i. (c8.type_inv.records i).fits), bytes_of _ (λ i. (c8.type_inv.bytes i).fits))) in
    let e = c in
    let i = sym c.is_item.ensures ∙ c.if-is_item.true in
    let j = sym c.is_item-then-is_item.ensures ∙ c.if-is_item-2.true in
    record {
      judges_all = λ _. items-judged c.requires.judgeable.0 c.requires.relation_value (text_word (longer lent c.args.condition)) (λ _. true) c.args.switches
          (λ k l _ _. by_texts_lem c.requires.judgeable.0 c.args.switches in_file.0 in_file.1 c.requires.relation_value texts k l) i j (rw (
            e.row_of-row1.ensures,
            e.row_of-row2.ensures,
            c.order_bits-order.ensures,
            e.asked_of-asked.ensures,
            filled,
          ) at c.compare_texts.ensures);
      truths_unchanged = λ e. absurd (true≢false e);
      value = (sym (by_both texts ∙ rw i));
    }

pub relate_literal-requires : goal.relate_literal-requires
relate_literal-requires c =
    let a = c.args in
    let lent = lend_names a.items.now a.literals.now a.bytes.now a.names.now in
    let first = take (a.block.from + a.block.size - a.block.from) (drop a.block.from a.records.now) in
    let sides : (Sided lent first c.args.condition.subject × Sided lent first c.args.condition.object) = (first_sides c.requires.judgeable.0 c.requires.relation_value) in
    let texts : (Texts lent c.args.condition) = (let t = both c.fits_text.result c.fits_text-2.result (assumption c) in
    record {
      subject = rw c.row_of-row1.ensures at (sym c.fits_text.ensures ∙ t.0);
      object = rw c.row_of-row2.ensures at (sym c.fits_text-2.ensures ∙ t.1);
    }) in
    let filled : (c.filled_size-filled.result ≡ longer lent c.args.condition) = (rw (c.row_of-row1.ensures, c.row_of-row2.ensures) at c.filled_size-filled.ensures) in
    let J = c.requires.judgeable.0 in
    let h = short texts in
    let i = sym c.is_item.ensures ∙ c.if-is_item.true in record {
      laid = (J.laid, c.requires.judgeable.1, c.requires.judgeable.2);
      text_of = (rw (c.row_of-row1.ensures, filled) (text_of J sides.0 i (omega arith) h), first-within J);
      within = (within_unnamed sides.1, rw filled (literal_of_lem sides.1 (omega arith) h));
    }

pub returns-then-is_item : goal.returns-then-is_item
returns-then-is_item c =
    let a = c.args in
    let lent = lend_names a.items.now a.literals.now a.bytes.now a.names.now in
    let first = take (a.block.from + a.block.size - a.block.from) (drop a.block.from a.records.now) in
    let texts : (Texts lent c.args.condition) = (let t = both c.fits_text.result c.fits_text-2.result (assumption c) in
    record {
      subject = rw c.row_of-row1.ensures at (sym c.fits_text.ensures ∙ t.0);
      object = rw c.row_of-row2.ensures at (sym c.fits_text-2.ensures ∙ t.1);
    }) in
    let filled : (c.filled_size-filled.result ≡ longer lent c.args.condition) = (rw (c.row_of-row1.ensures, c.row_of-row2.ensures) at c.filled_size-filled.ensures) in
    let in_file : (Bytes c.args.records.now × Bytes c.args.bytes.now) = ((bytes_of _ (λ i. (c.type_inv.records i).fits), bytes_of _ (λ i. (c.type_inv.bytes i).fits))) in
    let e = c in
    let i = sym c.is_item.ensures ∙ c.if-is_item.true in
    let j = sym c.is_item-then-is_item.ensures ∙ c.if-is_item-2.false in
    record {
      judges_all = λ _. object-judged c.requires.judgeable.0 c.requires.relation_value (text_word (longer lent c.args.condition)) (λ _. true) c.args.switches
          (λ k l _ _. by_texts_lem c.requires.judgeable.0 c.args.switches in_file.0 in_file.1 c.requires.relation_value texts k l) first i j refl
          (rw (e.row_of-row1.ensures, e.asked_of-asked.ensures, filled) at c.relate_literal.ensures);
      truths_unchanged = λ e. absurd (true≢false e);
      value = (sym (by_both texts ∙ rw i));
    }

pub relate_literal-requires-then-is_item-3 : goal.relate_literal-requires-then-is_item-3
relate_literal-requires-then-is_item-3 c =
    let a = c.args in
    let lent = lend_names a.items.now a.literals.now a.bytes.now a.names.now in
    let first = take (a.block.from + a.block.size - a.block.from) (drop a.block.from a.records.now) in
    let sides : (Sided lent first c.args.condition.subject × Sided lent first c.args.condition.object) = (first_sides c.requires.judgeable.0 c.requires.relation_value) in
    let texts : (Texts lent c.args.condition) = (let t = both c.fits_text.result c.fits_text-2.result (assumption c) in
    record {
      subject = rw c.row_of-row1.ensures at (sym c.fits_text.ensures ∙ t.0);
      object = rw c.row_of-row2.ensures at (sym c.fits_text-2.ensures ∙ t.1);
    }) in
    let filled : (c.filled_size-filled.result ≡ longer lent c.args.condition) = (rw (c.row_of-row1.ensures, c.row_of-row2.ensures) at c.filled_size-filled.ensures) in
    let J = c.requires.judgeable.0 in
    let h = short texts in
    let j = sym c.is_item-2.ensures ∙ c.if-is_item-3.true in record {
      laid = (J.laid, c.requires.judgeable.1, c.requires.judgeable.2);
      text_of = (rw (c.row_of-row2.ensures, filled) (text_of J sides.1 j (omega arith) h), first-within J);
      within = (within_unnamed sides.0, rw filled (literal_of_lem sides.0 (omega arith) h));
    }

pub returns-then-is_item-3 : goal.returns-then-is_item-3
returns-then-is_item-3 c =
    let a = c.args in
    let lent = lend_names a.items.now a.literals.now a.bytes.now a.names.now in
    let first = take (a.block.from + a.block.size - a.block.from) (drop a.block.from a.records.now) in
    let texts : (Texts lent c.args.condition) = (let t = both c.fits_text.result c.fits_text-2.result (assumption c) in
    record {
      subject = rw c.row_of-row1.ensures at (sym c.fits_text.ensures ∙ t.0);
      object = rw c.row_of-row2.ensures at (sym c.fits_text-2.ensures ∙ t.1);
    }) in
    let filled : (c.filled_size-filled.result ≡ longer lent c.args.condition) = (rw (c.row_of-row1.ensures, c.row_of-row2.ensures) at c.filled_size-filled.ensures) in
    let in_file : (Bytes c.args.records.now × Bytes c.args.bytes.now) = ((bytes_of _ (λ i. (c.type_inv.records i).fits), bytes_of _ (λ i. (c.type_inv.bytes i).fits))) in
    let e = c in
    let i = sym c.is_item.ensures ∙ c.if-is_item.false in
    let j = sym c.is_item-2.ensures ∙ c.if-is_item-3.true in
    record {
      judges_all = λ _. subject_judged c.requires.judgeable.0 c.requires.relation_value (text_word (longer lent c.args.condition)) (λ _. true) c.args.switches
          (λ k l _ _. by_texts_lem c.requires.judgeable.0 c.args.switches in_file.0 in_file.1 c.requires.relation_value texts k l) first i j refl
          (rw (e.row_of-row2.ensures, e.asked_of-asked.ensures, filled) at c.relate_literal-then-is_item-3.ensures);
      truths_unchanged = λ e. absurd (true≢false e);
      value = (sym (by_both texts ∙ rw (i, j)));
    }
