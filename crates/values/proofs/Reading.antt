-- Laws of reading operands: what sound tables and a record that holds its items say of an operand, what a fit side says in
-- numbers, and what a readable condition gives to the code.
use Prim.Native.Nat.{ℕ, ◌/◌, ◌≤◌}
use native.Mathlib.Omega.{arith}
use native.Mathlib.Decide.{ℕ_discrete}
use mathlib.Core.Path.{◌≡◌, refl, sym, subst⁻¹, ◌∙◌}
use mathlib.Core.Bool.{Bool, true, false, cond, ◌&&◌, or-false, false≢true}
use mathlib.Core.List.{List, [], ◌∷◌}
use mathlib.Core.Logic.{⊎_elim}
use lib.Dec.{eqb, leb}
use lib.ListN.{length, length-drop}
use borrow.Author.Tests.{leb-true, ltb-true, eqb-true, ne_eqb}
use Rattle.tables.specs.declared.Refusal.TheVariants.{ItemRow, LiteralRow, Record}
use Rattle.content.specs.declared.Row.{Row}
use Rattle.typing.specs.declared.Test.TheVariants.{Alone, Relation, Class, Sign}
use Rattle.tables.specs.Tokens.{is_item, is_on, is_off, is_switch, is_name, index_of, exists}
use Rattle.tables.specs.Rows.{row_count, row_sound, is_numeric}
use Rattle.content.specs.Content.{digit_bytes, digit_characters, unsigned_last}
use Rattle.tables.specs.Operands.{Lent, lend, lend_names, operand_sound, switch_sound, alone_sound, row_of, operand_bytes, lies_within, Within}
use Rattle.tables.specs.Refusals.{first_of}
use Rattle.typing.specs.Tests.{test_of}
use Rattle.typing.specs.Typing.{typed}
use Rattle.tables.specs.Tables.{table_lines, record_check}
use Rattle.tables.proofs.Tests.{both, four, either}
use Rattle.tables.proofs.Lines.{every_sound, AllSound, lines_sound, lines_before}
use Rattle.tables.proofs.Bytes.{row_facts, display_kinds, packed-fits, digits_fit, scale_small, item_there, literal_there, operand_length}
use Rattle.content.proofs.Bytes.{but_last-length}
use Rattle.compare.specs.Compared.{scaled_order}
use Rattle.values.specs.Comparison.{Side, side, side_of, numeric, value_of, gives_digits, characters, comparison}
use Rattle.values.specs.Names.{name_check, lent_lines}
use Rattle.values.specs.Truth.{Readable, Named, Fit, Near, Sided, Numeral}
use Rattle.std.specs.Prelude.{Ok}

-- where 18 is ruled out after 1 to 4, those are
pub tables_sound : (lent : Lent) → first_of (lent_lines lent) ≡ Ok tt → first_of (table_lines lent) ≡ Ok tt
tables_sound lent e = (lines_sound (first_of (table_lines lent) ∷ name_check lent ∷ []) (sym (lines_before (table_lines lent) (name_check lent ∷ [])) ∙ e)).0

-- where no line on the tables applies and the record holds its items, a sound operand is fit to be read
module _ (lent : Lent) (content : List ℕ) (x : ℕ) (tables : first_of (table_lines lent) ≡ Ok tt) (holds : record_check lent content ≡ Ok tt) (there : operand_sound lent x ≡ true) where
  row_lies : (row_sound (row_of lent x) ≡ true) × (lies_within lent content x ≡ true)
  row_lies = by (ℕ_discrete (x / 65536) 0)
    where
      lines : AllSound (table_lines lent)
      lines = lines_sound (table_lines lent) tables

      by : Dec (x / 65536 ≡ 0) → (row_sound (row_of lent x) ≡ true) × (lies_within lent content x ≡ true)
      by (yes k) =
          let h = item_there lent x there k in
          rw k (every_sound _ ItemRow _ lines.1.0 (index_of x) (omega arith), every_sound _ Record _ holds (index_of x) (omega arith))
      by (no n) =
          let h = literal_there lent x there n in
          let f = four _ _ _ _ (every_sound _ LiteralRow _ lines.1.1.1.0 (index_of x) (omega arith)) in
          rw (ne_eqb _ _ n) (f.0, f.2)

  pub operand_within : Within lent content x
  operand_within = record { there = there; lies = row_lies.1 }

  pub sided : Sided lent content x
  sided = record { within = operand_within; fit = record { sound = row_lies.0; sized = operand_length operand_within refl } }

-- a switch that is there by the rules without switch-off words is an on switch, one of 0 to 7
switch_index : (lent : Lent) → lent.off ≡ false → (x : ℕ) → switch_sound lent x ≡ true → (is_on x ≡ true) × (index_of x ≤ 7)
switch_index lent none x e =
    let p = both (is_switch x) (exists lent.off (row_count lent.items) (row_count lent.literals) x) e in
    ⊎_elim
    (λ on. (on, leb-true _ _ (simp or-false at (rw (eqb-true (x / 65536) 2 on) at p.1))))
    (λ off. absurd (false≢true (sym none ∙ (both lent.off (leb (index_of x) 7) (simp or-false at (rw (eqb-true (x / 65536) 3 off) at p.1))).0)))
    (either (is_on x) (is_off x) p.0)

-- a fit side has bytes
pub some_bytes : {s : Side} → Fit s → 1 ≤ length s.bytes
some_bytes {s} f = omega (arith, (row_facts s.row f.sound).some)

-- and an offset in the record of one of its bytes is a small number
pub fit_near : {s : Side} → Fit s → Near s.row s.bytes
fit_near {s} f =
    record { offset = (row_facts s.row f.sound).near; most = omega (arith, f.sized, (row_facts s.row f.sound).most) }

-- it holds a number where its row is numeric
pub numeral : {s : Side} → Fit s → is_numeric s.row ≡ true → Numeral s.row s.bytes
numeral {s} f n =
    record {
      kind = n;
      field =
          record {
            some = some_bytes f;
            packed = λ p. packed-fits s.row s.bytes f.sound p f.sized;
            display = λ p. display_kinds s.row.kind n p;
            digits = digits_fit s.row s.bytes f.sound n f.sized;
          };
      scaled = scale_small s.row f.sound;
      near = fit_near f;
    }

pub by_value : (s o : Side) → numeric s ≡ true → numeric o ≡ true
    → comparison s o ≡ scaled_order (value_of s) s.row.scale (value_of o) o.row.scale
unfolding comparison
by_value s o m k = rw (m, k)

-- nor are a fit side's digits none, so that there is a character to compare
pub some-compared : {s : Side} → Fit s → (digits : Bool) → 1 ≤ length (cond digits (digit_bytes s.row.kind s.bytes) s.bytes)
some-compared f false = some_bytes f
some-compared {s} f true = by (ℕ_discrete s.row.kind 5) (ℕ_discrete s.row.kind 6)
  where
    by : Dec (s.row.kind ≡ 5) → Dec (s.row.kind ≡ 6) → 1 ≤ length (digit_bytes s.row.kind s.bytes)
    by (yes p) d = rw p (omega (arith, length-drop 1 s.bytes, (row_facts s.row f.sound).apart (omega arith) (omega arith)))
    by (no p) (yes q) = rw q (omega (arith, but_last-length s.bytes, (row_facts s.row f.sound).apart (omega arith) (omega arith)))
    by (no p) (no q) = rw (ne_eqb _ _ p, ne_eqb _ _ q) (some_bytes f)

-- the characters that a side gives beside another are those of its part that is compared, without the sign of kind 4
pub part-characters : (s o : Side) {digits : Bool} {part : List ℕ} → digits ≡ gives_digits s o
    → part ≡ cond digits (digit_bytes s.row.kind s.bytes) s.bytes
    → unsigned_last (digits && eqb s.row.kind 4) part ≡ characters s o
part-characters s o {digits} e p = rw (p, ← e) (by digits)
  where
    by : (d : Bool)
        → unsigned_last (d && eqb s.row.kind 4) (cond d (digit_bytes s.row.kind s.bytes) s.bytes)
        ≡ cond d (digit_characters s.row.kind s.bytes) s.bytes
    by true = refl
    by false = refl

-- the side that the code reads of an operand
pub read_some : {lent : Lent} {content : List ℕ} {x : ℕ} → Sided lent content x → {bytes : List ℕ} → bytes ≡ operand_bytes lent content x
    → 1 ≤ length bytes
read_some s b = rw b (some_bytes s.fit)

module _ {lent : Lent} {content : List ℕ} {x : ℕ} (s : Sided lent content x) {row : Row} {bytes : List ℕ} {item : Bool}
    (r : row ≡ row_of lent x) (b : bytes ≡ operand_bytes lent content x) (i : item ≡ is_item x) where
  pub read-side : side item row bytes ≡ side_of lent content x
  read-side = rw (i, r, b)

  pub read_fit : Fit (side item row bytes)
  read_fit = subst⁻¹ Fit read-side s.fit

-- a side is what it is without the names
pub side_unnamed : {items literals bytes names content : List ℕ} {x : ℕ} → Sided (lend_names items literals bytes names) content x → Sided (lend items literals bytes) content x
side_unnamed s = record { within = record { there = s.within.there; lies = s.within.lies }; fit = s.fit }

-- what a readable condition gives to the code, by what it tests
module _ {lent : Lent} {content : List ℕ} {subject relation object : ℕ} (readable : Readable lent content subject relation object) where
  side_of_lem : {x : ℕ} → operand_sound lent x ≡ true → Sided lent content x
  side_of_lem {x} there = sided lent content x (tables_sound lent readable.tables) readable.holds there

  alone_there : test_of relation ≡ Alone → alone_sound lent subject ≡ true
  alone_there e = (both (alone_sound lent subject) _ (rw e at readable.shape)).0

  pub read-switch : lent.off ≡ false → test_of relation ≡ Alone → is_name subject ≡ false → (is_on subject ≡ true) × (index_of subject ≤ 7)
  read-switch none e n = switch_index lent none subject (simp or-false at (rw n at (alone_there e)))

  pub read_name : test_of relation ≡ Alone → is_name subject ≡ true → Named lent content (index_of subject)
  read_name e n =
      let k : subject / 65536 ≡ 5 = eqb-true (subject / 65536) 5 n in
      record { tables = readable.tables; holds = readable.holds; there = ltb-true _ _ (rw k at (alone_there e)) }

  module _ {word : ℕ} {negated : Bool} where
    pub read_relation : test_of relation ≡ Relation word negated → Sided lent content subject × Sided lent content object
    read_relation e =
        let there = both (operand_sound lent subject) (operand_sound lent object) (rw e at readable.shape) in
        (side_of_lem there.0, side_of_lem there.1)

    pub read-class : test_of relation ≡ Class word negated → Sided lent content subject
    read-class e = side_of_lem (both (operand_sound lent subject) _ (rw e at readable.shape)).0

    pub read_sign : test_of relation ≡ Sign word negated → Sided lent content subject × (is_numeric (row_of lent subject) ≡ true)
    unfolding typed
    read_sign e =
        (side_of_lem (both (operand_sound lent subject) _ (rw e at readable.shape)).0, (both (is_item subject) _ (rw e at readable.well)).1)
