-- What bars a value, branch by branch.
use mathlib.Core.Path.{◌≡◌, refl, sym, ap, ◌∙◌}
use mathlib.Core.Bool.{Bool, true, false, cond, not, ◌&&◌, ◌||◌}
use mathlib.Core.List.{List}
use Prim.Native.Nat.{ℕ}
use native.Mathlib.Omega.{arith}
use borrow.Author.Tests.{not-true, not-false}
use Rattle.content.specs.declared.Row as Rules
use Rattle.tables.specs.Rows.{row_sound}
use Rattle.typing.specs.Typing.{side_fits}
use Rattle.description.specs.Grammar.{Literal, literal_row, Value, single, range}
use Rattle.description.specs.Limits.{ruled, unfit, comparable, barred_alone, unlike, above, barred}
use Rattle.description.specs.Stages.{is_literal, literal_in}
use Rattle.description.proofs.Bytes.{apart}
use Rattle.literal_pairs.specs.Spelling.{literal_of, row_found, Written, unlike_rows}
use Rattle.condition_names.specs.Values.{value_of}
use Rattle.value_weights.specs.Weights.{shown, rows_of, weighed}
use Rattle.condition_names.specs.declared.Found.{Found}
use Rattle.value_weights.specs.declared.Weighed.TheVariants.{Barred, Single, Range}
use Rattle.std.specs.Prelude.{None, Some}

module _ (x : Literal) (r : Rules.Row) (e : row_found x ≡ Some r) where
  row_facts : (r ≡ ruled (literal_row 0 x)) × (unfit x ≡ false)
  row_facts = by (unfit x) refl e
    where
      by : (t : Bool) → unfit x ≡ t → cond t None (Some (ruled (literal_row 0 x))) ≡ Some r → (r ≡ ruled (literal_row 0 x)) × (unfit x ≡ false)
      by true h e = let z : ◌≡◌ {A = ℕ} 0 1 = cc in absurd (omega arith)
      by false h e = let i : ruled (literal_row 0 x) ≡ r = cc in (sym i, h)

  pub row_is : r ≡ ruled (literal_row 0 x)
  row_is = row_facts.0

  pub row_sound_lem : row_sound r ≡ true
  row_sound_lem = rw row_is (not-false (row_sound (ruled (literal_row 0 x))) row_facts.1)

  pub alone-apart : (item : Rules.Row) → side_fits item r && side_fits r item ≡ false → barred_alone (shown item) x ≡ true
  alone-apart item h = let i : comparable (shown item) x ≡ false = rw row_is at h in rw (row_facts.1, i)

  pub alone_fine : (item : Rules.Row) → side_fits item r && side_fits r item ≡ true → barred_alone (shown item) x ≡ false
  alone_fine item h = let i : comparable (shown item) x ≡ true = rw row_is at h in rw (row_facts.1, i)

pub written_is : (w : List ℕ) (r : Rules.Row) → is_literal w ≡ true → row_found (literal_of w) ≡ Some r → Written w r
written_is w r h e = record { whole = h; row = row_is (literal_of w) r e; sound = row_sound_lem (literal_of w) r e }

pub alone-unfit : (x : Literal) (item : Rules.Row) → row_found x ≡ None → barred_alone (shown item) x ≡ true
alone-unfit x item e = by (unfit x) refl e
  where
    by : (t : Bool) → unfit x ≡ t → cond t None (Some (ruled (literal_row 0 x))) ≡ None → barred_alone (shown item) x ≡ true
    by true h e = rw h
    by false h e = let z : ◌≡◌ {A = ℕ} 0 1 = cc in absurd (omega arith)

module _ (text : List ℕ) (item : Rules.Row) (f : Found) where
  abbrev low : Literal
  low = literal_in text f.low f.mid

  abbrev high : Literal
  high = literal_in text f.high f.end

  pub value-barred : barred_alone (shown item) low ≡ true → Barred ≡ weighed item (value_of text f)
  value-barred h = by f.range
    where
      by : (t : Bool) → Barred ≡ weighed item (cond t (range low high) (single low))
      by true = rw h
      by false = rw h

  pub value_single : f.range ≡ false → barred_alone (shown item) low ≡ false → (r : Rules.Row) → row_found low ≡ Some r → Single r ≡ weighed item (value_of text f)
  value_single i h r e = rw (i, h) (ap Single (row_is low r e))

  module _ (i : f.range ≡ true) (h : barred_alone (shown item) low ≡ false) where
    pub high_barred : barred_alone (shown item) high ≡ true → Barred ≡ weighed item (value_of text f)
    high_barred k = rw (i, h, k)

    module _ (q r : Rules.Row) (s : q ≡ ruled (literal_row 0 low)) (e : row_found high ≡ Some r) where
      -- one end only is numeric, or the two may not be compared with the item
      pub high_apart : not (side_fits item r && side_fits r item) || unlike_rows q r ≡ true → Barred ≡ weighed item (value_of text f)
      high_apart k = by (side_fits item r && side_fits r item) refl (unlike_rows q r) refl k
        where
          by : (a : Bool) → side_fits item r && side_fits r item ≡ a → (b : Bool) → unlike_rows q r ≡ b → not a || b ≡ true → Barred ≡ weighed item (value_of text f)
          by false j b m k = high_barred (alone-apart high r e item j)
          by true j true m k =
              let u : unlike low high ≡ true = rw (s, row_is high r e) at m in
              rw (i, h, alone_fine high r e item j, u)
          by true j false m k = apart k refl

      high_fine : not (side_fits item r && side_fits r item) || unlike_rows q r ≡ false → (barred_alone (shown item) high ≡ false) × (unlike low high ≡ false)
      high_fine k = by (side_fits item r && side_fits r item) refl (unlike_rows q r) refl k
        where
          by : (a : Bool) → side_fits item r && side_fits r item ≡ a → (b : Bool) → unlike_rows q r ≡ b → not a || b ≡ false → (barred_alone (shown item) high ≡ false) × (unlike low high ≡ false)
          by false j b m k = apart refl k
          by true j true m k = apart refl k
          by true j false m k = (alone_fine high r e item j, rw (s, row_is high r e) at m)

      pub high_above : not (side_fits item r && side_fits r item) || unlike_rows q r ≡ false → above low high ≡ true → Barred ≡ weighed item (value_of text f)
      high_above k j = let m = high_fine k in rw (i, h, m.0, m.1, j)

      pub value_range : not (side_fits item r && side_fits r item) || unlike_rows q r ≡ false → above low high ≡ false → Range q r ≡ weighed item (value_of text f)
      value_range k j = let m = high_fine k in rw (i, h, m.0, m.1, j, s, row_is high r e)
