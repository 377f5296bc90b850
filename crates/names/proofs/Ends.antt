-- Laws of sides as the code reads them: a fit side is fit whatever it is a side of, and its part lies in its bytes; and of a name's item.
use mathlib.Core.Path.{◌≡◌, refl, sym, ap, ◌∙◌, subst⁻¹}
use mathlib.Core.Bool.{Bool, true, false, not, cond, beq}
use mathlib.Core.List.{List, []}
use Prim.Native.Nat.{ℕ, ◌+◌, ◌*◌, ◌≤◌, ◌<◌}
use native.Mathlib.Omega.{arith}
use lib.ListN.{length, drop, length-take, length-drop}
use Rattle.content.specs.WrongByte.{valid_content}
use Rattle.tables.specs.declared.Outcome.{Outcome}
use Rattle.content.specs.declared.Row.{Row}
use Rattle.tables.specs.Rows.{row_count, row_at, is_numeric, part}
use Rattle.tables.specs.Operands.{Lent, lend}
use Rattle.tables.specs.Refusals.{first_of}
use Rattle.tables.specs.Tables.{table_lines}
use Rattle.tables.specs.Names.{name_item}
use Rattle.tables.proofs.Bytes.{row_facts}
use Rattle.values.specs.Comparison.{side, wrong_byte}
use Rattle.values.specs.Names.{item_side, literal_side, ends_alike, name_holds}
use Rattle.values.specs.Truth.{truth, or_stop, name_outcome, Fit, Named}
use Rattle.values.proofs.Faults.{StopAt, item_flag, goes_on}
use Rattle.values.proofs.Reading.{tables_sound}
use Rattle.values.proofs.Names.{literal_fit, item_fit, item_there, few_pairs, pair_at}
use Rattle.literal_sides.specs.Ranges.{Literals, Pairs}
use Rattle.std.specs.Prelude.{Ok}

pub fit_as : {row : Row} {bytes : List ℕ} (item other : Bool) → Fit (side item row bytes) → Fit (side other row bytes)
fit_as item other f = record { sound = f.sound; sized = f.sized }

pub fit_lies : (item : Bool) (row : Row) (bytes : List ℕ) → Fit (side item row (part row bytes)) → row.offset + row.size ≤ length bytes
fit_lies item row bytes f =
    omega (arith, f.sized, (row_facts row f.sound).some, length-take row.size (drop row.offset bytes), length-drop row.offset bytes)

-- a literal that the code reads
module _ {literals bytes : List ℕ} (sound : Literals literals bytes) {l : ℕ} (there : l < row_count literals) {row : Row} (r : row ≡ row_at literals l) where
  pub literal_lies : row.offset + row.size ≤ length bytes
  literal_lies = rw r (fit_lies false (row_at literals l) bytes (sound.fits l there))

  module _ {value : List ℕ} (v : value ≡ part row bytes) where
    pub literal-read : side false row value ≡ literal_side (lend [] literals bytes) l
    literal-read = rw (v, r)

    pub literal-read_fit : Fit (side false row value)
    literal-read_fit = subst⁻¹ Fit literal-read (sound.fits l there)

-- two ends are both numeric or both not
pub alike : {x y : Bool} (a b : Row) → x ≡ is_numeric a → y ≡ is_numeric b → beq x y ≡ ends_alike a b
alike a b e f = rw (e, f) (by (is_numeric a) (is_numeric b))
  where
    by : (s t : Bool) → beq s t ≡ cond s t (not t)
    by true true = refl
    by true false = refl
    by false true = refl
    by false false = refl

-- the item of a name, as the code reads it
module _ {lent : Lent} {content : List ℕ} {v : ℕ} (n : Named lent content v) where
  tables : first_of (table_lines lent) ≡ Ok tt
  tables = tables_sound lent n.tables

  pub name_literals : Literals lent.literals lent.bytes
  name_literals = record { fits = literal_fit lent tables }

  pub name_item_lem : name_item lent.names v < row_count lent.items
  name_item_lem = item_there lent n.tables v n.there

  pub name_pairs_lem : v * 18 + 17 < length lent.names → Pairs lent.literals lent.names v
  name_pairs_lem inside =
      record {
        inside = inside;
        few = few_pairs lent n.tables v n.there;
        low = λ k l. (pair_at lent n.tables v n.there k l).low_there;
        high = λ k l. (pair_at lent n.tables v n.there k l).high_there;
      }

  fit : Fit (item_side lent content (name_item lent.names v))
  fit = item_fit lent tables content n.holds (name_item lent.names v) name_item_lem

  module _ {i : ℕ} {row : Row} (e : i ≡ name_item lent.names v) (r : row ≡ row_at lent.items i) where
    pub item_lies : row.offset + row.size ≤ length content
    item_lies = rw (r, e) (fit_lies true (row_at lent.items (name_item lent.names v)) content fit)

    module _ {bytes : List ℕ} (p : bytes ≡ part row content) where
      pub item_read : side true row bytes ≡ item_side lent content (name_item lent.names v)
      item_read = rw (p, r, e)

      pub item_read_fit : Fit (side true row bytes)
      item_read_fit = subst⁻¹ Fit item_read fit

      -- what the name comes to by what the code has read: the item's stop, or its truth
      pub name_stops : {out : Outcome} → StopAt row bytes out → out ≡ name_outcome lent content v
      name_stops stop =
          stop (truth (name_holds lent (side true row bytes) v))
          ∙ ap (λ s. or_stop s.row.kind (wrong_byte s) (truth (name_holds lent s v))) item_read

      pub name_goes : {holds : Bool} → valid_content row.kind row.digits bytes ≡ true → holds ≡ name_holds lent (side true row bytes) v
          → truth holds ≡ name_outcome lent content v
      name_goes valid h =
          ap truth h
          ∙ sym (goes_on row.kind (wrong_byte (side true row bytes)) _ (sym (item_flag row bytes) ∙ ap not valid))
          ∙ ap (λ s. or_stop s.row.kind (wrong_byte s) (truth (name_holds lent s v))) item_read
