-- The sides of a row on one record of a block.
use mathlib.Core.Path.{◌≡◌, refl, ap, ap₂, subst, subst⁻¹}
use mathlib.Core.Bool.{Bool, true, false, cond}
use mathlib.Core.List.{List}
use Prim.Native.Nat.{ℕ}
use Rattle.content.specs.declared.Row.{Row}
use Rattle.tables.specs.Rows.{part}
use Rattle.tables.specs.Tokens.{is_item}
use Rattle.tables.specs.Operands.{Lent, row_of, operand_bytes}
use Rattle.tables.proofs.Tests.{both}
use Rattle.typing.specs.declared.Test.TheVariants.{Relation, Class}
use Rattle.typing.specs.Tests.{test_of}
use Rattle.typing.specs.Typing.{typed}
use Rattle.values.specs.Comparison.{Side, side, side_of}
use Rattle.values.specs.Truth.{relation_outcome, class_outcome, outcome, Readable, Fit, Sided}
use Rattle.values.proofs.Reading.{read-class}

-- the side of an operand on a record: its row and whether it is an item do not change, nor do the bytes of a literal
module _ (lent : Lent) (first content : List ℕ) (token : ℕ) {item : Bool} {row : Row} {bytes : List ℕ} (i : item ≡ is_item token) (r : row ≡ row_of lent token)
    (b : bytes ≡ operand_bytes lent first token) where
  pub side_here : side item row (cond item (part row content) bytes) ≡ side_of lent content token
  side_here = rw (i, r, b) (by (is_item token) refl)
    where
      by : (t : Bool) → is_item token ≡ t
          → side (is_item token) (row_of lent token) (cond (is_item token) (part (row_of lent token) content) (operand_bytes lent first token)) ≡ side_of lent content token
      by true e = rw e
      by false e = rw e

  pub side_fits_lem : Sided lent content token → Fit (side item row (cond item (part row content) bytes))
  side_fits_lem s = subst⁻¹ Fit side_here s.fit

-- a class test is of an item
module _ {lent : Lent} {content : List ℕ} {subject relation object word : ℕ} {negated : Bool} (e : test_of relation ≡ Class word negated) where
  pub class_item : Readable lent content subject relation object → is_item subject ≡ true
  unfolding typed
  class_item readable = (both (is_item subject) _ (rw e at readable.well)).0

  module _ {row : Row} (r : row ≡ row_of lent subject) (readable : Readable lent content subject relation object) where
    item_side_lem : side true row (part row content) ≡ side_of lent content subject
    item_side_lem = let i = class_item readable in rw (r, i)

    pub item_fits : Fit (side true row (part row content))
    item_fits = subst⁻¹ Fit item_side_lem (read-class readable e).fit

    pub class_is : (switches : ℕ) → class_outcome word negated (side true row (part row content)) ≡ outcome lent content switches subject relation object
    unfolding outcome
    class_is switches = rw e (ap (class_outcome word negated) item_side_lem)

-- a relation is of the two sides
pub relation_is : (lent : Lent) (content : List ℕ) (switches subject relation object : ℕ) {word : ℕ} {negated : Bool} → test_of relation ≡ Relation word negated
    → {s o : Side} → s ≡ side_of lent content subject → o ≡ side_of lent content object
    → relation_outcome word negated s o ≡ outcome lent content switches subject relation object
unfolding outcome
relation_is lent content switches subject relation object {word} {negated} e p q = rw e (ap₂ (relation_outcome word negated) p q)
