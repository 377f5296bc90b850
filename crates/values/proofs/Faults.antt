-- Laws of a side's fault: it has one exactly where it is an item of invalid content that is looked at, and what would come else then
-- does not matter.
use Prim.Native.Nat.{ℕ}
use native.Mathlib.Omega.{arith}
use mathlib.Core.Path.{◌≡◌, refl, sym, ap, ap₂, ◌∙◌}
use mathlib.Core.List.{List}
use mathlib.Core.Bool.{Bool, true, false, not, cond, ◌&&◌, and-false, false≢true, true≢false}
use mathlib.Core.Logic.{⊎_elim}
use borrow.Author.Tests.{ne_eqb}
use Rattle.content.specs.WrongByte.{Wrong, Nowhere, At, first_wrong, nowhere, valid_content}
use Rattle.tables.specs.declared.Outcome.{Outcome}
use Rattle.content.specs.declared.Row.{Row}
use Rattle.tables.specs.Rows.{is_group, is_numeric}
use Rattle.tables.proofs.Bytes.{numeric-kinds}
use Rattle.compare.specs.declared.Number.{Number}
use Rattle.std.specs.declared.cmp.Ordering.{Ordering}
use Rattle.compare.specs.Order.{relation_holds}
use Rattle.compare.specs.Compared.{number_of}
use Rattle.values.specs.Comparison.{Side, side, comparison, moved, wrong_byte, fault}
use Rattle.values.specs.Truth.{truth, turned, or_stop, relation_outcome}

-- an item has a wrong byte exactly where its content is not valid
moved_nowhere : (offset : ℕ) (w : Wrong) → nowhere (moved offset w) ≡ nowhere w
moved_nowhere offset Nowhere = refl
moved_nowhere offset (At i) = refl

pub item_flag : (row : Row) (bytes : List ℕ) → not (valid_content row.kind row.digits bytes) ≡ not (nowhere (moved row.offset (first_wrong row.kind row.digits bytes)))
unfolding valid_content
item_flag row bytes = ap not (sym (moved_nowhere row.offset (first_wrong row.kind row.digits bytes)))

-- what the number that is read of a numeric side says of it, alone and beside another numeric side, which is no group
pub number_invalid : (s : Side) {n : Number} → n ≡ number_of s.row.kind s.row.digits s.bytes → s.item && not n.valid ≡ not (nowhere (wrong_byte s))
number_invalid s e = rw e (go s.item)
  where
    go : (b : Bool) → b && not (valid_content s.row.kind s.row.digits s.bytes)
        ≡ not (nowhere (cond b (moved s.row.offset (first_wrong s.row.kind s.row.digits s.bytes)) Nowhere))
    go true = item_flag s.row s.bytes
    go false = refl

no_group : (row : Row) → is_numeric row ≡ true → is_group row ≡ false
no_group row n =
    ⊎_elim
    (λ k. rw (ne_eqb row.kind 0 (λ e. omega (arith, k)), ne_eqb row.kind 7 (λ e. omega (arith, k))))
    (λ k. rw (ne_eqb row.kind 0 (λ e. omega (arith, k)), ne_eqb row.kind 7 (λ e. omega (arith, k))))
    (numeric-kinds row.kind n)

pub number_faulty : (s : Side) (o : Row) {n : Number} → is_numeric o ≡ true → n ≡ number_of s.row.kind s.row.digits s.bytes
    → s.item && not n.valid ≡ not (nowhere (fault s o))
number_faulty s o k e = rw (no_group o k) (number_invalid s e)

-- the test of a side as the code makes it: an item, beside no group, whose content is not valid
pub fault_flag : (s : Side) (o : Row) → (s.item && not (is_group o)) && not (valid_content s.row.kind s.row.digits s.bytes) ≡ not (nowhere (fault s o))
fault_flag s o = go s.item (is_group o)
  where
    go : (b g : Bool) → (b && not g) && not (valid_content s.row.kind s.row.digits s.bytes)
        ≡ not (nowhere (cond g Nowhere (cond b (moved s.row.offset (first_wrong s.row.kind s.row.digits s.bytes)) Nowhere)))
    go true true = refl
    go true false = item_flag s.row s.bytes
    go false true = refl
    go false false = refl

-- valid content has no fault
pub valid_faultless : (s : Side) (o : Row) → valid_content s.row.kind s.row.digits s.bytes ≡ true → not (nowhere (fault s o)) ≡ false
valid_faultless s o v =
    sym (fault_flag s o)
    ∙ ap (λ (t : Bool). (s.item && not (is_group o)) && not t) v
    ∙ and-false (s.item && not (is_group o))

-- The stop of a side, as the code makes it: whatever would come else.
abbrev pub StopAt : Row → List ℕ → Outcome → Type 0
StopAt row bytes out = (rest : Outcome) → out ≡ or_stop row.kind (wrong_byte (side true row bytes)) rest

-- a side with a fault, where it is unseen or not: it is an item of invalid content, and its stop is the answer
module _ (unseen : Bool) (s : Side) (t : not (nowhere (cond unseen Nowhere (wrong_byte s))) ≡ true) where
  fault_is : (valid_content s.row.kind s.row.digits s.bytes ≡ false) × (cond unseen Nowhere (wrong_byte s) ≡ wrong_byte (side true s.row s.bytes))
  fault_is = go unseen s.item t
    where
      go : (u b : Bool) → not (nowhere (cond u Nowhere (cond b (moved s.row.offset (first_wrong s.row.kind s.row.digits s.bytes)) Nowhere))) ≡ true
          → (valid_content s.row.kind s.row.digits s.bytes ≡ false)
          × (cond u Nowhere (cond b (moved s.row.offset (first_wrong s.row.kind s.row.digits s.bytes)) Nowhere) ≡ wrong_byte (side true s.row s.bytes))
      go true b e = absurd (false≢true e)
      go false true e = (flip (valid_content s.row.kind s.row.digits s.bytes) (item_flag s.row s.bytes ∙ e), refl)
        where
          flip : (v : Bool) → not v ≡ true → v ≡ false
          flip true f = absurd (false≢true f)
          flip false f = refl
      go false false e = absurd (false≢true e)

  pub invalid_there : valid_content s.row.kind s.row.digits s.bytes ≡ false
  invalid_there = fault_is.0

  pub stops_there : {out : Outcome} → StopAt s.row s.bytes out → (rest : Outcome)
      → out ≡ or_stop s.row.kind (cond unseen Nowhere (wrong_byte s)) rest
  stops_there stop rest = stop rest ∙ ap (λ w. or_stop s.row.kind w rest) (sym fault_is.1)

-- without a fault what comes else is the answer
pub goes_on : (kind : ℕ) (w : Wrong) (rest : Outcome) → not (nowhere w) ≡ false → or_stop kind w rest ≡ rest
goes_on kind Nowhere rest t = refl
goes_on kind (At i) rest t = absurd (true≢false t)

-- what a relation comes to: the subject's stop, else the object's, else its truth
module _ (word : ℕ) (negated : Bool) {s s' o o' : Side} (left : s ≡ s') (right : o ≡ o') where
  pub subject_stops : not (nowhere (fault s o.row)) ≡ true → {out : Outcome} → StopAt s.row s.bytes out
      → out ≡ relation_outcome word negated s' o'
  subject_stops f stop = stops_there (is_group o.row) s f stop _ ∙ ap₂ (relation_outcome word negated) left right

  pub object-stops : not (nowhere (fault s o.row)) ≡ false → not (nowhere (fault o s.row)) ≡ true → {out : Outcome}
      → StopAt o.row o.bytes out → out ≡ relation_outcome word negated s' o'
  object-stops f g stop =
      stops_there (is_group s.row) o g stop _ ∙ sym (goes_on s.row.kind (fault s o.row) _ f) ∙ ap₂ (relation_outcome word negated) left right

  pub relation_goes : not (nowhere (fault s o.row)) ≡ false → not (nowhere (fault o s.row)) ≡ false → {order : Ordering} → order ≡ comparison s o
      → truth (turned negated (relation_holds word order)) ≡ relation_outcome word negated s' o'
  relation_goes f g k =
      ap (λ r. truth (turned negated (relation_holds word r))) k
      ∙ sym (goes_on s.row.kind (fault s o.row) _ f ∙ goes_on o.row.kind (fault o s.row) _ g)
      ∙ ap₂ (relation_outcome word negated) left right
