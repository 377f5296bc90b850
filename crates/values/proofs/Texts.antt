-- Sides of which nothing is looked at: groups and texts of kind 2.
use mathlib.Core.Path.{◌≡◌, refl, sym}
use mathlib.Core.Bool.{Bool, true, false, not, ◌||◌}
use mathlib.Core.List.{List}
use mathlib.Core.Logic.{⊎_elim}
use Prim.Native.Nat.{ℕ}
use native.Mathlib.Omega.{arith}
use lib.Dec.{eqb}
use borrow.Author.Tests.{eqb-true}
use Rattle.content.specs.WrongByte.{nowhere, valid_content}
use Rattle.content.proofs.WrongByte.{valid_other}
use Rattle.content.specs.declared.Row.{Row}
use Rattle.tables.specs.Rows.{is_group, is_numeric}
use Rattle.tables.proofs.Tests.{either}
use Rattle.compare.specs.Order.{relation_holds}
use Rattle.compare.specs.Compared.{character_order}
use Rattle.values.specs.Comparison.{Side, numeric, comparison, fault}
use Rattle.values.specs.Truth.{truth, turned, relation_outcome}
use Rattle.values.proofs.Faults.{valid_faultless, relation_goes}

-- a row whose bytes are neither digits nor looked at
pub record Plain (row : Row) : Type 0 where
  pub text : is_numeric row ≡ false
  pub valid : (digits : ℕ) (bytes : List ℕ) → valid_content row.kind digits bytes ≡ true

-- groups and kind 2
pub text-plain : (row : Row) → is_group row || eqb row.kind 2 ≡ true → Plain row
text-plain row e =
    ⊎_elim
    (λ g. ⊎_elim (λ p. zero (eqb-true _ _ p)) (λ p. seven (eqb-true _ _ p)) (either (eqb row.kind 0) (eqb row.kind 7) g))
    (λ p. two (eqb-true _ _ p))
    (either (is_group row) (eqb row.kind _) e)
  where
    zero : row.kind ≡ 0 → Plain row
    zero k =
        record {
          text = rw k;
          valid = λ d b. valid_other row.kind d b (λ e. omega arith) (λ e. omega arith) (λ e. omega arith) (λ e. omega arith) (λ e. omega arith) (rw k);
        }

    seven : row.kind ≡ 7 → Plain row
    seven k =
        record {
          text = rw k;
          valid = λ d b. valid_other row.kind d b (λ e. omega arith) (λ e. omega arith) (λ e. omega arith) (λ e. omega arith) (λ e. omega arith) (rw k);
        }

    two : row.kind ≡ 2 → Plain row
    two k =
        record {
          text = rw k;
          valid = λ d b. valid_other row.kind d b (λ e. omega arith) (λ e. omega arith) (λ e. omega arith) (λ e. omega arith) (λ e. omega arith) (rw k);
        }

-- they compare as they lie
pub texts_compare : (s o : Side) → numeric s ≡ false → numeric o ≡ false → comparison s o ≡ character_order s.bytes o.bytes
unfolding comparison
texts_compare s o m k = rw (m, k)

pub text_faultless : (s : Side) (other : Row) → Plain s.row → not (nowhere (fault s other)) ≡ false
text_faultless s other p = valid_faultless s other (p.valid s.row.digits s.bytes)

pub texts_outcome : (word : ℕ) (negated : Bool) (s o : Side) → Plain s.row → Plain o.row
    → truth (turned negated (relation_holds word (character_order s.bytes o.bytes))) ≡ relation_outcome word negated s o
texts_outcome word negated s o p q =
    relation_goes word negated {s = s} {s' = s} {o = o} {o' = o} refl refl (text_faultless s o.row p) (text_faultless o s.row q)
    (sym (texts_compare s o p.text q.text))
