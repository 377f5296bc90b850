-- Two numeric sides compare as their scaled values do: no numeric row is a group, so that a side's fault is its own wrong byte.
use mathlib.Core.Path.{◌≡◌, refl, ap, ◌∙◌}
use mathlib.Core.Bool.{Bool, true, false, cond}
use Rattle.content.specs.WrongByte.{Wrong, Nowhere}
use Prim.Native.Nat.{ℕ}
use Rattle.tables.specs.declared.Outcome.{Outcome}
use Rattle.content.specs.declared.Row.{Row}
use Rattle.tables.specs.Rows.{is_group}
use Rattle.compare.specs.Order.{relation_holds}
use Rattle.values.specs.Comparison.{Side, comparison, wrong_byte, fault}
use Rattle.values.specs.Truth.{truth, turned, or_stop}
use Rattle.values.proofs.Reading.{by_value}
use Rattle.rules.specs.Amounts.{ComparedByValue}

unseen : (group : Bool) (w : Wrong) → w ≡ Nowhere → cond group Nowhere w ≡ Nowhere
unseen true w e = refl
unseen false w e = e

no_fault : (s : Side) (other : Row) → wrong_byte s ≡ Nowhere → fault s other ≡ Nowhere
no_fault s other e = unseen (is_group other) (wrong_byte s) e

passes : (kind : ℕ) (w : Wrong) (out : Outcome) → w ≡ Nowhere → or_stop kind w out ≡ out
passes kind w out e = ap (λ v. or_stop kind v out) e

pub compared_by_value : ComparedByValue
compared_by_value =
    record {
      compared = λ word negated s o m n p q.
          let out = truth (turned negated (relation_holds word (comparison s o))) in
          passes s.row.kind (fault s o.row) (or_stop o.row.kind (fault o s.row) out) (no_fault s o.row p)
          ∙ passes o.row.kind (fault o s.row) out (no_fault o s.row q)
          ∙ ap (λ r. truth (turned negated (relation_holds word r))) (by_value s o m n);
    }
