-- Document 02, f): "That two numeric sides compare as their scaled values do is proved once over all numeric kinds."
use Rattle.std.specs.Prelude.{◌≡◌, Bool, true, ℕ, ◌^◌, pos, ◌*ℤ◌}
use Rattle.content.specs.WrongByte.{Nowhere}
use Rattle.std.specs.declared.cmp.Ordering.{Ordering}
use Rattle.compare.specs.Order.{orderℤ, relation_holds}
use Rattle.values.specs.Comparison.{Side, numeric, value_of, wrong_byte}
use Rattle.values.specs.Truth.{truth, turned, relation_outcome}

-- "with digit values D1, D2 (signed) and scales s1, s2, compare D1 × 10^s2 with D2 × 10^s1 as whole numbers"
abbrev pub scaled_values : Side → Side → Ordering
scaled_values s o = orderℤ (value_of s *ℤ pos (10 ^ o.row.scale)) (value_of o *ℤ pos (10 ^ s.row.scale))

-- of two numeric sides of any kinds, 3 to 6, 8 and 9, neither of which has a wrong byte
pub record ComparedByValue : Type 0 where
  pub compared : (word : ℕ) (negated : Bool) (s o : Side) → numeric s ≡ true → numeric o ≡ true → wrong_byte s ≡ Nowhere → wrong_byte o ≡ Nowhere
      → relation_outcome word negated s o ≡ truth (turned negated (relation_holds word (scaled_values s o)))
