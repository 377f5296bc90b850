-- The sides of a row on one record of a block: where they lie.
use mathlib.Core.Path.{◌≡◌, subst}
use mathlib.Core.Bool.{Bool, true, false, cond, false≢true}
use mathlib.Core.List.{List}
use Prim.Native.Nat.{ℕ, ◌+◌, ◌-◌, ◌*◌, ◌≤◌}
use native.Mathlib.Omega.{arith}
use lib.ListN.{length, take, drop, length-take, length-drop}
use Rattle.tables.specs.declared.Outcome.{Outcome}
use Rattle.content.specs.declared.Row.{Row}
use Rattle.tables.specs.Rows.{part}
use Rattle.tables.proofs.Bytes.{row_facts}
use Rattle.values.specs.Comparison.{side}
use Rattle.values.specs.Truth.{Fit}
use Rattle.block_truths.specs.Columns.{record_at, Right}

-- a record that starts at its place
pub at_record : {base : ℕ} (records : List ℕ) (from size j : ℕ) → base ≡ from + j * size → take (base + size - base) (drop base records) ≡ record_at records from size j
at_record {base} records from size j e = let width : base + size - base ≡ size = omega arith in rw (width, e)

-- a truth is right for what is the same
pub right_for : {one other : Outcome} {truth : ℕ} → one ≡ other → Right one truth → Right other truth
right_for {one} {other} {truth} e r = subst (λ (o : Outcome). Right o truth) e r

-- an item that has its bytes lies in the record
pub part_inside : (item : Bool) (row : Row) (bytes : List ℕ) → Fit (side item row (part row bytes)) → row.offset + row.size ≤ length bytes
part_inside item row bytes f =
    omega (arith, f.sized, length-take row.size (drop row.offset bytes), length-drop row.offset bytes, (row_facts row f.sound).some)

pub item_inside : (item : Bool) (row : Row) (bytes literal : List ℕ) → Fit (side item row (cond item (part row bytes) literal)) → item ≡ true
    → row.offset + row.size ≤ length bytes
item_inside true row bytes literal f i = part_inside true row bytes f
item_inside false row bytes literal f i = absurd (false≢true i)
