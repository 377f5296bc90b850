-- What going over three copies of a record needs.
use Rattle.std.specs.Prelude.{◌≡◌, ℕ, ◌+◌, ◌≤◌, ◌<◌, length}
use Rattle.tables.specs.Rows.{row_at, row_count}
use Rattle.merging.specs.Merge.{Copies}

-- the copies are equally long, every row lies in them, and so many bytes of output are lent
pub record Ready (copies : Copies) (out : ℕ) : Type 0 where
  pub lies : (v : ℕ) → v < row_count copies.items → (row_at copies.items v).offset + (row_at copies.items v).size ≤ length copies.old
  pub first_long : length copies.first ≡ length copies.old
  pub second_long : length copies.second ≡ length copies.old
  pub out_long : out ≡ length copies.old
