-- What the private functions need that go over a file part by part.
use Rattle.std.specs.Prelude.{List, ℕ, ◌+◌, ◌*◌, ◌≤◌, length}

-- n records of a file, at least one, which start at a byte; their numbers have room from `out` on
pub record Part (records : List ℕ) (size from n out room : ℕ) : Type 0 where
  pub some : 1 ≤ n
  pub few : n ≤ 64
  pub within : from + n * size ≤ length records
  pub fits : out + n * 4 ≤ room
