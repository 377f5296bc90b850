-- Values of a level 88 entry as the code reads them: where their ends stand.
use Rattle.std.specs.Prelude.{◌≡◌, Bool, true, false, cond, List, [], ◌∷◌, ◌++◌, ℕ, ◌+◌, ◌-◌, ◌≤◌, ◌<◌, eqb, length, get_or, take, drop, Err, Ok, Result}
use Rattle.description.specs.Grammar.{bytes, Literal, Value, single, range}
use Rattle.description.specs.Stages.{inked, literal_at, spelled_at, literal_in, is_literal}
use Rattle.description.specs.declared.Spelled.{Spelled}
use Rattle.description.specs.declared.Spelled.TheVariants as Spelled
use Rattle.condition_names.specs.declared.Found.{Found}
use Rattle.condition_names.specs.declared.ValueRead.{ValueRead}
use Rattle.condition_names.specs.declared.ValueRead.TheVariants as ValueRead

abbrev pub alone : ℕ → ℕ → Found
alone p k = record { low = p; mid = k; high = p; end = k; range = false }

abbrev pub ranging : ℕ → ℕ → ℕ → ℕ → Found
ranging p k q e = record { low = p; mid = k; high = q; end = e; range = true }

-- the high end from q on
abbrev pub high_read : ℕ → ℕ → ℕ → Result Spelled ℕ → Result ValueRead ℕ
high_read p k q (Ok (Spelled.Open e)) = Ok (ValueRead.Open (ranging p k q e) e)
high_read p k q (Ok (Spelled.Ended e)) = Ok (ValueRead.Ended (ranging p k q e) (e + 1))
high_read p k q (Err e) = Err e

abbrev pub high_at : List ℕ → ℕ → ℕ → ℕ → Result ValueRead ℕ
high_at text p k n = high_read p k (inked text n) (spelled_at text n)

abbrev pub thru_read : List ℕ → ℕ → ℕ → Result ℕ ℕ → Result ValueRead ℕ
thru_read text p k (Ok n) = high_at text p k n
thru_read text p k (Err n) = Err n

abbrev pub thru_at : List ℕ → ℕ → ℕ → Result ValueRead ℕ
thru_at text p k = thru_read text p k (literal_at (bytes "THRU") text k)

-- the low end from p on
abbrev pub low_read : List ℕ → ℕ → Result Spelled ℕ → Result ValueRead ℕ
low_read text p (Ok (Spelled.Open k)) = cond (eqb (get_or text (inked text k) 0) 0x54) (thru_at text p k) (Ok (ValueRead.Open (alone p k) k))
low_read text p (Ok (Spelled.Ended k)) = Ok (ValueRead.Ended (alone p k) (k + 1))
low_read text p (Err k) = Err k

abbrev pub value_at : List ℕ → ℕ → Result ValueRead ℕ
value_at text n = low_read text (inked text n) (spelled_at text n)

-- the value that stands there
abbrev pub value_of : List ℕ → Found → Value
value_of text f = cond f.range (range (literal_in text f.low f.mid) (literal_in text f.high f.end)) (single (literal_in text f.low f.mid))

-- both its ends are literals of the text
pub record Stands (text : List ℕ) (f : Found) : Type 0 where
  pub starts : f.low ≤ f.mid
  pub middle : f.mid ≤ length text
  pub low : is_literal (take (f.mid - f.low) (drop f.low text)) ≡ true
  pub goes : f.high ≤ f.end
  pub ends : f.end ≤ length text
  pub high : is_literal (take (f.end - f.high) (drop f.high text)) ≡ true
