-- What holds of the first record of a block holds of the fields of all.
use mathlib.Core.Path.{◌≡◌}
use mathlib.Core.Bool.{true}
use mathlib.Core.List.{List}
use Prim.Native.Nat.{ℕ, ◌+◌, ◌-◌, ◌*◌, ◌≤◌}
use native.Mathlib.Omega.{arith}
use native.Mathlib.Nat.{zero-mul}
use lib.ListN.{length, take, drop, length-drop}
use lib.Seq.{length-take-le}
use borrow.Author.Tests.{leb-true}
use Rattle.tables.specs.Rows.{row_at}
use Rattle.tables.specs.Tokens.{is_item, index_of}
use Rattle.tables.specs.Operands.{Lent, lend, lend_names, row_of, operand_bytes, Within}
use Rattle.values.specs.Truth.{Readable, Sided}
use Rattle.grammar.specs.declared.PlanRow.{PlanRow}
use Rattle.byte_words.proofs.WordLaws.{Bytes, bytes_take, bytes_drop}
use Rattle.digit_words.proofs.Outcomes.{operand_small}
use Rattle.block_truths.specs.Columns.{record_at, Judgeable}

-- the first record
module _ {lent : Lent} {records : List ℕ} {from size n : ℕ} {r : PlanRow} (J : Judgeable lent records from size n r) where
  here : from + 0 * size ≡ from
  here = omega (arith, zero-mul size)

  pub first-within : from + size ≤ length records
  first-within = omega (arith, here, J.laid.within 0 (omega (arith, J.laid.some)))

  pub first_readable : Readable lent (take (from + size - from) (drop from records)) r.subject r.relation r.object
  first_readable =
      let width : from + size - from ≡ size = omega arith in
      rw width (rw here at (J.readable 0 (omega (arith, J.laid.some))))

  first-length : length (take (from + size - from) (drop from records)) ≡ size
  first-length =
      let width : from + size - from ≡ size = omega arith in
      rw width (length-take-le size (drop from records) (omega (arith, first-within, length-drop from records)))

  -- an item ends in each record
  pub item_inside : {token : ℕ} → Sided lent (take (from + size - from) (drop from records)) token → is_item token ≡ true
      → (row_of lent token).offset + (row_of lent token).size ≤ size
  item_inside {token} s i =
      let row = row_at lent.items (index_of token) in
      let lies = leb-true (row.offset + row.size) (length (take (from + size - from) (drop from records))) (rw i at s.within.lies) in
      rw i (omega (arith, lies, first-length))

-- what is read of an operand needs no names
pub within_unnamed : {items literals bytes names content : List ℕ} {token : ℕ} → Sided (lend_names items literals bytes names) content token
    → Within (lend items literals bytes) content token
within_unnamed s = record { there = s.within.there; lies = s.within.lies }

-- the bytes of an operand on record k
pub small : (lent : Lent) (records : List ℕ) (from size : ℕ) → Bytes records → Bytes lent.bytes → (k token : ℕ)
    → Bytes (operand_bytes lent (record_at records from size k) token)
small lent records from size b m k token =
    operand_small lent (record_at records from size k) token (bytes_take size (bytes_drop (from + k * size) b)) m
