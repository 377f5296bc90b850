-- `book_of` meets its contract.
use Prim.Native.Nat.{◌-◌}
use native.Mathlib.Omega.{arith}
use Rattle.book_names.proofs.Booked.{few, described_book, described_faulty, never_room}
use Rattle.book_names.proofs.names.book_of.Goals as goal

pub offset_bounds-places-n : goal.offset_bounds-places-n
offset_bounds-places-n c =
    let p = c.requires in
    let f = (few c.describe-described.result c.describe-described.ensures (omega arith) p.0 (omega arith) (omega arith) p.1 p.2 c.in-Counts.is)
    in
    omega (arith, f.0)

pub slice_bounds-copy_numbers-count : goal.slice_bounds-copy_numbers-count
slice_bounds-copy_numbers-count c =
    let p = c.requires in
    (few c.describe-described.result c.describe-described.ensures (omega arith) p.0 (omega arith) (omega arith) p.1 p.2 c.in-Counts.is).2

pub slice_bounds-copy_numbers-start : goal.slice_bounds-copy_numbers-start
slice_bounds-copy_numbers-start c =
    let p = c.requires in
    (few c.describe-described.result c.describe-described.ensures (omega arith) p.0 (omega arith) (omega arith) p.1 p.2 c.in-Counts.is).2

pub copy_numbers-requires : goal.copy_numbers-requires
copy_numbers-requires c =
    let p = c.requires in
    let f = (few c.describe-described.result c.describe-described.ensures (omega arith) p.0 (omega arith) (omega arith) p.1 p.2 c.in-Counts.is)
    in
    (omega (arith, f.1, f.3), omega (arith, f.1, f.4))

pub returns-in-Counts : goal.returns-in-Counts
returns-in-Counts c =
    let p = c.requires in
    described_book c.describe-described.result c.describe-described.ensures (omega arith) p.0 (omega arith) (omega arith) p.1 p.2 c.in-Counts.is
    c.copy_numbers.ensures

pub returns-in-Faulty : goal.returns-in-Faulty
returns-in-Faulty c = described_faulty c.describe-described.result
    c.describe-described.ensures (omega arith)
    c.requires.0
    (omega arith) (omega arith)
    c.requires.1
    c.requires.2
    c.in-Faulty.is

pub returns-in-Room : goal.returns-in-Room
returns-in-Room c = absurd (never_room c.describe-described.result
    c.describe-described.ensures (omega arith)
    c.requires.0
    (omega arith) (omega arith)
    c.requires.1
    c.requires.2
    c.in-Room.is)
