-- The literal rows of a description: where each stands, and that each is sound.
use mathlib.Core.Path.{◌≡◌, refl, ap}
use mathlib.Core.Bool.{true, ◌&&◌, ◌||◌}
use mathlib.Core.List.{List, [], ◌∷◌, ◌++◌}
use Prim.Native.Nat.{ℕ, zero, suc, ◌+◌, ◌≤◌, ◌<◌}
use native.Mathlib.Omega.{arith}
use lib.Dec.{eqb, leb}
use lib.ListN.{length, get_or, take, drop, length-append}
use lib.Seq.{take-append_seam, drop-append-add}
use borrow.Author.Tests.{le-leb}
use Rattle.content.specs.WrongByte.{valid_content}
use Rattle.tables.specs.Rows.{row_sound, group_sound, character_sound, is_numeric, digits_sound, part, lies_in}
use Rattle.tables.specs.Tables.{literal_sound}
use Rattle.tables.proofs.Tests.{both, and_both}
use Rattle.description.specs.Grammar.{Row, Literal, literal, literal_row, literal_rows, literal_bytes}
use Rattle.description.specs.Limits.{ruled}
use Rattle.spelling.proofs.Given.{Fit, AllFitting}

abbrev pub nothing : Literal
nothing = literal 0 [] 0

-- how many bytes are laid before literal k
abbrev pub offset : List Literal → ℕ → ℕ
offset xs k = length (literal_bytes (take k xs))

pub rows-length : (o : ℕ) (xs : List Literal) → length (literal_rows o xs) ≡ length xs
unfolding literal_rows
rows-length o [] = refl
rows-length o (x ∷ xs) = ap suc (rows-length (o + length x.bytes) xs)

rows_at : (o : ℕ) (xs : List Literal) (k : ℕ) (d : Row) → k < length xs → get_or (literal_rows o xs) k d ≡ literal_row (o + offset xs k) (get_or xs k nothing)
unfolding literal_rows literal_bytes
rows_at o [] k d l = absurd (omega arith)
rows_at o (x ∷ xs) zero d l = let z : o + 0 ≡ o = omega arith in rw z
rows_at o (x ∷ xs) (suc k) d l =
    let z : o + length (x.bytes ++ literal_bytes (take k xs)) ≡ o + length x.bytes + offset xs k = omega (arith, length-append x.bytes (literal_bytes (take k xs))) in
    rw z (rows_at (o + length x.bytes) xs k d (omega arith))

pub row_is : (xs : List Literal) (k : ℕ) (d : Row) → k < length xs → get_or (literal_rows 0 xs) k d ≡ literal_row (offset xs k) (get_or xs k nothing)
row_is xs k d l = let z : 0 + offset xs k ≡ offset xs k = omega arith in rw z at (rows_at 0 xs k d l)

-- the bytes that it names
pub bytes_at_lem : (xs : List Literal) (k : ℕ) → k < length xs →
    (take (length (get_or xs k nothing).bytes) (drop (offset xs k) (literal_bytes xs)) ≡ (get_or xs k nothing).bytes)
    × (offset xs k + length (get_or xs k nothing).bytes ≤ length (literal_bytes xs))
unfolding literal_bytes
bytes_at_lem [] k l = absurd (omega arith)
bytes_at_lem (x ∷ xs) zero l = (take-append_seam x.bytes (literal_bytes xs), omega (arith, length-append x.bytes (literal_bytes xs)))
bytes_at_lem (x ∷ xs) (suc k) l =
    let i = bytes_at_lem xs k (omega arith) in
    let n : length (x.bytes ++ literal_bytes (take k xs)) ≡ length x.bytes + offset xs k = length-append x.bytes (literal_bytes (take k xs)) in
    let d : drop (length x.bytes + offset xs k) (x.bytes ++ literal_bytes xs) ≡ drop (offset xs k) (literal_bytes xs) =
    drop-append-add x.bytes (literal_bytes xs) (offset xs k) in
    (rw (n, d) i.0, omega (arith, i.1, n, length-append x.bytes (literal_bytes xs)))

pub fit_at : (xs : List Literal) (k : ℕ) → AllFitting xs → k < length xs → Fit (get_or xs k nothing)
fit_at [] k f l = absurd (omega arith)
fit_at (x ∷ xs) zero f l = f.0
fit_at (x ∷ xs) (suc k) f l = fit_at xs k f.1 (omega arith)

moved : (x : Literal) (o : ℕ) → o ≤ 65535 → row_sound (ruled (literal_row 0 x)) ≡ true → row_sound (ruled (literal_row o x)) ≡ true
moved x o h e =
    let r = ruled (literal_row 0 x) in
    and_both (leb o 65535) (group_sound r || character_sound r || is_numeric r && digits_sound r) (le-leb o 65535 h)
    (both (leb 0 65535) (group_sound r || character_sound r || is_numeric r && digits_sound r) e).1

pub sound_at : (xs : List Literal) (k : ℕ) → AllFitting xs → length (literal_bytes xs) ≤ 4096 → k < length xs →
    literal_sound (literal_bytes xs) (ruled (literal_row (offset xs k) (get_or xs k nothing))) ≡ true
sound_at xs k f h l =
    let x = get_or xs k nothing in
    let r = ruled (literal_row (offset xs k) x) in
    let g = fit_at xs k f l in
    let b = bytes_at_lem xs k l in
    let p = both (row_sound (ruled (literal_row 0 x))) (valid_content x.kind r.digits x.bytes) g.fits_it in
    let valid : valid_content x.kind r.digits (part r (literal_bytes xs)) ≡ true = rw b.0 p.1 in
    let kinds : eqb x.kind 2 || eqb x.kind 3 || eqb x.kind 5 ≡ true = g.of_kind in
    and_both (row_sound r && (eqb x.kind 2 || eqb x.kind 3 || eqb x.kind 5) && lies_in r (literal_bytes xs)) (valid_content x.kind r.digits (part r (literal_bytes xs)))
    (and_both (row_sound r && (eqb x.kind 2 || eqb x.kind 3 || eqb x.kind 5)) (lies_in r (literal_bytes xs))
    (and_both (row_sound r) (eqb x.kind 2 || eqb x.kind 3 || eqb x.kind 5) (moved x (offset xs k) (omega (arith, b.1)) p.0) kinds)
    (le-leb (offset xs k + length x.bytes) (length (literal_bytes xs)) b.1))
    valid
