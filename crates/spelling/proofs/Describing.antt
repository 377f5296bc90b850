-- What a description gives a condition text: names of at most 64 items and 64 conditions, and literals that the rules accept.
use mathlib.Core.Path.{◌≡◌, refl, sym, ap, ap₂, ◌∙◌}
use mathlib.Core.List.{List, [], ◌∷◌, ◌++◌, map}
use Prim.Native.Nat.{ℕ, zero, suc, ◌+◌, ◌≤◌, ◌<◌}
use native.Mathlib.Omega.{arith}
use lib.ListN.{length, get_or, drop}
use Rattle.description.specs.Grammar.{Entry, Condition, Table, Row, row, Literal as Told, literal_row, literal_rows, literals_of, literal_bytes}
use Rattle.description.specs.Limits.{table, describe}
use Rattle.description.proofs.Keeping.{Within, within}
use Rattle.spelling.specs.Names.{leading, names_at, known_of, numbers, book_of}
use Rattle.spelling.specs.Keywords.{Piece, literal}
use Rattle.spelling.specs.Reading.{rows_from, bytes_of}
use Rattle.spelling.proofs.Laying.{Clean, AllFit}
use Rattle.spelling.proofs.Given.{given, AllFitting, Free, entries_fit, parted-total, entries_short}
use Rattle.spelling.proofs.Accepted.{Kept}

pub length-map : {A B : Type 0} (f : A → B) (l : List A) → length (map f l) ≡ length l
length-map f [] = refl
length-map f (a ∷ l) = ap suc (length-map f l)

-- as many names as rows
pub items-length : (text : List ℕ) (t : Table) → length (known_of text t).items ≡ length t.entries
items-length text t =
    length-map (λ (p : ℕ). leading (drop p text)) (map (λ (e : Entry). e.named) t.entries) ∙ length-map (λ (e : Entry). e.named) t.entries

pub conditions_length : (text : List ℕ) (t : Table) → length (known_of text t).conditions ≡ length t.conditions
conditions_length text t =
    length-map (λ (p : ℕ). leading (drop p text)) (map (λ (c : Condition). c.named) t.conditions) ∙ length-map (λ (c : Condition). c.named) t.conditions

-- the description's literals as pieces
abbrev pieces : List Told → List Piece
pieces [] = []
pieces (x ∷ xs) = literal (given x) ∷ pieces xs

rows_are : (o : ℕ) (xs : List Told) → numbers (literal_rows o xs) ≡ rows_from o (pieces xs)
unfolding numbers literal_rows rows_from
rows_are o [] = refl
rows_are o (x ∷ xs) =
    let r = literal_row o x in
    ap (λ (v : List ℕ). r.kind ∷ r.offset ∷ r.size ∷ r.scale ∷ r.digits ∷ v) (rows_are (o + length x.bytes) xs)

bytes_are : (xs : List Told) → literal_bytes xs ≡ bytes_of (pieces xs)
unfolding literal_bytes bytes_of
bytes_are [] = refl
bytes_are (x ∷ xs) = ap (λ (v : List ℕ). x.bytes ++ v) (bytes_are xs)

pieces_clean : (n : ℕ) (xs : List Told) → n + length xs ≤ 64 → Clean n (pieces xs)
pieces_clean n [] h = tt
pieces_clean n (x ∷ xs) h = (omega arith, pieces_clean (suc n) xs (omega arith))

pieces_fit : (xs : List Told) → AllFitting xs → AllFit (pieces xs)
pieces_fit [] f = tt
pieces_fit (x ∷ xs) f = (f.0.fits_it, f.0.of_kind, pieces_fit xs f.1)

module _ (text : List ℕ) (t : Table) (e : describe text ≡ table t) where
  abbrev kept_all : Within text t
  kept_all = within text t e

  pub book_kept : Kept (book_of text t)
  book_kept =
      let w = kept_all in
      let xs = literals_of t.conditions in
      record {
        few = (omega (arith, items-length text t, w.items), omega (arith, conditions_length text t, w.names));
        own = pieces xs;
        own_clean = pieces_clean 0 xs (omega (arith, w.literals));
        own_fit = pieces_fit xs (entries_fit w.valid.described (λ j d l. record { item_row_lem = get_or t.rows (get_or t.conditions j d).item (row 0 0 0 0 0); free = (w.name_kept j d l).free }));
        own_rows_lem = ap numbers w.valid.literals ∙ rows_are 0 xs;
        own_bytes = w.valid.bytes ∙ bytes_are xs;
      }

  -- literals are no longer than the text
  pub few_bytes : length t.bytes ≤ 4096
  few_bytes =
      let w = kept_all in
      omega (arith, ap length w.valid.bytes, entries_short w.valid.described, parted-total w.valid.parted, w.short)
