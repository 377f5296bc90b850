-- Pieces without a fault: their literals are found again in the tables that were made of them.
use mathlib.Core.Path.{◌≡◌, refl, sym, ap, ap₂, ◌∙◌}
use mathlib.Core.Bool.{Bool, true, false, cond, ◌||◌}
use mathlib.Core.List.{List, [], ◌∷◌, ◌++◌, map, append_assoc}
use Prim.Native.Nat.{ℕ, zero, suc, ◌+◌, ◌*◌, ◌/◌, ◌%◌, ◌≤◌, ◌<◌}
use native.Mathlib.Omega.{arith}
use lib.ListN.{length, get_or, take, drop, length-append}
use lib.Seq.{get_or-append-add, get_or-append_seam, drop-append_seam, take-append_seam}
use lib.Dec.{ltb, eqb}
use borrow.Author.Tests.{ltb-true, lt-ltb}
use Rattle.tables.specs.Tokens.{is_item, is_literal}
use Rattle.spelling.specs.Names.{Known}
use Rattle.spelling.specs.Literals.{Literal, fits, written, literal_digits}
use Rattle.spelling.specs.Keywords.{Piece, token, literal, fault}
use Rattle.spelling.specs.Reading.{Placed, Found, none, refusal, before, fault_at, after, first_fault, tokens_from, rows_from, bytes_of}
use Rattle.spelling.specs.Printing.{literal_at, word_of, printable, has_name}
use Rattle.spelling.proofs.Cutting.{Stands}
use Rattle.spelling.proofs.Joining.{Means}

-- no fault, and with the n literals before at most 64
abbrev pub Clean : ℕ → List Piece → Type 0
Clean n [] = Unit {0}
Clean n (token t ∷ ps) = Clean n ps
Clean n (literal l ∷ ps) = (n < 64) × Clean (suc n) ps
Clean n (fault number ∷ ps) = ⊥

abbrev pub piece_at : Placed → Piece
piece_at x = x.piece

pub clean : (n : ℕ) (xs : List Placed) → first_fault n xs ≡ none → Clean n (map piece_at xs)
unfolding first_fault
clean n [] e = tt
clean n (x ∷ xs) e = go x.piece e (λ m. clean m xs)
  where
    go : (p : Piece) → before (fault_at n x.place p) (first_fault (after n p) xs) ≡ none
        → ((m : ℕ) → first_fault m xs ≡ none → Clean m (map piece_at xs)) → Clean n (p ∷ map piece_at xs)
    go (token t) e rec = rec n e
    go (literal l) e rec = by (ltb n 64) refl e
      where
        by : (b : Bool) → ltb n 64 ≡ b → before (cond b none (refusal 15 x.place)) (first_fault (suc n) xs) ≡ none
            → (n < 64) × Clean (suc n) (map piece_at xs)
        by true h e = (ltb-true n 64 h, rec (suc n) e)
        by false h e = let z : ◌≡◌ {A = ℕ} 0 1 = cc in absurd (omega arith)
    go (fault number) e rec = let z : ◌≡◌ {A = ℕ} 0 1 = cc in omega arith

pub clean_again : (n : ℕ) (xs : List Placed) → Clean n (map piece_at xs) → first_fault n xs ≡ none
unfolding first_fault
clean_again n [] c = refl
clean_again n (x ∷ xs) c = go x.piece c (λ m. clean_again m xs)
  where
    go : (p : Piece) → Clean n (p ∷ map piece_at xs)
        → ((m : ℕ) → Clean m (map piece_at xs) → first_fault m xs ≡ none)
        → before (fault_at n x.place p) (first_fault (after n p) xs) ≡ none
    go (token t) c rec = rec n c
    go (literal l) c rec = rw (lt-ltb n 64 c.0) (rec (suc n) c.1)
    go (fault number) c rec = absurd c

-- the word that a piece is printed as
abbrev pub spell : Known → Piece → List ℕ
spell known (token t) = word_of known [] [] t
spell known (literal l) = written l
spell known (fault number) = []

-- "Literal rows have kinds 2, 3 or 5 only"
abbrev pub of_literal_kind : Literal → Bool
of_literal_kind l = eqb l.kind 2 || eqb l.kind 3 || eqb l.kind 5

-- a piece whose printed word is read as this piece, and which the printer does not refuse
abbrev pub Fine : Known → Piece → Type 0
Fine known (token t) =
    Means known (word_of known [] [] t) (token t)
    × Stands (word_of known [] [] t)
    × (is_literal t ≡ false)
    × (printable known [] t ≡ true)
    × (has_name known t ≡ true)
Fine known (literal l) = Means known (written l) (literal l) × Stands (written l) × (fits l ≡ true) × (of_literal_kind l ≡ true)
Fine known (fault number) = Unit {0}

abbrev pub AllFine : Known → List Piece → Type 0
AllFine known [] = Unit {0}
AllFine known (p ∷ ps) = Fine known p × AllFine known ps

-- its literals are within 01's limits
abbrev pub AllFit : List Piece → Type 0
AllFit [] = Unit {0}
AllFit (token t ∷ ps) = AllFit ps
AllFit (literal l ∷ ps) = (fits l ≡ true) × (of_literal_kind l ≡ true) × AllFit ps
AllFit (fault number ∷ ps) = AllFit ps

pub all_fit : (known : Known) (ps : List Piece) → AllFine known ps → AllFit ps
all_fit known [] f = tt
all_fit known (token t ∷ ps) f = all_fit known ps f.1
all_fit known (literal l ∷ ps) f = (f.0.2, f.0.3, all_fit known ps f.1)
all_fit known (fault number ∷ ps) f = all_fit known ps f.1

-- row n is the literal
literal_again : (n : ℕ) (pre preb : List ℕ) (l : Literal) (rows bytes : List ℕ) → length pre ≡ n * 5
    → literal_at (pre ++ (l.kind ∷ length preb ∷ length l.bytes ∷ l.scale ∷ literal_digits l.kind (length l.bytes) ∷ rows)) (preb ++ (l.bytes ++ bytes)) n ≡ l
literal_again n pre preb l rows bytes e =
    rw (
      ← e,
      get_or-append_seam pre l.kind (length preb ∷ length l.bytes ∷ l.scale ∷ literal_digits l.kind (length l.bytes) ∷ rows) 0,
      get_or-append-add pre (l.kind ∷ length preb ∷ length l.bytes ∷ l.scale ∷ literal_digits l.kind (length l.bytes) ∷ rows) 1 0,
      get_or-append-add pre (l.kind ∷ length preb ∷ length l.bytes ∷ l.scale ∷ literal_digits l.kind (length l.bytes) ∷ rows) 2 0,
      get_or-append-add pre (l.kind ∷ length preb ∷ length l.bytes ∷ l.scale ∷ literal_digits l.kind (length l.bytes) ∷ rows) 3 0,
      drop-append_seam preb (l.bytes ++ bytes),
      take-append_seam l.bytes bytes,
    )

module _ (known : Known) where
  no_table : (rows bytes : List ℕ) (t : ℕ) → is_literal t ≡ false → word_of known rows bytes t ≡ word_of known [] [] t
  no_table rows bytes t e = rw e

  literal-word : (rows bytes : List ℕ) (n : ℕ) → n < 64 → word_of known rows bytes (65536 + n) ≡ written (literal_at rows bytes n)
  literal-word rows bytes n h =
      let k : (65536 + n) / 65536 ≡ 1 = omega arith in
      let i : (65536 + n) % 65536 ≡ n = omega arith in
      rw (k, i)

  -- the words that the printer writes for pieces after n rows and the bytes `preb`
  pub words_again : (n : ℕ) (ps : List Piece) → Clean n ps → AllFine known ps → (pre preb : List ℕ) → length pre ≡ n * 5
      → map (word_of known (pre ++ rows_from (length preb) ps) (preb ++ bytes_of ps)) (tokens_from n ps) ≡ map (spell known) ps
  unfolding tokens_from rows_from bytes_of
  words_again n [] c f pre preb e = refl
  words_again n (token t ∷ ps) c f pre preb e =
      ap₂ (λ (w : List ℕ) (ws : List (List ℕ)). w ∷ ws) (no_table (pre ++ rows_from (length preb) ps) (preb ++ bytes_of ps) t f.0.2) (words_again n ps c f.1 pre preb e)
  words_again n (literal l ∷ ps) c f pre preb e =
      let row : List ℕ = l.kind ∷ length preb ∷ length l.bytes ∷ l.scale ∷ literal_digits l.kind (length l.bytes) ∷ [] in
      let rest : List ℕ = rows_from (length preb + length l.bytes) ps in
      let long : length (pre ++ row) ≡ suc n * 5 = omega (arith, length-append pre row) in
      let ih = words_again (suc n) ps c.1 f.1 (pre ++ row) (preb ++ l.bytes) long in
      ap₂ (λ (w : List ℕ) (ws : List (List ℕ)). w ∷ ws)
      (literal-word (pre ++ (l.kind ∷ length preb ∷ length l.bytes ∷ l.scale ∷ literal_digits l.kind (length l.bytes) ∷ rest))
      (preb ++ (l.bytes ++ bytes_of ps)) n c.0 ∙ ap written (literal_again n pre preb l rest (bytes_of ps) e))
      (rw (length-append preb l.bytes, append_assoc pre row rest, append_assoc preb l.bytes (bytes_of ps)) at ih)
  words_again n (fault number ∷ ps) c f pre preb e = absurd c
