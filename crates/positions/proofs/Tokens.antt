-- Each piece of a text without a fault adds one token.
use mathlib.Core.Path.{◌≡◌, refl, sym, ap, ◌∙◌}
use mathlib.Core.Bool.{Bool, true, false, cond, ◌&&◌, true≢false}
use mathlib.Core.List.{List, [], ◌∷◌, ◌++◌, map}
use Prim.Native.Nat.{ℕ, suc}
use lib.Dec.{leb, ltb}
use lib.ListN.{length}
use Rattle.spelling.specs.Names.{Known, Book}
use Rattle.spelling.specs.Keywords.{Piece, token, literal, fault}
use Rattle.spelling.specs.Reading.{Placed, placed, pieces, Found, none, refusal, before, fault_at, after, first_fault, or_too_long, fault_of}
use Rattle.spelling.specs.Reading.{tokens_from, rows_from, bytes_of, Reading, read, refused, literals_before, tokens_of, result, reading}
use Rattle.positions.specs.Theorems.{TokenForEachPiece}

abbrev is_none : Found → Bool
is_none none = true
is_none (refusal number place) = false

some-fault : {A : Type 0} {number place : ℕ} → refusal number place ≡ none → A
some-fault e = absurd (true≢false (sym (ap is_none e)))

-- of pieces, and of those that are left after the first
each : (n : ℕ) (xs : List Placed) → first_fault n xs ≡ none → length (tokens_from n (map (λ (x : Placed). x.piece) xs)) ≡ length xs
unfolding first_fault tokens_from
each n [] e = refl
each n (x ∷ xs) e = by x.piece e (λ (m : ℕ). each m xs)
  where
    some : (t : Bool) → before (cond t none (refusal 15 x.place)) (first_fault (suc n) xs) ≡ none → first_fault (suc n) xs ≡ none
    some true h = h
    some false h = some-fault h

    by : (p : Piece) → before (fault_at n x.place p) (first_fault (after n p) xs) ≡ none
        → ((m : ℕ) → first_fault m xs ≡ none → length (tokens_from m (map (λ (y : Placed). y.piece) xs)) ≡ length xs)
        → length (tokens_from n (p ∷ map (λ (y : Placed). y.piece) xs)) ≡ suc (length xs)
    by (token t) h rest = ap suc (rest n h)
    by (literal l) h rest = ap suc (rest (suc n) (some (ltb n 64) h))
    by (fault number) h rest = some-fault h

-- a text that is too long has a fault
late : (f : Found) → or_too_long f ≡ none → f ≡ none
late none h = refl
late (refusal number place) h = by (ltb place 2048) h
  where
    by : (t : Bool) → cond t (refusal number place) (refusal 15 2048) ≡ none → refusal number place ≡ none
    by true q = q
    by false q = some-fault q

faultless : (known : Known) (n : ℕ) (text : List ℕ) → fault_of known n text ≡ none → first_fault n (placed known text) ≡ none
faultless known n text e = by (leb (length text) 2048) e
  where
    by : (t : Bool) → cond t (first_fault n (placed known text)) (or_too_long (first_fault n (placed known text))) ≡ none
        → first_fault n (placed known text) ≡ none
    by true h = h
    by false h = late (first_fault n (placed known text)) h

abbrev is_read : Reading → Bool
is_read (read t r b) = true
is_read (refused number place) = false

abbrev tokens_in : Reading → List ℕ
tokens_in (read t r b) = t
tokens_in (refused number place) = []

unread : {A : Type 0} {number place : ℕ} {t r b : List ℕ} → refused number place ≡ read t r b → A
unread e = absurd (true≢false (sym (ap is_read e)))

module _ (b : Book) (text tokens rows content : List ℕ) where
  given : (t : Bool) (T R B : List ℕ) → cond t (read T R B) (refused 5 0) ≡ read tokens rows content → T ≡ tokens
  given true T R B h = ap tokens_in h
  given false T R B h = unread h

  counted : (f : Found) → fault_of b.known (literals_before b) text ≡ f → result b f (pieces b.known text) ≡ read tokens rows content
      → length tokens ≡ length (placed b.known text)
  counted none q h =
      let ps : List Piece = pieces b.known text in
      let T : List ℕ = tokens_of b ps in
      let same = given (leb 1 (length T) && leb (length T) 256) T (b.rows ++ rows_from (length b.bytes) ps) (b.bytes ++ bytes_of ps) h in
      ap length (sym same) ∙ each (literals_before b) (placed b.known text) (faultless b.known (literals_before b) text q)
  counted (refusal number place) q h = unread h

pub token_for_each_piece : TokenForEachPiece
unfolding reading
token_for_each_piece b text tokens rows content e = counted b text tokens rows content (fault_of b.known (literals_before b) text) refl e
