-- What was read, printed and read again is the same.
use mathlib.Core.Path.{◌≡◌, refl, sym, ap, ap₂, ◌∙◌, subst}
use mathlib.Core.Bool.{Bool, true, false, cond, ◌&&◌}
use mathlib.Core.List.{List, [], ◌∷◌, ◌++◌, map, head-eq_of_cons-eq, tail-eq_of_cons-eq, nil≢cons, cons≢nil}
use Prim.Native.Nat.{ℕ, zero, suc, ◌+◌, ◌≤◌, ◌<◌}
use native.Mathlib.Omega.{arith}
use lib.ListN.{length}
use lib.Dec.{leb, ltb}
use borrow.Author.Tests.{le-leb}
use Rattle.description.specs.Grammar.{Word}
use Rattle.spelling.specs.Words.{words, words_from}
use Rattle.spelling.specs.Keywords.{Piece, token, literal, fault, Meaning, alone, item, value, order, equal, faulty}
use Rattle.spelling.specs.Meanings.{meaning, piece_of, joins, or_equal, after_than}
use Rattle.description.specs.Limits.{Outcome, table, refusal as undescribed, describe}
use Rattle.spelling.specs.Names.{Known, Book, book_of}
use Rattle.spelling.specs.Reading.{Placed, pieces_from, placed, pieces, Found, none, refusal, first_fault, or_too_long, fault_of, tokens_from}
use Rattle.spelling.specs.Reading.{rows_from, bytes_of, literals_before, tokens_of, Reading, read, refused, result, reading, read_after}
use Rattle.spelling.specs.Printing.{word_of, line, printed, print_fault, print_result, printing, print_after, text as printed_text}
use Rattle.spelling.specs.RoundTrip.{PrintedAgain, RoundTrip}
use Rattle.spelling.proofs.Cutting.{AllStand, cut_line}
use Rattle.spelling.proofs.Joining.{Means, Spelt, none as spelt-none, more, read_again}
use Rattle.spelling.proofs.Laying.{Clean, piece_at, clean, clean_again, spell, Fine, AllFine, words_again}
use Rattle.spelling.proofs.Spelling.{Good, good}
use Rattle.spelling.proofs.Accepted.{Kept, own_length, no_refusal}
use Rattle.spelling.proofs.Describing.{book_kept}

abbrev bytes_at : Word → List ℕ
bytes_at w = w.text

module _ (known : Known) where
  piece_fine : (m : Meaning) (ws : List Word) → Good known m → Fine known (piece_of m ws)
  piece_fine (alone t) ws g = g
  piece_fine (item t) ws g = g
  piece_fine (value l) ws g = g
  piece_fine (order plain joined) ws g = by (leb 1 (or_equal (after_than ws)))
    where
      by : (t : Bool) → Fine known (token (cond t joined plain))
      by true = g.1
      by false = g.0
  piece_fine equal ws g = g
  piece_fine (faulty number) ws g = g

  pub all_fine : (length known.items ≤ 64) × (length known.conditions ≤ 64) → (k : ℕ) (ws : List Word) → AllFine known (map piece_at (pieces_from known k ws))
  unfolding pieces_from
  all_fine few k [] = tt
  all_fine few (suc k) (w ∷ ws) = all_fine few k ws
  all_fine few zero (w ∷ ws) =
      (piece_fine (meaning known w.text) ws (good known few w.text), all_fine few (joins (meaning known w.text) ws) ws)

  all_stand : (n : ℕ) (ps : List Piece) → Clean n ps → AllFine known ps → AllStand (map (spell known) ps)
  all_stand n [] c f = tt
  all_stand n (token t ∷ ps) c f = (f.0.1, all_stand n ps c f.1)
  all_stand n (literal l ∷ ps) c f = (f.0.1, all_stand (suc n) ps c.1 f.1)
  all_stand n (fault number ∷ ps) c f = absurd c

  spelt : (n : ℕ) (ps : List Piece) (ws : List Word) → Clean n ps → AllFine known ps → map bytes_at ws ≡ map (spell known) ps → Spelt known ps ws
  spelt n [] [] c f e = spelt-none
  spelt n [] (w ∷ ws) c f e = absurd (cons≢nil e)
  spelt n (token t ∷ ps) [] c f e = absurd (nil≢cons e)
  spelt n (token t ∷ ps) (w ∷ ws) c f e =
      more (subst (λ (v : List ℕ). Means known v (token t)) (sym (head-eq_of_cons-eq e)) f.0.0) (spelt n ps ws c f.1 (tail-eq_of_cons-eq e))
  spelt n (literal l ∷ ps) [] c f e = absurd (nil≢cons e)
  spelt n (literal l ∷ ps) (w ∷ ws) c f e =
      more (subst (λ (v : List ℕ). Means known v (literal l)) (sym (head-eq_of_cons-eq e)) f.0.0) (spelt (suc n) ps ws c.1 f.1 (tail-eq_of_cons-eq e))
  spelt n (fault number ∷ ps) [] c f e = absurd c
  spelt n (fault number ∷ ps) (w ∷ ws) c f e = absurd c

  -- the pieces of a printed text are the pieces that were printed
  pub pieces_again : (n : ℕ) (ps : List Piece) → Clean n ps → AllFine known ps → pieces known (line (map (spell known) ps)) ≡ ps
  pieces_again n ps c f =
      read_again (spelt n ps (words (line (map (spell known) ps))) c f (cut_line (map (spell known) ps) (all_stand n ps c f)))

-- a text without a fault
pub no_fault : (known : Known) (n : ℕ) (text : List ℕ) → fault_of known n text ≡ none → first_fault n (placed known text) ≡ none
no_fault known n text e = by (leb (length text) 2048) (first_fault n (placed known text)) e
  where
    by : (t : Bool) (f : Found) → cond t f (or_too_long f) ≡ none → f ≡ none
    by true f e = e
    by false none e = refl
    by false (refusal number place) e = late (ltb place 2048) e
      where
        late : (t : Bool) → cond t (refusal number place) (refusal 15 2048) ≡ none → refusal number place ≡ none
        late true e = e
        late false e = cc

no_fault_again : (known : Known) (n : ℕ) (text : List ℕ) → length text ≤ 2048 → first_fault n (placed known text) ≡ none → fault_of known n text ≡ none
no_fault_again known n text h e = rw (le-leb (length text) 2048 h) e

-- what was read has no fault, and is the pieces laid in turn, after the book's
pub record WasRead (b : Book) (text tokens rows bytes : List ℕ) : Type 0 where
  pub faultless : fault_of b.known (literals_before b) text ≡ none
  pub counted : leb 1 (length (tokens_of b (pieces b.known text))) && leb (length (tokens_of b (pieces b.known text))) 256 ≡ true
  pub tokens_are : tokens ≡ tokens_of b (pieces b.known text)
  pub rows_are : rows ≡ b.rows ++ rows_from (length b.bytes) (pieces b.known text)
  pub bytes_are : bytes ≡ b.bytes ++ bytes_of (pieces b.known text)

pub was_read : (b : Book) (text tokens rows bytes : List ℕ) → reading b text ≡ read tokens rows bytes → WasRead b text tokens rows bytes
unfolding reading
was_read b text tokens rows bytes e = by (fault_of b.known (literals_before b) text) refl e
  where
    ps : List Piece
    ps = pieces b.known text

    ts : List ℕ
    ts = tokens_of b ps

    by : (f : Found) → fault_of b.known (literals_before b) text ≡ f → result b f ps ≡ read tokens rows bytes → WasRead b text tokens rows bytes
    by none q e = within (leb 1 (length ts) && leb (length ts) 256) refl e
      where
        within : (t : Bool) → leb 1 (length ts) && leb (length ts) 256 ≡ t
            → cond t (read ts (b.rows ++ rows_from (length b.bytes) ps) (b.bytes ++ bytes_of ps)) (refused 5 0) ≡ read tokens rows bytes
            → WasRead b text tokens rows bytes
        within true h e = record { faultless = q; counted = h; tokens_are = cc; rows_are = cc; bytes_are = cc }
        within false h e = let z : ◌≡◌ {A = ℕ} 0 1 = cc in absurd (omega arith)
    by (refusal number place) q e = let z : ◌≡◌ {A = ℕ} 0 1 = cc in absurd (omega arith)

module _ (b : Book) (K : Kept b) where
  abbrev known : Known
  known = b.known

  abbrev n : ℕ
  n = literals_before b

  -- a text without a fault, printed from its pieces, is read as before
  again : (text : List ℕ) → fault_of known n text ≡ none → length (line (map (spell known) (pieces known text))) ≤ 2048
      → reading b (line (map (spell known) (pieces known text))) ≡ reading b text
  unfolding reading
  again text e h =
      let ps : List Piece = pieces known text in
      let q : List ℕ = line (map (spell known) ps) in
      let c : Clean n ps = clean n (placed known text) (no_fault known n text e) in
      let f : AllFine known ps = all_fine known K.few 0 (words text) in
      let p : pieces known q ≡ ps = pieces_again known n ps c f in
      let g : fault_of known n q ≡ none = no_fault_again known n q h (clean_again n (placed known q) (subst (Clean n) (sym p) c)) in
      ap₂ (result b) g p ∙ sym (ap (λ (u : Found). result b u ps) e)

  module _ (text tokens rows bytes : List ℕ) (e : reading b text ≡ read tokens rows bytes) where
    abbrev r : WasRead b text tokens rows bytes
    r = was_read b text tokens rows bytes e

    abbrev ps : List Piece
    ps = pieces known text

    c : Clean n ps
    c = clean n (placed known text) (no_fault known n text r.faultless)

    f : AllFine known ps
    f = all_fine known K.few 0 (words text)

    from_printed : length (printed known rows bytes tokens) ≤ 2048 → reading b (printed known rows bytes tokens) ≡ read tokens rows bytes
    from_printed h =
        let p : printed known rows bytes tokens ≡ line (map (spell known) ps) =
        rw (r.rows_are, r.bytes_are, r.tokens_are) (ap line (words_again known n ps c f b.rows b.bytes (own_length K))) in
        let g : length (line (map (spell known) ps)) ≤ 2048 = subst (λ (t : List ℕ). length t ≤ 2048) p h in
        ap (reading b) p ∙ again text r.faultless g ∙ e

    -- the printer refuses nothing that was read
    not_refused : printing known rows bytes tokens ≡ printed_text (printed known rows bytes tokens)
    unfolding printing
    not_refused =
        let sound : print_fault known rows bytes tokens ≡ none = rw (r.rows_are, r.bytes_are, r.tokens_are) (no_refusal K ps c f r.counted) in
        ap (λ (f : Found). print_result f (printed known rows bytes tokens)) sound

pub round_trip : RoundTrip
round_trip description text tokens rows bytes e = by (describe description) refl e
  where
    by : (o : Outcome) → describe description ≡ o → read_after description o text ≡ read tokens rows bytes → PrintedAgain description tokens rows bytes
    by (table t) q e =
        let b : Book = book_of description t in
        let K = book_kept description t q in
        record {
          printed = printed b.known rows bytes tokens;
          prints = ap (λ (o : Outcome). print_after description o rows bytes tokens) q ∙ not_refused b K text tokens rows bytes e;
          reads =
              λ h.
              ap (λ (o : Outcome). read_after description o (printed b.known rows bytes tokens)) q
              ∙ from_printed b K text tokens rows bytes e h;
        }
    by (undescribed place) q e = let z : ◌≡◌ {A = ℕ} 0 1 = cc in absurd (omega arith)
