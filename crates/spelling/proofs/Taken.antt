-- What was read is taken by the calls above: none of refusals 3 to 6 is left.
use mathlib.Core.Path.{◌≡◌, refl, sym, ap, ◌∙◌}
use mathlib.Core.Bool.{Bool, true, false, cond, not, ◌&&◌}
use mathlib.Core.List.{List, [], ◌∷◌, ◌++◌, append_assoc}
use Prim.Native.Nat.{ℕ, zero, suc, ◌+◌, ◌≤◌}
use native.Mathlib.Omega.{arith}
use lib.ListN.{length, get_or, length-append}
use lib.Seq.{get_or-append_seam}
use Rattle.tables.specs.declared.Refusal.TheVariants.{Token}
use Rattle.tables.specs.Tokens.{token_there}
use Rattle.tables.specs.Rows.{row_count, name_count}
use Rattle.tables.specs.Refusals.{first_failing}
use Rattle.description.specs.Grammar.{Condition, Table, name_rows, literals}
use Rattle.description.specs.Limits.{Outcome, table, refusal as faulty, describe}
use Rattle.spelling.specs.Words.{words}
use Rattle.description.proofs.Keeping.{within}
use Rattle.spelling.specs.Names.{Known, Book, book_of}
use Rattle.spelling.specs.Keywords.{Piece}
use Rattle.spelling.specs.Reading.{Found, none, refusal, rows_from, bytes_of, literals_before, tokens_of, placed, pieces, reading, read, read_after}
use Rattle.spelling.specs.Printing.{first_token, printable}
use Rattle.spelling.specs.RoundTrip.{TakenOn, TakenBy}
use Rattle.spelling.proofs.Laying.{Clean, AllFine, clean}
use Rattle.spelling.proofs.Accepted.{Kept, sound_table, sound_rows, sound_tokens}
use Rattle.spelling.proofs.Describing.{items-length, conditions_length, book_kept}
use Rattle.spelling.proofs.RoundTrip.{all_fine, no_fault, was_read}
use Rattle.std.specs.Prelude.{Ok}

-- where no token fails a test, none fails a weaker one
passes : (test weak : ℕ → Bool) → ((t : ℕ) → test t ≡ true → weak t ≡ true) → (number at : ℕ) (pre ts : List ℕ)
    → first_token test number at ts ≡ none → first_failing (λ i. weak (get_or (pre ++ ts) i 0)) Token (length pre) (length ts) ≡ Ok tt
unfolding first_token first_failing
passes test weak w number at pre [] e = refl
passes test weak w number at pre (t ∷ ts) e = by (test t) refl e (passes test weak w number (suc at) (pre ++ t ∷ []) ts)
  where
    here : weak (get_or (pre ++ t ∷ ts) (length pre) 0) ≡ weak t
    here = ap weak (get_or-append_seam pre t ts 0)

    long : length (pre ++ t ∷ []) ≡ suc (length pre)
    long = omega (arith, length-append pre (t ∷ []))

    by : (b : Bool) → test t ≡ b → cond b (first_token test number (suc at) ts) (refusal number at) ≡ none
        → (first_token test number (suc at) ts ≡ none
        → first_failing (λ i. weak (get_or ((pre ++ t ∷ []) ++ ts) i 0)) Token (length (pre ++ t ∷ [])) (length ts) ≡ Ok tt)
        → first_failing (λ i. weak (get_or (pre ++ t ∷ ts) i 0)) Token (length pre) (suc (length ts)) ≡ Ok tt
    by true h e rec = rw (here, w t h) (rw (append_assoc pre (t ∷ []) ts, long) at (rec e))
    by false h e rec = let z : ◌≡◌ {A = ℕ} 0 1 = cc in absurd (omega arith)

module _ (b : Book) (K : Kept b) (text tokens rows bytes items names : List ℕ) (e : reading b text ≡ read tokens rows bytes)
    (n : row_count items ≡ length b.known.items) (m : name_count names ≡ length b.known.conditions) where
  taken_on : TakenOn items tokens rows bytes names
  taken_on =
      let known : Known = b.known in
      let r = was_read b text tokens rows bytes e in
      let ps : List Piece = pieces known text in
      let c : Clean (literals_before b) ps = clean (literals_before b) (placed known text) (no_fault known (literals_before b) text r.faultless) in
      let f : AllFine known ps = all_fine known K.few 0 (words text) in
      let all-rows : List ℕ = b.rows ++ rows_from (length b.bytes) ps in
      record {
        table_sound = rw (r.rows_are, sound_table K ps c f);
        rows_sound = rw (r.rows_are, r.bytes_are) (sound_rows K ps c f);
        count_sound = rw (r.tokens_are, r.counted);
        tokens_sound =
            rw (n, m, r.tokens_are, r.rows_are)
            (passes (printable known all-rows) (λ t. token_there false (length known.items) (row_count all-rows) (length known.conditions) t)
            (λ t h. h) 6 0 [] (tokens_of b ps) (sound_tokens K ps c f));
      }

names-length : (k : ℕ) (cs : List Condition) → length (name_rows k cs) ≡ length cs
unfolding name_rows
names-length k [] = refl
names-length k (c ∷ cs) = ap suc (names-length (k + length (literals c.values)) cs)

pub taken_by : TakenBy
taken_by description text tokens rows bytes items names t e q n m =
    let b = book_of description t in
    let as_many = conditions_length description t ∙ sym (ap length (within description t q).valid.named ∙ names-length 0 t.conditions) in
    taken_on b (book_kept description t q) text tokens rows bytes items names (sym (ap (λ (o : Outcome). read_after description o text) q) ∙ e)
    (n ∙ sym (items-length description t)) (m ∙ sym as_many)
