-- The printer does not refuse what was read.
use mathlib.Core.Path.{◌≡◌, refl, sym, ap, ap₂, ◌∙◌, subst}
use mathlib.Core.Bool.{Bool, true, false, cond, ◌&&◌, ◌||◌, false≢true}
use mathlib.Core.Logic.{⊎_elim}
use mathlib.Core.List.{List, [], ◌∷◌, ◌++◌, append_assoc}
use Prim.Native.Nat.{ℕ, zero, suc, ◌+◌, ◌*◌, ◌/◌, ◌%◌, ◌≤◌, ◌<◌}
use native.Mathlib.Omega.{arith}
use native.Mathlib.Decide.{dec_le}
use lib.ListN.{length, get_or, take, drop, length-append}
use lib.Seq.{get_or-append-add, get_or-append_seam, drop-append_seam, take-append_seam}
use lib.Dec.{leb, ltb, eqb}
use borrow.Author.Tests.{leb-true, le-leb, lt-ltb, eqb-true, eq-eqb}
use Rattle.content.specs.WrongByte.{valid_content}
use Rattle.content.specs.declared.Row.{Row}
use Rattle.tables.specs.declared.Refusal.{Refusal}
use Rattle.tables.specs.declared.Refusal.TheVariants.{LiteralRow}
use Rattle.tables.specs.Tokens.{is_literal}
use Rattle.tables.proofs.Bytes.{row_facts, numeric-kinds}
use Rattle.tables.specs.Rows.{row_count, is_group, row_at, row_sound, group_sound, character_sound, is_numeric, digits_sound, part, lies_in}
use Rattle.tables.specs.Refusals.{first_failing}
use Rattle.tables.specs.Tables.{length_sound, literal_sound}
use Rattle.tables.proofs.Tests.{both, four, either, and_both}
use Rattle.spelling.specs.Names.{Known, Book}
use Rattle.spelling.specs.Literals.{Literal, row_of_literal, fits}
use Rattle.spelling.specs.Keywords.{Piece, token, literal, fault}
use Rattle.spelling.specs.Reading.{Found, none, tokens_from, rows_from, bytes_of, literals_before, tokens_of}
use Rattle.spelling.specs.Printing.{printable, has_name, first_token, print_fault}
use Rattle.spelling.proofs.Laying.{Clean, Fine, AllFine, AllFit, all_fit, of_literal_kind}
use Rattle.std.specs.Prelude.{Ok}

-- how many literals
abbrev pub literals : List Piece → ℕ
literals [] = 0
literals (token t ∷ ps) = literals ps
literals (literal l ∷ ps) = suc (literals ps)
literals (fault number ∷ ps) = literals ps

few : (n : ℕ) (ps : List Piece) → Clean n ps → n ≤ 64 → n + literals ps ≤ 64
few n [] c h = omega arith
few n (token t ∷ ps) c h = few n ps c h
few n (literal l ∷ ps) c h = omega (arith, few (suc n) ps c.1 (omega (arith, c.0)))
few n (fault number ∷ ps) c h = absurd c

pub rows-length : (offset : ℕ) (ps : List Piece) → length (rows_from offset ps) ≡ literals ps * 5
unfolding rows_from
rows-length offset [] = refl
rows-length offset (token t ∷ ps) = rows-length offset ps
rows-length offset (literal l ∷ ps) = omega (arith, rows-length (offset + length l.bytes) ps)
rows-length offset (fault number ∷ ps) = rows-length offset ps

-- 6
module _ (known : Known) where
  no_table : (rows : List ℕ) (t : ℕ) → is_literal t ≡ false → printable known [] t ≡ true → printable known rows t ≡ true
  no_table rows t l e = rw l (rw l at e)

  pub all_printable : (rows : List ℕ) (n : ℕ) (ps : List Piece) → Clean n ps → AllFine known ps → n + literals ps ≤ row_count rows → (at : ℕ)
      → first_token (printable known rows) 6 at (tokens_from n ps) ≡ none
  unfolding first_token tokens_from
  all_printable rows n [] c f h at = refl
  all_printable rows n (token t ∷ ps) c f h at =
      rw (no_table rows t f.0.2 f.0.3) (all_printable rows n ps c f.1 h (suc at))
  all_printable rows n (literal l ∷ ps) c f h at =
      let k : (65536 + n) / 65536 ≡ 1 = omega (arith, c.0) in
      let i : (65536 + n) % 65536 ≡ n = omega (arith, c.0) in
      let there : ltb n (row_count rows) ≡ true = lt-ltb n (row_count rows) (omega arith) in
      rw (k, i, there) (all_printable rows (suc n) ps c.1 f.1 (omega arith) (suc at))
  all_printable rows n (fault number ∷ ps) c f h at = absurd c

  -- 16
  pub all_named : (n : ℕ) (ps : List Piece) → Clean n ps → AllFine known ps → (at : ℕ) → first_token (has_name known) 16 at (tokens_from n ps) ≡ none
  unfolding first_token tokens_from
  all_named n [] c f at = refl
  all_named n (token t ∷ ps) c f at = rw f.0.4 (all_named n ps c f.1 (suc at))
  all_named n (literal l ∷ ps) c f at =
      let k : (65536 + n) / 65536 ≡ 1 = omega (arith, c.0) in
      rw k (all_named (suc n) ps c.1 f.1 (suc at))
  all_named n (fault number ∷ ps) c f at = absurd c

-- 3
pub table_sound : (offset : ℕ) (ps : List Piece) → Clean 0 ps → length_sound (rows_from offset ps) ≡ true
table_sound offset ps c =
    let e = rows-length offset ps in
    let h = few 0 ps c (omega arith) in
    and_both (eqb (length (rows_from offset ps) % 5) 0) (leb (length (rows_from offset ps)) 320)
    (eq-eqb (length (rows_from offset ps) % 5) 0 (omega arith)) (le-leb (length (rows_from offset ps)) 320 (omega arith))

-- 4
row_again : (n : ℕ) (pre : List ℕ) (r : Row) (rows : List ℕ) → length pre ≡ n * 5
    → row_at (pre ++ (r.kind ∷ r.offset ∷ r.size ∷ r.scale ∷ r.digits ∷ rows)) n ≡ r
row_again n pre r rows e =
    rw (
      ← e,
      get_or-append_seam pre r.kind (r.offset ∷ r.size ∷ r.scale ∷ r.digits ∷ rows) 0,
      get_or-append-add pre (r.kind ∷ r.offset ∷ r.size ∷ r.scale ∷ r.digits ∷ rows) 1 0,
      get_or-append-add pre (r.kind ∷ r.offset ∷ r.size ∷ r.scale ∷ r.digits ∷ rows) 2 0,
      get_or-append-add pre (r.kind ∷ r.offset ∷ r.size ∷ r.scale ∷ r.digits ∷ rows) 3 0,
      get_or-append-add pre (r.kind ∷ r.offset ∷ r.size ∷ r.scale ∷ r.digits ∷ rows) 4 0,
    )

moved : (l : Literal) (offset : ℕ) → offset ≤ 65535 → row_sound (row_of_literal 0 l) ≡ true → row_sound (row_of_literal offset l) ≡ true
moved l offset h e =
    let r : Row = row_of_literal 0 l in
    and_both (leb offset 65535) (group_sound r || character_sound r || is_numeric r && digits_sound r)
    (le-leb offset 65535 h) (both (leb 0 65535) (group_sound r || character_sound r || is_numeric r && digits_sound r) e).1

row_sound_lem : (l : Literal) (preb bytes : List ℕ) → length preb ≤ 65535 → fits l ≡ true → of_literal_kind l ≡ true
    → literal_sound (preb ++ (l.bytes ++ bytes)) (row_of_literal (length preb) l) ≡ true
row_sound_lem l preb bytes h f k =
    let r : Row = row_of_literal (length preb) l in
    let all-bytes : List ℕ = preb ++ (l.bytes ++ bytes) in
    let p = both (row_sound (row_of_literal 0 l)) (valid_content l.kind (row_of_literal 0 l).digits l.bytes) f in
    let lies : length preb + length l.bytes ≤ length all-bytes =
    omega (arith, length-append preb (l.bytes ++ bytes), length-append l.bytes bytes) in
    let content : part r all-bytes ≡ l.bytes =
    rw (drop-append_seam preb (l.bytes ++ bytes), take-append_seam l.bytes bytes) in
    let valid : valid_content l.kind r.digits (part r all-bytes) ≡ true = rw content p.1 in
    and_both _ _ (and_both _ _ (and_both (row_sound r) (of_literal_kind l) (moved l (length preb) h p.0) k) (le-leb _ _ lies)) valid

-- a literal has at most 256 bytes
pub small_size : (l : Literal) → row_sound (row_of_literal 0 l) ≡ true → of_literal_kind l ≡ true → length l.bytes ≤ 256
small_size l e k =
    ⊎_elim
    (λ u. ⊎_elim group characters (either (group_sound r) (character_sound r) u))
    digits
    (either (group_sound r || character_sound r) (is_numeric r && digits_sound r) (both (leb 0 65535) _ e).1)
  where
    r : Row
    r = row_of_literal 0 l

    group : group_sound r ≡ true → length l.bytes ≤ 256
    group w =
        ⊎_elim
        (λ (g : eqb l.kind 0 ≡ true). let bad : false ≡ true = rw (eqb-true l.kind 0 g) at k in absurd (false≢true bad))
        (λ (g : eqb l.kind 7 ≡ true). let bad : false ≡ true = rw (eqb-true l.kind 7 g) at k in absurd (false≢true bad))
        (either (eqb l.kind 0) (eqb l.kind 7) (four (is_group r) (leb 1 r.size) (leb r.size 65535) (eqb r.scale 0) (both _ (eqb r.digits 0) w).0).0)

    characters : character_sound r ≡ true → length l.bytes ≤ 256
    characters w =
        leb-true _ _ (four (eqb r.kind 1 || eqb r.kind 2) (leb 1 r.size) (leb r.size 256) (eqb r.scale 0) (both _ (eqb r.digits 0) w).0).2

    digits : is_numeric r && digits_sound r ≡ true → length l.bytes ≤ 256
    digits w =
        let f = row_facts r e in
        ⊎_elim
        (λ m. by (dec_le l.kind 4) m)
        (λ m. omega (arith, f.packed m.0))
        (numeric-kinds l.kind (both (is_numeric r) (digits_sound r) w).0)
      where
        by : Dec (l.kind ≤ 4) → (3 ≤ l.kind) × (l.kind ≤ 6) → length l.bytes ≤ 256
        by (yes h) m = omega (arith, (row_facts r e).plain m.0 h)
        by (no h) m = omega (arith, (row_facts r e).apart (omega arith) m.1)

next_sound : (test : ℕ → Bool) (refusal : ℕ → Refusal) (n k : ℕ) → test n ≡ true → first_failing test refusal (suc n) k ≡ Ok tt
    → first_failing test refusal n (suc k) ≡ Ok tt
unfolding first_failing
next_sound test refusal n k e rest = rw e rest

pub rows_sound : (n : ℕ) (ps : List Piece) → Clean n ps → AllFit ps → (pre preb : List ℕ)
    → length pre ≡ n * 5 → length preb ≤ n * 256
    → first_failing
    (λ v. literal_sound (preb ++ bytes_of ps) (row_at (pre ++ rows_from (length preb) ps) v))
    LiteralRow
    n
    (literals ps)
    ≡ Ok tt
unfolding first_failing rows_from bytes_of
rows_sound n [] c f pre preb e h = refl
rows_sound n (token t ∷ ps) c f pre preb e h = rows_sound n ps c f pre preb e h
rows_sound n (literal l ∷ ps) c f pre preb e h =
    let r : Row = row_of_literal (length preb) l in
    let row : List ℕ = l.kind ∷ length preb ∷ length l.bytes ∷ l.scale ∷ r.digits ∷ [] in
    let rest : List ℕ = rows_from (length preb + length l.bytes) ps in
    let small : length l.bytes ≤ 256 = small_size l (both (row_sound (row_of_literal 0 l)) (valid_content l.kind (row_of_literal 0 l).digits l.bytes) f.0).0 f.1 in
    let long : length (pre ++ row) ≡ suc n * 5 = omega (arith, length-append pre row) in
    let ih =
    rows_sound (suc n) ps c.1 f.2 (pre ++ row) (preb ++ l.bytes) long (omega (arith, length-append preb l.bytes)) in
    let near : length preb ≤ 65535 = omega (arith, c.0) in
    next_sound
    (λ v. literal_sound (preb ++ (l.bytes ++ bytes_of ps)) (row_at (pre ++ (l.kind ∷ length preb ∷ length l.bytes ∷ l.scale ∷ r.digits ∷ rest)) v))
    LiteralRow n (literals ps)
    (ap (literal_sound (preb ++ (l.bytes ++ bytes_of ps))) (row_again n pre r rest e) ∙ row_sound_lem l preb (bytes_of ps) near f.0 f.1)
    (rw (length-append preb l.bytes, append_assoc pre row rest, append_assoc preb l.bytes (bytes_of ps)) at ih)
rows_sound n (fault number ∷ ps) c f pre preb e h = absurd c

-- pieces after pieces
rows_append : (offset : ℕ) (ps qs : List Piece) → rows_from offset (ps ++ qs) ≡ rows_from offset ps ++ rows_from (offset + length (bytes_of ps)) qs
unfolding rows_from bytes_of
rows_append offset [] qs = let e : offset + 0 ≡ offset = omega arith in rw e
rows_append offset (token t ∷ ps) qs = rows_append offset ps qs
rows_append offset (literal l ∷ ps) qs =
    let r = row_of_literal offset l in
    let e : offset + length l.bytes + length (bytes_of ps) ≡ offset + length (l.bytes ++ bytes_of ps) = omega (arith, length-append l.bytes (bytes_of ps)) in
    ap (λ (v : List ℕ). r.kind ∷ r.offset ∷ r.size ∷ r.scale ∷ r.digits ∷ v)
    (rows_append (offset + length l.bytes) ps qs ∙ ap (λ (o : ℕ). rows_from (offset + length l.bytes) ps ++ rows_from o qs) e)
rows_append offset (fault number ∷ ps) qs = rows_append offset ps qs

bytes-append : (ps qs : List Piece) → bytes_of (ps ++ qs) ≡ bytes_of ps ++ bytes_of qs
unfolding bytes_of
bytes-append [] qs = refl
bytes-append (token t ∷ ps) qs = bytes-append ps qs
bytes-append (literal l ∷ ps) qs = ap (λ (v : List ℕ). l.bytes ++ v) (bytes-append ps qs) ∙ sym (append_assoc l.bytes (bytes_of ps) (bytes_of qs))
bytes-append (fault number ∷ ps) qs = bytes-append ps qs

fit_append : (ps qs : List Piece) → AllFit ps → AllFit qs → AllFit (ps ++ qs)
fit_append [] qs f g = g
fit_append (token t ∷ ps) qs f g = fit_append ps qs f g
fit_append (literal l ∷ ps) qs f g = (f.0, f.1, fit_append ps qs f.2 g)
fit_append (fault number ∷ ps) qs f g = fit_append ps qs f g

clean_append : (n m : ℕ) (ps qs : List Piece) → Clean n ps → m ≡ n + literals ps → Clean m qs → Clean n (ps ++ qs)
clean_append n m [] qs c e d = let q : m ≡ n = omega arith in subst (λ (k : ℕ). Clean k qs) q d
clean_append n m (token t ∷ ps) qs c e d = clean_append n m ps qs c e d
clean_append n m (literal l ∷ ps) qs c e d = (c.0, clean_append (suc n) m ps qs c.1 (omega arith) d)
clean_append n m (fault number ∷ ps) qs c e d = absurd c

literals-append : (ps qs : List Piece) → literals (ps ++ qs) ≡ literals ps + literals qs
literals-append [] qs = omega arith
literals-append (token t ∷ ps) qs = literals-append ps qs
literals-append (literal l ∷ ps) qs = omega (arith, literals-append ps qs)
literals-append (fault number ∷ ps) qs = literals-append ps qs

-- a book that a description gave: its literals are pieces without a fault
pub record Kept (b : Book) : Type 0 where
  pub few : (length b.known.items ≤ 64) × (length b.known.conditions ≤ 64)
  pub own : List Piece
  pub own_clean : Clean 0 own
  pub own_fit : AllFit own
  pub own_rows_lem : b.rows ≡ rows_from 0 own
  pub own_bytes : b.bytes ≡ bytes_of own

pub own_count : {b : Book} (K : Kept b) → literals_before b ≡ literals K.own
own_count {b} K = let long = rows-length 0 K.own in omega (arith, ap length K.own_rows_lem)

pub own_length : {b : Book} (K : Kept b) → length b.rows ≡ literals_before b * 5
own_length {b} K = let long = rows-length 0 K.own in omega (arith, ap length K.own_rows_lem)

-- the literals of the book and of a text
module _ {b : Book} (K : Kept b) (ps : List Piece) (c : Clean (literals_before b) ps) (f : AllFine b.known ps) where
  abbrev rows : List ℕ
  rows = b.rows ++ rows_from (length b.bytes) ps

  abbrev content : List ℕ
  content = b.bytes ++ bytes_of ps

  abbrev whole : List Piece
  whole = K.own ++ ps

  whole_clean : Clean 0 whole
  whole_clean = clean_append 0 (literals_before b) K.own ps K.own_clean (omega (arith, own_count K)) c

  whole_rows : rows ≡ rows_from 0 whole
  whole_rows =
      let e : length (bytes_of K.own) ≡ 0 + length (bytes_of K.own) = omega arith in
      rw (K.own_bytes, K.own_rows_lem) (ap (λ (o : ℕ). rows_from 0 K.own ++ rows_from o ps) e ∙ sym (rows_append 0 K.own ps))

  whole_bytes : content ≡ bytes_of whole
  whole_bytes = rw K.own_bytes (sym (bytes-append K.own ps))

  whole_count : row_count rows ≡ literals whole
  whole_count = let long = rows-length 0 whole in omega (arith, ap length whole_rows)

  -- 3, 4 and 6
  pub sound_table : length_sound rows ≡ true
  sound_table = rw whole_rows (table_sound 0 whole whole_clean)

  pub sound_rows : first_failing (λ v. literal_sound content (row_at rows v)) LiteralRow 0 (row_count rows) ≡ Ok tt
  sound_rows =
      rw (whole_count, whole_rows, whole_bytes)
      (rows_sound 0 whole whole_clean (fit_append K.own ps K.own_fit (all_fit b.known ps f)) [] [] refl (omega arith))

  pub sound_tokens : first_token (printable b.known rows) 6 0 (tokens_of b ps) ≡ none
  sound_tokens =
      all_printable b.known rows (literals_before b) ps c f (omega (arith, own_count K, whole_count, literals-append K.own ps)) 0

  -- the printer refuses nothing that was read
  pub no_refusal : leb 1 (length (tokens_of b ps)) && leb (length (tokens_of b ps)) 256 ≡ true → print_fault b.known rows content (tokens_of b ps) ≡ none
  no_refusal t = rw (sound_table, sound_rows, t, sound_tokens) (all_named b.known (literals_before b) ps c f 0)
