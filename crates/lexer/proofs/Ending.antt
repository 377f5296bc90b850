-- The beginning and the end of gathering.
use mathlib.Core.Path.{◌≡◌, refl, sym, ap, ◌∙◌, subst}
use mathlib.Core.Bool.{Bool, true, false, cond}
use mathlib.Core.List.{List, [], ◌∷◌, ◌++◌, map, append-nil}
use Prim.Native.Nat.{ℕ, zero, suc, ◌+◌, ◌-◌, ◌*◌, ◌≤◌, ◌<◌}
use native.Mathlib.Omega.{arith}
use lib.Dec.{ltb, leb}
use lib.ListN.{length, take, drop}
use lib.Seq.{length-take-le}
use borrow.Author.Tests.{le-leb, lt-leb, le-ltb, leb-true, leb-false, ltb-false}
use Rattle.description.specs.Grammar.{Word, is_blank}
use Rattle.tables.specs.Rows.{row_count}
use Rattle.spelling.specs.Names.{Known, Book}
use Rattle.spelling.specs.Words.{word_length, words_from}
use Rattle.spelling.specs.Keywords.{Piece as Spelt, token, literal, fault}
use Rattle.spelling.specs.Meanings.{meaning, joins, piece_of}
use Rattle.spelling.specs.Reading.{Placed, pieces_from, placed, pieces, Found, none, refusal, before, fault_at, after, first_fault, or_too_long, fault_of}
use Rattle.spelling.specs.Reading.{tokens_from, rows_from, bytes_of, literals_before, tokens_of}
use Rattle.splitter.specs.Splits.{words_at, NextFrom}
use Rattle.std.specs.Prelude.{Option, Some, None, Result, Ok, Err}
use Rattle.splitter.specs.declared.Span.{Span}
use Rattle.splitter.proofs.Walking.{no_word, found_end}
use Rattle.lexer.specs.declared.Gathered.{Gathered}
use Rattle.lexer.specs.declared.Fault.{Fault}
use Rattle.lexer.specs.Gathers.{left, left_pieces, Rooms, total_of, book_in, Gathers, Bounds, Beyond, Grows, Steps, early_by, Holds, Lexes}
use Rattle.tables.proofs.Front.{later_rest}

-- no word stands before the place where the words were looked for
abbrev AllFrom : ℕ → List Word → Type 0
AllFrom at [] = Unit {0}
AllFrom at (w ∷ ws) = (at ≤ w.place) × AllFrom at ws

sooner : (at : ℕ) (ws : List Word) → AllFrom (suc at) ws → AllFrom at ws
sooner at [] h = tt
sooner at (w ∷ ws) h = (omega (arith, h.0), sooner at ws h.1)

words_from_lem : (skip at : ℕ) (bytes : List ℕ) → AllFrom at (words_from skip at bytes)
unfolding words_from
words_from_lem skip at [] = tt
words_from_lem (suc skip) at (b ∷ bytes) = sooner at (words_from skip (suc at) bytes) (words_from_lem skip (suc at) bytes)
words_from_lem zero at (b ∷ bytes) = by (is_blank b) (words_from_lem 0 (suc at) bytes) (words_from_lem (word_length (b ∷ bytes) - 1) (suc at) bytes)
  where
    by : (t : Bool) → AllFrom (suc at) (words_from 0 (suc at) bytes) → AllFrom (suc at) (words_from (word_length (b ∷ bytes) - 1) (suc at) bytes)
        → AllFrom at (cond t (words_from 0 (suc at) bytes)
        (record { place = at; text = take (word_length (b ∷ bytes)) (b ∷ bytes) } ∷ words_from (word_length (b ∷ bytes) - 1) (suc at) bytes))
    by true f g = sooner at (words_from 0 (suc at) bytes) f
    by false f g = (omega arith, sooner at (words_from (word_length (b ∷ bytes) - 1) (suc at) bytes) g)

-- nor does a fault
abbrev Late : ℕ → Found → Type 0
Late at none = Unit {0}
Late at (refusal number place) = at ≤ place

late_before : (at : ℕ) (f g : Found) → Late at f → Late at g → Late at (before f g)
late_before at none g h i = i
late_before at (refusal number place) g h i = h

late_at : (at n place : ℕ) (p : Spelt) → at ≤ place → Late at (fault_at n place p)
late_at at n place (token t) h = tt
late_at at n place (literal l) h = by (ltb n 64)
  where
    by : (t : Bool) → Late at (cond t none (refusal 15 place))
    by true = tt
    by false = h
late_at at n place (fault number) h = h

late : (known : Known) (at n k : ℕ) (ws : List Word) → AllFrom at ws → Late at (first_fault n (pieces_from known k ws))
unfolding pieces_from first_fault
late known at n k [] h = tt
late known at n (suc k) (w ∷ ws) h = late known at n k ws h.1
late known at n zero (w ∷ ws) h =
    late_before at (fault_at n w.place (piece_of (meaning known w.text) ws))
    (first_fault (after n (piece_of (meaning known w.text) ws)) (pieces_from known (joins (meaning known w.text) ws) ws))
    (late_at at n w.place (piece_of (meaning known w.text) ws) h.0)
    (late known at (after n (piece_of (meaning known w.text) ws)) (joins (meaning known w.text) ws) ws h.1)

too_late : (at : ℕ) (f : Found) → 2048 ≤ at → Late at f → or_too_long f ≡ refusal 15 2048
too_late at none h l = refl
too_late at (refusal number place) h l = rw (le-ltb place 2048 (omega arith))

short_fault : (known : Known) (n : ℕ) (text : List ℕ) → length text ≤ 2048 → fault_of known n text ≡ first_fault n (placed known text)
short_fault known n text h = rw (le-leb (length text) 2048 h)

long_fault : (known : Known) (n : ℕ) (text : List ℕ) → 2048 < length text → fault_of known n text ≡ or_too_long (first_fault n (placed known text))
long_fault known n text h = rw (lt-leb (length text) 2048 h)

-- a book's rows in a table that has more
pub rows_before : (literals : ℕ) (rows : List ℕ) → literals ≤ 64 → 320 ≤ length rows → row_count (take (literals * 5) rows) ≡ literals
rows_before literals rows h l = let e = length-take-le (literals * 5) rows (omega arith) in omega (arith, e)

-- nothing of the text is gathered yet
pub nothing : (known : Known) (text : List ℕ) (literals content : ℕ) (tokens rows bytes : List ℕ) → literals ≤ 64 → content ≤ 4096 → Rooms tokens rows bytes
    → Gathers known text (total_of (book_in known literals content rows bytes) text) (record { tokens = 0; literals = literals; bytes = content; past = 0 }) tokens rows bytes
nothing known text literals content tokens rows bytes h k R =
    let n : row_count (take (literals * 5) rows) ≡ literals = rows_before literals rows h R.rows_room in
    let b : length (take content bytes) ≡ content = length-take-le content bytes (omega (arith, R.bytes_room)) in
    record {
      tokens_are = ap (λ (m : ℕ). tokens_from m (pieces known text)) n;
      rows_are = ap (λ (m : ℕ). take (literals * 5) rows ++ rows_from m (pieces known text)) b;
      bytes_are = refl;
      fault_is = ap (λ (m : ℕ). first_fault m (placed known text)) n;
    }

pub few_yet : (text : List ℕ) (literals content : ℕ) → literals ≤ 64 → content ≤ 4096 → Bounds text (record { tokens = 0; literals = literals; bytes = content; past = 0 })
few_yet text literals content h k = record { within = omega arith; few_tokens = omega arith; few_literals = h; few_bytes = omega arith }

pub none_beyond : (g : Gathered) (tokens rows bytes : List ℕ) → Beyond g tokens rows bytes tokens rows bytes
none_beyond g tokens rows bytes = record { tokens_stay = refl; rows_stay = refl; bytes_stay = refl }

-- the buffers were tokens₀, rows₀ and bytes₀
module _ (b : Book) (text tokens₀ rows₀ bytes₀ : List ℕ) where
  abbrev known : Known
  known = b.known

  abbrev n : ℕ
  n = literals_before b

  module _ {g : Gathered} {tokens rows bytes : List ℕ} (G : Gathers known text (total_of b text) g tokens rows bytes) (B : Bounds text g)
      (Y : Beyond g tokens₀ rows₀ bytes₀ tokens rows bytes) where
    nothing_left : left known text g.past ≡ [] → length text ≤ 2048 → Holds b text g tokens₀ rows₀ bytes₀ tokens rows bytes
    unfolding first_fault tokens_from rows_from bytes_of
    nothing_left e h =
        let p : left_pieces known text g.past ≡ [] = ap (map (λ (x : Placed). x.piece)) e in
        record {
          faultless = short_fault known n text h ∙ G.fault_is ∙ ap (first_fault g.literals) e;
          tokens_are = G.tokens_are ∙ ap (λ (ps : List Spelt). take g.tokens tokens ++ tokens_from g.literals ps) p ∙ append-nil (take g.tokens tokens);
          rows_are = G.rows_are ∙ ap (λ (ps : List Spelt). take (g.literals * 5) rows ++ rows_from g.bytes ps) p ∙ append-nil (take (g.literals * 5) rows);
          bytes_are = G.bytes_are ∙ ap (λ (ps : List Spelt). take g.bytes bytes ++ bytes_of ps) p ∙ append-nil (take g.bytes bytes);
          beyond = Y;
          few_tokens = omega (arith, B.few_tokens, B.within);
          few_literals = B.few_literals;
          few_bytes = omega (arith, B.few_bytes, B.within);
        }

    stopped : {number place : ℕ} → fault_of known n text ≡ refusal number place
        → Lexes b text tokens₀ rows₀ bytes₀ (Err (record { number = number; place = place })) tokens rows bytes
    stopped f = record { gives = record { faulty = f; gathered = g; gathers = G; beyond = Y } }

    too_long : left known text g.past ≡ [] → 2048 < length text → Lexes b text tokens₀ rows₀ bytes₀ (Err (record { number = 15; place = 2048 })) tokens rows bytes
    unfolding first_fault
    too_long e h = stopped (long_fault known n text h ∙ ap or_too_long (G.fault_is ∙ ap (first_fault g.literals) e))

    -- no word starts before byte 2,048 any more
    pub whole_past : 2048 ≤ g.past → length text ≤ 2048 → Lexes b text tokens₀ rows₀ bytes₀ (Ok g) tokens rows bytes
    unfolding pieces_from
    whole_past p h = record { gives = nothing_left (ap (pieces_from known 0) (no_word text g.past (omega arith))) h }

    pub long_past : 2048 ≤ g.past → 2048 < length text → Lexes b text tokens₀ rows₀ bytes₀ (Err (record { number = 15; place = 2048 })) tokens rows bytes
    long_past p h =
        let l = late known g.past g.literals 0 (words_at text g.past) (words_from_lem 0 g.past (drop g.past text)) in
        stopped (long_fault known n text h ∙ ap or_too_long G.fault_is ∙ too_late g.past (first_fault g.literals (left known text g.past)) p l)

  module _ {g : Gathered} {t w c tokens rows bytes : List ℕ} (G : Gathers known text (total_of b text) g t w c) (B : Bounds text g)
      (Y : Beyond g tokens₀ rows₀ bytes₀ t w c) (r : Result (Option Gathered) Fault) (S : Steps known text g t w c r tokens rows bytes) where
    pub on_step : {next : Gathered} → r ≡ Ok (Some next)
        → Gathers known text (total_of b text) next tokens rows bytes × Bounds text next × Grows g next × Beyond next tokens₀ rows₀ bytes₀ tokens rows bytes
    on_step {next} e =
        let s = (subst (λ (s : Result (Option Gathered) Fault). Steps known text g t w c s tokens rows bytes) e S).gives in
        let grow = s.2 in (
          s.0 (total_of b text) G,
          s.1,
          grow,
          record {
            tokens_stay = s.3.tokens_stay ∙ later_rest t tokens₀ g.tokens next.tokens grow.tokens_grow Y.tokens_stay;
            rows_stay = s.3.rows_stay ∙ later_rest w rows₀ (g.literals * 5) (next.literals * 5) (omega (arith, grow.literals_grow)) Y.rows_stay;
            bytes_stay = s.3.bytes_stay ∙ later_rest c bytes₀ g.bytes next.bytes grow.bytes_grow Y.bytes_stay;
          },
        )

    pub whole_end : r ≡ Ok None → length text ≤ 2048 → Lexes b text tokens₀ rows₀ bytes₀ (Ok g) tokens rows bytes
    whole_end e h =
        let s = (subst (λ (s : Result (Option Gathered) Fault). Steps known text g t w c s tokens rows bytes) e S).gives in
        rw (s.0.tokens_stay, s.0.rows_stay, s.0.bytes_stay) record { gives = nothing_left G B Y s.1 h }

    pub long_end : r ≡ Ok None → 2048 < length text → Lexes b text tokens₀ rows₀ bytes₀ (Err (record { number = 15; place = 2048 })) tokens rows bytes
    long_end e h =
        let s = (subst (λ (s : Result (Option Gathered) Fault). Steps known text g t w c s tokens rows bytes) e S).gives in
        rw (s.0.tokens_stay, s.0.rows_stay, s.0.bytes_stay) (too_long G B Y s.1 h)

    pub fault_end : {f e : Fault} → r ≡ Err f → e ≡ early_by f → Lexes b text tokens₀ rows₀ bytes₀ (Err e) tokens rows bytes
    fault_end {f} {e} q p =
        let s = (subst (λ (s : Result (Option Gathered) Fault). Steps known text g t w c s tokens rows bytes) q S).gives in
        rw (s.0.tokens_stay, s.0.rows_stay, s.0.bytes_stay, p)
        (by (leb (length text) 2048) refl (ltb f.place 2048) refl (s.1 (total_of b text) G) s.2)
      where
        by : (u : Bool) → leb (length text) 2048 ≡ u → (v : Bool) → ltb f.place 2048 ≡ v → first_fault n (placed known text) ≡ refusal f.number f.place → f.place < length text
            → Lexes b text tokens₀ rows₀ bytes₀ (Err (cond v f (record { number = 15; place = 2048 }))) t w c
        by true h true l m i = stopped G B Y (short_fault known n text (leb-true (length text) 2048 h) ∙ m)
        by true h false l m i = absurd (omega (arith, leb-true (length text) 2048 h, ltb-false f.place 2048 l))
        by false h true l m i = stopped G B Y (long_fault known n text (leb-false (length text) 2048 h) ∙ ap or_too_long m ∙ rw l)
        by false h false l m i = stopped G B Y (long_fault known n text (leb-false (length text) 2048 h) ∙ ap or_too_long m ∙ rw l)

pub no_step : {known : Known} {text : List ℕ} {g : Gathered} {tokens rows bytes : List ℕ} (r : Option Span) → NextFrom text g.past r
    → r ≡ None → Steps known text g tokens rows bytes (Ok None) tokens rows bytes
unfolding pieces_from
no_step {known} r n e = record { gives = (record { tokens_stay = refl; rows_stay = refl; bytes_stay = refl }, ap (pieces_from known 0) (found_end r n e)) }

-- rooms stay
pub rooms_stay : {t w b tokens rows bytes : List ℕ} → Rooms t w b → length tokens ≡ length t → length rows ≡ length w → length bytes ≡ length b → Rooms tokens rows bytes
rooms_stay R e f h =
    record { tokens_room = omega (arith, R.tokens_room); rows_room = omega (arith, R.rows_room); bytes_room = omega (arith, R.bytes_room) }
