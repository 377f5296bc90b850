-- What the notes hold, by the literals that stand in the text.
use mathlib.Core.Path.{◌≡◌, refl, sym, ap, ap₂, ◌∙◌}
use mathlib.Core.List.{List, [], ◌∷◌, ◌++◌}
use Prim.Native.Nat.{ℕ, zero, suc, ◌+◌, ◌*◌, ◌-◌, ◌≤◌, ◌<◌}
use native.Mathlib.Omega.{arith}
use lib.ListN.{length, get_or, take, drop, length-append}
use lib.Seq.{get_or-append-add, get_or-take}
use Rattle.description.specs.Grammar.{Literal, literal_row, literal_rows, literal_bytes}
use Rattle.description.specs.Limits.{ruled}
use Rattle.description.specs.Stages.{literal_in}
use Rattle.literal_bytes.specs.Written.{literal_by}
use Rattle.literal_rows.proofs.Words.{literal_bytes_lem, literal_long}
use Rattle.value_notes.specs.Taking.{note_numbers}
use Rattle.name_entries.specs.Named.{Span, literals_in, notes_of, Standing, Noted}
use Rattle.value_notes.specs.declared.Tally.{Tally}
use Rattle.layouts.specs.Layouts.{row_numbers}
use Rattle.outputs.specs.Noted.{row_at, word_at, bytes_at, rows_from, bytes_from, WordAt, Words}
use Rattle.outputs.proofs.Copying.{bytes_one}

module _ (text notes : List ℕ) where
  -- from index i on these are the notes of literals whose bytes are laid from o on
  abbrev From : ℕ → ℕ → List Span → Type 0
  From i o ss = (m : ℕ) → m < length ss * 7 → get_or notes (i * 7 + m) 0 ≡ get_or (notes_of text o ss) m 0

  from_first : (n : ℕ) (ss : List Span) → take (n * 7) notes ≡ notes_of text 0 ss → n ≡ length ss → From 0 0 ss
  from_first n ss e c m l =
      let z : 0 * 7 + m ≡ m = omega arith in
      rw z (sym (get_or-take (n * 7) notes m 0 (omega (arith, c))) ∙ ap (λ (v : List ℕ). get_or v m 0) e)

  abbrev value_of : Span → Literal
  value_of s = literal_in text s.from s.until

  module _ (i o : ℕ) (s : Span) (ss : List Span) (f : From i o (s ∷ ss)) where
    from_next : From (suc i) (o + length (value_of s).bytes) ss
    unfolding notes_of
    from_next m l =
        let z : suc i * 7 + m ≡ i * 7 + (7 + m) = omega arith in
        rw z
        (f (7 + m) (omega arith)
        ∙ get_or-append-add (note_numbers (ruled (literal_row 0 (value_of s))) o s.from s.until) (notes_of text (o + length (value_of s).bytes) ss) m 0)

    kind_is : get_or notes (i * 7) 0 ≡ (value_of s).kind
    unfolding notes_of
    kind_is = let z : i * 7 + 0 ≡ i * 7 = omega arith in rw z at (f 0 (omega arith))

    row_is : row_at notes i ≡ (value_of s).kind ∷ o ∷ length (value_of s).bytes ∷ (value_of s).scale ∷ (literal_row 0 (value_of s)).digits ∷ []
    unfolding notes_of
    row_is = rw (kind_is, f 1 (omega arith), f 2 (omega arith), f 3 (omega arith), f 4 (omega arith))

    offset_is : get_or notes (i * 7 + 1) 0 ≡ o
    unfolding notes_of
    offset_is = f 1 (omega arith)

    from_is : get_or notes (i * 7 + 5) 0 ≡ s.from
    unfolding notes_of
    from_is = f 5 (omega arith)

    until_is : get_or notes (i * 7 + 6) 0 ≡ s.until
    unfolding notes_of
    until_is = f 6 (omega arith)

    abbrev word_of : List ℕ
    word_of = take (s.until - s.from) (drop s.from text)

    word_is : word_at text notes i ≡ word_of
    word_is = rw (from_is, until_is)

    module _ (h : Standing text (s ∷ ss)) where
      here_bytes : bytes_at text notes i ≡ (value_of s).bytes
      here_bytes =
          ap (λ (k : ℕ). (literal_by k (word_at text notes i)).bytes) kind_is ∙ ap (λ (v : List ℕ). (literal_by (value_of s).kind v).bytes) word_is
          ∙ literal_bytes_lem word_of h.2 (value_of s).kind refl

      here_word : o ≡ length (bytes_from text notes 0 i) → WordAt text notes i
      here_word e =
          record {
            starts = rw (from_is, until_is) h.0;
            ends = rw until_is h.1;
            quoted = rw (kind_is, from_is, until_is) (literal_long word_of h.2 (value_of s).kind refl);
            laid = offset_is ∙ e;
          }

      next-laid : o ≡ length (bytes_from text notes 0 i) → o + length (value_of s).bytes ≡ length (bytes_from text notes 0 (suc i))
      next-laid e =
          let z : i + 1 ≡ suc i = omega arith in
          omega (
            arith,
            e,
            ap length (rw z at (bytes_one text notes i)),
            length-append (bytes_from text notes 0 i) (bytes_at text notes i),
            ap length here_bytes,
          )

  rows_are : (i o : ℕ) (ss : List Span) → From i o ss → rows_from notes i (length ss) ≡ row_numbers (literal_rows o (literals_in text ss))
  unfolding rows_from row_numbers literal_rows literals_in
  rows_are i o [] f = refl
  rows_are i o (s ∷ ss) f = ap₂ ◌++◌ (row_is i o s ss f) (rows_are (suc i) (o + length (value_of s).bytes) ss (from_next i o s ss f))

  bytes_are : (i o : ℕ) (ss : List Span) → From i o ss → Standing text ss → bytes_from text notes i (length ss) ≡ literal_bytes (literals_in text ss)
  unfolding bytes_from literal_bytes literals_in
  bytes_are i o [] f h = refl
  bytes_are i o (s ∷ ss) f h =
      ap₂ ◌++◌ (here_bytes i o s ss f h) (bytes_are (suc i) (o + length (value_of s).bytes) ss (from_next i o s ss f) h.3)

  words_are : (i o : ℕ) (ss : List Span) → From i o ss → Standing text ss → o ≡ length (bytes_from text notes 0 i) →
      (j : ℕ) → j < length ss → WordAt text notes (i + j)
  words_are i o [] f h e j l = absurd (omega arith)
  words_are i o (s ∷ ss) f h e zero l = let z : i + 0 ≡ i = omega arith in rw z (here_word i o s ss f h e)
  words_are i o (s ∷ ss) f h e (suc j) l =
      let z : i + suc j ≡ suc i + j = omega arith in
      rw z (words_are (suc i) (o + length (value_of s).bytes) ss (from_next i o s ss f) h.3 (next-laid i o s ss f h e) j (omega arith))

  none_laid : 0 ≡ length (bytes_from text notes 0 0)
  unfolding bytes_from
  none_laid = refl

  module _ (t : Tally) (ss : List Span) (h : Noted text notes t ss) where
    first : From 0 0 ss
    first = from_first t.literals ss h.laid h.counted

    pub rows-noted : rows_from notes 0 t.literals ≡ row_numbers (literal_rows 0 (literals_in text ss))
    rows-noted = rw h.counted (rows_are 0 0 ss first)

    pub bytes-noted : bytes_from text notes 0 t.literals ≡ literal_bytes (literals_in text ss)
    bytes-noted = rw h.counted (bytes_are 0 0 ss first h.standing)

    pub words-noted : 448 ≤ length notes → Words text notes t.literals
    words-noted l =
        record {
          long = omega (arith, h.few);
          each = λ i k. let z : 0 + i ≡ i = omega arith in rw z at (words_are 0 0 ss first h.standing none_laid i (omega (arith, h.counted)));
        }
