-- A line of words: how long it is, and how it is written word by word.
use mathlib.Core.Path.{◌≡◌, refl, sym, ap, ◌∙◌, subst}
use mathlib.Core.Bool.{Bool, true, false, cond}
use mathlib.Core.List.{List, [], ◌∷◌, ◌++◌, map, append-nil, append_assoc}
use Prim.Native.Nat.{ℕ, zero, suc, ◌+◌, ◌-◌, ◌*◌, ◌/◌, ◌%◌, ◌≤◌, ◌<◌}
use native.Mathlib.Omega.{arith}
use native.Mathlib.Numerals.{add-one}
use native.Mathlib.Decide.{ℕ_discrete}
use borrow.Rule.Slice.PartMut.{put_mid}
use borrow.Author.Rules.{part_to_end}
use borrow.Author.Tests.{leb-true}
use lib.Dec.{leb}
use lib.ListN.{length, get_or, set, take, drop, length-append, length-drop, drop_of_length-le}
use lib.Seq.{drop-cons, get_or-drop}
use Rattle.tables.specs.Rows.{row_at, part}
use Rattle.tables.proofs.Front.{Front, front_none, front_store, front_part, front_length, front_rest}
use Rattle.spelling.specs.Literals.{quoted, doubled, pointed, written}
use Rattle.spelling.specs.Names.{leading}
use Rattle.naming.specs.Named.{known_at}
use Rattle.spelling.specs.Printing.{word_of, spaced, line, printed}
use Rattle.literal_bytes.specs.Written.{written_over}
use Rattle.naming.proofs.Finding.{leading_short}
use Rattle.vocabulary.specs.Spellings.{spelt}
use Rattle.vocabulary.proofs.Cells.{all_below, below}
use Rattle.quoting.proofs.Doubling.{doubled-most, quoted-length}
use Rattle.pointing.proofs.Pointing.{whole, pointed-length}
use Rattle.printer.specs.Prints.{literal_of, Printable, AllPrintable}
use Rattle.printer.proofs.Literally.{small, scaled, in_quotes, with_point}
use Rattle.printer.proofs.Wording.{item_word_lem, condition-word, literal_sound_lem, literal-word, switch_there, switch-word, word_there, word-word}

abbrev short : ℕ → Bool
short k = leb (length (get_or spelt k [])) 16

all_short : all_below 28 short ≡ true
unfolding all_below
all_short = refl

spelt_short : (k : ℕ) → k < 28 → length (get_or spelt k []) ≤ 16
spelt_short k h = leb-true _ _ (below 28 short all_short k h)

-- no word is longer than a description
module _ (description : List ℕ) (items : ℕ) (places rows content : List ℕ) (t : ℕ) (P : Printable description items places rows content t) (h : length description ≤ 4096) where
  abbrev w : List ℕ
  w = word_of (known_at description items places) rows content t

  literal_small : (k : t / 65536 ≡ 1) → length w ≤ 4096
  literal_small k =
      let r = row_at rows (t % 65536) in
      let s = literal_sound_lem description items places rows content t P k in
      let e = literal-word description items places rows content t P k in
      let m = small r content s in
      elim (ℕ_discrete r.kind 2) [
        | yes q ↦ omega (arith, ap length (e ∙ in_quotes r content s q), quoted-length (part r content), doubled-most (part r content), m)
        | no q ↦
            elim (ℕ_discrete r.scale 0) [
              | yes z ↦ omega (arith, ap length (e ∙ with_point r content s q ∙ whole r.scale (part r content) z), m)
              | no z ↦ omega (arith, ap length (e ∙ with_point r content s q), pointed-length r.scale (part r content) z (scaled r content s), m)
            ]
      ]

  pub word_small : length w ≤ 4096
  word_small =
      elim (ℕ_discrete (t / 65536) 0) [
        | yes k ↦
            omega (
              arith,
              ap length (item_word_lem description items places rows content t P k),
              leading_short (drop (get_or places (t % 65536) 0) description),
              length-drop (get_or places (t % 65536) 0) description,
            )
        | no p ↦
            elim (ℕ_discrete (t / 65536) 1) [
              | yes k ↦ literal_small k
              | no q ↦
                  elim (ℕ_discrete (t / 65536) 2) [
                    | yes k ↦
                        omega (
                          arith,
                          ap length (switch-word description items places rows content t P k),
                          spelt_short (17 + t % 65536) (omega (arith, switch_there description items places rows content t P k)),
                        )
                    | no r ↦
                        elim (ℕ_discrete (t / 65536) 5) [
                          | yes k ↦
                              omega (
                                arith,
                                ap length (condition-word description items places rows content t P k),
                                leading_short (drop (get_or places (items + t % 65536) 0) description),
                                length-drop (get_or places (items + t % 65536) 0) description,
                              )
                          | no s ↦
                              omega (
                                arith,
                                ap length (word-word description items places rows content t P p q r s),
                                spelt_short (t % 65536) (omega (arith, word_there description items places rows content t P p q r s)),
                              )
                        ]
                  ]
            ]
      ]

-- words with a space before each
module _ (word : ℕ → List ℕ) (tokens : List ℕ) (i : ℕ) where
  pub spaced_on : i < length tokens → spaced (map word (drop i tokens)) ≡ 0x20 ∷ (word (get_or tokens i 0) ++ spaced (map word (drop (i + 1) tokens)))
  unfolding spaced
  spaced_on h = rw (add-one, drop-cons tokens i 0 h)

  pub spaced_end : length tokens ≤ i → spaced (map word (drop i tokens)) ≡ []
  unfolding spaced
  spaced_end h = rw (drop_of_length-le tokens h)

  pub spaced_size_on : i < length tokens
      → length (spaced (map word (drop i tokens))) ≡ 1 + length (word (get_or tokens i 0)) + length (spaced (map word (drop (i + 1) tokens)))
  spaced_size_on h =
      omega (arith, ap length (spaced_on h), length-append (word (get_or tokens i 0)) (spaced (map word (drop (i + 1) tokens))))

pub line_first : (word : ℕ → List ℕ) (tokens : List ℕ) → 1 ≤ length tokens → line (map word tokens) ≡ word (get_or tokens 0 0) ++ spaced (map word (drop 1 tokens))
unfolding line
line_first word [] h = absurd (omega arith)
line_first word (t ∷ tokens) h = refl

pub line-length : (word : ℕ → List ℕ) (tokens : List ℕ) → 1 ≤ length tokens → suc (length (line (map word tokens))) ≡ length (spaced (map word tokens))
unfolding line spaced
line-length word [] h = absurd (omega arith)
line-length word (t ∷ tokens) h = refl

-- The first i words are written, each after a space; with what is left they are all.
pub record Spaced (word : ℕ → List ℕ) (tokens before : List ℕ) (n i : ℕ) (now : List ℕ) : Type 0 where
  pub done : List ℕ
  pub front : Front done before n now
  pub rest : done ++ spaced (map word (drop i tokens)) ≡ spaced (map word tokens)
  pub within : i ≤ length tokens

pub spaced_none : (word : ℕ → List ℕ) (tokens before : List ℕ) → Spaced word tokens before 0 0 before
spaced_none word tokens before = record { done = []; front = front_none before; rest = refl; within = omega arith }

module _ {word : ℕ → List ℕ} {tokens before now : List ℕ} {n i : ℕ} (L : Spaced word tokens before n i now) (room : length (spaced (map word tokens)) ≤ length before) where
  pub lined_length : length now ≡ length before
  lined_length = front_length L.front

  pub lined_all : length tokens ≤ i → now ≡ written_over (spaced (map word tokens)) before
  lined_all h =
      let e : L.done ≡ spaced (map word tokens) =
      sym (append-nil L.done) ∙ ap (λ (v : List ℕ). L.done ++ v) (sym (spaced_end word tokens i h)) ∙ L.rest in
      let z : n ≡ length (spaced (map word tokens)) = L.front.size ∙ ap length e in
      rw (e, z) at L.front.holds

  module _ (h : i < length tokens) where
    abbrev next : List ℕ
    next = word (get_or tokens i 0)

    pub next-room : n + 1 + length next ≤ length before
    next-room =
        omega (
          arith,
          L.front.size,
          ap length L.rest,
          length-append L.done (spaced (map word (drop i tokens))),
          spaced_size_on word tokens i h,
        )

    spaced_front : Front (L.done ++ 0x20 ∷ []) before (n + 1) (set now n 0x20)
    spaced_front = front_store L.front 0x20 (omega (arith, next-room))

    abbrev two : List ℕ
    two = set now n 0x20

    pub two_length : length two ≡ length before
    two_length = front_length spaced_front

    pub word_room : length next ≤ length (take (length two - (n + 1)) (drop (n + 1) two))
    word_room = rw (front_rest spaced_front) (omega (arith, next-room, length-drop (n + 1) before))

    pub lined_more : {back : List ℕ} {r : ℕ} → back ≡ written_over next (take (length two - (n + 1)) (drop (n + 1) two)) → r ≡ length next
        → Spaced word tokens before (n + 1 + r) (i + 1) (put_mid (n + 1) (length two - (n + 1)) two back)
    lined_more {back} {r} f e =
        record {
          done = (L.done ++ 0x20 ∷ []) ++ next;
          front = rw e (front_part spaced_front next back (length next) refl next-room f);
          rest =
              append_assoc (L.done ++ 0x20 ∷ []) next (spaced (map word (drop (i + 1) tokens)))
              ∙ append_assoc L.done (0x20 ∷ []) (next ++ spaced (map word (drop (i + 1) tokens)))
              ∙ ap (λ (v : List ℕ). L.done ++ v) (sym (spaced_on word tokens i h))
              ∙ L.rest;
          within = omega arith;
        }

-- the first word, and the others after it
module _ {description : List ℕ} {items : ℕ} {places rows content : List ℕ} (tokens : List ℕ) (A : AllPrintable description items places rows content tokens) where
  abbrev others : List ℕ
  others = take (length tokens - 1) (drop 1 tokens)

  pub others_are : others ≡ drop 1 tokens
  others_are = part_to_end tokens 1

  pub others_printable : AllPrintable description items places rows content others
  others_printable =
      rw others_are
      record {
        short = A.short;
        few = omega (arith, A.few, length-drop 1 tokens);
        each =
            λ i h.
            let z : get_or (drop 1 tokens) i 0 ≡ get_or tokens (1 + i) 0 = get_or-drop 1 tokens i 0 in
            subst (Printable description items places rows content) (sym z) (A.each (1 + i) (omega (arith, length-drop 1 tokens)));
      }

module _ (word : ℕ → List ℕ) (tokens out : List ℕ) (some : 1 ≤ length tokens) (room : length (line (map word tokens)) ≤ length out) where
  abbrev head : List ℕ
  head = word (get_or tokens 0 0)

  abbrev tail : List ℕ
  tail = spaced (map word (take (length tokens - 1) (drop 1 tokens)))

  split : line (map word tokens) ≡ head ++ tail
  split = line_first word tokens some ∙ ap (λ (ts : List ℕ). head ++ spaced (map word ts)) (sym (part_to_end tokens 1))

  sizes : length head + length tail ≤ length out
  sizes = omega (arith, ap length split, length-append head tail)

  pub first-room : length head ≤ length out
  first-room = omega (arith, sizes)

  module _ {n : ℕ} {one : List ℕ} (e : n ≡ length head) (f : one ≡ written_over head out) where
    first_front : Front head out n one
    first_front = record { size = e; fits = omega (arith, sizes); holds = rw (← e) at f }

    pub one_start : n ≤ length one
    one_start = omega (arith, front_length first_front, sizes)

    pub rest_room : length tail ≤ length (take (length one - n) (drop n one))
    rest_room = rw (front_rest first_front) (omega (arith, sizes, length-drop n out))

    module _ {back : List ℕ} (g : back ≡ written_over tail (take (length one - n) (drop n one))) where
      line_front : Front (head ++ tail) out (n + length tail) (put_mid n (length one - n) one back)
      line_front = front_part first_front tail back (length tail) refl (omega (arith, sizes)) g

      pub line_kept : length (put_mid n (length one - n) one back) ≡ length out
      line_kept = front_length line_front

      pub line_put : put_mid n (length one - n) one back ≡ written_over (line (map word tokens)) out
      line_put =
          let z : n + length tail ≡ length (line (map word tokens)) = line_front.size ∙ ap length (sym split) in
          rw (← split, z) at line_front.holds
