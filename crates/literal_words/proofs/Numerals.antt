-- When a word is a numeric literal, by the tests that code makes.
use mathlib.Core.Path.{◌≡◌, refl, sym, ap, ap₂, ◌∙◌}
use mathlib.Core.Bool.{Bool, true, false, cond, not, ◌&&◌, and-true, false≢true, true≢false}
use mathlib.Core.Logic.{◌⊎◌, inl, inr, ⊎_elim}
use mathlib.Core.List.{List, [], ◌∷◌, ◌++◌}
use Prim.Native.Nat.{ℕ, zero, suc, ◌+◌, ◌-◌, ◌≤◌, ◌<◌}
use native.Mathlib.Omega.{arith}
use lib.ListN.{length, get_or, take, drop, length-take, length-drop, length-append}
use lib.Dec.{eqb, ltb}
use borrow.Author.Tests.{eq-eqb, ne_eqb}
use Rattle.content.specs.Content.{all, is_digit, is_sign, first_byte, last_byte}
use Rattle.content.specs.WrongByte.{valid_content}
use Rattle.content.specs.declared.Row.{Row}
use Rattle.tables.specs.Rows.{row_sound}
use Rattle.tables.proofs.Bytes.{row_facts}
use Rattle.spelling.specs.Literals.{is_point, without_point, after_point, point_place, number_of, row_of_literal, fits, is_number}
use Rattle.literal_words.specs.Found.{number_found, row_by}
use Rattle.literal_bytes.proofs.Parting.{point_out, place-within}
use Rattle.literal_words.proofs.Contents.{content_split, row_by_lem}
use Rattle.std.specs.Prelude.{None, Some}

first_false : (a b c : Bool) → a ≡ false → a && b && c ≡ false
first_false true b c e = absurd (true≢false e)
first_false false b c e = refl

last_false : (a b : Bool) → b ≡ false → a && b ≡ false
last_false true b e = e
last_false false b e = refl

middle : (a b c t : Bool) → a ≡ true → b ≡ t → c ≡ true → a && b && c ≡ t
middle true b true t e f g = and-true b ∙ f
middle true b false t e f g = absurd (false≢true g)
middle false b c t e f g = absurd (false≢true e)

-- a word of no bytes
pub too_short : (word : List ℕ) → length word ≡ 0 → None ≡ number_found word
unfolding is_number without_point after_point all
too_short [] e = refl
too_short (b ∷ word) e = absurd (omega arith)

tested : (word : List ℕ) (t : Bool) → row_sound (row_of_literal 0 (number_of word)) ≡ true
    → valid_content (number_of word).kind (row_of_literal 0 (number_of word)).digits (without_point word) ≡ t → not (is_point (last_byte word)) ≡ true → is_number word ≡ t
unfolding is_number
tested word t e f g =
    middle (row_sound (row_of_literal 0 (number_of word))) (valid_content (number_of word).kind (row_of_literal 0 (number_of word)).digits (without_point word)) (not (is_point (last_byte word))) t e f g

module _ (word : List ℕ) where
  not_found : is_number word ≡ false → None ≡ number_found word
  not_found e = rw e

  -- the word's row is not sound
  unsound : row_sound (row_of_literal 0 (number_of word)) ≡ false → is_number word ≡ false
  unfolding is_number
  unsound e =
      first_false (row_sound (row_of_literal 0 (number_of word))) (valid_content (number_of word).kind (row_of_literal 0 (number_of word)).digits (without_point word)) (not (is_point (last_byte word))) e

  pub point_last : last_byte word ≡ 0x2e → None ≡ number_found word
  unfolding is_number
  point_last e = not_found (last_false (fits (number_of word)) (not (is_point (last_byte word))) (ap not (eq-eqb (last_byte word) 0x2e e)))

  without_long : length word ≤ suc (length (without_point word))
  without_long =
      let p : ℕ = point_place word in
      omega (
        arith,
        ap length (point_out word),
        length-append (take p word) (drop (suc p) word),
        length-take p word,
        length-drop (suc p) word,
        place-within word,
      )

  pub too_long : 20 < length word → None ≡ number_found word
  too_long h = not_found (unsound (by (row_sound (row_of_literal 0 (number_of word))) refl (is_sign (first_byte word)) refl))
    where
      by : (t : Bool) → row_sound (row_of_literal 0 (number_of word)) ≡ t → (s : Bool) → is_sign (first_byte word) ≡ s
          → row_sound (row_of_literal 0 (number_of word)) ≡ false
      by false e s g = e
      by true e true g =
          let k : (number_of word).kind ≡ 5 = rw g in
          absurd (omega (arith, without_long, (row_facts (row_of_literal 0 (number_of word)) e).apart (omega arith) (omega arith)))
      by true e false g =
          let k : (number_of word).kind ≡ 3 = rw g in
          absurd (omega (arith, without_long, (row_facts (row_of_literal 0 (number_of word)) e).plain (omega arith) (omega arith)))

  module _ (row : Row) (q : row ≡ row_by (length word) (point_place word) (is_sign (first_byte word))) where
    pub row_unsound : row_sound row ≡ false → None ≡ number_found word
    row_unsound e = not_found (unsound (ap row_sound (row_by_lem word ∙ sym q) ∙ e))

    -- what the content says
    pub by_content : (t : Bool) → (last_byte word ≡ 0x2e → ⊥) → row_sound row ≡ true
        → ((digits : ℕ) → t ≡ valid_content (cond (is_sign (first_byte word)) 5 3) digits (without_point word)) → cond t (Some row) None ≡ number_found word
    by_content t l s e = ap₂ (λ (b : Bool) (r : Row). cond b (Some r) None) (sym is) (q ∙ sym (row_by_lem word))
      where
        is : is_number word ≡ t
        is = tested word t (ap row_sound (row_by_lem word ∙ sym q) ∙ s) (sym (e (row_of_literal 0 (number_of word)).digits)) (ap not (ne_eqb (last_byte word) 0x2e l))
