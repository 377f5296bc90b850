-- Literals as code finds them in a word.
use Rattle.std.specs.Prelude.{Bool, true, false, cond, ◌&&◌, List, [], ◌∷◌, ℕ, suc, ◌-◌, ltb, leb, length, None, Option, Some}
use Rattle.content.specs.declared.Row.{Row}
use Rattle.spelling.specs.Words.{is_quote}
use Rattle.spelling.specs.Literals.{literal_digits, row_of_literal, number_of, is_number, text_of, is_text}
use Rattle.content.specs.Kinds.{kind_unsigned, kind_sign_leading}

-- the row of the numeric literal that a word writes, if it writes one
abbrev pub number_found : List ℕ → Option Row
number_found word = cond (is_number word) (Some (row_of_literal 0 (number_of word))) None

-- the row of a numeric literal of n bytes whose first point stands at p, which is n where there is none
abbrev pub row_by : ℕ → ℕ → Bool → Row
row_by n p signed =
    record {
      kind = cond signed kind_sign_leading kind_unsigned;
      offset = 0;
      size = cond (ltb p n) (n - 1) n;
      scale = n - suc p;
      digits = literal_digits (cond signed kind_sign_leading kind_unsigned) (cond (ltb p n) (n - 1) n);
    }

-- A nonnumeric literal after its opening quote, byte by byte: whether it closes at its end, and the bytes that it holds. `pending`: the
-- byte before is a quote, which closes or is the first of two.
unfoldable pub closes : Bool → List ℕ → Bool
closes false [] = false
closes true [] = true
closes false (b ∷ bytes) = closes (is_quote b) bytes
closes true (b ∷ bytes) = is_quote b && closes false bytes

unfoldable pub inner : Bool → List ℕ → List ℕ
inner pending [] = []
inner false (b ∷ bytes) = cond (is_quote b) (inner true bytes) (b ∷ inner false bytes)
inner true (b ∷ bytes) = 0x22 ∷ inner false bytes

-- how many bytes are held, whatever their number; within document 01's limits; and of a whole word
abbrev pub held_bytes : List ℕ → Option ℕ
held_bytes bytes = cond (closes false bytes) (Some (length (inner false bytes))) None

abbrev pub within_limits : Option ℕ → Option ℕ
within_limits (Some n) = cond (leb 1 n && leb n 256) (Some n) None
within_limits None = None

abbrev pub text_found : List ℕ → Option ℕ
text_found word = cond (is_text word) (Some (length (text_of word).bytes)) None
