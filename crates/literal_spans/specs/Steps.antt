-- What has been read of a literal, as the code has it: a number for the shape of the reader's state (src/steps.rt). That this is that
-- state: proofs/Shapes.antt.
use Rattle.std.specs.Prelude.{Bool, cond, ◌||◌, List, [], ◌∷◌, ℕ, suc, eqb, leb}
use Rattle.description.specs.Grammar.{is_digit, is_sign}

abbrev pub is_quote : ℕ → Bool
is_quote b = eqb b 0x22

abbrev pub point_step : ℕ → ℕ
point_step s = cond (eqb s 2) 3 (cond (leb s 1) 4 8)

abbrev pub first_step : ℕ → ℕ → ℕ
first_step s b = cond (eqb s 0) (cond (is_sign b) 1 (cond (is_quote b) 6 8)) 8

abbrev pub digit_step : ℕ → ℕ
digit_step s = cond (leb s 2) 2 5

unfoldable pub step : ℕ → ℕ → ℕ
step s b =
    cond (eqb s 6) (cond (is_quote b) 7 6)
    (cond (eqb s 7) (cond (is_quote b) 6 8) (cond (is_digit b) (digit_step s) (cond (eqb b 0x2e) (point_step s) (first_step s b))))

-- with how many bytes a literal goes on, and what it then is
unfoldable pub spelled_far : ℕ → List ℕ → ℕ
spelled_far s [] = 0
spelled_far s (b ∷ bs) = cond (eqb (step s b) 8) 0 (suc (spelled_far (step s b) bs))

unfoldable pub spelled_state : ℕ → List ℕ → ℕ
spelled_state s [] = s
spelled_state s (b ∷ bs) = cond (eqb (step s b) 8) s (spelled_state (step s b) bs)

-- a literal that may end here
abbrev pub whole_state : ℕ → Bool
whole_state s = eqb s 2 || eqb s 5 || eqb s 7
