-- "for texts the line and column": which byte of a rule's text a refusal of its tokens means. The table "What each call may say" gives 7 and 8 a
-- token for their place, and 9 a simple condition.
use Rattle.std.specs.Prelude.{Bool, false, cond, not, ◌||◌, List, [], ◌∷◌, ℕ, zero, suc, ◌+◌, eqb}
use Rattle.description.specs.Grammar.{is_blank}
use Rattle.spelling.specs.Names.{Known}
use Rattle.spelling.specs.Reading.{Placed, placed}
use Rattle.tables.specs.Words.{OPEN, NOT, AND, OR}

-- words 3 and 4, AND and OR
abbrev pub is_connective : ℕ → Bool
is_connective token = eqb token AND || eqb token OR

-- words 0 and 2, "(" and NOT
abbrev pub leads_in : ℕ → Bool
leads_in token = eqb token OPEN || eqb token NOT

-- "Simple conditions are numbered from 0 in text order": AND and OR part each from the next; brackets and NOT lead in. Of those before the one that is
-- looked for, `left` are still to be passed: whether it starts with this token, and how many are left after it.
abbrev pub starts_here : ℕ → ℕ → Bool
starts_here zero token = not (leads_in token)
starts_here (suc left) token = false

abbrev pub left_after : ℕ → ℕ → ℕ
left_after zero token = zero
left_after (suc left) token = cond (is_connective token) left (suc left)

-- how many of the tokens stand before it
unfoldable pub condition_token : ℕ → List ℕ → ℕ
condition_token left [] = 0
condition_token left (token ∷ tokens) = cond (starts_here left token) 0 (suc (condition_token (left_after left token) tokens))

-- the place after the last byte of these that is no blank, or `end`; they lie from a place on
unfoldable pub end_from : ℕ → ℕ → List ℕ → ℕ
end_from end at [] = end
end_from end at (b ∷ bytes) = end_from (cond (is_blank b) end (at + 1)) (at + 1) bytes

abbrev pub text_end : List ℕ → ℕ
text_end text = end_from 0 0 text

-- the place of piece k, or `end` where there are fewer
unfoldable pub place_in : ℕ → ℕ → List Placed → ℕ
place_in end k [] = end
place_in end zero (piece ∷ pieces) = piece.place
place_in end (suc k) (piece ∷ pieces) = place_in end k pieces

-- Each piece of a text that is read adds one token (Theorems): "Each literal met adds a row", and words that join make one with the word before. Where a
-- condition ends too soon, 7's place is the count of tokens: the end of the text.
abbrev pub token_place : Known → List ℕ → ℕ → ℕ
token_place known text k = place_in (text_end text) k (placed known text)

unfoldable pub refusal_place : Known → List ℕ → List ℕ → ℕ → ℕ → ℕ
refusal_place known text tokens number place = token_place known text (cond (eqb number 9) (condition_token place tokens) place)
