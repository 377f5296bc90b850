-- What a relation asks of two words, so that one test of "less" and one of "equal" serve every relation.
use Rattle.std.specs.Prelude.{Bool, true, false, not, cond, ℕ, eqb, ltb}
use Rattle.values.specs.Truth.{turned}
use Rattle.digit_words.specs.declared.Asked.{Asked}
use Rattle.content.specs.Relations.{word_greater, word_less, word_equal, word_greater_or_equal}

-- words "5 GREATER, 6 LESS, 7 EQUAL, 8 GREATER OR EQUAL, 9 LESS OR EQUAL": 8 is 6 turned, and 9 is 5 turned
abbrev pub asked_of : ℕ → Bool → Asked
asked_of word negated =
    cond (eqb word word_greater) (record { equal = false; second = true; turned = negated })
    (cond (eqb word word_less) (record { equal = false; second = false; turned = negated })
    (cond (eqb word word_equal) (record { equal = true; second = false; turned = negated })
    (cond (eqb word word_greater_or_equal) (record { equal = false; second = false; turned = not negated })
    (record { equal = false; second = true; turned = not negated }))))

-- the answer for two words
abbrev pub answered : Asked → ℕ → ℕ → Bool
answered asked a b = turned asked.turned (cond asked.equal (eqb a b) (cond asked.second (ltb b a) (ltb a b)))
