-- Document 01, "Tokens and rows": the numbers of the words that a relation number may have. `content::relations` has the same in the code.
use Rattle.std.specs.Prelude.{ℕ}

-- "5 GREATER, 6 LESS, 7 EQUAL, 8 GREATER OR EQUAL, 9 LESS OR EQUAL"
abbrev pub word_greater : ℕ
word_greater = 5

abbrev pub word_less : ℕ
word_less = 6

abbrev pub word_equal : ℕ
word_equal = 7

abbrev pub word_greater_or_equal : ℕ
word_greater_or_equal = 8

abbrev pub word_less_or_equal : ℕ
word_less_or_equal = 9

-- "10 NUMERIC, 11 ALPHABETIC, 12 ALPHABETIC-LOWER, 13 ALPHABETIC-UPPER"
abbrev pub word_numeric : ℕ
word_numeric = 10

abbrev pub word_alphabetic : ℕ
word_alphabetic = 11

abbrev pub word_lower : ℕ
word_lower = 12

abbrev pub word_upper : ℕ
word_upper = 13

-- "14 POSITIVE, 15 NEGATIVE, 16 ZERO"
abbrev pub word_positive : ℕ
word_positive = 14

abbrev pub word_negative : ℕ
word_negative = 15

abbrev pub word_zero : ℕ
word_zero = 16
