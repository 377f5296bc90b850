-- Document 01, "Tokens and rows": the words of a condition as tokens, "kind × 65,536 + v" with kind 4 and v the word's number.
use Rattle.std.specs.Prelude.{ℕ, ◌+◌}

-- "0 (, 1 ), 2 NOT, 3 AND, 4 OR"
abbrev pub OPEN : ℕ
OPEN = 262144

abbrev pub CLOSE : ℕ
CLOSE = 262145

abbrev pub NOT : ℕ
NOT = 262146

abbrev pub AND : ℕ
AND = 262147

abbrev pub OR : ℕ
OR = 262148

-- "5 GREATER, 6 LESS, 7 EQUAL, 8 GREATER OR EQUAL, 9 LESS OR EQUAL"
abbrev pub GREATER : ℕ
GREATER = 262149

abbrev pub LESS : ℕ
LESS = 262150

abbrev pub EQUAL : ℕ
EQUAL = 262151

abbrev pub GREATER-OR-EQUAL : ℕ
GREATER-OR-EQUAL = 262152

abbrev pub LESS-OR-EQUAL : ℕ
LESS-OR-EQUAL = 262153

-- "10 NUMERIC, 11 ALPHABETIC, 12 ALPHABETIC-LOWER, 13 ALPHABETIC-UPPER"
abbrev pub NUMERIC : ℕ
NUMERIC = 262154

abbrev pub ALPHABETIC : ℕ
ALPHABETIC = 262155

abbrev pub ALPHABETIC-LOWER : ℕ
ALPHABETIC-LOWER = 262156

abbrev pub ALPHABETIC-UPPER : ℕ
ALPHABETIC-UPPER = 262157

-- "14 POSITIVE, 15 NEGATIVE, 16 ZERO"
abbrev pub POSITIVE : ℕ
POSITIVE = 262158

abbrev pub NEGATIVE : ℕ
NEGATIVE = 262159

abbrev pub ZERO : ℕ
ZERO = 262160

-- the token of a literal, of a switch that is on, of a word by its number, and (02, h) of a condition-name
abbrev pub literal_token : ℕ → ℕ
literal_token v = 65536 + v

abbrev pub switch_token : ℕ → ℕ
switch_token v = 131072 + v

abbrev pub word_token : ℕ → ℕ
word_token v = 262144 + v

abbrev pub name_token : ℕ → ℕ
name_token v = 327680 + v
