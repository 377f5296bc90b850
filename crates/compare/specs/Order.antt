-- How two numbers compare, and which orders a relation word accepts.
use Rattle.std.specs.Prelude.{Bool, true, false, not, cond, ℕ, eqb, ltb, ℤ}
use Rattle.std.specs.Int.Signed.{lt_z}
use Rattle.std.specs.Ordering.{is_lt, is_eq, is_gt}
use Rattle.std.specs.declared.cmp.Ordering.{Ordering}
use Rattle.std.specs.declared.cmp.Ordering.TheVariants.{Less, Equal, Greater}
use Rattle.content.specs.Relations.{word_greater, word_less, word_equal, word_greater_or_equal, word_positive, word_negative}

-- of bytes, "as unsigned numbers"
abbrev pub order : ℕ → ℕ → Ordering
order a b = cond (ltb a b) Less (cond (ltb b a) Greater Equal)

-- of values, "as whole numbers"
abbrev pub orderℤ : ℤ → ℤ → Ordering
orderℤ a b = cond (lt_z a b) Less (cond (lt_z b a) Greater Equal)

abbrev pub is_less : Ordering → Bool
is_less o = is_lt o

abbrev pub is_equal : Ordering → Bool
is_equal o = is_eq o

abbrev pub is_greater : Ordering → Bool
is_greater o = is_gt o

-- words "5 GREATER, 6 LESS, 7 EQUAL, 8 GREATER OR EQUAL, 9 LESS OR EQUAL"
abbrev pub relation_holds : ℕ → Ordering → Bool
relation_holds word o =
    cond (eqb word word_greater) (is_greater o)
    (cond (eqb word word_less) (is_less o) (cond (eqb word word_equal) (is_equal o) (cond (eqb word word_greater_or_equal) (not (is_less o)) (not (is_greater o)))))

-- words "14 POSITIVE, 15 NEGATIVE, 16 ZERO"; "Signs compare the value with 0."
abbrev pub sign_holds : ℕ → Ordering → Bool
sign_holds word o = cond (eqb word word_positive) (is_greater o) (cond (eqb word word_negative) (is_less o) (is_equal o))
