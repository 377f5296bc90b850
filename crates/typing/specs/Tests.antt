-- Document 01, "The plan": what a relation number asks.
use Rattle.std.specs.Prelude.{Bool, true, false, cond, ◌&&◌, ℕ, ◌-◌, eqb, leb}
use Rattle.typing.specs.declared.Test.{Test}
use Rattle.typing.specs.declared.Test.TheVariants.{Alone, Relation, Class, Sign, Unknown}
use Rattle.content.specs.Relations.{word_greater, word_less_or_equal, word_numeric, word_upper, word_positive, word_zero}

abbrev pub within : ℕ → ℕ → ℕ → Bool
within low high x = leb low x && leb x high

-- "The relation is the word number, plus 32 where NOT belongs to it. A switch has 0, 0 after its token", and (02, h) a
-- condition-name's "plan row is the token, 0, 0 and targets": 0 is a token alone. Words 5 to 9 are relations, of which NOT may stand before
-- 5, 6, 7; 10 to 13 are classes and 14 to 16 signs, each with or without NOT.
abbrev pub test_of : ℕ → Test
test_of relation =
    cond (eqb relation 0) Alone
    (cond (within word_greater word_less_or_equal relation) (Relation relation false)
    (cond (within word_numeric word_upper relation) (Class relation false)
    (cond (within word_positive word_zero relation) (Sign relation false)
    (cond (within 37 39 relation) (Relation (relation - 32) true)
    (cond (within 42 45 relation) (Class (relation - 32) true)
    (cond (within 46 48 relation) (Sign (relation - 32) true) Unknown))))))
