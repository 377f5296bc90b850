-- Words for each kind of row.
use Rattle.std.specs.Prelude.{List, [], ◌∷◌, ℕ, get_or}
use Rattle.description.specs.Grammar.{bytes}

-- "Kinds: 0 group, 1 alphabetic, 2 alphanumeric, 3 unsigned numeric, 4 signed with the sign in the last byte, 5 sign leading separate,
-- 6 sign trailing separate"; "kind 7, a group with no signed item"; "kind 8 is signed packed, kind 9 unsigned"
abbrev pub kinds : List (List ℕ)
kinds =
    bytes "group"
    ∷ bytes "alphabetic"
    ∷ bytes "alphanumeric"
    ∷ bytes "unsigned"
    ∷ bytes "signed in its last byte"
    ∷ bytes "sign leading"
    ∷ bytes "sign trailing"
    ∷ bytes "group without sign"
    ∷ bytes "packed, signed"
    ∷ bytes "packed, unsigned"
    ∷ []

abbrev pub kind_words : ℕ → List ℕ
kind_words kind = get_or kinds kind []
