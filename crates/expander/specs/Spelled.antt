-- The expanded form as the expander writes it: part by part, from what is carried.
use Rattle.std.specs.Prelude.{List, [], ◌++◌, ℕ, zero, suc, ◌+◌, length}
use Rattle.grammar.specs.Grammar.{opening, closing, not, and, or, Carry, nothing, simple}
use Rattle.grammar.specs.Parser.{Result, parsed, stuck, Parser, done, on, short_ordered, parse_simple}
use Rattle.grammar.specs.Expanded.{expanded}

-- a word that stays as it is: a token alone, as a switch is
abbrev pub copied : Carry → ℕ → Parser
copied c x = done (simple x 0 0) c

-- The next part: a word that stays, or a simple condition. "each "(" and each ")" drop the carry. AND, OR and a logical NOT keep it."
abbrev pub part : Carry → Parser
part c =
    on opening (copied nothing)
    (on closing (copied nothing)
    (on and (copied c)
    (on or (copied c)
    (on not (λ x. short_ordered c (λ n. n + 32) (copied c x))
    (short_ordered c (λ n. n) (parse_simple c))))))

-- a part in full, and then what is spelled after it; nothing where there is no part
abbrev pub followed : (Carry → List ℕ → List ℕ) → Result → List ℕ
followed more (parsed t c rest) = expanded t ++ more c rest
followed more (stuck rest) = []

-- Each part has a token, so there are at most as many parts as tokens.
unfoldable pub parts_spelled : ℕ → Carry → List ℕ → List ℕ
parts_spelled zero c ts = []
parts_spelled (suc parts) c ts = followed (parts_spelled parts) (part c ts)

unfoldable pub spelled : List ℕ → List ℕ
spelled ts = parts_spelled (length ts) nothing ts
