-- Document 01, "The condition grammar": the expanded form.
use Rattle.std.specs.Prelude.{cond, List, [], ◌∷◌, ◌++◌, ℕ, ◌-◌, ◌%◌, eqb, ltb}
use Rattle.tables.specs.Words.{OPEN, CLOSE, NOT, AND, OR, word_token}
use Rattle.grammar.specs.Grammar.{Tree, simple, negated, bracketed, both, either}

-- the words of a relation number: NOT stands before its word from 32 on
abbrev pub stated : ℕ → List ℕ
stated n = cond (ltb n 32) (word_token n ∷ []) (NOT ∷ word_token (n - 32) ∷ [])

-- a simple condition in full: a switch or a condition-name has no relation, and a class or sign word no object
unfoldable pub full_form : ℕ → ℕ → ℕ → List ℕ
full_form a n b = cond (eqb n 0) (a ∷ []) (a ∷ stated n ++ cond (ltb (n % 32) 10) (b ∷ []) [])

-- "The expanded form is the same tokens with the omitted ones inserted where they were left out, and no added brackets."
unfoldable pub expanded : Tree → List ℕ
expanded (simple a n b) = full_form a n b
expanded (negated t) = NOT ∷ expanded t
expanded (bracketed t) = OPEN ∷ expanded t ++ CLOSE ∷ []
expanded (both t u) = expanded t ++ AND ∷ expanded u
expanded (either t u) = expanded t ++ OR ∷ expanded u

-- the second list is the first with tokens inserted
pub data Inserted : List ℕ → List ℕ → Type 0 where
  end : Inserted [] []
  kept : {x : ℕ} {ts us : List ℕ} → Inserted ts us → Inserted (x ∷ ts) (x ∷ us)
  added : {x : ℕ} {ts us : List ℕ} → Inserted ts us → Inserted ts (x ∷ us)
