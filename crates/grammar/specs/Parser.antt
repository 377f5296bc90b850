-- The grammar as a parser by recursive descent. It accepts exactly what the grammar derives, and stops at refusal 7's place
-- (proofs/Reading.antt).
use Rattle.std.specs.Prelude.{List, [], ◌∷◌, ℕ, zero, suc, ◌+◌, ◌*◌, ◌-◌, length}
use Rattle.tables.specs.Tokens.{index_of}
use Rattle.grammar.specs.Grammar.{Class, operand, switch, opening, closing, not, and, or, order, bound, test, name, Class-discrete, class}
use Rattle.grammar.specs.Grammar.{Carry, nothing, carried, Tree, simple, negated, bracketed, both, either}

-- What a parser comes to: a tree, a carry and the tokens left; or the tokens left where it is stuck.
pub data Result : Type 0 where
  parsed : Tree → Carry → List ℕ → Result
  stuck : List ℕ → Result

abbrev pub Parser : Type 0
Parser = List ℕ → Result

abbrev pub done : Tree → Carry → Parser
done t c ts = parsed t c ts

abbrev pub fail : Parser
fail ts = stuck ts

abbrev pub continue : Result → (Tree → Carry → Parser) → Result
continue (parsed t c ts) q = q t c ts
continue (stuck ts) q = stuck ts

-- `p`, and then `q` on what `p` gives and leaves
infixl 20 ◌then◌
abbrev pub ◌then◌ : Parser → (Tree → Carry → Parser) → Parser
◌then◌ p q ts = continue (p ts) q

-- If the next token is of class `k`, take it and go on by `p`; else by `q`.
unfoldable pub on : Class → (ℕ → Parser) → Parser → Parser
on k p q [] = q []
on k p q (x ∷ ts) = elim (Class-discrete (class x) k) [ yes _ ↦ p x ts | no _ ↦ q (x ∷ ts) ]

-- the object of the relation `n` of the subject `a`
abbrev pub object : ℕ → ℕ → Parser
object a n = on operand (λ b. done (simple a n b) (carried a n)) fail

-- an object alone
abbrev pub alone : Carry → ℕ → Parser
alone nothing b = fail
alone (carried a m) b = done (simple a m b) (carried a m)

-- >= or <= and an object
abbrev pub short_bounded : Carry → Parser
short_bounded nothing = fail
short_bounded (carried a m) = on bound (λ w. object a (index_of w)) fail

-- > < or =, to which a NOT before it belongs, and an object; else `p`
abbrev pub short_ordered : Carry → (ℕ → ℕ) → Parser → Parser
short_ordered nothing number p = p
short_ordered (carried a m) number p = on order (λ w. object a (number (index_of w))) p

-- "An operand followed by a relation, or by a class or sign word with or without NOT, is a subject; else it is an object."
abbrev pub after_operand : Carry → ℕ → Parser
after_operand c a =
    on order (λ w. object a (index_of w))
    (on bound (λ w. object a (index_of w))
    (on test (λ w. done (simple a (index_of w) 0) nothing)
    (on not (λ _. on order (λ w. object a (index_of w + 32)) (on test (λ w. done (simple a (index_of w + 32) 0) nothing) fail))
    (alone c a))))

abbrev pub parse_simple : Carry → Parser
parse_simple c =
    on operand (λ a. after_operand c a)
    (on switch (λ s. done (simple s 0 0) nothing)
    (on name (λ s. done (simple s 0 0) nothing)
    (short_bounded c)))

-- Each call takes one unit of fuel; 4 for each token, and 4, are enough.
unfoldable mutual
  pub parse_condition : ℕ → Carry → Parser
  parse_condition zero c = fail
  parse_condition (suc f) c =
      parse_chain f c then λ t d. on or (λ _. parse_condition f d then λ u e. done (either t u) e) (done t d)

  pub parse_chain : ℕ → Carry → Parser
  parse_chain zero c = fail
  parse_chain (suc f) c =
      parse_term f c then λ t d. on and (λ _. parse_chain f d then λ u e. done (both t u) e) (done t d)

  pub parse_term : ℕ → Carry → Parser
  parse_term zero c = fail
  parse_term (suc f) c =
      on not (λ _. short_ordered c (λ n. n + 32) (parse_body f c then λ t d. done (negated t) d))
      (short_ordered c (λ n. n) (parse_body f c))

  pub parse_body : ℕ → Carry → Parser
  parse_body zero c = fail
  parse_body (suc f) c =
      on opening (λ _. parse_condition f nothing then λ t d. on closing (λ _. done (bracketed t) nothing) fail)
      (parse_simple c)

-- a whole sequence: its tree, or the place where no derived sequence goes on
pub data Reading : Type 0 where
  accepted : Tree → Reading
  refused : ℕ → Reading

abbrev pub reading : ℕ → Result → Reading
reading n (parsed t c []) = accepted t
reading n (parsed t c (x ∷ rest)) = refused (n - length (x ∷ rest))
reading n (stuck rest) = refused (n - length rest)

unfoldable pub read : List ℕ → Reading
read ts = reading (length ts) (parse_condition (4 * length ts + 4) nothing ts)
