-- What the reader of one simple condition promises: it answers as the parser of Parser.antt does on the tokens from its place on.
use Rattle.std.specs.Prelude.{◌≡◌, Bool, true, false, cond, List, ℕ, ◌+◌, ◌≤◌, length, get_or, drop, eqb, Result, Ok, Err}
use Rattle.simples.specs.declared.Carried.{Carried}
use Rattle.simples.specs.declared.Single.{Single}
use Rattle.grammar.specs.Grammar.{Class, Class-discrete, class, Carry, nothing, carried, simple}
use Rattle.grammar.specs.Parser.{Result as Parsing, parsed, stuck, Parser}

-- the token at a place, or a number that is no token
unfoldable pub tok : List ℕ → ℕ → ℕ
tok tokens at = get_or tokens at 4294967295

-- whether a token is of a class of the grammar
unfoldable pub is_a : Class → ℕ → Bool
is_a k token = elim (Class-discrete (class token) k) as (λ _. Bool) [ yes _ ↦ true | no _ ↦ false ]

-- relation 0 says that nothing is carried
unfoldable pub carry_of : Carried → Carry
carry_of c = cond (eqb c.relation 0) nothing (carried c.subject c.relation)

-- a simple condition that was read is the parser's result
abbrev pub Found : List ℕ → Result Single ℕ → Parsing → Type 0
Found tokens (Ok s) result = result ≡ parsed (simple s.subject s.relation s.object) (carry_of s.carry) (drop s.next tokens)
Found tokens (Err p) result = result ≡ stuck (drop p tokens)

abbrev pub end_of : Result Single ℕ → ℕ
end_of (Ok s) = s.next
end_of (Err p) = p

-- how many tokens a simple condition has taken at least
abbrev pub taken : ℕ → Result Single ℕ → ℕ
taken least (Ok s) = least
taken least (Err p) = 0

-- "drop the carry": where no relation is carried on, no subject is, and both are 0
abbrev pub Settled : Result Single ℕ → Type 0
Settled (Ok s) = s.carry.relation ≡ 0 → s.carry.subject ≡ 0
Settled (Err p) = Unit {0}

pub record Reads (parser : Parser) (least : ℕ) (tokens : List ℕ) (at : ℕ) (r : Result Single ℕ) : Type 0 where
  pub found : Found tokens r (parser (drop at tokens))
  pub from : taken least r + at ≤ end_of r
  pub upto : end_of r ≤ length tokens
