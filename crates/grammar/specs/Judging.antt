-- Document 01, "Truth on a record": judging a tree from left to right.
use Rattle.std.specs.Prelude.{ℕ, ◌+◌, List, [], ◌∷◌, ◌++◌}
use Rattle.tables.specs.declared.Outcome.{Outcome}
use Rattle.tables.specs.declared.Outcome.TheVariants.{True as Holds, False as Fails, Stopped}
use Rattle.tables.specs.declared.Stop.{Stop}
use Rattle.tables.specs.declared.Stop.TheVariants.{Digits, Letters as Unlettered}
use Rattle.tables.specs.declared.Verdict.{Verdict}
use Rattle.tables.specs.declared.Verdict.TheVariants.{True, False, Refused}
use Rattle.tables.specs.declared.Refusal.{Refusal}
use Rattle.tables.specs.declared.Refusal.TheVariants.{Data, Letters}
use Rattle.grammar.specs.Grammar.{Tree, simple, negated, bracketed, both, either}

-- what each simple condition comes to, by its subject, relation and object
abbrev pub Outcomes : Type 0
Outcomes = ℕ → ℕ → ℕ → Outcome

-- how many simple conditions a tree has
unfoldable pub simple_count : Tree → ℕ
simple_count (simple a n b) = 1
simple_count (negated t) = simple_count t
simple_count (bracketed t) = simple_count t
simple_count (both t u) = simple_count t + simple_count u
simple_count (either t u) = simple_count t + simple_count u

-- the first answer where the verdict is true, the second where it is false, the third where judging has stopped
unfoldable pub when : {A : Type 0} → Verdict → A → A → (Refusal → A) → A
when True a b s = a
when False a b s = b
when (Refused refusal) a b s = s refusal

-- the refusal of a stop: 13 or 17 at "its simple condition", with its byte
abbrev pub stopped : ℕ → Stop → Refusal
stopped n (Digits byte) = Data n byte
stopped n (Unlettered byte) = Letters n byte

-- "A simple condition gives true, false or its stop"
unfoldable pub at : ℕ → Outcome → Verdict
at n Holds = True
at n Fails = False
at n (Stopped stop) = Refused (stopped n stop)

-- "Simple conditions are numbered from 0 in text order": those of the tree are numbered from n on. "NOT exchanges true and
-- false. A chain judges its terms in order up to the first that is false or stops, and is true if there is none. A condition
-- judges its chains in order up to the first that is true or stops, and is false if there is none. A bracketed condition gives
-- what is inside. A stop ends all judging and is the answer, with its refusal number and place."
unfoldable pub judged : Outcomes → ℕ → Tree → Verdict
judged out n (simple a r b) = at n (out a r b)
judged out n (negated t) = when (judged out n t) False True Refused
judged out n (bracketed t) = judged out n t
judged out n (both t u) = when (judged out n t) (judged out (n + simple_count t) u) False Refused
judged out n (either t u) = when (judged out n t) True (judged out (n + simple_count t) u) Refused

-- A simple condition that is judged: its number, subject, relation and object.
pub record Visit : Type 0 where
  pub number : ℕ
  pub subject : ℕ
  pub relation : ℕ
  pub object : ℕ

abbrev pub visit : ℕ → ℕ → ℕ → ℕ → Visit
visit n a r b = record { number = n; subject = a; relation = r; object = b }

-- Document 02, i): the simple conditions that this judging comes to, in their order, one that stops among them. It is the walk of
-- `judged`, line by line: a second part is walked exactly where `judged` asks for its answer.
unfoldable pub visited : Outcomes → ℕ → Tree → List Visit
visited out n (simple a r b) = visit n a r b ∷ []
visited out n (negated t) = visited out n t
visited out n (bracketed t) = visited out n t
visited out n (both t u) = visited out n t ++ when (judged out n t) (visited out (n + simple_count t) u) [] (λ _. [])
visited out n (either t u) = visited out n t ++ when (judged out n t) [] (visited out (n + simple_count t) u) (λ _. [])

-- what a walk comes to: its verdict, and the simple conditions judged
pub record Walk : Type 0 where
  pub verdict : Verdict
  pub visits : List Visit

abbrev pub walk : Verdict → List Visit → Walk
walk verdict visits = record { verdict = verdict; visits = visits }

-- the walk of a condition's tree
abbrev pub judging : Outcomes → Tree → Walk
judging out t = walk (judged out 0 t) (visited out 0 t)

-- the same of a chain and of a condition as the list of its parts
unfoldable pub chain_of : Tree → List Tree → Tree
chain_of t [] = t
chain_of t (u ∷ us) = both t (chain_of u us)

unfoldable pub condition_of : Tree → List Tree → Tree
condition_of t [] = t
condition_of t (u ∷ us) = either t (condition_of u us)

unfoldable pub judged_terms : Outcomes → ℕ → List Tree → Verdict
judged_terms out n [] = True
judged_terms out n (t ∷ ts) = when (judged out n t) (judged_terms out (n + simple_count t) ts) False Refused

unfoldable pub judged_chains : Outcomes → ℕ → List Tree → Verdict
judged_chains out n [] = False
judged_chains out n (t ∷ ts) = when (judged out n t) True (judged_chains out (n + simple_count t) ts) Refused
