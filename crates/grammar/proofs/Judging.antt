-- Judging a tree: chains and conditions as lists of their parts, and how many simple conditions are judged.
use mathlib.Core.Path.{◌≡◌, refl, ap}
use mathlib.Core.List.{List, [], ◌∷◌}
use lib.ListN.{length, length-append}
use Prim.Native.Nat.{ℕ, ◌+◌, ◌<◌, ◌≤◌}
use native.Mathlib.Omega.{arith}
use Rattle.tables.specs.declared.Verdict.{Verdict}
use Rattle.tables.specs.declared.Verdict.TheVariants.{True, False, Refused}
use Rattle.tables.specs.declared.Refusal.{Refusal}
use Rattle.grammar.specs.Grammar.{Tree, simple, negated, bracketed, both, either}
use Rattle.grammar.specs.Judging.{Outcomes, simple_count, when, judged, Visit, visited, chain_of, condition_of, judged_terms, judged_chains}

pub when-same : (v : Verdict) → v ≡ when v True False Refused
unfolding when
when-same True = refl
when-same False = refl
when-same (Refused refusal) = refl

-- NOT changes the places of the first two answers
pub when_not : {A : Type 0} (v : Verdict) (a b : A) (s : Refusal → A) → when v a b s ≡ when (when v False True Refused) b a s
unfolding when
when_not True a b s = refl
when_not False a b s = refl
when_not (Refused refusal) a b s = refl

-- the document's words: the parts in order, up to the first that settles it
pub chain_judges : (out : Outcomes) (n : ℕ) (t : Tree) (ts : List Tree) → judged out n (chain_of t ts) ≡ judged_terms out n (t ∷ ts)
unfolding judged chain_of judged_terms
chain_judges out n t [] = when-same (judged out n t)
chain_judges out n t (u ∷ us) = ap (λ w. when (judged out n t) w False Refused) (chain_judges out (n + simple_count t) u us)

pub condition_judges : (out : Outcomes) (n : ℕ) (t : Tree) (ts : List Tree) → judged out n (condition_of t ts) ≡ judged_chains out n (t ∷ ts)
unfolding judged condition_of judged_chains
condition_judges out n t [] = when-same (judged out n t)
condition_judges out n t (u ∷ us) = ap (λ w. when (judged out n t) True w Refused) (condition_judges out (n + simple_count t) u us)

pub some_leaf : (t : Tree) → 0 < simple_count t
unfolding simple_count
some_leaf (simple a r b) = omega arith
some_leaf (negated t) = some_leaf t
some_leaf (bracketed t) = some_leaf t
some_leaf (both t u) = omega (arith, some_leaf t)
some_leaf (either t u) = omega (arith, some_leaf t)

-- How many simple conditions are judged, one that stops among them: so many rows a run of the plan goes through.
pub when-length : (v : Verdict) (xs ys : List Visit) → length (when v xs ys (λ _. [])) ≡ when v (length xs) (length ys) (λ _. 0)
unfolding when
when-length True xs ys = refl
when-length False xs ys = refl
when-length (Refused refusal) xs ys = refl

when_le : (v : Verdict) (a b m : ℕ) → a ≤ m → b ≤ m → when v a b (λ _. 0) ≤ m
unfolding when
when_le True a b m p q = p
when_le False a b m p q = q
when_le (Refused refusal) a b m p q = omega arith

-- at most the simple conditions that there are, and at least one
pub visited_le : (out : Outcomes) (n : ℕ) (t : Tree) → length (visited out n t) ≤ simple_count t
unfolding simple_count visited
visited_le out n (simple a r b) = omega arith
visited_le out n (negated t) = visited_le out n t
visited_le out n (bracketed t) = visited_le out n t
visited_le out n (both t u) =
    let h = visited_le out (n + simple_count t) u in
    rw (length-append, when-length)
    (omega (arith, visited_le out n t, when_le (judged out n t) (length (visited out (n + simple_count t) u)) 0 (simple_count u) h (omega arith)))
visited_le out n (either t u) =
    let h = visited_le out (n + simple_count t) u in
    rw (length-append, when-length)
    (omega (arith, visited_le out n t, when_le (judged out n t) 0 (length (visited out (n + simple_count t) u)) (simple_count u) (omega arith) h))

pub some-visit : (out : Outcomes) (n : ℕ) (t : Tree) → 1 ≤ length (visited out n t)
unfolding visited
some-visit out n (simple a r b) = omega arith
some-visit out n (negated t) = some-visit out n t
some-visit out n (bracketed t) = some-visit out n t
some-visit out n (both t u) = rw length-append (omega (arith, some-visit out n t))
some-visit out n (either t u) = rw length-append (omega (arith, some-visit out n t))
