-- Plans joined by retargeting: each part is compiled for the verdicts, and then the first one's verdicts become targets.
use mathlib.Core.Path.{◌≡◌, refl, sym, ◌∙◌}
use mathlib.Core.List.{◌++◌, map, map-append}
use Prim.Native.Nat.{ℕ, ◌+◌, ◌<◌, ◌≤◌}
use native.Mathlib.Omega.{arith}
use borrow.Author.Tests.{ne_eqb}
use Rattle.grammar.specs.Grammar.{Tree, simple, negated, bracketed, both, either}
use Rattle.grammar.specs.Judging.{simple_count}
use Rattle.grammar.specs.Plan.{on_false, on_true, rows_of}
use Rattle.plans.specs.Rows.{aim, retargeted}
use Rattle.grammar.proofs.Judging.{some_leaf}

pub aim-row : (y f k : ℕ) → k < on_false → aim y f k ≡ k
unfolding aim
aim-row y f k l = rw (ne_eqb k on_true (λ e. omega arith), ne_eqb k on_false (λ e. omega arith))

-- for any exits of the part
pub retarget_rows : (y f n a b : ℕ) (t : Tree) → n + simple_count t ≤ on_false → map (retargeted y f) (rows_of n a b t) ≡ rows_of n (aim y f a) (aim y f b) t
unfolding simple_count rows_of retargeted
retarget_rows y f n a b (simple s r o) l = refl
retarget_rows y f n a b (negated t) l = retarget_rows y f n b a t l
retarget_rows y f n a b (bracketed t) l = retarget_rows y f n a b t l
retarget_rows y f n a b (both t u) l =
    map-append (retargeted y f) (rows_of n (n + simple_count t) b t) (rows_of (n + simple_count t) a b u)
    ∙ rw (retarget_rows y f n (n + simple_count t) b t (omega arith), retarget_rows y f (n + simple_count t) a b u (omega arith), aim-row y f (n + simple_count t) (omega (arith, some_leaf u)))
retarget_rows y f n a b (either t u) l =
    map-append (retargeted y f) (rows_of n a (n + simple_count t) t) (rows_of (n + simple_count t) a b u)
    ∙ rw (retarget_rows y f n a (n + simple_count t) t (omega arith), retarget_rows y f (n + simple_count t) a b u (omega arith), aim-row y f (n + simple_count t) (omega (arith, some_leaf u)))

retarget_verdicts : (y f n : ℕ) (t : Tree) → n + simple_count t ≤ on_false → map (retargeted y f) (rows_of n on_true on_false t) ≡ rows_of n y f t
unfolding aim
retarget_verdicts y f n t l = retarget_rows y f n on_true on_false t l

-- the rows of a tree from those of its parts, each for the verdicts
pub rows_bracketed : (n : ℕ) (t : Tree) → rows_of n on_true on_false (bracketed t) ≡ rows_of n on_true on_false t
unfolding rows_of
rows_bracketed n t = refl

pub rows_negated : (n : ℕ) (t : Tree) → n + simple_count t ≤ on_false →
    rows_of n on_true on_false (negated t) ≡ map (retargeted on_false on_true) (rows_of n on_true on_false t)
unfolding rows_of
rows_negated n t l = sym (retarget_verdicts on_false on_true n t l)

pub rows_both : (n : ℕ) (t u : Tree) → n + simple_count t ≤ on_false →
    rows_of n on_true on_false (both t u) ≡ map (retargeted (n + simple_count t) on_false) (rows_of n on_true on_false t) ++ rows_of (n + simple_count t) on_true on_false u
unfolding rows_of
rows_both n t u l = rw (retarget_verdicts (n + simple_count t) on_false n t l)

pub rows_either : (n : ℕ) (t u : Tree) → n + simple_count t ≤ on_false →
    rows_of n on_true on_false (either t u) ≡ map (retargeted on_true (n + simple_count t)) (rows_of n on_true on_false t) ++ rows_of (n + simple_count t) on_true on_false u
unfolding rows_of
rows_either n t u l = rw (retarget_verdicts on_true (n + simple_count t) n t l)
