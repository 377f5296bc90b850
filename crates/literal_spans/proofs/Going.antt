-- One byte of a literal after another.
use mathlib.Core.Path.{◌≡◌, refl, sym, ap, ◌∙◌}
use mathlib.Core.List.{List, [], ◌∷◌}
use Prim.Native.Nat.{ℕ, zero, suc, ◌+◌, ◌≤◌, ◌<◌}
use native.Mathlib.Omega.{arith}
use native.Mathlib.Numerals.{add-one}
use lib.Dec.{eqb}
use lib.ListN.{length, get_or, drop, drop_of_length-le}
use lib.Seq.{drop-cons}
use Rattle.description.proofs.Bytes.{eqb_no}
use Rattle.literal_spans.specs.Steps.{step, spelled_far, spelled_state}

-- what is read of the bytes before k, and what is left
abbrev pub Going : List ℕ → ℕ → ℕ → Type 0
Going bs s k = (spelled_far 0 bs ≡ k + spelled_far s (drop k bs)) × (spelled_state 0 bs ≡ spelled_state s (drop k bs))

pub begins : (bs : List ℕ) → Going bs 0 0
begins bs = (omega arith, refl)

pub stops : (bs : List ℕ) (s k t : ℕ) → Going bs s k → k < length bs → t ≡ step s (get_or bs k 0) → t ≡ 8 → (k ≡ spelled_far 0 bs) × (s ≡ spelled_state 0 bs)
unfolding spelled_far spelled_state
stops bs s k t g l e h =
    let i : step s (get_or bs k 0) ≡ 8 = sym e ∙ h in
    let f : spelled_far 0 bs ≡ k + 0 = g.0 ∙ rw (drop-cons bs k 0 l, i) in
    (omega arith, sym (g.1 ∙ rw (drop-cons bs k 0 l, i)))

pub goes : (bs : List ℕ) (s k t : ℕ) → Going bs s k → k < length bs → t ≡ step s (get_or bs k 0) → ¬ (t ≡ 8) → Going bs t (k + 1)
unfolding spelled_far spelled_state
goes bs s k t g l e h =
    let f : spelled_far 0 bs ≡ k + suc (spelled_far t (drop (suc k) bs)) = g.0 ∙ rw (drop-cons bs k 0 l, ← e, eqb_no t 8 h) in
    (rw add-one (omega arith), rw add-one (g.1 ∙ rw (drop-cons bs k 0 l, ← e, eqb_no t 8 h)))

pub ends : (bs : List ℕ) (s k : ℕ) → Going bs s k → length bs ≤ k → (k ≡ spelled_far 0 bs) × (s ≡ spelled_state 0 bs)
unfolding spelled_far spelled_state
ends bs s k g l =
    let f : spelled_far 0 bs ≡ k + 0 = g.0 ∙ rw (drop_of_length-le bs l) in
    (omega arith, sym (g.1 ∙ rw (drop_of_length-le bs l)))
