-- An output that is filled, and one that is summed, number by number.
use Rattle.std.proofs.Common.{◌≡◌, ℕ, suc, ◌+◌, ◌-◌, ◌%◌, ◌<◌, ◌≤◌, List, ◌++◌, length, get_or, take, drop, set, sym, refl, ap, ◌∙◌, append-nil, add-one, arith, take_all, drop-cons, take-suc-set}
use native.Mathlib.Numerals.{unary_clauses}
use lib.Seq.{drop-length, append_snoc}
use Rattle.vectors.specs.Sums.{counted_from, filled, summed, sum_from, checksum_of}

-- up to i it is filled, and the next number is `next`
abbrev pub Filling : List ℕ → ℕ → ℕ → ℕ → Type 0
Filling output size next i = take i output ++ counted_from next (size - i) ≡ filled size

pub fill_first : (output : List ℕ) → Filling output (length output) 3000000000 0
fill_first output = simp unary_clauses refl

pub fill_next : (output : List ℕ) (size next i after : ℕ) → length output ≡ size → i < size → after ≡ (next + 1) % 4294967296 → Filling output size next i
    → Filling (set output i next) size after (i + 1)
unfolding counted_from
fill_next output size next i after e h a f =
    let left : size - i ≡ suc (size - (i + 1)) = omega arith in
    rw (add-one i, a) (ap (λ (l : List ℕ). l ++ counted_from ((next + 1) % 4294967296) (size - suc i)) (take-suc-set output i next (omega arith))
    ∙ append_snoc (take i output) next (counted_from ((next + 1) % 4294967296) (size - suc i))
    ∙ ap (λ (k : ℕ). take i output ++ counted_from next k) (sym (left ∙ ap (λ (k : ℕ). suc (size - k)) (add-one i))) ∙ f)

pub fill_last : (output : List ℕ) (size next i : ℕ) → length output ≡ size → size ≤ i → Filling output size next i → output ≡ filled size
unfolding counted_from
fill_last output size next i e h f =
    let none : size - i ≡ 0 = omega arith in
    sym (ap (λ (k : ℕ). take i output ++ counted_from next k) none ∙ append-nil (take i output) ∙ take_all i output (omega arith)) ∙ f

pub sum-next : (output : List ℕ) (sum i after : ℕ) → i < length output → after ≡ summed sum (get_or output i 0)
    → sum_from sum (drop i output) ≡ checksum_of output → sum_from after (drop (i + 1) output) ≡ checksum_of output
unfolding sum_from
sum-next output sum i after h a f = rw (add-one i, a) (sym (ap (sum_from sum) (drop-cons output i 0 h)) ∙ f)

pub sum_last : (output : List ℕ) (sum i : ℕ) → length output ≤ i → i ≤ length output → sum_from sum (drop i output) ≡ checksum_of output → sum ≡ checksum_of output
unfolding sum_from
sum_last output sum i h l f =
    let e : i ≡ length output = omega arith in
    sym (ap (λ (k : ℕ). sum_from sum (drop k output)) e ∙ ap (sum_from sum) (drop-length output)) ∙ f
