-- Laws of the walk that mends a record in rising order: up to an offset the record is new, from there on it is old, and the
-- changes up to there are listed. Assumes nothing.
use Prim.Native.Nat.{ℕ, zero, suc, ◌+◌, ◌-◌, ◌≤◌, ◌<◌}
use native.Mathlib.Nat.{zero-add}
use native.Mathlib.Omega.{arith}
use mathlib.Core.Path.{◌≡◌, refl, sym, ap, ap₂, ◌∙◌}
use mathlib.Core.List.{List, [], ◌∷◌, ◌++◌, append_assoc, append-nil}
use mathlib.Core.Logic.{◌⊎◌, inl, inr, ⊎_elim}
use mathlib.Core.Bool.{Bool, true}
use lib.ListN.{length, get_or, take, drop, length-append, length-drop, take-append-drop}
use lib.Seq.{length-take-le, get_or-take, get_or-drop, take-add, take_at, drop-drop, drop_at, ext_get_or}
use Rattle.content.specs.declared.Row.{Row}
use Rattle.tables.specs.Rows.{row_at, part}
use Rattle.items.specs.Items.{elementary_at, replaced}
use Rattle.mending.specs.Mend.{changes_from}
use Rattle.items.proofs.Rewriting.{Clear, Free, Outside}
use Rattle.mending.proofs.Changes.{changes-append, changes_none}

-- the record and its list when the walk stands at an offset
abbrev pub half : List ℕ → List ℕ → ℕ → List ℕ
half old new at = take at new ++ drop at old

abbrev pub seen : List ℕ → List ℕ → ℕ → List ℕ
seen old new at = changes_from 0 (take at old) (take at new)

module _ (old new : List ℕ) (long : length new ≡ length old) (at k : ℕ) (within : at + k ≤ length old) where
  -- the list of k bytes more
  pub seen_more : seen old new (at + k) ≡ seen old new at ++ changes_from at (take k (drop at old)) (take k (drop at new))
  seen_more =
      let p : length (take at old) ≡ at = length-take-le at old (omega arith) in
      let q : length (take at new) ≡ at = length-take-le at new (omega arith) in
      ap₂ (changes_from 0) (take-add at k old) (take-add at k new)
      ∙ changes-append 0 (take at old) (take at new) (take k (drop at old)) (take k (drop at new)) (p ∙ sym q)
      ∙ ap (λ (n : ℕ). seen old new at ++ changes_from n (take k (drop at old)) (take k (drop at new))) (zero-add _ ∙ p)

  -- k bytes put in their place
  pub half_more : (r : Row) (bytes : List ℕ) → r.offset ≡ at → r.size ≡ k → bytes ≡ take k (drop at new)
      → replaced r bytes (half old new at) ≡ half old new (at + k)
  half_more r bytes p q e =
      let a : length (take at new) ≡ at = length-take-le at new (omega arith) in
      rw (p, q, e)
      (ap₂ (λ (x y : List ℕ). x ++ take k (drop at new) ++ y) (take_at (take at new) (drop at old) at a)
      (sym (drop-drop k at (half old new at)) ∙ ap (drop k) (drop_at (take at new) (drop at old) at a) ∙ drop-drop k at old)
      ∙ ap (λ (l : List ℕ). l ++ drop (at + k) old) (sym (take-add at k new)))

  -- the k bytes there are still old
  pub still_old : take k (drop at (half old new at)) ≡ take k (drop at old)
  still_old = ap (take k) (drop_at (take at new) (drop at old) at (length-take-le at new (omega arith)))

  -- k bytes that do not change
  module _ (same : (o : ℕ) → at ≤ o → o < at + k → get_or new o 0 ≡ get_or old o 0) where
    block : take k (drop at new) ≡ take k (drop at old)
    block =
        let a : length (take k (drop at new)) ≡ k = length-take-le k (drop at new) (omega (arith, length-drop at new)) in
        let b : length (take k (drop at old)) ≡ k = length-take-le k (drop at old) (omega (arith, length-drop at old)) in
        ext_get_or 0 (take k (drop at new)) (take k (drop at old)) (a ∙ sym b)
        (λ i h.
        let g : i < k = omega arith in
        get_or-take k (drop at new) i 0 g ∙ get_or-drop at new i 0 ∙ same (at + i) (omega arith) (omega arith)
        ∙ sym (get_or-take k (drop at old) i 0 g ∙ get_or-drop at old i 0))

    pub seen_same : seen old new (at + k) ≡ seen old new at
    seen_same =
        seen_more
        ∙ ap (λ (l : List ℕ). seen old new at ++ changes_from at (take k (drop at old)) l) block
        ∙ ap (λ (l : List ℕ). seen old new at ++ l) (changes_none at (take k (drop at old)))
        ∙ append-nil (seen old new at)

    pub half_same : half old new (at + k) ≡ half old new at
    half_same =
        ap (λ (l : List ℕ). l ++ drop (at + k) old) (take-add at k new ∙ ap (λ (l : List ℕ). take at new ++ l) block)
        ∙ append_assoc (take at new) (take k (drop at old)) (drop (at + k) old)
        ∙ ap (λ (l : List ℕ). take at new ++ l)
        (ap (λ (l : List ℕ). take k (drop at old) ++ l) (sym (drop-drop k at old)) ∙ take-append-drop k (drop at old))

-- no elementary row holds bytes on both sides of the offset
abbrev pub Ahead : List ℕ → ℕ → ℕ → Type 0
Ahead items n at =
    (v : ℕ) → v < n → elementary_at items v ≡ true → (at ≤ (row_at items v).offset) ⊎ ((row_at items v).offset + (row_at items v).size ≤ at)

module _ (items : List ℕ) (n at : ℕ) (ahead : Ahead items n at) where
  -- up to the next row's start the bytes are in no elementary row
  pub free_until : (e : ℕ) → ((v : ℕ) → v < n → elementary_at items v ≡ true → at ≤ (row_at items v).offset → e ≤ (row_at items v).offset)
      → (o : ℕ) → at ≤ o → o < e → Free items n o
  free_until e next o l h v there elementary =
      ⊎_elim (λ a. let m = next v there elementary a in inl (omega arith)) (λ a. inr (omega arith)) (ahead v there elementary)

  -- past that row none is cut
  pub ahead_row : Clear items n → (r : ℕ) → r < n → elementary_at items r ≡ true → 1 ≤ (row_at items r).size → at ≤ (row_at items r).offset
      → ((v : ℕ) → v < n → elementary_at items v ≡ true → at ≤ (row_at items v).offset → (row_at items r).offset ≤ (row_at items v).offset)
      → ((v : ℕ) → v < n → elementary_at items v ≡ true → 1 ≤ (row_at items v).size)
      → Ahead items n ((row_at items r).offset + (row_at items r).size)
  ahead_row clear r there elementary some start least sizes v h e =
      ⊎_elim (λ a. let m = least v h e a in by (sizes v h e) (native.Mathlib.Decide.dec_lt r v) (native.Mathlib.Decide.dec_lt v r) m)
      (λ a. inr (omega arith)) (ahead v h e)
    where
      by : 1 ≤ (row_at items v).size → Dec (r < v) → Dec (v < r) → (row_at items r).offset ≤ (row_at items v).offset
          → ((row_at items r).offset + (row_at items r).size ≤ (row_at items v).offset)
          ⊎ ((row_at items v).offset + (row_at items v).size ≤ (row_at items r).offset + (row_at items r).size)
      by s (yes p) d m = ⊎_elim (λ a. inl a) (λ a. inr (omega arith)) (clear r v p h elementary e)
      by s (no p) (yes q) m = ⊎_elim (λ a. inr (omega arith)) (λ a. inl a) (clear v r q there e elementary)
      by s (no p) (no q) m =
          let z : v ≡ r = omega arith in
          inr (omega (arith, ap (λ (u : ℕ). (row_at items u).offset + (row_at items u).size) z))
