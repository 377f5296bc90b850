-- What a store does to the rows in the buffer.
use mathlib.Core.Path.{◌≡◌, refl, sym, ap, ◌∙◌}
use mathlib.Core.List.{List, [], ◌∷◌, ◌++◌, map, append_assoc}
use Prim.Native.Nat.{ℕ, suc, ◌+◌, ◌*◌, ◌-◌, ◌≤◌, ◌<◌}
use native.Mathlib.Omega.{arith}
use native.Mathlib.Nat.{zero-add, suc-add}
use native.Mathlib.Numerals.{add-one, add-two, add-three, add-four}
use lib.ListN.{length, get_or, take, drop, set, length-append, length-drop, length-map, take-append-drop}
use lib.Seq.{get_or-append-add, sets, sets-eq, take_at, drop_at, length-take-le}
use Rattle.grammar.specs.declared.PlanRow.{PlanRow}
use Rattle.grammar.specs.Grammar.{simple}
use Rattle.grammar.specs.Plan.{on_true, on_false, rows_of, flat}
use Rattle.grammar.proofs.Segment.{flat-length}
use Rattle.plans.specs.Rows.{aim, retargeted, turn, Turned, Added}

pub flat_append : (l m : List PlanRow) → flat (l ++ m) ≡ flat l ++ flat m
unfolding flat
flat_append [] m = refl
flat_append (r ∷ l) m =
    ap (λ (w : List ℕ). r.subject ∷ r.relation ∷ r.object ∷ r.holds ∷ r.fails ∷ w) (flat_append l m)

-- the numbers of row number `row`, each stored in its place
pub added : (row : ℕ) (before : List ℕ) (a n b : ℕ) → row < 128 → 640 ≤ length before →
    Added row before a n b (set (set (set (set (set before (row * 5) a) (row * 5 + 1) n) (row * 5 + 2) b) (row * 5 + 3) on_true) (row * 5 + 4) on_false)
unfolding flat rows_of
added row before a n b small wide =
    let i = row * 5 in
    let vs : List ℕ = a ∷ n ∷ b ∷ on_true ∷ on_false ∷ [] in
    let same : set (set (set (set (set before i a) (i + 1) n) (i + 2) b) (i + 3) on_true) (i + 4) on_false ≡ sets before i vs =
    rw (add-one i, add-two i, add-three i, add-four i) in
    let end : i + 5 ≡ (row + 1) * 5 = omega arith in
    same ∙ sets-eq vs before i (omega arith) ∙ ap (λ (m : ℕ). take i before ++ vs ++ drop m before) end

-- the rows up to the new one, and what follows it
pub added-parts : (row : ℕ) (before : List ℕ) (a n b : ℕ) {after : List ℕ} → row * 5 ≤ length before → Added row before a n b after →
    (take ((row + 1) * 5) after ≡ take (row * 5) before ++ flat (rows_of row on_true on_false (simple a n b)))
    × (drop ((row + 1) * 5) after ≡ drop ((row + 1) * 5) before)
unfolding flat rows_of
added-parts row before a n b l e =
    let front = take (row * 5) before in
    let vs : List ℕ = a ∷ n ∷ b ∷ on_true ∷ on_false ∷ [] in
    let rest = drop ((row + 1) * 5) before in
    let long : length (front ++ vs) ≡ (row + 1) * 5 = omega (arith, length-append front vs, length-take-le (row * 5) before l) in
    (rw e (take_at (front ++ vs) rest ((row + 1) * 5) long), rw e (drop_at (front ++ vs) rest ((row + 1) * 5) long))

set-append_add : (xs ys : List ℕ) (n v : ℕ) → set (xs ++ ys) (length xs + n) v ≡ xs ++ set ys n v
set-append_add [] ys n v = rw zero-add
set-append_add (x ∷ xs) ys n v = rw suc-add (ap (λ (w : List ℕ). x ∷ w) (set-append_add xs ys n v))

-- a store to, and a number of, the numbers that follow a front
module _ (front rest : List ℕ) (k j : ℕ) (here : j ≡ length front + k) where
  put_at : (v : ℕ) → set (front ++ rest) j v ≡ front ++ set rest k v
  put_at v = rw here (set-append_add front rest k v)

  got_at : get_or (front ++ rest) j 0 ≡ get_or rest k 0
  got_at = rw here (get_or-append-add front rest k 0)

module _ (y f : ℕ) where
  -- the row after a front is retargeted, and n more are to be
  turned-row : (front numbers : List ℕ) (n i v w : ℕ) → length front ≡ i * 5 → 5 ≤ length numbers →
      v ≡ aim y f (get_or (front ++ numbers) (i * 5 + 3) 0) →
      w ≡ aim y f (get_or (set (front ++ numbers) (i * 5 + 3) v) (i * 5 + 4) 0) →
      let new = set (set (front ++ numbers) (i * 5 + 3) v) (i * 5 + 4) w in
      take ((i + 1) * 5) new ++ turn y f n (drop ((i + 1) * 5) new) ≡ front ++ turn y f (suc n) numbers
  unfolding turn
  turned-row front [] n i v w e h ev ew = absurd (omega arith)
  turned-row front (a ∷ []) n i v w e h ev ew = absurd (omega arith)
  turned-row front (a ∷ r ∷ []) n i v w e h ev ew = absurd (omega arith)
  turned-row front (a ∷ r ∷ b ∷ []) n i v w e h ev ew = absurd (omega arith)
  turned-row front (a ∷ r ∷ b ∷ s ∷ []) n i v w e h ev ew = absurd (omega arith)
  turned-row front (a ∷ r ∷ b ∷ s ∷ t ∷ rest) n i v w e h ev ew =
      let old : List ℕ = a ∷ r ∷ b ∷ s ∷ t ∷ rest in
      let half : List ℕ = a ∷ r ∷ b ∷ v ∷ t ∷ rest in
      let row : List ℕ = a ∷ r ∷ b ∷ v ∷ w ∷ [] in
      let v₁ : v ≡ aim y f s = ev ∙ ap (aim y f) (got_at front old 3 (i * 5 + 3) (omega arith)) in
      let p₁ : set (front ++ old) (i * 5 + 3) v ≡ front ++ half = put_at front old 3 (i * 5 + 3) (omega arith) v in
      let w₁ : w ≡ aim y f t = ew ∙ ap (λ (l : List ℕ). aim y f (get_or l (i * 5 + 4) 0)) p₁ ∙ ap (aim y f) (got_at front half 4 (i * 5 + 4) (omega arith)) in
      let p₂ : set (set (front ++ old) (i * 5 + 3) v) (i * 5 + 4) w ≡ (front ++ row) ++ rest =
      ap (λ (l : List ℕ). set l (i * 5 + 4) w) p₁ ∙ put_at front half 4 (i * 5 + 4) (omega arith) w ∙ sym (append_assoc front row rest) in
      let long : length (front ++ row) ≡ (i + 1) * 5 = omega (arith, length-append front row) in
      rw (p₂, take_at (front ++ row) rest ((i + 1) * 5) long, drop_at (front ++ row) rest ((i + 1) * 5) long)
      (append_assoc front row (turn y f n rest) ∙ rw (v₁, w₁))

  -- one row more is retargeted
  pub turned_more : (before : List ℕ) (end i v w : ℕ) → i < end → end * 5 ≤ length before →
      v ≡ aim y f (get_or before (i * 5 + 3) 0) →
      w ≡ aim y f (get_or (set before (i * 5 + 3) v) (i * 5 + 4) 0) →
      let new = set (set before (i * 5 + 3) v) (i * 5 + 4) w in
      take ((i + 1) * 5) new ++ turn y f (end - (i + 1)) (drop ((i + 1) * 5) new) ≡ take (i * 5) before ++ turn y f (end - i) (drop (i * 5) before)
  turned_more before end i v w lt fits ev ew =
      let split : take (i * 5) before ++ drop (i * 5) before ≡ before = take-append-drop (i * 5) before in
      let more : end - i ≡ suc (end - (i + 1)) = omega arith in
      rw more
      (rw split at (turned-row (take (i * 5) before) (drop (i * 5) before) (end - (i + 1)) i v w
      (length-take-le (i * 5) before (omega arith)) (omega (arith, length-drop (i * 5) before)) (rw split ev) (rw split ew)))

  -- no row is left
  pub turned_end : (buffer : List ℕ) (end i : ℕ) → i ≡ end → take (i * 5) buffer ++ turn y f (end - i) (drop (i * 5) buffer) ≡ buffer
  unfolding turn
  turned_end buffer end i e = let none : end - i ≡ 0 = omega arith in rw none (take-append-drop (i * 5) buffer)

  -- the rows that stand after a front, retargeted
  turn-rows : (rows : List PlanRow) (rest : List ℕ) → turn y f (length rows) (flat rows ++ rest) ≡ flat (map (retargeted y f) rows) ++ rest
  unfolding turn flat retargeted
  turn-rows [] rest = refl
  turn-rows (r ∷ rows) rest =
      ap (λ (w : List ℕ). r.subject ∷ r.relation ∷ r.object ∷ aim y f r.holds ∷ aim y f r.fails ∷ w) (turn-rows rows rest)

  pub turned_rows : (from end : ℕ) (before : List ℕ) {after : List ℕ} (front : List ℕ) (rows : List PlanRow) → Turned y f end after before from →
      take (end * 5) before ≡ front ++ flat rows → length front ≡ from * 5 → end ≡ from + length rows →
      (take (end * 5) after ≡ front ++ flat (map (retargeted y f) rows)) × (drop (end * 5) after ≡ drop (end * 5) before)
  turned_rows from end before {after} front rows turned stands first size =
      let rest = drop (end * 5) before in
      let new = flat (map (retargeted y f) rows) in
      let whole : before ≡ front ++ (flat rows ++ rest) =
      sym (take-append-drop (end * 5) before) ∙ ap (λ (w : List ℕ). w ++ rest) stands ∙ append_assoc front (flat rows) rest in
      let count : end - from ≡ length rows = omega arith in
      let after_is : after ≡ (front ++ new) ++ rest =
      turned
      ∙ ap (λ (w : List ℕ). take (from * 5) w ++ turn y f (end - from) (drop (from * 5) w)) whole
      ∙ rw (take_at front (flat rows ++ rest) (from * 5) first, drop_at front (flat rows ++ rest) (from * 5) first, count)
      (ap (λ (w : List ℕ). front ++ w) (turn-rows rows rest) ∙ sym (append_assoc front new rest)) in
      let long : length (front ++ new) ≡ end * 5 =
      omega (arith, length-append front new, flat-length (map (retargeted y f) rows), length-map rows (retargeted y f)) in
      (rw after_is (take_at (front ++ new) rest (end * 5) long), rw after_is (drop_at (front ++ new) rest (end * 5) long))
