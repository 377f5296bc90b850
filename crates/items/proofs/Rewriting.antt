-- Laws of a record with parts replaced: byte by byte, part by part, and as a whole. Assumes nothing.
use Prim.Native.Nat.{ℕ, zero, suc, ◌+◌, ◌-◌, ◌≤◌, ◌<◌}
use native.Mathlib.Omega.{arith}
use native.Mathlib.Decide.{ℕ_discrete, dec_lt}
use native.Mathlib.Numerals.{add-one}
use mathlib.Core.Path.{◌≡◌, refl, sym, ap, ◌∙◌}
use mathlib.Core.List.{List, [], ◌∷◌, ◌++◌}
use mathlib.Core.Logic.{◌⊎◌, inl, inr, ⊎_elim}
use mathlib.Core.Bool.{Bool, true, false, cond, true≢false}
use lib.ListN.{length, get_or, take, drop, length-append, length-drop, get_or-append, take-append-drop}
use lib.Seq.{length-take-le, get_or-append-add, get_or-take, get_or-drop, take-add, ext_get_or}
use Rattle.content.specs.declared.Row.{Row}
use Rattle.tables.specs.Rows.{row_at, part}
use Rattle.tables.proofs.Bytes.{part_length}
use Rattle.items.specs.Items.{elementary_at, part_at, replaced, rewritten}

-- an offset outside a row's part, and inside it
abbrev pub Outside : Row → ℕ → Type 0
Outside r o = (o < r.offset) ⊎ (r.offset + r.size ≤ o)

module _ (r : Row) (bytes content : List ℕ) (long : length bytes ≡ r.size) (lies : r.offset + r.size ≤ length content) where
  head_length : length (take r.offset content ++ bytes) ≡ r.offset + r.size
  head_length = omega (arith, length-append (take r.offset content) bytes, length-take-le r.offset content (omega arith))

  pub replaced-length : length (replaced r bytes content) ≡ length content
  replaced-length =
      omega (
        arith,
        head_length,
        length-append (take r.offset content ++ bytes) (drop (r.offset + r.size) content),
        length-drop (r.offset + r.size) content,
      )

  pub replaced_inside : (j : ℕ) → j < r.size → get_or (replaced r bytes content) (r.offset + j) 0 ≡ get_or bytes j 0
  replaced_inside j h =
      let e : length (take r.offset content) ≡ r.offset = length-take-le r.offset content (omega arith) in
      get_or-append (take r.offset content ++ bytes) (drop (r.offset + r.size) content) 0 (r.offset + j) (omega (arith, head_length))
      ∙ ap (λ (k : ℕ). get_or (take r.offset content ++ bytes) (k + j) 0) (sym e)
      ∙ get_or-append-add (take r.offset content) bytes j 0

  pub replaced_outside : (o : ℕ) → Outside r o → get_or (replaced r bytes content) o 0 ≡ get_or content o 0
  replaced_outside o (inl h) =
      let e : length (take r.offset content) ≡ r.offset = length-take-le r.offset content (omega arith) in
      get_or-append (take r.offset content ++ bytes) (drop (r.offset + r.size) content) 0 o (omega (arith, head_length))
      ∙ get_or-append (take r.offset content) bytes 0 o (omega arith)
      ∙ get_or-take r.offset content o 0 h
  replaced_outside o (inr h) =
      let k : ℕ = o - (r.offset + r.size) in
      let e : o ≡ r.offset + r.size + k = omega arith in
      ap (λ (i : ℕ). get_or (replaced r bytes content) i 0) (e ∙ ap (λ (i : ℕ). i + k) (sym head_length))
      ∙ get_or-append-add (take r.offset content ++ bytes) (drop (r.offset + r.size) content) k 0
      ∙ get_or-drop (r.offset + r.size) content k 0
      ∙ ap (λ (i : ℕ). get_or content i 0) (sym e)

-- a part replaced by itself
pub replaced_idle : (r : Row) (content : List ℕ) → replaced r (part r content) content ≡ content
replaced_idle r content =
    ap (λ (l : List ℕ). l ++ drop (r.offset + r.size) content) (sym (take-add r.offset r.size content))
    ∙ take-append-drop (r.offset + r.size) content

-- the byte of a part
pub part_byte : (r : Row) (content : List ℕ) (j : ℕ) → j < r.size → get_or (part r content) j 0 ≡ get_or content (r.offset + j) 0
part_byte r content j h = get_or-take r.size (drop r.offset content) j 0 h ∙ get_or-drop r.offset content j 0

-- what the theorems below assume of the first n rows: the elementary ones lie in the record, share no byte, and have new bytes of
-- their own length
abbrev pub Lies : List ℕ → ℕ → ℕ → Type 0
Lies items long n = (v : ℕ) → v < n → elementary_at items v ≡ true → (row_at items v).offset + (row_at items v).size ≤ long

abbrev pub Clear : List ℕ → ℕ → Type 0
Clear items n =
    (u v : ℕ) → u < v → v < n → elementary_at items u ≡ true → elementary_at items v ≡ true
    → ((row_at items u).offset + (row_at items u).size ≤ (row_at items v).offset) ⊎ ((row_at items v).offset + (row_at items v).size ≤ (row_at items u).offset)

abbrev pub Sized : List ℕ → (ℕ → List ℕ) → ℕ → Type 0
Sized items new n = (v : ℕ) → v < n → elementary_at items v ≡ true → length (new v) ≡ (row_at items v).size

-- an offset in no elementary row
abbrev pub Free : List ℕ → ℕ → ℕ → Type 0
Free items n o = (v : ℕ) → v < n → elementary_at items v ≡ true → Outside (row_at items v) o

module _ (items : List ℕ) (new : ℕ → List ℕ) (content : List ℕ) where
  pub step_item : (v : ℕ) → elementary_at items v ≡ true
      → rewritten items new content (suc v) ≡ replaced (row_at items v) (new v) (rewritten items new content v)
  unfolding rewritten
  step_item v e = rw e

  pub step-group : (v : ℕ) → elementary_at items v ≡ false → rewritten items new content (suc v) ≡ rewritten items new content v
  unfolding rewritten
  step-group v e = rw e

  pub rewritten-length : (n : ℕ) → Lies items (length content) n → Sized items new n → length (rewritten items new content n) ≡ length content
  unfolding rewritten
  rewritten-length zero lies sized = refl
  rewritten-length (suc v) lies sized =
      by (elementary_at items v) refl (rewritten-length v (λ u h. lies u (omega arith)) (λ u h. sized u (omega arith)))
    where
      by : (b : Bool) → elementary_at items v ≡ b → length (rewritten items new content v) ≡ length content
          → length (rewritten items new content (suc v)) ≡ length content
      by true e h =
          let inside : (row_at items v).offset + (row_at items v).size ≤ length content = lies v (omega arith) e in
          ap length (step_item v e)
          ∙ replaced-length (row_at items v) (new v) (rewritten items new content v) (sized v (omega arith) e) (omega arith)
          ∙ h
      by false e h = ap length (step-group v e) ∙ h

  pub rewritten_outside : (n : ℕ) → Lies items (length content) n → Sized items new n → (o : ℕ) → Free items n o
      → get_or (rewritten items new content n) o 0 ≡ get_or content o 0
  unfolding rewritten
  rewritten_outside zero lies sized o free = refl
  rewritten_outside (suc v) lies sized o free =
      by (elementary_at items v) refl
      (rewritten_outside v (λ u h. lies u (omega arith)) (λ u h. sized u (omega arith)) o (λ u h. free u (omega arith)))
    where
      by : (b : Bool) → elementary_at items v ≡ b → get_or (rewritten items new content v) o 0 ≡ get_or content o 0
          → get_or (rewritten items new content (suc v)) o 0 ≡ get_or content o 0
      by true e h =
          let inside : (row_at items v).offset + (row_at items v).size ≤ length content = lies v (omega arith) e in
          let long = rewritten-length v (λ u k. lies u (omega arith)) (λ u k. sized u (omega arith)) in
          ap (λ (l : List ℕ). get_or l o 0) (step_item v e)
          ∙ replaced_outside (row_at items v) (new v) (rewritten items new content v) (sized v (omega arith) e) (omega arith) o
          (free v (omega arith) e)
          ∙ h
      by false e h = ap (λ (l : List ℕ). get_or l o 0) (step-group v e) ∙ h

  -- byte j of an item is byte j of its new bytes
  pub rewritten_inside : (n : ℕ) → Lies items (length content) n → Sized items new n → Clear items n
      → (v : ℕ) → v < n → elementary_at items v ≡ true → (j : ℕ) → j < (row_at items v).size
      → get_or (rewritten items new content n) ((row_at items v).offset + j) 0 ≡ get_or (new v) j 0
  rewritten_inside zero lies sized clear v h e j k = absurd (omega arith)
  rewritten_inside (suc m) lies sized clear v h e j k =
      by (dec_lt v m)
      (λ g. rewritten_inside m (λ u w. lies u (omega arith)) (λ u w. sized u (omega arith)) (λ a b p q. clear a b p (omega arith)) v g e j k)
    where
      long : length (rewritten items new content m) ≡ length content
      long = rewritten-length m (λ u g. lies u (omega arith)) (λ u g. sized u (omega arith))

      last : v ≡ m → get_or (rewritten items new content (suc m)) ((row_at items v).offset + j) 0 ≡ get_or (new v) j 0
      last p =
          let inside : (row_at items v).offset + (row_at items v).size ≤ length content = lies v h e in
          ap (λ (i : ℕ). get_or (rewritten items new content (suc i)) ((row_at items v).offset + j) 0) (sym p)
          ∙ ap (λ (l : List ℕ). get_or l ((row_at items v).offset + j) 0) (step_item v e)
          ∙ replaced_inside (row_at items v) (new v) (rewritten items new content v) (sized v h e)
          (omega (arith, long, ap (λ (i : ℕ). length (rewritten items new content i)) p)) j k

      more : v < m → (b : Bool) → elementary_at items m ≡ b
          → get_or (rewritten items new content m) ((row_at items v).offset + j) 0 ≡ get_or (new v) j 0
          → get_or (rewritten items new content (suc m)) ((row_at items v).offset + j) 0 ≡ get_or (new v) j 0
      more g true f i =
          let inside : (row_at items m).offset + (row_at items m).size ≤ length content = lies m (omega arith) f in
          ap (λ (l : List ℕ). get_or l ((row_at items v).offset + j) 0) (step_item m f)
          ∙ replaced_outside (row_at items m) (new m) (rewritten items new content m) (sized m (omega arith) f) (omega (arith, long))
          ((row_at items v).offset + j)
          (⊎_elim (λ a. inl (omega arith)) (λ a. inr (omega arith)) (clear v m g (omega arith) e f))
          ∙ i
      more g false f i = ap (λ (l : List ℕ). get_or l ((row_at items v).offset + j) 0) (step-group m f) ∙ i

      by : Dec (v < m) → (v < m → get_or (rewritten items new content m) ((row_at items v).offset + j) 0 ≡ get_or (new v) j 0)
          → get_or (rewritten items new content (suc m)) ((row_at items v).offset + j) 0 ≡ get_or (new v) j 0
      by (yes g) i = more g (elementary_at items m) refl (i g)
      by (no g) i = last (omega arith)

  -- an item's part is its new bytes
  pub rewritten-part : (n : ℕ) → Lies items (length content) n → Sized items new n → Clear items n
      → (v : ℕ) → v < n → elementary_at items v ≡ true → part_at items v (rewritten items new content n) ≡ new v
  rewritten-part n lies sized clear v h e =
      let inside : (row_at items v).offset + (row_at items v).size ≤ length content = lies v h e in
      let whole = rewritten-length n lies sized in
      let long = part_length (row_at items v) (rewritten items new content n) (omega arith) in
      ext_get_or 0 (part_at items v (rewritten items new content n)) (new v) (long ∙ sym (sized v h e))
      (λ i k.
      part_byte (row_at items v) (rewritten items new content n) i (omega arith)
      ∙ rewritten_inside n lies sized clear v h e i (omega arith))

  -- new bytes that are the old ones change nothing
  pub rewritten_idle : (n : ℕ) → ((v : ℕ) → v < n → elementary_at items v ≡ true → new v ≡ part_at items v content)
      → rewritten items new content n ≡ content
  unfolding rewritten
  rewritten_idle zero idle = refl
  rewritten_idle (suc v) idle = by (elementary_at items v) refl (rewritten_idle v (λ u h. idle u (omega arith)))
    where
      by : (b : Bool) → elementary_at items v ≡ b → rewritten items new content v ≡ content → rewritten items new content (suc v) ≡ content
      by true e h =
          step_item v e
          ∙ ap (λ (l : List ℕ). replaced (row_at items v) (new v) l) h
          ∙ ap (λ (l : List ℕ). replaced (row_at items v) l content) (idle v (omega arith) e)
          ∙ replaced_idle (row_at items v) content
      by false e h = step-group v e ∙ h

-- the same new bytes give the same record
pub rewritten-same : (items : List ℕ) (new other : ℕ → List ℕ) (content : List ℕ) (n : ℕ)
    → ((v : ℕ) → v < n → elementary_at items v ≡ true → new v ≡ other v)
    → rewritten items new content n ≡ rewritten items other content n
unfolding rewritten
rewritten-same items new other content zero like = refl
rewritten-same items new other content (suc v) like =
    by (elementary_at items v) refl (rewritten-same items new other content v (λ u h. like u (omega arith)))
  where
    by : (b : Bool) → elementary_at items v ≡ b → rewritten items new content v ≡ rewritten items other content v
        → rewritten items new content (suc v) ≡ rewritten items other content (suc v)
    by true e h =
        step_item items new content v e
        ∙ ap (λ (l : List ℕ). replaced (row_at items v) (new v) l) h
        ∙ ap (λ (l : List ℕ). replaced (row_at items v) l (rewritten items other content v)) (like v (omega arith) e)
        ∙ sym (step_item items other content v e)
    by false e h = step-group items new content v e ∙ h ∙ sym (step-group items other content v e)

-- one row more
pub rewritten_more : (items : List ℕ) (new : ℕ → List ℕ) (content : List ℕ) (v : ℕ)
    → rewritten items new content (v + 1)
    ≡ cond (elementary_at items v) (replaced (row_at items v) (new v) (rewritten items new content v)) (rewritten items new content v)
unfolding rewritten
rewritten_more items new content v = rw add-one
