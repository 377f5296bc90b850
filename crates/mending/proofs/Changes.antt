-- Laws of the list of changes. Assumes nothing.
use Prim.Native.Nat.{ℕ, zero, suc, ◌+◌, ◌≤◌, ◌<◌}
use native.Mathlib.Omega.{arith}
use native.Mathlib.Nat.{add-zero}
use native.Mathlib.Numerals.{add-one}
use mathlib.Core.Path.{◌≡◌, refl, sym, ap, ap₂, ◌∙◌}
use mathlib.Core.List.{List, [], ◌∷◌, ◌++◌, append-nil}
use mathlib.Core.Bool.{Bool, true, false, cond}
use lib.ListN.{length, get_or, take, drop, set, length-append, length-drop, take-append-drop}
use lib.Seq.{set_at, append_snoc, length-take-le, take-suc, take_all, take-append_seam, drop-append-add, drop-drop, sets, sets-eq}
use lib.Dec.{eqb}
use borrow.Author.Tests.{eqb-true, eq-eqb, ne_eqb}
use Rattle.mending.specs.Mend.{changes_from, restored, Rising}

rising_less : (a b : ℕ) (list : List ℕ) → a ≤ b → Rising b list → Rising a list
rising_less a b [] h r = tt
rising_less a b (at ∷ []) h r = r
rising_less a b (at ∷ old ∷ []) h r = r
rising_less a b (at ∷ old ∷ new ∷ rest) h r = (omega arith, r.1)

pub rising : (at : ℕ) (olds news : List ℕ) → Rising at (changes_from at olds news)
unfolding changes_from
rising at [] news = tt
rising at (x ∷ xs) [] = tt
rising at (x ∷ xs) (y ∷ ys) = by (eqb x y) (rising (suc at) xs ys)
  where
    by : (b : Bool) → Rising (suc at) (changes_from (suc at) xs ys)
        → Rising at (cond b (changes_from (suc at) xs ys) (at ∷ x ∷ y ∷ changes_from (suc at) xs ys))
    by true r = rising_less at (suc at) (changes_from (suc at) xs ys) (omega arith) r
    by false r = (omega arith, r)

-- no change
pub changes_none : (at : ℕ) (bytes : List ℕ) → changes_from at bytes bytes ≡ []
unfolding changes_from
changes_none at [] = refl
changes_none at (x ∷ xs) = rw (eq-eqb x x refl) (changes_none (suc at) xs)

back : (front olds news : List ℕ) → length olds ≡ length news → restored (changes_from (length front) olds news) (front ++ news) ≡ front ++ olds
unfolding changes_from
back front [] [] e = refl
back front [] (y ∷ ys) e = absurd (omega arith)
back front (x ∷ xs) [] e = absurd (omega arith)
back front (x ∷ xs) (y ∷ ys) e =
    by (eqb x y) refl
    (λ z.
    let p : length (front ++ z ∷ []) ≡ suc (length front) = omega (arith, length-append front (z ∷ [])) in
    ap (λ (n : ℕ). restored (changes_from n xs ys) (front ++ z ∷ ys)) (sym p)
    ∙ ap (λ (l : List ℕ). restored (changes_from (length (front ++ z ∷ [])) xs ys) l) (sym (append_snoc front z ys))
    ∙ back (front ++ z ∷ []) xs ys (omega arith)
    ∙ append_snoc front z xs)
  where
    by : (b : Bool) → eqb x y ≡ b → ((z : ℕ) → restored (changes_from (suc (length front)) xs ys) (front ++ z ∷ ys) ≡ front ++ z ∷ xs)
        → restored (changes_from (length front) (x ∷ xs) (y ∷ ys)) (front ++ y ∷ ys) ≡ front ++ x ∷ xs
    by true q h = let p : x ≡ y = eqb-true x y q in rw (q, p) (h y)
    by false q h = rw (q, set_at front y ys x (length front) refl) (h x)

-- "Putting the old bytes back restores the record"
pub put_back : (olds news : List ℕ) → length olds ≡ length news → restored (changes_from 0 olds news) news ≡ olds
put_back olds news e = back [] olds news e

-- the changes of two parts, one after the other
pub changes-append : (at : ℕ) (xs ys us vs : List ℕ) → length xs ≡ length ys
    → changes_from at (xs ++ us) (ys ++ vs) ≡ changes_from at xs ys ++ changes_from (at + length xs) us vs
unfolding changes_from
changes-append at [] [] us vs e = rw add-zero
changes-append at [] (y ∷ ys) us vs e = absurd (omega arith)
changes-append at (x ∷ xs) [] us vs e = absurd (omega arith)
changes-append at (x ∷ xs) (y ∷ ys) us vs e =
    by (eqb x y)
    (changes-append (suc at) xs ys us vs (omega arith)
    ∙ ap (λ (n : ℕ). changes_from (suc at) xs ys ++ changes_from n us vs) (let p : suc at + length xs ≡ at + suc (length xs) = omega arith in p))
  where
    by : (b : Bool) → changes_from (suc at) (xs ++ us) (ys ++ vs) ≡ changes_from (suc at) xs ys ++ changes_from (at + suc (length xs)) us vs
        → cond b (changes_from (suc at) (xs ++ us) (ys ++ vs)) (at ∷ x ∷ y ∷ changes_from (suc at) (xs ++ us) (ys ++ vs))
        ≡ cond b (changes_from (suc at) xs ys) (at ∷ x ∷ y ∷ changes_from (suc at) xs ys) ++ changes_from (at + suc (length xs)) us vs
    by true h = h
    by false h = ap (λ (l : List ℕ). at ∷ x ∷ y ∷ l) h

-- the changes among the first bytes of an item: one byte more, and all of them
module _ (at : ℕ) (old new : List ℕ) (long : length new ≡ length old) (i : ℕ) (there : i < length old) where
  one_more : changes_from at (take (i + 1) old) (take (i + 1) new)
      ≡ changes_from at (take i old) (take i new) ++ changes_from (at + i) (get_or old i 0 ∷ []) (get_or new i 0 ∷ [])
  one_more =
      let p : length (take i old) ≡ i = length-take-le i old (omega arith) in
      let q : length (take i new) ≡ i = length-take-le i new (omega arith) in
      ap₂ (changes_from at) (rw add-one (take-suc old i 0 there)) (rw add-one (take-suc new i 0 (omega arith)))
      ∙ changes-append at (take i old) (take i new) (get_or old i 0 ∷ []) (get_or new i 0 ∷ []) (p ∙ sym q)
      ∙ ap (λ (n : ℕ). changes_from at (take i old) (take i new) ++ changes_from (at + n) (get_or old i 0 ∷ []) (get_or new i 0 ∷ [])) p

  pub byte_same : get_or old i 0 ≡ get_or new i 0 → changes_from at (take (i + 1) old) (take (i + 1) new) ≡ changes_from at (take i old) (take i new)
  unfolding changes_from
  byte_same e = one_more ∙ rw (eq-eqb (get_or old i 0) (get_or new i 0) e) (append-nil (changes_from at (take i old) (take i new)))

  pub byte_changed : (get_or old i 0 ≡ get_or new i 0 → ⊥)
      → changes_from at (take (i + 1) old) (take (i + 1) new) ≡ changes_from at (take i old) (take i new) ++ ((at + i) ∷ get_or old i 0 ∷ get_or new i 0 ∷ [])
  unfolding changes_from
  byte_changed n = one_more ∙ rw (ne_eqb (get_or old i 0) (get_or new i 0) n)

  pub three_more : (get_or old i 0 ≡ get_or new i 0 → ⊥)
      → length (changes_from at (take (i + 1) old) (take (i + 1) new)) ≡ length (changes_from at (take i old) (take i new)) + 3
  three_more n = ap length (byte_changed n) ∙ length-append (changes_from at (take i old) (take i new)) ((at + i) ∷ get_or old i 0 ∷ get_or new i 0 ∷ [])

pub changes_split : (at : ℕ) (old new : List ℕ) (i : ℕ) → length new ≡ length old → i ≤ length old
    → changes_from at old new ≡ changes_from at (take i old) (take i new) ++ changes_from (at + i) (drop i old) (drop i new)
changes_split at old new i e h =
    let p : length (take i old) ≡ i = length-take-le i old h in
    let q : length (take i new) ≡ i = length-take-le i new (omega arith) in
    ap₂ (changes_from at) (sym (take-append-drop i old)) (sym (take-append-drop i new))
    ∙ changes-append at (take i old) (take i new) (drop i old) (drop i new) (p ∙ sym q)
    ∙ ap (λ (n : ℕ). changes_from at (take i old) (take i new) ++ changes_from (at + n) (drop i old) (drop i new)) p

pub changes-within : (at : ℕ) (old new : List ℕ) (i : ℕ) → length new ≡ length old → i ≤ length old
    → length (changes_from at (take i old) (take i new)) ≤ length (changes_from at old new)
changes-within at old new i e h =
    omega (
      arith,
      ap length (changes_split at old new i e h),
      length-append (changes_from at (take i old) (take i new)) (changes_from (at + i) (drop i old) (drop i new)),
    )

-- three numbers put behind those that are written
pub three_put : (list written : List ℕ) (a b c : ℕ) → length written + 3 ≤ length list
    → sets (written ++ drop (length written) list) (length written) (a ∷ b ∷ c ∷ [])
    ≡ (written ++ (a ∷ b ∷ c ∷ [])) ++ drop (length written + 3) list
three_put list written a b c h =
    let n : ℕ = length written in
    let long : length (written ++ drop n list) ≡ length list = omega (arith, length-append written (drop n list), length-drop n list) in
    sets-eq (a ∷ b ∷ c ∷ []) (written ++ drop n list) n (omega arith)
    ∙ ap₂ (λ (x y : List ℕ). x ++ (a ∷ b ∷ c ∷ []) ++ y) (take-append_seam written (drop n list))
    (drop-append-add written (drop n list) 3 ∙ drop-drop 3 n list)

pub whole_changes : (at : ℕ) (old new : List ℕ) (i : ℕ) → length new ≡ length old → length old ≤ i
    → changes_from at (take i old) (take i new) ≡ changes_from at old new
whole_changes at old new i e h = ap₂ (changes_from at) (take_all i old h) (take_all i new (omega arith))
