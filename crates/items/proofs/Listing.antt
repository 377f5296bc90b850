-- Laws of a loop over rows that counts what they list, and of one that writes it to the start of an output. Assumes nothing.
use Prim.Native.Nat.{ℕ, zero, suc, ◌+◌, ◌≤◌, ◌<◌}
use native.Mathlib.Omega.{arith}
use native.Mathlib.Numerals.{add-one}
use native.Mathlib.Decide.{dec_lt}
use mathlib.Core.Path.{◌≡◌, refl, sym, ap, ap₂, ◌∙◌}
use mathlib.Core.List.{List, [], ◌∷◌, ◌++◌, append_assoc}
use lib.ListN.{length, take, drop, length-append, length-drop}
use lib.Seq.{take-append_seam, drop-append-add, drop-drop, sets, sets-eq}
use Rattle.items.specs.Items.{listed}

module _ (entry : ℕ → List ℕ) where
  pub listed_none : listed entry 0 ≡ []
  unfolding listed
  listed_none = refl

  pub listed_more : (v : ℕ) → listed entry (v + 1) ≡ listed entry v ++ entry v
  unfolding listed
  listed_more v = rw add-one

  pub count_more : (v : ℕ) → length (listed entry (v + 1)) ≡ length (listed entry v) + length (entry v)
  count_more v = ap length (listed_more v) ∙ length-append (listed entry v) (entry v)

  -- the list only grows
  pub listed_grows : (v n : ℕ) → v ≤ n → length (listed entry v) ≤ length (listed entry n)
  unfolding listed
  listed_grows v zero h = let e : v ≡ 0 = omega arith in rw e (omega arith)
  listed_grows v (suc n) h = by (dec_lt v (suc n)) (λ g. listed_grows v n g)
    where
      by : Dec (v < suc n) → (v ≤ n → length (listed entry v) ≤ length (listed entry n)) → length (listed entry v) ≤ length (listed entry n ++ entry n)
      by (yes g) rest = omega (arith, rest (omega arith), length-append (listed entry n) (entry n))
      by (no g) rest = let e : v ≡ suc n = omega arith in rw e (omega arith)

-- numbers put behind those that are written
sets_behind : (list written more : List ℕ) → length written + length more ≤ length list
    → sets (written ++ drop (length written) list) (length written) more ≡ (written ++ more) ++ drop (length written + length more) list
sets_behind list written more h =
    let n : ℕ = length written in
    let long : length (written ++ drop n list) ≡ length list = omega (arith, length-append written (drop n list), length-drop n list) in
    sets-eq more (written ++ drop n list) n (omega arith)
    ∙ ap₂ (λ (x y : List ℕ). x ++ more ++ y) (take-append_seam written (drop n list))
    (drop-append-add written (drop n list) (length more) ∙ drop-drop (length more) n list)

-- the first v rows are listed, and the rest of the output is as it was
pub record Listing (entry : ℕ → List ℕ) (n : ℕ) (before list : List ℕ) (count v : ℕ) : Type 0 where
  pub within : v ≤ n
  pub counted : count ≡ length (listed entry v)
  pub long : length list ≡ length before
  pub now_is : list ≡ listed entry v ++ drop count before

pub listing_start : (entry : ℕ → List ℕ) (n : ℕ) (before : List ℕ) → Listing entry n before before 0 0
listing_start entry n before =
    let none = listed_none entry in
    record { within = omega arith; counted = sym (ap length none); long = refl; now_is = sym (ap (λ (l : List ℕ). l ++ before) none) }

module _ {entry : ℕ → List ℕ} {n : ℕ} {before list : List ℕ} {count v : ℕ} (s : Listing entry n before list count v) (there : v < n)
    (room : length (listed entry n) ≤ length before) where
  pub listing-fits : count + length (entry v) ≤ length list
  listing-fits = omega (arith, s.counted, s.long, count_more entry v, listed_grows entry (v + 1) n (omega arith))

  pub listing_more : {list' : List ℕ} {count' : ℕ} → list' ≡ sets list count (entry v) → count' ≡ count + length (entry v)
      → Listing entry n before list' count' (v + 1)
  listing_more {list'} {count'} e f =
      let w : List ℕ = listed entry v in
      let fits : length w + length (entry v) ≤ length before = omega (arith, listing-fits, s.counted, s.long) in
      let c : count' ≡ length w + length (entry v) = f ∙ ap (λ (k : ℕ). k + length (entry v)) s.counted in
      let is : list' ≡ (w ++ entry v) ++ drop (length w + length (entry v)) before =
      e ∙ ap₂ (λ (l : List ℕ) (k : ℕ). sets l k (entry v)) (s.now_is ∙ ap (λ (k : ℕ). w ++ drop k before) s.counted) s.counted
      ∙ sets_behind before w (entry v) fits in
      record {
        within = omega arith;
        counted = c ∙ sym (count_more entry v);
        long =
            omega (
              arith,
              ap length is,
              length-append (w ++ entry v) (drop (length w + length (entry v)) before),
              length-append w (entry v),
              length-drop (length w + length (entry v)) before,
            );
        now_is = is ∙ ap₂ (λ (l : List ℕ) (k : ℕ). l ++ drop k before) (sym (listed_more entry v)) (sym c);
      }

module _ {entry : ℕ → List ℕ} {n : ℕ} {before list : List ℕ} {count v : ℕ} (s : Listing entry n before list count v) (over : n ≤ v) where
  at_end : v ≡ n
  at_end = omega (arith, s.within)

  pub listing-count : count ≡ length (listed entry n)
  listing-count = s.counted ∙ ap (λ (k : ℕ). length (listed entry k)) at_end

  pub listing-list : list ≡ listed entry n ++ drop (length (listed entry n)) before
  listing-list = s.now_is ∙ ap₂ (λ (k m : ℕ). listed entry k ++ drop m before) at_end listing-count
