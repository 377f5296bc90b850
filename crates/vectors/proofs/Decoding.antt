-- Words of four bytes, one after the other.
use Rattle.std.proofs.Common.{◌≡◌, ℕ, zero, suc, ◌+◌, ◌-◌, ◌<◌, ◌≤◌, true, false, List, [], ◌∷◌, ◌++◌, length, get_or, take, drop, set, sym, refl, ap, ◌∙◌, ap₂, add-one, arith, length-drop, length-set, length-take-le, take_all, drop-cons, take-suc, drop-drop}
use Rattle.vectors.specs.Parts.{word_of, words_of, Decodes}

-- no word is left in fewer than four bytes
short : (raw : List ℕ) → length raw < 4 → words_of raw ≡ []
unfolding words_of
short [] h = refl
short (a ∷ []) h = refl
short (a ∷ b ∷ []) h = refl
short (a ∷ b ∷ c ∷ []) h = refl
short (a ∷ b ∷ c ∷ d ∷ raw) h = absurd (omega arith)

next : (raw : List ℕ) (at : ℕ) → 4 ≤ length raw - at
    → words_of (drop at raw) ≡ word_of (get_or raw at 0) (get_or raw (at + 1) 0) (get_or raw (at + 2) 0) (get_or raw (at + 3) 0) ∷ words_of (drop (at + 4) raw)
unfolding words_of
next raw at h =
    let e1 : at + 1 ≡ suc at = omega arith in
    let e2 : at + 2 ≡ suc (suc at) = omega arith in
    let e3 : at + 3 ≡ suc (suc (suc at)) = omega arith in
    let e4 : at + 4 ≡ suc (suc (suc (suc at))) = omega arith in
    let s : drop at raw
    ≡ get_or raw at 0 ∷ get_or raw (suc at) 0 ∷ get_or raw (suc (suc at)) 0 ∷ get_or raw (suc (suc (suc at))) 0 ∷ drop (suc (suc (suc (suc at)))) raw =
    drop-cons raw at 0 (omega arith)
    ∙ ap (λ (l : List ℕ). get_or raw at 0 ∷ l)
    (drop-cons raw (suc at) 0 (omega arith)
    ∙ ap (λ (l : List ℕ). get_or raw (suc at) 0 ∷ l)
    (drop-cons raw (suc (suc at)) 0 (omega arith)
    ∙ ap (λ (l : List ℕ). get_or raw (suc (suc at)) 0 ∷ l) (drop-cons raw (suc (suc (suc at))) 0 (omega arith)))) in
    rw (e1, e2, e3, e4) (ap words_of s)

-- one number more of a list that is copied
copy_more : (list old : List ℕ) (i : ℕ) → i < length list → i < length old →
    set (take i list ++ drop i old) i (get_or list i 0) ≡ take (suc i) list ++ drop (suc i) old
copy_more [] old i l m = absurd (omega (arith, l))
copy_more (x ∷ xs) [] i l m = absurd (omega (arith, m))
copy_more (x ∷ xs) (b ∷ bs) zero l m = refl
copy_more (x ∷ xs) (b ∷ bs) (suc i) l m = ap (λ (w : List ℕ). x ∷ w) (copy_more xs bs i (omega (arith, l)) (omega (arith, m)))

-- so many words stand in the room, and these are left
pub record Going (raw words₀ words : List ℕ) (count at : ℕ) : Type 0 where
  pub sized : length words ≡ length words₀
  pub few : count ≤ length words₀
  pub within : at ≤ length raw
  pub some : count ≤ length (words_of raw)
  pub left : drop count (words_of raw) ≡ words_of (drop at raw)
  pub stands : words ≡ take count (words_of raw) ++ drop count words₀

pub none_yet : (raw words : List ℕ) → Going raw words words 0 0
none_yet raw words = record { sized = refl; few = omega arith; within = omega arith; some = omega arith; left = refl; stands = refl }

module _ {raw words₀ words : List ℕ} {count at : ℕ} (G : Going raw words₀ words count at) where
  abbrev W : List ℕ
  W = words_of raw

  -- what is counted and what is left are all
  all : length W ≡ count + length (words_of (drop at raw))
  all = omega (arith, length-drop count W, ap length G.left, G.some)

  pub one_more : (v : ℕ) → count < length words₀ → 4 ≤ length raw - at
      → v ≡ word_of (get_or raw at 0) (get_or raw (at + 1) 0) (get_or raw (at + 2) 0) (get_or raw (at + 3) 0)
      → Going raw words₀ (set words count v) (count + 1) (at + 4)
  one_more v h r e =
      let first : drop count W ≡ v ∷ words_of (drop (at + 4) raw) = G.left ∙ rw e (next raw at r) in
      let more : length (drop count W) ≡ suc (length (words_of (drop (at + 4) raw))) = ap length first in
      let long : count < length W = omega (arith, length-drop count W, more) in
      let here : get_or W count 0 ≡ v = let d = sym (drop-cons W count 0 long) ∙ first in cc in
      record {
        sized = length-set words count v ∙ G.sized;
        few = omega arith;
        within = omega (arith, G.within);
        some = omega (arith, long);
        left = sym (drop-drop 1 count W) ∙ ap (drop 1) first;
        stands =
            ap (λ (l : List ℕ). set l count v) G.stands
            ∙ ap (λ (x : ℕ). set (take count W ++ drop count words₀) count x) (sym here)
            ∙ copy_more W words₀ count long h
            ∙ ap (λ (k : ℕ). take k W ++ drop k words₀) (sym (add-one count));
      }

  pub no_room : length words₀ ≤ count → Decodes raw words₀ count words
  no_room h =
      let e : count ≡ length words₀ = omega (arith, G.few) in
      record {
        counted = e ∙ sym (length-take-le (length words₀) W (omega (arith, G.some)));
        stands = G.stands ∙ ap (λ (k : ℕ). take k W ++ drop count words₀) e;
      }

  pub no_word : length raw - at < 4 → Decodes raw words₀ count words
  no_word h =
      let none : words_of (drop at raw) ≡ [] = short (drop at raw) (omega (arith, length-drop at raw)) in
      let e : length W ≡ count = omega (arith, all, ap length none) in
      let fits : take (length words₀) W ≡ W = take_all (length words₀) W (omega (arith, G.few)) in
      let so_far : take count W ≡ W = take_all count W (omega arith) in
      record {
        counted = sym (ap length fits ∙ e);
        stands = G.stands ∙ ap (λ (l : List ℕ). l ++ drop count words₀) (so_far ∙ sym fits);
      }
