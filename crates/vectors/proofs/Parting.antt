-- Where parts of a case start and end.
use Rattle.std.proofs.Common.{◌≡◌, ℕ, suc, ◌+◌, ◌-◌, ◌<◌, ◌≤◌, true, false, cond, eqb, ltb, leb, List, [], ◌∷◌, length, get_or, take, drop, sym, refl, ap, ◌∙◌, subst, add-one, arith, length-drop, drop_of_length-le, take_all, drop-cons, drop-drop, le-ltb, lt-ltb, eq-eqb}
use lib.Seq.{drop-length}
use Rattle.vectors.specs.Parts.{first_part, behind_first, behind, setting_at, is_whole, PartEnds, Starts}

module _ (words : List ℕ) (at : ℕ) where
  -- a part of so many words
  here : (count : ℕ) → at < length words → get_or words at 0 ≡ count → drop at words ≡ count ∷ drop (at + 1) words
  here count h e = drop-cons words at 0 h ∙ ap (λ (n : ℕ). n ∷ drop (suc at) words) e ∙ ap (λ (k : ℕ). count ∷ drop k words) (sym (add-one at))

  pub part-within : (count : ℕ) → at < length words → get_or words at 0 ≡ count → count < length words - at → PartEnds words at (at + 1 + count)
  part-within count h e l =
      let size : at + 1 + count - (at + 1) ≡ count = omega arith in
      record {
        within = omega arith;
        rest = sym (drop-drop count (at + 1) words) ∙ sym (ap behind_first (here count h e));
        held = ap (λ (k : ℕ). take k (drop (at + 1) words)) size ∙ sym (ap first_part (here count h e));
      }

  pub part_beyond : (count : ℕ) → at < length words → get_or words at 0 ≡ count → length words - at ≤ count → PartEnds words at (length words)
  part_beyond count h e l =
      let left : length (drop (at + 1) words) ≡ length words - (at + 1) = length-drop (at + 1) words in
      record {
        within = omega arith;
        rest = drop-length words ∙ sym (drop_of_length-le (drop (at + 1) words) {i = count} (omega (arith, left))) ∙ sym (ap behind_first (here count h e));
        held =
            take_all (length words - (at + 1)) (drop (at + 1) words) (omega (arith, left))
            ∙ sym (take_all count (drop (at + 1) words) (omega (arith, left)))
            ∙ sym (ap first_part (here count h e));
      }

  pub part_none : length words ≤ at → PartEnds words at (length words)
  part_none h =
      let end : drop at words ≡ [] = drop_of_length-le words {i = at} h in
      let none : length words - (at + 1) ≡ 0 = omega arith in
      record {
        within = omega arith;
        rest = drop-length words ∙ sym (ap behind_first end);
        held = ap (λ (k : ℕ). take k (drop (at + 1) words)) none ∙ sym (ap first_part end);
      }

pub first-starts : (words : List ℕ) → Starts words 0 0
unfolding behind
first-starts words = record { within = omega arith; rest = refl }

pub next-starts : (words : List ℕ) (k at r : ℕ) → Starts words k at → PartEnds words at r → Starts words (k + 1) r
unfolding behind
next-starts words k at r S P =
    rw (add-one k) record { within = P.within; rest = P.rest ∙ ap behind_first S.rest }

-- a part that ends where it starts has no words
pub nothing_held : (words : List ℕ) (k at r : ℕ) → Starts words k at → PartEnds words at r → r ≤ at → first_part (behind k words) ≡ []
nothing_held words k at r S P h =
    let none : r - (at + 1) ≡ 0 = omega arith in
    sym (ap first_part S.rest) ∙ sym P.held ∙ ap (λ (n : ℕ). take n (drop (at + 1) words)) none

-- the words behind the parts
module _ (s words : List ℕ) (e : s ≡ behind 7 words) where
  pub setting_there : (n v : ℕ) → n < length s → v ≡ get_or s n 0 → v ≡ setting_at n words
  setting_there n v h q = subst (λ (l : List ℕ). v ≡ cond (ltb n (length l)) (get_or l n 0) 2048) e (rw (lt-ltb n (length s) h) q)

  pub setting_none : (n : ℕ) → length s ≤ n → 2048 ≡ setting_at n words
  setting_none n h = subst (λ (l : List ℕ). 2048 ≡ cond (ltb n (length l)) (get_or l n 0) 2048) e (rw (le-ltb n (length s) h))

  pub three_there : length s ≡ 3 → leb (setting_at 1 words) 1024 ≡ true → leb (setting_at 2 words) 1024 ≡ is_whole words
  three_there l a = rw (eq-eqb (length (behind 7 words)) 3 (sym (ap length e) ∙ l), a)

  pub room_lacks : length s ≡ 3 → leb (setting_at 1 words) 1024 ≡ false → false ≡ is_whole words
  room_lacks l a = rw (eq-eqb (length (behind 7 words)) 3 (sym (ap length e) ∙ l), a)

  pub others_there : eqb (length s) 3 ≡ false → false ≡ is_whole words
  others_there l = rw (← e, l)
