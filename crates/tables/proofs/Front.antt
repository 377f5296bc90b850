-- An output that is written from its start on, number by number or by whoever is lent the rest of it.
use mathlib.Core.Path.{◌≡◌, refl, sym, ap, ◌∙◌}
use mathlib.Core.List.{List, [], ◌∷◌, ◌++◌, append-nil, append_assoc}
use Prim.Native.Nat.{ℕ, ◌+◌, ◌-◌, ◌≤◌, ◌<◌}
use native.Mathlib.Omega.{arith}
use native.Mathlib.Numerals.{add-one}
use borrow.Author.Rules.{part_to_end}
use borrow.Rule.Slice.PartMut.{put_mid}
use lib.ListN.{length, take, drop, set, length-append, length-drop, drop_of_length-le}
use lib.Seq.{drop-cons, set_at, take_at, take_all, take-add, take-take, drop_at, drop-drop}

-- what is alike up to a number is so up to an earlier one, and what is alike from a number on is so from a later one on
module _ (l m : List ℕ) (a b : ℕ) (le : a ≤ b) where
  pub earlier_front : take b l ≡ take b m → take a l ≡ take a m
  earlier_front h = sym (take-take a b l le) ∙ ap (take a) h ∙ take-take a b m le

  pub later_rest : drop a l ≡ drop a m → drop b l ≡ drop b m
  later_rest h =
      let k = b - a in
      let e : a + k ≡ b = omega arith in
      ap (λ n. drop n l) (sym e) ∙ sym (drop-drop k a l) ∙ ap (drop k) h ∙ drop-drop k a m ∙ ap (λ n. drop n m) e

-- `now` is `before` with `w`, k numbers, written over its start.
pub record Front (w before : List ℕ) (k : ℕ) (now : List ℕ) : Type 0 where
  pub size : k ≡ length w
  pub fits : k ≤ length before
  pub holds : now ≡ w ++ drop k before

pub front_none : (before : List ℕ) → Front [] before 0 before
front_none before = record { size = refl; fits = omega arith; holds = refl }

module _ {w before now : List ℕ} {k : ℕ} (f : Front w before k now) where
  pub front_length : length now ≡ length before
  front_length = rw f.holds (omega (arith, length-append w (drop k before), length-drop k before, f.size, f.fits))

  pub front_store : (x : ℕ) → k < length before → Front (w ++ x ∷ []) before (k + 1) (set now k x)
  front_store x l =
      record {
        size = omega (arith, f.size, length-append w (x ∷ []));
        fits = omega arith;
        holds = rw (f.holds, drop-cons before k 0, set_at w _ _ x k (sym f.size), append_assoc w (x ∷ []), add-one);
      }

  -- the rest, as it is lent
  pub front_rest : take (length now - k) (drop k now) ≡ drop k before
  front_rest = rw (part_to_end now k, f.holds) (drop_at w (drop k before) k (sym f.size))

  -- and as it comes back with `v`, r numbers, over its start
  pub front_part : (v last : List ℕ) (r : ℕ) → r ≡ length v → k + r ≤ length before → last ≡ v ++ drop r (take (length now - k) (drop k now)) →
      Front (w ++ v) before (k + r) (put_mid k (length now - k) now last)
  front_part v last r e l g =
      let a : take k now ≡ w = rw f.holds (take_at w (drop k before) k (sym f.size)) in
      let b : last ≡ v ++ drop (k + r) before = rw (front_rest, drop-drop r k before) at g in
      let z : drop (length now - k) (drop k now) ≡ [] = drop_of_length-le (drop k now) {i = length now - k} (omega (arith, length-drop k now)) in
      record {
        size = omega (arith, f.size, length-append w v);
        fits = l;
        holds = rw (a, b, z, append-nil, append_assoc w v);
      }

-- The first n of `whole` stand over the start of `before`.
pub record Copied (whole before : List ℕ) (n : ℕ) (now : List ℕ) : Type 0 where
  pub within : n ≤ length whole
  pub room : length whole ≤ length before
  pub front : Front (take n whole) before n now

pub copied_none : (whole before : List ℕ) → length whole ≤ length before → Copied whole before 0 before
copied_none whole before h = record { within = omega arith; room = h; front = front_none before }

module _ {whole before now : List ℕ} {n : ℕ} (c : Copied whole before n now) where
  pub copied-length : length now ≡ length before
  copied-length = front_length c.front

  module _ (b : ℕ) (rest : List ℕ) (e : drop n whole ≡ b ∷ rest) where
    pub copied-left : n < length whole
    copied-left = omega (arith, ap length e, length-drop n whole)

    pub copied_more : Copied whole before (n + 1) (set now n b)
    copied_more =
        record {
          within = omega (arith, copied-left);
          room = c.room;
          front = rw (take-add n 1 whole, e) (front_store c.front b (omega (arith, copied-left, c.room)));
        }

  pub copied_all : length whole ≤ n → now ≡ whole ++ drop (length whole) before
  copied_all h =
      let z : n ≡ length whole = omega (arith, c.within) in
      let t : take n whole ≡ whole = take_all n whole h in
      rw (t, z) at c.front.holds
