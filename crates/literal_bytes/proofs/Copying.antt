-- Bytes of literals as code writes them.
use mathlib.Core.Path.{◌≡◌, refl, sym, ap, ◌∙◌}
use mathlib.Core.Bool.{Bool, true, false, cond}
use mathlib.Core.List.{List, [], ◌∷◌, ◌++◌, append-nil}
use Prim.Native.Nat.{ℕ, suc, ◌+◌, ◌-◌, ◌≤◌, ◌<◌}
use native.Mathlib.Omega.{arith}
use borrow.Rule.Slice.PartMut.{put_mid}
use lib.ListN.{length, get_or, set, take, drop, length-append, length-drop, drop_of_length-le}
use lib.Seq.{drop-cons, drop-drop, length-take-le}
use Rattle.content.specs.Content.{but_first, but_last}
use Rattle.tables.proofs.Front.{Front, front_length, front_rest, front_part, Copied, copied_none, copied_more}
use Rattle.spelling.specs.Words.{is_quote}
use Rattle.spelling.specs.Literals.{undoubled, without_point, point_place, number_of}
use Rattle.literal_bytes.specs.Written.{written_over}
use Rattle.literal_bytes.proofs.Parting.{place-within, point_out, rest_after}

-- Of what is kept of `from`, n bytes are written, and the next one kept is that at i.
pub record Kept (from before : List ℕ) (n i : ℕ) (now : List ℕ) : Type 0 where
  pub copied : Copied (undoubled false from) before n now
  pub left : drop n (undoubled false from) ≡ undoubled false (drop i from)
  pub near : i ≤ suc (length from)

pub kept_none : (from before : List ℕ) → length (undoubled false from) ≤ length before → Kept from before 0 0 before
kept_none from before h = record { copied = copied_none (undoubled false from) before h; left = refl; near = omega arith }

pub stride_some : (t : Bool) (s : ℕ) → s ≡ cond t 2 1 → (1 ≤ s) × (s ≤ 2)
stride_some true s e = (omega arith, omega arith)
stride_some false s e = (omega arith, omega arith)

passed_over : (b : ℕ) (rest : List ℕ) → undoubled false (b ∷ rest) ≡ b ∷ undoubled false (drop (cond (is_quote b) 2 1) (b ∷ rest))
unfolding undoubled
passed_over b rest = ap (λ (v : List ℕ). b ∷ v) (by (is_quote b) rest)
  where
    by : (t : Bool) (rest : List ℕ) → undoubled t rest ≡ undoubled false (drop (cond t 2 1) (b ∷ rest))
    by false rest = refl
    by true [] = refl
    by true (c ∷ rest) = refl

module _ {from before now : List ℕ} {n i : ℕ} (k : Kept from before n i now) (h : i < length from) where
  here : drop n (undoubled false from) ≡ get_or from i 0 ∷ undoubled false (drop (i + cond (is_quote (get_or from i 0)) 2 1) from)
  here =
      let d = drop-cons from i 0 h in
      k.left ∙ ap (undoubled false) d ∙ passed_over (get_or from i 0) (drop (suc i) from)
      ∙ rw (← d, drop-drop (cond (is_quote (get_or from i 0)) 2 1) i from)

  pub kept_left : n < length (undoubled false from)
  kept_left = omega (arith, ap length here, length-drop n (undoubled false from))

  pub kept_more : (s : ℕ) → s ≡ cond (is_quote (get_or from i 0)) 2 1 → Kept from before (n + 1) (i + s) (set now n (get_or from i 0))
  kept_more s e =
      record {
        copied = copied_more k.copied (get_or from i 0) (undoubled false (drop (i + cond (is_quote (get_or from i 0)) 2 1) from)) here;
        left = sym (drop-drop 1 n (undoubled false from)) ∙ ap (drop 1) here ∙ rw e;
        near = omega (arith, stride_some (is_quote (get_or from i 0)) s e);
      }

pub kept_all : {from before now : List ℕ} {n i : ℕ} → Kept from before n i now → length from ≤ i → length (undoubled false from) ≤ n
unfolding undoubled
kept_all {from} {before} {now} {n} {i} k h =
    let e : drop n (undoubled false from) ≡ [] = k.left ∙ rw (drop_of_length-le from h) in
    omega (arith, ap length e, length-drop n (undoubled false from), k.copied.within)

-- A number's bytes: those before the point at p, then those after it.
module _ (word to : List ℕ) (p : ℕ) (e : p ≡ point_place word) (room : length (number_of word).bytes ≤ length to) where
  near : p ≤ length word
  near = omega (arith, e, place-within word)

  parts : without_point word ≡ take p word ++ drop (suc p) word
  parts = rw e (point_out word)

  pub first-length : p ≡ length (take p word)
  first-length = sym (length-take-le p word near)

  sizes : p + length (drop (suc p) word) ≤ length to
  sizes = omega (arith, ap length parts, length-append (take p word) (drop (suc p) word), first-length)

  pub first-room : length (take p word) ≤ length to
  first-room = omega (arith, sizes, first-length)

  module _ (last : List ℕ) (f : last ≡ written_over (take p word) to) where
    first_front : Front (take p word) to p last
    first_front = record { size = first-length; fits = omega (arith, sizes); holds = rw (← first-length) at f }

    pub first_kept : p ≤ length last
    first_kept = omega (arith, front_length first_front, sizes)

    pub no_point : length word ≤ p → last ≡ written_over (without_point word) to
    no_point h =
        let g : length word ≤ suc p = omega arith in
        let z : without_point word ≡ take p word = parts ∙ rw (drop_of_length-le word g) (append-nil (take p word)) in
        f ∙ ap (λ (v : List ℕ). written_over v to) (sym z)

    abbrev rest : List ℕ
    rest = take (length word - (p + 1)) (drop (p + 1) word)

    rest_is : rest ≡ drop (suc p) word
    rest_is = rest_after word p

    pub rest_room : length rest ≤ length (take (length last - p) (drop p last))
    rest_room = rw (front_rest first_front, rest_is) (omega (arith, sizes, length-drop p to))

    pub number-copied : (back : List ℕ) → back ≡ written_over rest (take (length last - p) (drop p last))
        → put_mid p (length last - p) last back ≡ written_over (without_point word) to
    number-copied back g =
        let q = front_part first_front rest back (length rest) refl (omega (arith, ap length rest_is, sizes)) g in
        let z : take p word ++ rest ≡ without_point word = ap (λ (v : List ℕ). take p word ++ v) rest_is ∙ sym parts in
        let n : p + length rest ≡ length (without_point word) = q.size ∙ ap length z in
        rw (z, n) at q.holds

-- A text's bytes: those between the quotes.
pub between_quotes : (word : List ℕ) → 2 ≤ length word → take (length word - 1 - 1) (drop 1 word) ≡ but_last (but_first word)
between_quotes word h = let z : length word - 1 - 1 ≡ length (drop 1 word) - 1 = omega (arith, length-drop 1 word) in rw z
