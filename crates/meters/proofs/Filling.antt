-- Laws of the loop that fills leading spaces. Assumes nothing.
use Prim.Native.Nat.{ℕ, zero, suc, ◌+◌, ◌-◌, ◌≤◌, ◌<◌}
use native.Mathlib.Nat.{add-zero}
use native.Mathlib.Omega.{arith}
use native.Mathlib.Numerals.{add-one}
use mathlib.Core.Path.{◌≡◌, refl, sym, ap, ap₂, ◌∙◌}
use mathlib.Core.List.{List, [], ◌∷◌, ◌++◌, append-nil}
use mathlib.Core.Bool.{Bool, true, false, cond}
use lib.ListN.{length, get_or, take, drop, set, length-set, take-append-drop, drop_of_length-le}
use lib.Seq.{drop-cons, get_or-drop, drop-drop, drop-set-lt, take-suc-set, append_snoc, take_all, take-set-le, get_or-set_same}
use lib.Dec.{eqb}
use borrow.Author.Tests.{eq-eqb, ne_eqb}
use borrow.Rule.Slice.PartMut.{put_mid}
use Rattle.content.specs.Content.{first_byte, last_byte}
use Rattle.content.specs.WrongByte.{valid_content}
use Rattle.content.specs.Letters.{is_space}
use Rattle.mending.specs.Mend.{filled, leading, sign_of, attempt, mended_item}
use Rattle.content.specs.Kinds.{is_zoned}

pub record Filling (old now : List ℕ) (i : ℕ) : Type 0 where
  pub within : i ≤ length old
  pub long : length now ≡ length old
  pub done : filled old ≡ take i now ++ filled (drop i old)
  pub rest : drop i now ≡ drop i old

pub filling_start : (old : List ℕ) → Filling old old 0
filling_start old = record { within = omega arith; long = refl; done = refl; rest = refl }

module _ {old now : List ℕ} {i : ℕ} (f : Filling old now i) where
  byte_is : get_or now i 0 ≡ get_or old i 0
  byte_is =
      ap (λ (n : ℕ). get_or now n 0) (sym (add-zero i)) ∙ sym (get_or-drop i now 0 0)
      ∙ ap (λ (l : List ℕ). get_or l 0 0) f.rest
      ∙ get_or-drop i old 0 0 ∙ ap (λ (n : ℕ). get_or old n 0) (add-zero i)

  pub filling_more : i < length now → get_or now i 0 ≡ 0x20 → Filling old (set now i 0x30) (i + 1)
  unfolding filled
  filling_more h e =
      let long = f.long in
      let g : i < length old = omega arith in
      let p : filled (drop i old) ≡ 0x30 ∷ filled (drop (suc i) old) =
      ap filled (drop-cons old i 0 g) ∙ rw (eq-eqb (get_or old i 0) 0x20 (sym byte_is ∙ e)) in
      record {
        within = omega arith;
        long = length-set now i 0x30 ∙ f.long;
        done =
            f.done ∙ ap (λ (l : List ℕ). take i now ++ l) p
            ∙ sym (append_snoc (take i now) 0x30 (filled (drop (suc i) old)))
            ∙ ap (λ (l : List ℕ). l ++ filled (drop (suc i) old)) (sym (take-suc-set now i 0x30 h))
            ∙ rw add-one refl;
        rest = rw add-one (drop-set-lt (suc i) now i 0x30 (omega arith) ∙ tail);
      }
    where
      tail : drop (suc i) now ≡ drop (suc i) old
      tail =
          let a = drop-drop 1 i now in
          let b = drop-drop 1 i old in
          ap (λ (n : ℕ). drop n now) (sym (add-one i)) ∙ sym a ∙ ap (drop 1) f.rest ∙ b ∙ ap (λ (n : ℕ). drop n old) (add-one i)

  pub filling_stop : i < length now → (get_or now i 0 ≡ 0x20 → ⊥) → now ≡ filled old
  unfolding filled
  filling_stop h n =
      let long = f.long in
      let g : i < length old = omega arith in
      let p : filled (drop i old) ≡ drop i old =
      ap filled (drop-cons old i 0 g) ∙ rw (ne_eqb (get_or old i 0) 0x20 (λ e. n (byte_is ∙ e))) (sym (drop-cons old i 0 g)) in
      sym (f.done ∙ ap (λ (l : List ℕ). take i now ++ l) (p ∙ sym f.rest) ∙ take-append-drop i now)

  pub filling_end : length now ≤ i → now ≡ filled old
  unfolding filled
  filling_end h =
      let long = f.long in
      sym
      (f.done
      ∙ ap (λ (l : List ℕ). take i now ++ filled l) (drop_of_length-le old {i = i} (omega arith))
      ∙ append-nil (take i now) ∙ take_all i now h)

-- the sign set, then the digits after it or before it filled
pub digits_5 : (bytes last : List ℕ) (s : ℕ) → 1 ≤ length bytes → s ≡ sign_of (first_byte bytes)
    → last ≡ leading (take (length (set bytes 0 s) - 1) (drop 1 (set bytes 0 s)))
    → put_mid 1 (length (set bytes 0 s) - 1) (set bytes 0 s) last ≡ attempt 5 bytes
unfolding attempt
digits_5 [] last s h e f = absurd (omega arith)
digits_5 (b ∷ bytes) last s h e f =
    let n : suc (length bytes) - 1 ≡ length bytes = omega arith in
    let p : last ≡ leading bytes = f ∙ rw n (ap leading (take_all (length bytes) bytes (omega arith))) in
    let q : drop (suc (length bytes) - 1) bytes ≡ [] = drop_of_length-le bytes {i = suc (length bytes) - 1} (omega arith) in
    rw (q, p, e) (ap (λ (l : List ℕ). sign_of b ∷ l) (append-nil (leading bytes)))

pub digits_6 : (bytes front : List ℕ) (s : ℕ) → 1 ≤ length bytes → s ≡ sign_of (last_byte bytes)
    → front ≡ leading (take (length bytes - 1) (set bytes (length bytes - 1) s))
    → front ++ drop (length bytes - 1) (set bytes (length bytes - 1) s) ≡ attempt 6 bytes
unfolding attempt
digits_6 bytes front s h e f =
    let n : ℕ = length bytes - 1 in
    let long : length (set bytes n s) ≡ length bytes = length-set bytes n s in
    ap₂ (λ (x y : List ℕ). x ++ y)
    (f ∙ ap leading (take-set-le n bytes n s (omega arith)))
    (drop-cons (set bytes n s) n 0 (omega arith)
    ∙ ap₂ (λ (x : ℕ) (l : List ℕ). x ∷ l) (get_or-set_same bytes n s 0 (omega arith) ∙ e)
    (drop_of_length-le (set bytes n s) {i = suc n} (omega arith)))

-- an item is its attempt where that is valid, else itself
pub mended_skip : (kind digits : ℕ) (bytes : List ℕ) → is_zoned kind ≡ false → bytes ≡ mended_item kind digits bytes
unfolding mended_item
mended_skip kind digits bytes e = rw e

pub mended_kept : (kind digits : ℕ) (bytes : List ℕ) → is_zoned kind ≡ true → valid_content kind digits (attempt kind bytes) ≡ false → bytes ≡ mended_item kind digits bytes
unfolding mended_item
mended_kept kind digits bytes e f = rw (e, f)

pub mended_done : (kind digits : ℕ) (bytes : List ℕ) → is_zoned kind ≡ true → valid_content kind digits (attempt kind bytes) ≡ true
    → attempt kind bytes ≡ mended_item kind digits bytes
unfolding mended_item
mended_done kind digits bytes e f = rw (e, f)
