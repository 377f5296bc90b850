-- Laws of texts put into a buffer: one after another they are one text.
use mathlib.Core.Path.{◌≡◌, refl, sym, ap, ap₂, ◌∙◌, subst}
use mathlib.Core.Bool.{Bool, true, false, ◌&&◌, false≢true}
use mathlib.Core.List.{List, [], ◌∷◌, ◌++◌, append_assoc, append-nil}
use mathlib.Core.Logic.{◌⊎◌, inl, inr}
use Prim.Native.Nat.{ℕ, zero, suc, ◌+◌, ◌-◌, ◌≤◌, ◌<◌}
use native.Mathlib.Omega.{arith}
use native.Mathlib.Nat.{add-zero}
use native.Mathlib.Numerals.{add-one}
use lib.ListN.{length, take, drop, replicate, length-append, length-drop, take-append-drop, drop_of_length-le, length-replicate}
use lib.Seq.{paste, length-take-le, take_all, take_at, drop_at, drop-drop, take-append-le, take-append-add}
use lib.Dec.{leb, ltb}
use borrow.Author.Tests.{leb-true, leb-false, ltb-true, ltb-false}
use Rattle.io.specs.Digits.{last_digits, IsDigitCount}
use Rattle.lines.specs.Put.{fitting, Puts, Decimal, PutsNumber, PutsNumberColumn}

-- one number or the other is no smaller
either : (m n : ℕ) → (m ≤ n) ⊎ (n ≤ m)
either m n = by (leb m n) refl
  where
    by : (b : Bool) → leb m n ≡ b → (m ≤ n) ⊎ (n ≤ m)
    by true e = inl (leb-true m n e)
    by false e = inr (omega (arith, leb-false m n e))

-- both tests of the loop
pub both_below : (i m n : ℕ) → ltb i m && ltb i n ≡ true → (i < m) × (i < n)
both_below i m n e = by (ltb i m) refl e
  where
    by : (b : Bool) → ltb i m ≡ b → b && ltb i n ≡ true → (i < m) × (i < n)
    by true q f = (ltb-true i m q, ltb-true i n f)
    by false q f = absurd (false≢true f)

-- nothing more is left of it
nothing : (out : List ℕ) (at : ℕ) → out ≡ take at out ++ [] ++ drop at out
nothing out at = sym (ap (λ (l : List ℕ). l ++ drop at out) (append-nil (take at out)) ∙ take-append-drop at out)

pub put_nothing : (out : List ℕ) (at : ℕ) → Puts out at [] at out
put_nothing out at =
    let none : take (length out - at) [] ≡ [] = short (length out - at) in
    record { ends = rw none (sym (add-zero at)); stands = rw none (nothing out at) }
  where
    short : (n : ℕ) → ◌≡◌ {A = List ℕ} (take n []) []
    short zero = refl
    short (suc n) = refl

pub beyond : (out : List ℕ) (at : ℕ) (text : List ℕ) → length out ≤ at → Puts out at text at out
beyond out at text h =
    let none : length out - at ≡ 0 = omega (arith, h) in
    record { ends = rw none (sym (add-zero at)); stands = rw none (nothing out at) }

-- the first i bytes of the text are copied, and no more can be
pub pasted : (out : List ℕ) (at : ℕ) (text : List ℕ) (i : ℕ) → at ≤ length out → i ≤ length text → i ≤ length out - at
    → ltb i (length text) && ltb i (length out - at) ≡ false → {after : List ℕ} → after ≡ paste out at text i → Puts out at text (at + i) after
pasted out at text i h few room e p =
    let all : take (length out - at) text ≡ take i text = by (ltb i (length text)) refl e in
    record {
      ends = ap (λ (n : ℕ). at + n) (sym (ap length all ∙ length-take-le i text few));
      stands = p ∙ ap (λ (l : List ℕ). take at out ++ l ++ drop (at + i) out) (sym all);
    }
  where
    by : (b : Bool) → ltb i (length text) ≡ b → b && ltb i (length out - at) ≡ false → take (length out - at) text ≡ take i text
    by true q f =
        let all : length out - at ≡ i = omega (arith, room, ltb-false i (length out - at) f) in
        ap (λ (n : ℕ). take n text) all
    by false q f =
        let ended = ltb-false i (length text) q in
        take_all (length out - at) text (omega (arith, room, ended)) ∙ sym (take_all i text ended)

module _ {out : List ℕ} {at : ℕ} {text : List ℕ} {end : ℕ} {after : List ℕ} (P : Puts out at text end after) where
  -- where there is room for some of it
  module _ (h : at ≤ length out) where
    fit : length (fitting out at text) ≤ length out - at
    fit = by (length out - at) text
      where
        by : (n : ℕ) (l : List ℕ) → length (take n l) ≤ n
        by zero l = omega arith
        by (suc n) [] = omega arith
        by (suc n) (x ∷ l) = omega (arith, by n l)

    pub inside : end ≤ length out
    inside = omega (arith, P.ends, fit, h)

    head : length (take at out ++ fitting out at text) ≡ end
    head = length-append (take at out) (fitting out at text) ∙ ap (λ (n : ℕ). n + length (fitting out at text)) (length-take-le at out h) ∙ sym P.ends

    pub before : take end after ≡ take at out ++ fitting out at text
    before = ap (take end) P.stands ∙ take_at (take at out ++ fitting out at text) (drop end out) end head

    pub rest : drop end after ≡ drop end out
    rest = ap (drop end) P.stands ∙ drop_at (take at out ++ fitting out at text) (drop end out) end head

    kept_inside : length after ≡ length out
    kept_inside =
        ap length P.stands
        ∙ length-append (take at out ++ fitting out at text) (drop end out)
        ∙ omega (arith, head, length-drop end out, inside)

  -- where there is none
  module _ (h : length out ≤ at) where
    none : fitting out at text ≡ []
    none = let z : length out - at ≡ 0 = omega (arith, h) in rw z

    pub stays : end ≡ at
    stays = P.ends ∙ ap (λ (l : List ℕ). at + length l) none ∙ add-zero at

    pub unchanged : after ≡ out
    unchanged = P.stands ∙ ap₂ (λ (l : List ℕ) (n : ℕ). take at out ++ l ++ drop n out) none stays ∙ sym (nothing out at)

  pub kept : length after ≡ length out
  kept = by (either at (length out))
    where
      by : (at ≤ length out) ⊎ (length out ≤ at) → length after ≡ length out
      by (inl h) = kept_inside h
      by (inr h) = ap length (unchanged h)

-- one text after another
module _ {out : List ℕ} {at : ℕ} {a : List ℕ} {end : ℕ} {after : List ℕ} {b : List ℕ} {last : ℕ} {final : List ℕ}
    (P : Puts out at a end after) (Q : Puts after end b last final) where
  -- as much of both as there is room for
  both_fit : at ≤ length out → fitting out at (a ++ b) ≡ fitting out at a ++ fitting after end b
  both_fit h = by (either (length a) (length out - at))
    where
      by : (length a ≤ length out - at) ⊎ (length out - at ≤ length a) → fitting out at (a ++ b) ≡ fitting out at a ++ fitting after end b
      by (inl w) =
          let whole : fitting out at a ≡ a = take_all (length out - at) a w in
          let left : length out - at ≡ length a + (length after - end) = omega (arith, w, kept P, P.ends, ap length whole, h) in
          ap (λ (n : ℕ). take n (a ++ b)) left ∙ take-append-add a b (length after - end) ∙ ap (λ (l : List ℕ). l ++ fitting after end b) (sym whole)
      by (inr w) =
          let full : length (fitting out at a) ≡ length out - at = length-take-le (length out - at) a w in
          let none : length after - end ≡ 0 = omega (arith, kept P, P.ends, full, h) in
          take-append-le (length out - at) a b w ∙ sym (append-nil (fitting out at a)) ∙ ap (λ (n : ℕ). fitting out at a ++ take n b) (sym none)

  pub joined : Puts out at (a ++ b) last final
  joined = by (either at (length out))
    where
      by : (at ≤ length out) ⊎ (length out ≤ at) → Puts out at (a ++ b) last final
      by (inl h) =
          let f = both_fit h in
          let on : end ≤ length after = omega (arith, inside P h, kept P) in
          let more : drop last after ≡ drop last out =
          ap (λ (n : ℕ). drop n after) Q.ends
          ∙ sym (drop-drop (length (fitting after end b)) end after)
          ∙ ap (drop (length (fitting after end b))) (rest P h)
          ∙ drop-drop (length (fitting after end b)) end out
          ∙ ap (λ (n : ℕ). drop n out) (sym Q.ends) in
          record {
            ends = omega (arith, P.ends, Q.ends, ap length f, length-append (fitting out at a) (fitting after end b));
            stands =
                Q.stands
                ∙ ap₂ (λ (l m : List ℕ). l ++ fitting after end b ++ m) (before P h) more
                ∙ ap (λ (l : List ℕ). l ++ drop last out) (append_assoc (take at out) (fitting out at a) (fitting after end b))
                ∙ ap (λ (l : List ℕ). take at out ++ l ++ drop last out) (sym f);
          }
      by (inr h) =
          let e = stays P h in
          let o = unchanged P h in
          let beyond_end : length after ≤ end = omega (arith, e, ap length o, h) in
          let z : last ≡ at = stays Q beyond_end ∙ e in
          let w : final ≡ out = unchanged Q beyond_end ∙ o in
          rw (z, w) (beyond out at (a ++ b) h)

-- spaces, one more
one_more : (n x : ℕ) → replicate n x ++ (x ∷ []) ≡ replicate (suc n) x
one_more zero x = refl
one_more (suc n) x = ap (λ (l : List ℕ). x ∷ l) (one_more n x)

pub another_space : {out : List ℕ} {at : ℕ} (n : ℕ) {end : ℕ} {after : List ℕ} {last : ℕ} {final : List ℕ} → Puts out at (replicate n 0x20) end after
    → Puts after end (0x20 ∷ []) last final → Puts out at (replicate (n + 1) 0x20) last final
another_space {out} {at} n {end} {after} {last} {final} P Q =
    rw (add-one n) (subst (λ (l : List ℕ). Puts out at l last final) (one_more n 0x20) (joined P Q))

-- a column
pub wide_enough : {out : List ℕ} {at width end : ℕ} {text after : List ℕ} → width ≤ length text → Puts out at text end after
    → Puts out at (text ++ replicate (width - length text) 0x20) end after
wide_enough {out} {at} {width} {end} {text} {after} h P =
    let none : width - length text ≡ 0 = omega (arith, h) in
    rw none (subst (λ (l : List ℕ). Puts out at l end after) (sym (append-nil text)) P)

-- a number, alone and in a column
module _ {number : ℕ} (spelling : List ℕ) (n : ℕ) (h : n ≤ length spelling) (few : IsDigitCount 10 1 number n)
    (e : take n spelling ≡ last_digits 10 n number) where
  decimal : Decimal number (take n spelling)
  decimal = let long : length (take n spelling) ≡ n = length-take-le n spelling h in record { few = rw long few; spelled = rw long e }

  pub number_put : {out : List ℕ} {at end : ℕ} {after : List ℕ} → Puts out at (take n spelling) end after → PutsNumber out at number end after
  number_put P = record { text = take n spelling; decimal = decimal; puts = P }

  pub column_put : {out : List ℕ} {at width end : ℕ} {after : List ℕ} → Puts out at (take n spelling ++ replicate (width - length (take n spelling)) 0x20) end after
      → PutsNumberColumn out at number width end after
  column_put P = record { text = take n spelling; decimal = decimal; puts = P }
