-- Laws of characters: a side without the sign of its last byte, and sides that are filled on the right and compared from the left.
use mathlib.Core.Path.{◌≡◌, refl, sym, ap, ap₂, ◌∙◌}
use mathlib.Core.Bool.{Bool, true, false, false≢true, ◌&&◌, ◌||◌}
use mathlib.Core.List.{List, [], ◌∷◌, ◌++◌}
use Prim.Native.Nat.{ℕ, zero, suc, ◌+◌, ◌-◌, ◌%◌, ◌≤◌, ◌<◌, max}
use native.Mathlib.Omega.{arith}
use native.Mathlib.Numerals.{add-one}
use lib.Dec.{eqb}
use lib.ListN.{length, get_or, take, drop, replicate, take-append-drop, drop_of_length-le, length-append, length-take, length-replicate, get_or-replicate, get_or-append, get_or-eq_default}
use lib.Seq.{take-suc, take-take, take-add, take-append-le, drop-cons, get_or_at, get_or-take}
use borrow.Author.Tests.{eqb-true, eqb-false}
use Rattle.content.specs.Content.{unsigned_last, last_byte, but_last}
use Rattle.std.specs.declared.cmp.Ordering.{Ordering}
use Rattle.std.specs.declared.cmp.Ordering.TheVariants.{Less, Equal, Greater}
use Rattle.compare.specs.Order.{order}
use Rattle.compare.specs.Compared.{then_order, byte_order, filled, character_order}
use Rattle.compare.proofs.OrderLaws.{order_lt, order_eq, order_gt}
use Rattle.compare.proofs.FilledLaws.{drop-filled, drop_past, filled-parts}

-- an element that is there does not go by the default
get_d_any : (xs : List ℕ) (i d e : ℕ) → i < length xs → get_or xs i d ≡ get_or xs i e
get_d_any [] i d e h = absurd (omega arith)
get_d_any (x ∷ xs) zero d e h = refl
get_d_any (x ∷ xs) (suc i) d e h = get_d_any xs i d e (omega arith)

-- a side without the sign of its last byte: how many characters it has
pub unsigned_length : (s : Bool) (xs : List ℕ) → 1 ≤ length xs → length (unsigned_last s xs) ≡ length xs
unsigned_length true xs h = simp (length-append, length-take) (omega arith)
unsigned_length false xs h = refl

-- what stands at i, past the bytes, in the last byte or before it
pub unsigned_past : (s : Bool) (xs : List ℕ) (i : ℕ) → 1 ≤ length xs → length xs ≤ i → get_or (unsigned_last s xs) i 0x20 ≡ 0x20
unsigned_past s xs i p h = get_or-eq_default (unsigned_last s xs) 0x20 (omega (arith, unsigned_length s xs p))

pub unsigned_last_lem : (s : Bool) (xs : List ℕ) (i : ℕ) → s && eqb (i + 1) (length xs) ≡ true
    → get_or (unsigned_last s xs) i 0x20 ≡ 0x30 + get_or xs i 0 % 16
unsigned_last_lem true xs i e =
    let h : i + 1 ≡ length xs = eqb-true (i + 1) (length xs) e in
    get_or_at (but_last xs) (0x30 + last_byte xs % 16) [] 0x20 i (simp length-take (omega arith))
    ∙ ap (λ (j : ℕ). 0x30 + get_or xs j 0 % 16) {x = length xs - 1} {y = i} (omega arith)
unsigned_last_lem false xs i e = absurd (false≢true e)

pub unsigned_before : (s : Bool) (xs : List ℕ) (i : ℕ) → i < length xs → s && eqb (i + 1) (length xs) ≡ false
    → get_or (unsigned_last s xs) i 0x20 ≡ get_or xs i 0
unsigned_before true xs i h e =
    let n = eqb-false (i + 1) (length xs) e in
    get_or-append (but_last xs) ((0x30 + last_byte xs % 16) ∷ []) 0x20 i (simp length-take (omega arith))
    ∙ get_or-take (length xs - 1) xs i 0x20 (omega arith)
    ∙ get_d_any xs i 0x20 0 h
unsigned_before false xs i h e = get_d_any xs i 0x20 0 h

-- sides that begin alike: one byte more, a block more, and the characters of sides without a sign
module _ (xs ys : List ℕ) where
  pub alike_more : (same : Bool) (k : ℕ) → k < length xs → k < length ys → (same ≡ true → take k xs ≡ take k ys)
      → same && eqb (get_or xs k 0) (get_or ys k 0) ≡ true → take (k + 1) xs ≡ take (k + 1) ys
  alike_more true k hx hy before e =
      rw (add-one, take-suc xs k 0 hx, take-suc ys k 0 hy, before refl, eqb-true (get_or xs k 0) (get_or ys k 0) e)
  alike_more false k hx hy before e = absurd (false≢true e)

  pub alike_block : (i n : ℕ) → n ≤ length xs - i → n ≤ length ys - i → take i xs ≡ take i ys
      → take n (take (length xs - i) (drop i xs)) ≡ take n (take (length ys - i) (drop i ys))
      → take (i + n) xs ≡ take (i + n) ys
  alike_block i n hx hy before block =
      take-add i n xs
      ∙ ap₂ ◌++◌ before (sym (take-take n _ (drop i xs) hx) ∙ block ∙ take-take n _ (drop i ys) hy)
      ∙ sym (take-add i n ys)

  pub alike_unsigned : (s t : Bool) (i : ℕ) → s || t ≡ false → take i xs ≡ take i ys
      → take i (unsigned_last s xs) ≡ take i (unsigned_last t ys)
  alike_unsigned false false i e same = same
  alike_unsigned false true i e same = absurd (false≢true (sym e))
  alike_unsigned true t i e same = absurd (false≢true (sym e))

-- how two lists that are filled to n compare from i on
abbrev order_from : ℕ → List ℕ → List ℕ → ℕ → Ordering
order_from n xs ys i = byte_order (drop i (filled n xs)) (drop i (filled n ys))

-- filled to n, the length of the longer, two lists agree before i: what follows decides
pub record Agree (n : ℕ) (xs ys : List ℕ) (i : ℕ) : Type 0 where
  pub longest : n ≡ max (length xs) (length ys)
  pub after : character_order xs ys ≡ order_from n xs ys i

-- a beginning that both have decides nothing
byte_skip : (p xs ys : List ℕ) → byte_order (p ++ xs) (p ++ ys) ≡ byte_order xs ys
unfolding byte_order
byte_skip [] xs ys = refl
byte_skip (b ∷ p) xs ys = rw (order_eq b b refl) (byte_skip p xs ys)

pub agree-start : {n : ℕ} {xs ys : List ℕ} (i : ℕ) → n ≡ max (length xs) (length ys) → i ≤ length xs → i ≤ length ys
    → take i xs ≡ take i ys → Agree n xs ys i
agree-start {n} {xs} {ys} i e hx hy same =
    record {
      longest = e;
      after =
          ap (λ (m : ℕ). byte_order (filled m xs) (filled m ys)) (sym e)
          ∙ ap₂ byte_order
          (filled-parts n xs i hx ∙ ap (λ (p : List ℕ). p ++ drop i (filled n xs)) same)
          (filled-parts n ys i hy)
          ∙ byte_skip (take i ys) (drop i (filled n xs)) (drop i (filled n ys));
    }

module _ {n : ℕ} {xs ys : List ℕ} {i : ℕ} (agree : Agree n xs ys i) where
  pub agree_end : n ≤ i → character_order xs ys ≡ Equal
  unfolding byte_order
  agree_end h = agree.after ∙ ap₂ byte_order (drop_past n xs i (omega arith) h) (drop_past n ys i (omega arith) h)

  module _ {x y : ℕ} (h : i < n) (ex : x ≡ get_or xs i 0x20) (ey : y ≡ get_or ys i 0x20) where
    agree_at : (o : Ordering) → order x y ≡ o → character_order xs ys ≡ then_order o (order_from n xs ys (i + 1))
    unfolding byte_order
    agree_at o e =
        agree.after
        ∙ ap₂ byte_order (drop-filled n xs i (omega arith) h) (drop-filled n ys i (omega arith) h)
        ∙ ap (λ (t : Ordering). then_order t (order_from n xs ys (i + 1))) (ap₂ order (sym ex) (sym ey) ∙ e)

    pub agree_less : x < y → character_order xs ys ≡ Less
    agree_less l = agree_at Less (order_lt x y l)

    pub agree_greater : y < x → character_order xs ys ≡ Greater
    agree_greater g = agree_at Greater (order_gt x y g)

    pub agree_more : y ≤ x → x ≤ y → Agree n xs ys (i + 1)
    agree_more g l = record { longest = agree.longest; after = agree_at Equal (order_eq x y (omega arith)) }
