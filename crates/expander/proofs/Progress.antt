-- How far the expander has come: what it has spelled, and that it goes on from what is carried.
use mathlib.Core.Path.{◌≡◌, refl, sym, ◌∙◌}
use mathlib.Core.List.{List, [], ◌∷◌, ◌++◌, append-nil, append_assoc}
use Prim.Native.Nat.{ℕ, zero, suc, ◌+◌, ◌-◌, ◌*◌, ◌≤◌, ◌<◌, ◌%◌}
use native.Mathlib.Omega.{arith}
use lib.ListN.{length, drop, length-append, drop_of_length-le}
use Rattle.simples.specs.declared.Carried.{Carried}
use Rattle.simples.specs.declared.Single.{Single}
use Rattle.std.proofs.Common.{Result, Ok, Err}
use Rattle.grammar.specs.Grammar.{Class, operand, switch, opening, closing, not, and, or, order, bound, test, name, Class-discrete, class, Is}
use Rattle.grammar.specs.Grammar.{Carry, nothing, carried, simple}
use Rattle.grammar.specs.Parser.{Result as Parsing, parsed, stuck, Parser, on, object, alone, short_bounded, short_ordered, parse_simple}
use Rattle.simples.specs.Reads.{carry_of, Found, Reads}
use Rattle.grammar.specs.Expanded.{full_form, expanded}
use Rattle.expander.specs.Spelled.{part, parts_spelled, spelled}
use Rattle.grammar.proofs.Spelling.{order_token, bound_token, test_token}
use Rattle.grammar.proofs.Size.{stated_width, full_width}
use Rattle.simples.proofs.Resolving.{carries_none}
use Rattle.expander.proofs.Spelled.{none_left}

-- A relation is below 64, read or carried: a word's number, plus 32 where NOT belongs to it.
abbrev Low : Carry → Type 0
Low nothing = Unit {0}
Low (carried a m) = m < 64

data Low-result : Parsing → Type 0 where
  low : {a n b : ℕ} {c : Carry} {rest : List ℕ} → n < 64 → Low c → Low-result (parsed (simple a n b) c rest)
  none : {rest : List ℕ} → Low-result (stuck rest)

abbrev Lows : Parser → Type 0
Lows p = (ts : List ℕ) → Low-result (p ts)

lows_on : (k : Class) {p : ℕ → Parser} {q : Parser} → ((x : ℕ) → Is k x → Lows (p x)) → Lows q → Lows (on k p q)
unfolding on
lows_on k hp hq [] = hq []
lows_on k {p} {q} hp hq (x ∷ ts) = go (Class-discrete (class x) k)
  where
    go : (d : Dec (class x ≡ k)) → Low-result (elim d as (λ _. Parsing) [ yes _ ↦ p x ts | no _ ↦ q (x ∷ ts) ])
    go (yes e) = hp x (record { is = e }) ts
    go (no n) = hq (x ∷ ts)

lows_object : (a n : ℕ) → n < 64 → Lows (object a n)
lows_object a n l = lows_on operand (λ b i ts. low l l) (λ ts. none)

lows_alone : (c : Carry) → Low c → (b : ℕ) → Lows (alone c b)
lows_alone nothing l b ts = none
lows_alone (carried a m) l b ts = low l l

lows_bounded : (c : Carry) → Lows (short_bounded c)
lows_bounded nothing ts = none
lows_bounded (carried a m) ts = lows_on bound (λ w i. lows_object a (w % 65536) (omega (arith, bound_token w i))) (λ ts. none) ts

lows_ordered : (c : Carry) (number : ℕ → ℕ) → ((n : ℕ) → n ≤ 7 → number n < 64) → {p : Parser} → Lows p → Lows (short_ordered c number p)
lows_ordered nothing number l h ts = h ts
lows_ordered (carried a m) number l h ts =
    lows_on order (λ w i. lows_object a (number (w % 65536)) (l (w % 65536) (omega (arith, order_token w i)))) h ts

lows_simple : (c : Carry) → Low c → Lows (parse_simple c)
lows_simple c l =
    lows_on operand (λ a i.
    lows_on order (λ w j. lows_object a (w % 65536) (omega (arith, order_token w j)))
    (lows_on bound (λ w j. lows_object a (w % 65536) (omega (arith, bound_token w j)))
    (lows_on test (λ w j ts. low (omega (arith, test_token w j)) tt)
    (lows_on not (λ n j.
    lows_on order (λ w k. lows_object a (w % 65536 + 32) (omega (arith, order_token w k)))
    (lows_on test (λ w k ts. low (omega (arith, test_token w k)) tt) (λ ts. none)))
    (lows_alone c l a)))))
    (lows_on switch (λ s i ts. low (omega arith) tt)
    (lows_on name (λ s i ts. low (omega arith) tt) (lows_bounded c)))

lows_part : (c : Carry) → Low c → Lows (part c)
lows_part c l =
    lows_on opening (λ x i ts. low (omega arith) tt)
    (lows_on closing (λ x i ts. low (omega arith) tt)
    (lows_on and (λ x i ts. low (omega arith) l)
    (lows_on or (λ x i ts. low (omega arith) l)
    (lows_on not (λ x i. lows_ordered c (λ n. n + 32) (λ n h. omega arith) (λ ts. low (omega arith) l))
    (lows_ordered c (λ n. n) (λ n h. omega arith) (lows_simple c l))))))

low_row : {a n b : ℕ} {c : Carry} {rest : List ℕ} {r : Parsing} → r ≡ parsed (simple a n b) c rest → Low-result r → (n < 64) × Low c
low_row {a} {n} {b} {c} {rest} e h = go (rw e at h)
  where
    go : Low-result (parsed (simple a n b) c rest) → (n < 64) × Low c
    go (low l k) = (l, k)

-- `w`, so many numbers, is spelled of the tokens before `at`; the rest will be, from what is carried.
pub record Progress (tokens w : List ℕ) (at count : ℕ) (carry : Carried) : Type 0 where
  pub within : at ≤ length tokens
  pub size : count ≡ length w
  pub short : count ≤ 4 * at
  small : Low (carry_of carry)
  parts : ℕ
  enough : length tokens - at ≤ parts
  says : spelled tokens ≡ w ++ parts_spelled parts (carry_of carry) (drop at tokens)

pub start : (tokens : List ℕ) {carry : Carried} → carry.relation ≡ 0 → Progress tokens [] 0 0 carry
unfolding spelled
start tokens {carry} e =
    let n : carry_of carry ≡ nothing = carries_none carry e in
    record {
      within = omega arith;
      size = refl;
      short = omega arith;
      small = rw n tt;
      parts = length tokens;
      enough = omega arith;
      says = rw n;
    }

module _ {tokens w : List ℕ} {at count : ℕ} {carry : Carried} (p : Progress tokens w at count carry) where
  pub upto : count ≤ length (spelled tokens)
  upto = rw p.says (omega (arith, length-append w (parts_spelled p.parts (carry_of carry) (drop at tokens)), p.size))

  pub ended : length tokens ≤ at → spelled tokens ≡ w
  ended l = rw (p.says, drop_of_length-le tokens l, none_left, append-nil)

  pub halted : (r : Result Single ℕ) → Reads (part (carry_of carry)) 1 tokens at r → ((s : Single) → r ≡ Ok s → ⊥) → spelled tokens ≡ w
  unfolding parts_spelled
  halted (Ok s) h n = absurd (n s refl)
  halted (Err place) h n = go p.parts p.says
    where
      go : (parts : ℕ) → spelled tokens ≡ w ++ parts_spelled parts (carry_of carry) (drop at tokens) → spelled tokens ≡ w
      go zero q = rw append-nil at q
      go (suc parts) q =
          let g : part (carry_of carry) (drop at tokens) ≡ stuck (drop place tokens) = h.found in
          rw (g, append-nil) at q

  pub further : {r : Result Single ℕ} {s : Single} → at < length tokens → Reads (part (carry_of carry)) 1 tokens at r → r ≡ Ok s →
      let form = full_form s.subject s.relation s.object in
      Progress tokens (w ++ form) s.next (count + length form) s.carry × (s.relation < 64) × (at < s.next)
  unfolding parts_spelled expanded
  further {s = s} l h e = go p.parts p.enough p.says
    where
      form : List ℕ
      form = full_form s.subject s.relation s.object

      read : Reads (part (carry_of carry)) 1 tokens at (Ok s)
      read = rw e at h

      go : (parts : ℕ) → length tokens - at ≤ parts → spelled tokens ≡ w ++ parts_spelled parts (carry_of carry) (drop at tokens) →
          Progress tokens (w ++ form) s.next (count + length form) s.carry × (s.relation < 64) × (at < s.next)
      go zero k q = absurd (omega arith)
      go (suc parts) k q =
          let g : part (carry_of carry) (drop at tokens) ≡ parsed (simple s.subject s.relation s.object) (carry_of s.carry) (drop s.next tokens) = read.found in
          let (below, kept) = low_row g (lows_part (carry_of carry) p.small (drop at tokens)) in
          let wide : length form ≤ 4 = omega (arith, full_width s.subject s.relation s.object, stated_width s.relation) in (
            record {
              within = read.upto;
              size = omega (arith, p.size, length-append w form);
              short = omega (arith, p.short, read.from);
              small = kept;
              parts = parts;
              enough = omega (arith, read.from);
              says = rw g at q ∙ sym (append_assoc w form _);
            },
            below,
            omega (arith, read.from),
          )
