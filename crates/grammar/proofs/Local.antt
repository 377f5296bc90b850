-- Where the parser stops, it has looked no further than the first token left; and fuel that is enough is as good as more.
use mathlib.Core.Path.{◌≡◌, refl}
use mathlib.Core.List.{List, [], ◌∷◌, ◌++◌}
use Prim.Native.Nat.{ℕ, zero, suc, ◌+◌, ◌*◌, ◌≤◌, ◌<◌}
use native.Mathlib.Omega.{arith}
use lib.ListN.{length}
use Rattle.grammar.specs.Grammar.{Class, Class-discrete, class, Carry, nothing, carried, Tree}
use Rattle.grammar.specs.Parser.{Result, parsed, stuck, Parser, done, fail, continue, ◌then◌, on, object, alone, short_bounded, short_ordered}
use Rattle.grammar.specs.Parser.{after_operand, parse_simple, parse_condition, parse_chain, parse_term, parse_body}

abbrev pub left : Result → List ℕ
left (parsed t c rest) = rest
left (stuck rest) = rest

-- What the tokens `e` at the end make of a result: a parser that stopped at a token stops there, and one that read all reads on.
abbrev pub Longer : List ℕ → Result → Result → Type 0
Longer e (parsed t c []) s = length (left s) ≤ length e
Longer e (parsed t c (x ∷ rest)) s = s ≡ parsed t c (x ∷ (rest ++ e))
Longer e (stuck []) s = length (left s) ≤ length e
Longer e (stuck (x ∷ rest)) s = s ≡ stuck (x ∷ (rest ++ e))

pub record Local (p : Parser) : Type 0 where
  pub shrinks : (ts : List ℕ) → length (left (p ts)) ≤ length ts
  pub longer : (e ts : List ℕ) → Longer e (p ts) (p (ts ++ e))

ended : (e : List ℕ) (r s : Result) → length (left r) ≤ 0 → length (left s) ≤ length e → Longer e r s
ended e (parsed t c []) s h k = k
ended e (parsed t c (x ∷ rest)) s h k = absurd (omega arith)
ended e (stuck []) s h k = k
ended e (stuck (x ∷ rest)) s h k = absurd (omega arith)

local_done : (t : Tree) (c : Carry) → Local (done t c)
local_done t c = record { shrinks = λ ts. omega arith; longer = λ e. elim [ [] ↦ omega arith | x ∷ ts ↦ refl ] }

local_fail : Local fail
local_fail = record { shrinks = λ ts. omega arith; longer = λ e. elim [ [] ↦ omega arith | x ∷ ts ↦ refl ] }

module _ (k : Class) {p : ℕ → Parser} {q : Parser} (hp : (x : ℕ) → Local (p x)) (hq : Local q) where
  shrinks_on : (ts : List ℕ) → length (left (on k p q ts)) ≤ length ts
  unfolding on
  shrinks_on [] = hq.shrinks []
  shrinks_on (x ∷ ts) = go (Class-discrete (class x) k)
    where
      go : (d : Dec (class x ≡ k)) → length (left (elim d as (λ _. Result) [ yes _ ↦ p x ts | no _ ↦ q (x ∷ ts) ])) ≤ suc (length ts)
      go (yes e) = omega (arith, (hp x).shrinks ts)
      go (no n) = hq.shrinks (x ∷ ts)

  longer_on : (e ts : List ℕ) → Longer e (on k p q ts) (on k p q (ts ++ e))
  unfolding on
  longer_on e [] = ended e (q []) (on k p q e) (hq.shrinks []) (shrinks_on e)
  longer_on e (x ∷ ts) = go (Class-discrete (class x) k)
    where
      go : (d : Dec (class x ≡ k)) →
          Longer
          e
          (elim d as (λ _. Result) [ yes _ ↦ p x ts | no _ ↦ q (x ∷ ts) ])
          (elim d as (λ _. Result) [ yes _ ↦ p x (ts ++ e) | no _ ↦ q (x ∷ (ts ++ e)) ])
      go (yes i) = (hp x).longer e ts
      go (no n) = hq.longer e (x ∷ ts)

local_on : (k : Class) {p : ℕ → Parser} {q : Parser} → ((x : ℕ) → Local (p x)) → Local q → Local (on k p q)
local_on k hp hq = record { shrinks = shrinks_on k hp hq; longer = longer_on k hp hq }

shrinks_continue : (q : Tree → Carry → Parser) → ((t : Tree) (c : Carry) → Local (q t c)) → (r : Result) → length (left (continue r q)) ≤ length (left r)
shrinks_continue q hq (parsed t c rest) = (hq t c).shrinks rest
shrinks_continue q hq (stuck rest) = omega arith

local_then : {p : Parser} {q : Tree → Carry → Parser} → Local p → ((t : Tree) (c : Carry) → Local (q t c)) → Local (p then q)
local_then {p} {q} hp hq =
    record {
      shrinks = λ ts. omega (arith, hp.shrinks ts, shrinks_continue q hq (p ts));
      longer = λ e ts. go e (p ts) (p (ts ++ e)) (hp.longer e ts);
    }
  where
    go : (e : List ℕ) (r s : Result) → Longer e r s → Longer e (continue r q) (continue s q)
    go e (parsed t c []) s h = ended e (q t c []) (continue s q) ((hq t c).shrinks []) (omega (arith, shrinks_continue q hq s))
    go e (parsed t c (x ∷ rest)) s h = rw h ((hq t c).longer e (x ∷ rest))
    go e (stuck []) s h = omega (arith, shrinks_continue q hq s)
    go e (stuck (x ∷ rest)) s h = rw h

local_object : (a n : ℕ) → Local (object a n)
local_object a n = local_on _ (λ b. local_done _ _) local_fail

local_alone : (c : Carry) (a : ℕ) → Local (alone c a)
local_alone nothing a = local_fail
local_alone (carried s n) a = local_done _ _

local_after_operand : (c : Carry) (a : ℕ) → Local (after_operand c a)
local_after_operand c a =
    local_on _ (λ x. local_object a _)
    (local_on _ (λ x. local_object a _)
    (local_on _ (λ x. local_done _ _)
    (local_on _ (λ n. local_on _ (λ x. local_object a _) (local_on _ (λ x. local_done _ _) local_fail))
    (local_alone c a))))

local_short_bounded : (c : Carry) → Local (short_bounded c)
local_short_bounded nothing = local_fail
local_short_bounded (carried a m) = local_on _ (λ x. local_object a _) local_fail

local_short_ordered : (c : Carry) (number : ℕ → ℕ) {p : Parser} → Local p → Local (short_ordered c number p)
local_short_ordered nothing number h = h
local_short_ordered (carried a m) number h = local_on _ (λ x. local_object a _) h

local_simple : (c : Carry) → Local (parse_simple c)
local_simple c = local_on _ (λ a. local_after_operand c a) (local_on _ (λ s. local_done _ _) (local_on _ (λ s. local_done _ _) (local_short_bounded c)))

mutual
  unfolding parse_condition

  pub local_condition : (f : ℕ) (c : Carry) → Local (parse_condition f c)
  local_condition zero c = local_fail
  local_condition (suc f) c =
      local_then (local_chain f c) (λ t d. local_on _ (λ o. local_then (local_condition f d) (λ u e. local_done _ _)) (local_done _ _))

  pub local_chain : (f : ℕ) (c : Carry) → Local (parse_chain f c)
  local_chain zero c = local_fail
  local_chain (suc f) c =
      local_then (local_term f c) (λ t d. local_on _ (λ o. local_then (local_chain f d) (λ u e. local_done _ _)) (local_done _ _))

  pub local_term : (f : ℕ) (c : Carry) → Local (parse_term f c)
  local_term zero c = local_fail
  local_term (suc f) c =
      local_on _ (λ n. local_short_ordered c _ (local_then (local_body f c) (λ t d. local_done _ _)))
      (local_short_ordered c _ (local_body f c))

  pub local_body : (f : ℕ) (c : Carry) → Local (parse_body f c)
  local_body zero c = local_fail
  local_body (suc f) c =
      local_on _ (λ l. local_then (local_condition f nothing) (λ t d. local_on _ (λ r. local_done _ _) local_fail)) (local_simple c)

-- Two parsers agree on at most `n` tokens.
abbrev pub Agree : ℕ → Parser → Parser → Type 0
Agree n p q = (ts : List ℕ) → length ts ≤ n → p ts ≡ q ts

pub agree_on : (n : ℕ) (k : Class) {p p' : ℕ → Parser} {q q' : Parser} →
    ((m : ℕ) → m < n → (x : ℕ) → Agree m (p x) (p' x)) → Agree n q q' → Agree n (on k p q) (on k p' q')
unfolding on
agree_on n k hp hq [] l = hq [] l
agree_on n k {p} {p'} {q} {q'} hp hq (x ∷ ts) l = go (Class-discrete (class x) k)
  where
    go : (d : Dec (class x ≡ k)) →
        ◌≡◌ {A = Result} (elim d [ yes _ ↦ p x ts | no _ ↦ q (x ∷ ts) ]) (elim d [ yes _ ↦ p' x ts | no _ ↦ q' (x ∷ ts) ])
    go (yes e) = hp (length ts) l x ts (omega arith)
    go (no e) = hq (x ∷ ts) l

pub agree_then : (n : ℕ) {p p' : Parser} {q q' : Tree → Carry → Parser} →
    Local p → Agree n p p' → ((t : Tree) (c : Carry) → Agree n (q t c) (q' t c)) → Agree n (p then q) (p' then q')
agree_then n {p} {p'} {q} {q'} h hp hq ts l = rw (← hp ts l) (go (p ts) (h.shrinks ts))
  where
    go : (r : Result) → length (left r) ≤ length ts → continue r q ≡ continue r q'
    go (parsed t c rest) k = hq t c rest (omega arith)
    go (stuck rest) k = refl

pub agree-short_ordered : (n : ℕ) (c : Carry) (number : ℕ → ℕ) {p q : Parser} → Agree n p q → Agree n (short_ordered c number p) (short_ordered c number q)
agree-short_ordered n nothing number h = h
agree-short_ordered n (carried a m) number h = agree_on n _ (λ m' l x ts k. refl) h

mutual
  unfolding parse_condition

  pub agree-condition : (f g n : ℕ) (c : Carry) → 4 * n + 4 ≤ f → 4 * n + 4 ≤ g → Agree n (parse_condition f c) (parse_condition g c)
  agree-condition zero g n c l k = absurd (omega arith)
  agree-condition (suc f) zero n c l k = absurd (omega arith)
  agree-condition (suc f) (suc g) n c l k =
      agree_then n (local_chain f c) (agree_chain f g n c (omega arith) (omega arith)) (λ t d.
      agree_on n _
      (λ m j o. agree_then m (local_condition f d) (agree-condition f g m d (omega arith) (omega arith)) (λ u e ts i. refl))
      (λ ts i. refl))

  pub agree_chain : (f g n : ℕ) (c : Carry) → 4 * n + 3 ≤ f → 4 * n + 3 ≤ g → Agree n (parse_chain f c) (parse_chain g c)
  agree_chain zero g n c l k = absurd (omega arith)
  agree_chain (suc f) zero n c l k = absurd (omega arith)
  agree_chain (suc f) (suc g) n c l k =
      agree_then n (local_term f c) (agree_term f g n c (omega arith) (omega arith)) (λ t d.
      agree_on n _
      (λ m j o. agree_then m (local_chain f d) (agree_chain f g m d (omega arith) (omega arith)) (λ u e ts i. refl))
      (λ ts i. refl))

  pub agree_term : (f g n : ℕ) (c : Carry) → 4 * n + 2 ≤ f → 4 * n + 2 ≤ g → Agree n (parse_term f c) (parse_term g c)
  agree_term zero g n c l k = absurd (omega arith)
  agree_term (suc f) zero n c l k = absurd (omega arith)
  agree_term (suc f) (suc g) n c l k =
      agree_on n _
      (λ m j o.
      agree-short_ordered m c _
      (agree_then m (local_body f c) (agree_body f g m c (omega arith) (omega arith)) (λ t d ts i. refl)))
      (agree-short_ordered n c _ (agree_body f g n c (omega arith) (omega arith)))

  pub agree_body : (f g n : ℕ) (c : Carry) → 4 * n + 1 ≤ f → 4 * n + 1 ≤ g → Agree n (parse_body f c) (parse_body g c)
  agree_body zero g n c l k = absurd (omega arith)
  agree_body (suc f) zero n c l k = absurd (omega arith)
  agree_body (suc f) (suc g) n c l k =
      agree_on n _
      (λ m j o. agree_then m (local_condition f nothing) (agree-condition f g m nothing (omega arith) (omega arith)) (λ t d ts i. refl))
      (λ ts i. refl)
