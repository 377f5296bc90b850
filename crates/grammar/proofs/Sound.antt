-- What the parser accepts is derived; and where it is stuck, what it has read begins a derived sequence.
use mathlib.Core.Path.{◌≡◌, refl, sym, ap, ◌∙◌}
use mathlib.Core.Logic.{⊎_elim}
use mathlib.Core.List.Memᴰ
use mathlib.Core.List.{List, [], ◌∷◌, ◌++◌, append-nil, append_assoc, Memᴰ}
use mathlib.Core.Bool.{true, false, true≢false}
use Prim.Native.Nat.{ℕ, zero, suc, ◌/◌, ◌%◌}
use native.Mathlib.Omega.{arith}
use native.Mathlib.Decide.{ℕ_discrete}
use borrow.Author.Tests.{le-ltb}
use lib.Dec.{ltb}
use lib.Seq.{append_snoc}
use Rattle.grammar.specs.Grammar.{Class, operand, switch, closing, not, order, test, Class-discrete, class, Is, Carry, nothing, carried}
use Rattle.grammar.specs.Grammar.{Tree, simple, Stated, Relation, Simple, Logical, logical, Condition, Chain, Term, Body, Tabled}
use Rattle.tables.specs.Tokens.{exists}
use Rattle.grammar.specs.Parser.{Result, parsed, stuck, Parser, done, fail, continue, ◌then◌, on, object, alone, short_bounded}
use Rattle.grammar.specs.Parser.{after_operand, parse_simple, parse_condition, parse_chain, parse_term, parse_body}
use Rattle.grammar.proofs.Spelling.{spelled}

abbrev pub Derived : Type 1
Derived = List ℕ → Tree → Carry → Type 0

-- Every token of the second list that the tables decide of stands in the first.
abbrev pub Held : List ℕ → List ℕ → Type 0
Held seen vs = (x : ℕ) → Memᴰ x vs → Tabled x → Memᴰ x seen

-- operands are such tokens
operand_tabled : (x : ℕ) → Is operand x → Tabled x
operand_tabled x i =
    let none : ltb (x % 65536) 0 ≡ false = le-ltb (x % 65536) 0 (omega arith) in
    elim (ℕ_discrete (x / 65536) 0) [
      | yes e ↦ simp (e, none)
      | no n ↦ let e : x / 65536 ≡ 1 = omega (arith, spelled x i) in simp (e, none)
    ]

-- A carried subject is an operand that has been seen: it can serve as an object.
pub data Known (seen : List ℕ) : Carry → Type 0 where
  none : Known seen nothing
  some : {a m : ℕ} → Is operand a → Memᴰ a seen → Known seen (carried a m)

still : {seen us : List ℕ} {c : Carry} → Held us seen → Known seen c → Known us c
still g none = none
still g (some {a = a} i s) = some i (g a s (operand_tabled a i))

later : {seen : List ℕ} {c : Carry} (us : List ℕ) → Known seen c → Known (seen ++ us) c
later us k = still (λ x m i. Memᴰ.append_left us m) k

-- Of `D` and the tokens `ts`, before which those of `seen` stand, the result is right: what is read is derived, or begins what
-- is derived and is completed with no row of a table but what has been seen.
pub data Outcome (seen : List ℕ) (D : Derived) (ts : List ℕ) : Result → Type 0 where
  derived : {t : Tree} {c : Carry} {rest : List ℕ} (us : List ℕ) →
      ts ≡ us ++ rest → D us t c → Known (seen ++ us) c → Outcome seen D ts (parsed t c rest)
  begun : {t : Tree} {c : Carry} {rest : List ℕ} (us vs : List ℕ) →
      ts ≡ us ++ rest → D (us ++ vs) t c → Known (seen ++ us) c → Held (seen ++ us) vs → Outcome seen D ts (stuck rest)

abbrev pub Good : List ℕ → Derived → Parser → Type 0
Good seen D p = (ts : List ℕ) → Outcome seen D ts (p ts)

good_done : {seen : List ℕ} {D : Derived} {t : Tree} {c : Carry} → Known seen c → D [] t c → Good seen D (done t c)
good_done k h ts = derived [] refl h (later _ k)

good_fail : {seen : List ℕ} {D : Derived} (v : ℕ) (t : Tree) (c : Carry) →
    (Tabled v → Memᴰ v seen) → Known seen c → D (v ∷ []) t c → Good seen D fail
good_fail v t c g k h ts =
    begun [] (v ∷ []) refl h (later _ k) (λ x m i. let e : x ≡ v = Memᴰ.eq_of_singleton m in rw append-nil (Memᴰ.cast e (g (rw e at i))))

good_cons : {seen : List ℕ} {D : Derived} (x : ℕ) (ts : List ℕ) (r : Result) →
    Outcome (seen ++ x ∷ []) (λ us. D (x ∷ us)) ts r → Outcome seen D (x ∷ ts) r
good_cons x ts (parsed t c rest) (derived us e h k) = derived (x ∷ us) (ap (λ (l : List ℕ). x ∷ l) e) h (rw append_snoc at k)
good_cons x ts (stuck rest) (begun us vs e h k g) =
    begun (x ∷ us) vs (ap (λ (l : List ℕ). x ∷ l) e) h (rw append_snoc at k) (rw append_snoc at g)

good_on : {seen : List ℕ} {D : Derived} {j : Class} {p : ℕ → Parser} {q : Parser} →
    ((x : ℕ) → Is j x → Good (seen ++ x ∷ []) (λ us. D (x ∷ us)) (p x)) → Good seen D q → Good seen D (on j p q)
unfolding on
good_on hp hq [] = hq []
good_on {seen} {D} {j} {p} {q} hp hq (x ∷ ts) = go (Class-discrete (class x) j)
  where
    go : (d : Dec (class x ≡ j)) → Outcome seen D (x ∷ ts) (elim d [ yes _ ↦ p x ts | no _ ↦ q (x ∷ ts) ])
    go (yes e) = good_cons x ts (p x ts) (hp x (record { is = e }) ts)
    go (no n) = hq (x ∷ ts)

good_append : {seen : List ℕ} {D : Derived} (ts us rest : List ℕ) (r : Result) →
    ts ≡ us ++ rest → Outcome (seen ++ us) (λ vs. D (us ++ vs)) rest r → Outcome seen D ts r
good_append ts us rest (parsed t c l) e (derived vs e' h k) =
    derived {rest = l} (us ++ vs) (e ∙ rw (e', append_assoc)) h (rw append_assoc at k)
good_append ts us rest (stuck l) e (begun {t = t} {c = c} vs ws e' h k g) =
    begun {t = t} {c = c} {rest = l} (us ++ vs) ws (e ∙ rw (e', append_assoc)) (rw append_assoc h) (rw append_assoc at k) (rw append_assoc at g)

good_then : {seen : List ℕ} {D E : Derived} {p : Parser} {q : Tree → Carry → Parser} →
    Good seen D p →
    ((us : List ℕ) (t : Tree) (c : Carry) → D us t c → Known (seen ++ us) c → Good (seen ++ us) (λ vs. E (us ++ vs)) (q t c)) →
    Good seen E (p then q)
good_then {seen} {D} {E} {p} {q} hp hq ts = go (p ts) (hp ts)
  where
    -- where `p` is stuck, `q` on no tokens completes what `p` has begun, and needs no more than `p` has seen
    reach : (us vs : List ℕ) → Held (seen ++ us) vs → Held (seen ++ us) (seen ++ (us ++ vs) ++ [])
    reach us vs g x m i =
        ⊎_elim (λ (n : Memᴰ x (seen ++ us)). n) (λ (n : Memᴰ x vs). g x n i)
        (Memᴰ.append_cases (seen ++ us) (rw (append-nil, ← append_assoc seen us vs) at m))

    ending : (us vs rest : List ℕ) (r : Result) → ts ≡ us ++ rest → Held (seen ++ us) vs →
        Outcome (seen ++ (us ++ vs)) (λ ws. E (us ++ vs ++ ws)) [] r → Outcome seen E ts (stuck rest)
    ending us vs rest (parsed t c l) e g (derived [] e' h k) =
        begun {t = t} {c = c} us vs e (rw append-nil at h) (still (reach us vs g) k) g
    ending us vs rest (parsed t c l) e g (derived (w ∷ ws) e' h k) = let z : ◌≡◌ {A = ℕ} 0 1 = cc in absurd (omega arith)
    ending us vs rest (stuck l) e g (begun {t = t} {c = c} [] xs e' h k f) =
        begun {t = t} {c = c} us (vs ++ xs) e (rw (← append_assoc us vs xs) h) (still (reach us vs g) k) (λ x m i.
        ⊎_elim (λ (n : Memᴰ x vs). g x n i) (λ (n : Memᴰ x xs). reach us vs g x (f x n i) i) (Memᴰ.append_cases vs m))
    ending us vs rest (stuck l) e g (begun (w ∷ ws) xs e' h k f) = let z : ◌≡◌ {A = ℕ} 0 1 = cc in absurd (omega arith)

    go : (r : Result) → Outcome seen D ts r → Outcome seen E ts (continue r q)
    go (parsed t c rest) (derived us e h k) = good_append ts us rest (q t c rest) e (hq us t c h k rest)
    go (stuck rest) (begun {t = t} {c = c} us vs e h k g) =
        ending us vs rest (q t c []) e g (hq (us ++ vs) t c h (rw append_assoc at (later vs k)) [])

good_as : {seen : List ℕ} {D E : Derived} {p : Parser} →
    ((us : List ℕ) (t : Tree) (c : Carry) → D us t c → E us t c) → Good seen D p → Good seen E p
good_as {seen} {D} {E} {p} h hp ts = go (p ts) (hp ts)
  where
    go : (r : Result) → Outcome seen D ts r → Outcome seen E ts r
    go (parsed t c rest) (derived us e d k) = derived us e (h us t c d) k
    go (stuck rest) (begun {t = t} {c = c} us vs e d k g) = begun us vs e (h (us ++ vs) t c d) k g

abbrev pub Differ : Class → Class → Type 0
Differ j k = elim (Class-discrete j k) as (λ _. Type 0) [ yes _ ↦ ⊥ | no _ ↦ Unit {0} ]

-- A token has one class.
pub apart : {j k : Class} {x : ℕ} → Is j x → Differ j k → ¬ Is k x
apart {j} {k} {x} i d h = go (Class-discrete j k) d
  where
    go : (e : Dec (j ≡ k)) → elim e as (λ _. Type 0) [ yes _ ↦ ⊥ | no _ ↦ Unit {0} ] → ⊥
    go (yes e) f = f
    go (no n) f = n (sym i.is ∙ h.is)

pub is_logical : {j : Class} {x : ℕ} {ts : List ℕ} → Is j x → Differ j order → Differ j not → Logical (x ∷ ts)
is_logical i d e = logical (apart i d) (apart i e)

-- A switch, ")" and NUMERIC, which complete what is begun.
is_switch_lem : Is switch 131072
unfolding class
is_switch_lem = record { is = refl }

is_closing : Is closing 262145
unfolding class
is_closing = record { is = refl }

is_numeric_lem : Is test 262154
unfolding class
is_numeric_lem = record { is = refl }

good_word : {seen : List ℕ} {D : Derived} (v : ℕ) (t : Tree) → exists false 0 0 v ≡ true → D (v ∷ []) t nothing → Good seen D fail
good_word v t there h = good_fail v t nothing (λ e. absurd (true≢false (sym there ∙ e))) none h

-- The token `x` has been read after the subject.
good_object : {seen : List ℕ} {D : Derived} {a m : ℕ} (x n : ℕ) → Known seen (carried a m) →
    ((b : ℕ) → Is operand b → D (b ∷ []) (simple a n b) (carried a n)) → Good (seen ++ x ∷ []) D (object a n)
good_object {a} x n (some i s) h =
    good_on (λ b j. good_done (later _ (later _ (some i s))) (h b j)) (good_fail a _ _ (λ _. Memᴰ.append_left _ s) (later _ (some i s)) (h a i))

good_alone : {seen : List ℕ} (c : Carry) (a : ℕ) → Is operand a → Known seen c → Good seen (λ us. Simple c (a ∷ us)) (alone c a)
good_alone nothing a i k = good_word 262154 _ refl (Simple.tested i (Stated.plain is_numeric_lem))
good_alone (carried b m) a i k = good_done k (Simple.bare i)

good_after_operand : {seen : List ℕ} (c : Carry) (a : ℕ) → Is operand a → Memᴰ a seen → Known seen c →
    Good seen (λ us. Simple c (a ∷ us)) (after_operand c a)
good_after_operand c a i s k =
    good_on (λ x j. good_object {m = 0} x _ (some i s) (λ b l. Simple.full i (Relation.ordered (Stated.plain j)) l))
    (good_on (λ x j. good_object {m = 0} x _ (some i s) (λ b l. Simple.full i (Relation.bounded j) l))
    (good_on (λ x j. good_done none (Simple.tested i (Stated.plain j)))
    (good_on (λ n h.
    good_on (λ x j. good_object {m = 0} x _ (later _ (some i s)) (λ b l. Simple.full i (Relation.ordered (Stated.with_not h j)) l))
    (good_on (λ x j. good_done none (Simple.tested i (Stated.with_not h j)))
    (good_word 262154 _ refl (Simple.tested i (Stated.with_not h is_numeric_lem)))))
    (good_alone c a i k))))

-- A simple condition, or a body, before which a NOT is logical.
abbrev Plain : Carry → Derived
Plain c ts t d = Simple c ts t d × Logical ts

abbrev Inner : Carry → Derived
Inner c ts t d = Body c ts t d × Logical ts

good_short_bounded : {seen : List ℕ} (c : Carry) → Known seen c → Good seen (Plain c) (short_bounded c)
good_short_bounded nothing k = good_word 131072 _ refl (Simple.switched is_switch_lem, is_logical is_switch_lem tt tt)
good_short_bounded (carried a m) k =
    good_on (λ x j. good_object x _ k (λ b l. (Simple.short (Relation.bounded j) l, is_logical j tt tt)))
    (good_word 131072 _ refl (Simple.switched is_switch_lem, is_logical is_switch_lem tt tt))

good_simple : {seen : List ℕ} (c : Carry) → Known seen c → Good seen (Plain c) (parse_simple c)
good_simple {seen} c k =
    good_on (λ a i. good_as (λ us t d h. (h, is_logical i tt tt)) (good_after_operand c a i (Memᴰ.append_right seen (Memᴰ.head refl)) (later _ k)))
    (good_on (λ s i. good_done none (Simple.switched i, is_logical i tt tt))
    (good_on (λ s i. good_done none (Simple.named i, is_logical i tt tt)) (good_short_bounded c k)))

a_body : (c : Carry) → Body c (131072 ∷ []) (simple 131072 0 0) nothing
a_body c = Body.one (Simple.switched is_switch_lem)

mutual
  unfolding parse_condition

  pub good_condition : (f : ℕ) {seen : List ℕ} (c : Carry) → Known seen c → Good seen (Condition c) (parse_condition f c)
  good_condition zero c k = good_word 131072 _ refl (Condition.chain (Chain.term (Term.body (a_body c))))
  good_condition (suc f) c k =
      good_then (good_chain f c k) (λ us t d h l.
      good_on (λ o i. good_then (good_condition f d (later _ l)) (λ vs u e g m. good_done m (rw append-nil (Condition.ors h i g))))
      (good_done l (rw append-nil (Condition.chain h))))

  pub good_chain : (f : ℕ) {seen : List ℕ} (c : Carry) → Known seen c → Good seen (Chain c) (parse_chain f c)
  good_chain zero c k = good_word 131072 _ refl (Chain.term (Term.body (a_body c)))
  good_chain (suc f) c k =
      good_then (good_term f c k) (λ us t d h l.
      good_on (λ o i. good_then (good_chain f d (later _ l)) (λ vs u e g m. good_done m (rw append-nil (Chain.ands h i g))))
      (good_done l (rw append-nil (Chain.term h))))

  pub good_term : (f : ℕ) {seen : List ℕ} (c : Carry) → Known seen c → Good seen (Term c) (parse_term f c)
  good_term zero c k = good_word 131072 _ refl (Term.body (a_body c))
  good_term (suc f) nothing k =
      good_on (λ n i. good_then (good_body f nothing none) (λ us t d h l. good_done l (rw append-nil (Term.negation i h.1 h.0))))
      (good_as (λ us t d h. Term.body h.0) (good_body f nothing none))
  good_term (suc f) (carried a m) k =
      good_on (λ n i.
      good_on (λ x j. good_object x _ (later _ k) (λ b l. Term.body (Body.one (Simple.short (Relation.ordered (Stated.with_not i j)) l))))
      (good_then (good_body f (carried a m) (later _ k)) (λ us t d h l. good_done l (rw append-nil (Term.negation i h.1 h.0)))))
      (good_on (λ x j. good_object x _ k (λ b l. Term.body (Body.one (Simple.short (Relation.ordered (Stated.plain j)) l))))
      (good_as (λ us t d h. Term.body h.0) (good_body f (carried a m) k)))

  pub good_body : (f : ℕ) {seen : List ℕ} (c : Carry) → Known seen c → Good seen (Inner c) (parse_body f c)
  good_body zero c k = good_word 131072 _ refl (a_body c, is_logical is_switch_lem tt tt)
  good_body (suc f) c k =
      good_on (λ l i. good_then (good_condition f nothing none) (λ us t d h m.
      good_on (λ r j. good_done none (Body.brackets i h j, is_logical i tt tt))
      (good_word 262145 _ refl (Body.brackets i h is_closing, is_logical i tt tt))))
      (good_as (λ us t d h. (Body.one h.0, h.1)) (good_simple c k))
