-- What the expander spells of an accepted sequence is the expanded form of its tree.
use mathlib.Core.Path.{◌≡◌, refl, ◌∙◌}
use mathlib.Core.List.{List, [], ◌∷◌, ◌++◌, append-nil, append_assoc}
use Prim.Native.Nat.{ℕ, zero, suc, ◌+◌, ◌≤◌}
use native.Mathlib.Omega.{arith}
use lib.ListN.{length, length-append}
use Rattle.grammar.specs.Grammar.{operand, switch, bound, name, Is, Carry, nothing, carried, Tree, simple}
use Rattle.grammar.specs.Grammar.{Stated, Relation, Simple, Logical, Condition, Chain, Term, Body}
use Rattle.grammar.specs.Parser.{parsed, on, parse_simple, accepted, read}
use Rattle.grammar.specs.Expanded.{expanded}
use Rattle.expander.specs.Spelled.{part, parts_spelled, spelled}
use Rattle.grammar.proofs.Sound.{is_logical}
use Rattle.grammar.proofs.Complete.{Ends, at, complete_simple, skip_order}
use Rattle.grammar.proofs.Reading.{sound}
use Rattle.grammar.proofs.Spelling.{opening_token, closing_token, not_token, and_token, or_token}
use Rattle.grammar.proofs.Expansion.{full-switch}

-- Of the tokens `us` before `rest`, `out` is spelled, and then `rest` from the carry `d`, with parts enough left for it.
record Goes (c : Carry) (us out : List ℕ) (d : Carry) (rest : List ℕ) (parts : ℕ) : Type 0 where
  left : ℕ
  enough : length rest ≤ left
  says : parts_spelled parts c (us ++ rest) ≡ out ++ parts_spelled left d rest

goes_then : {c d e : Carry} {us vs out more rest : List ℕ} {parts : ℕ} → Goes c us out d (vs ++ rest) parts →
    ((left : ℕ) → length (vs ++ rest) ≤ left → Goes d vs more e rest left) → Goes c (us ++ vs) (out ++ more) e rest parts
goes_then {us = us} {vs = vs} {out = out} {more = more} {rest = rest} x f =
    let y = f x.left x.enough in
    record {
      left = y.left;
      enough = y.enough;
      says = rw (append_assoc us vs rest, x.says, y.says, append_assoc out more);
    }

-- one part
goes : {c d : Carry} {us rest : List ℕ} {t : Tree} (parts : ℕ) → part c (us ++ rest) ≡ parsed t d rest → 1 ≤ length us →
    length (us ++ rest) ≤ parts → Goes c us (expanded t) d rest parts
unfolding parts_spelled
goes {us = us} {rest = rest} zero e l h = absurd (omega (arith, length-append us rest))
goes {us = us} {rest = rest} (suc parts) e l h = record { left = parts; enough = omega (arith, length-append us rest); says = rw e }

-- a word that stays
copies : {c d : Carry} {rest : List ℕ} (x : ℕ) (parts : ℕ) → part c (x ∷ rest) ≡ parsed (simple x 0 0) d rest →
    length (x ∷ rest) ≤ parts → Goes c (x ∷ []) (x ∷ []) d rest parts
unfolding expanded
copies x parts e l = rw (full-switch x) at (goes {us = x ∷ []} parts e (omega arith) l)

-- a token with which a simple condition begins, but for > < = and NOT
data First (x : ℕ) : Type 0 where
  an_operand : Is operand x → First x
  a_switch : Is switch x → First x
  a_name : Is name x → First x
  a_bound : Is bound x → First x

first_part : {x : ℕ} → First x → (c : Carry) (ts : List ℕ) → part c (x ∷ ts) ≡ parse_simple c (x ∷ ts)
first_part (an_operand i) nothing ts = simp (at i)
first_part (an_operand i) (carried a m) ts = simp (at i)
first_part (a_switch i) nothing ts = simp (at i)
first_part (a_switch i) (carried a m) ts = simp (at i)
first_part (a_name i) nothing ts = simp (at i)
first_part (a_name i) (carried a m) ts = simp (at i)
first_part (a_bound i) nothing ts = simp (at i)
first_part (a_bound i) (carried a m) ts = simp (at i)

first_logical : {x : ℕ} {us : List ℕ} → First x → Logical (x ∷ us)
first_logical (an_operand i) = is_logical i tt tt
first_logical (a_switch i) = is_logical i tt tt
first_logical (a_name i) = is_logical i tt tt
first_logical (a_bound i) = is_logical i tt tt

begun : {c d : Carry} {x : ℕ} {us : List ℕ} {t : Tree} → First x → Simple c (x ∷ us) t d → (rest : List ℕ) → Ends 2 rest →
    part c (x ∷ us ++ rest) ≡ parsed t d rest
begun {c} {us = us} f h rest e = first_part f c (us ++ rest) ∙ complete_simple h (first_logical f) rest e

simple_part : {c d : Carry} {us : List ℕ} {t : Tree} → Simple c us t d → (rest : List ℕ) → Ends 2 rest → part c (us ++ rest) ≡ parsed t d rest
simple_part (Simple.full i s j) rest e = begun (an_operand i) (Simple.full i s j) rest e
simple_part (Simple.tested i s) rest e = begun (an_operand i) (Simple.tested i s) rest e
simple_part (Simple.switched i) rest e = begun (a_switch i) (Simple.switched i) rest e
simple_part (Simple.named i) rest e = begun (a_name i) (Simple.named i) rest e
simple_part (Simple.short (Relation.ordered (Stated.plain i)) j) rest e = simp (at i, at j)
simple_part (Simple.short (Relation.ordered (Stated.with_not k i)) j) rest e = simp (at k, at i, at j)
simple_part (Simple.short (Relation.bounded i) j) rest e = begun (a_bound i) (Simple.short (Relation.bounded i) j) rest e
simple_part (Simple.bare i) rest e = begun (an_operand i) (Simple.bare i) rest e

some_token : {c d : Carry} {us : List ℕ} {t : Tree} → Simple c us t d → 1 ≤ length us
some_token (Simple.full i s j) = omega arith
some_token (Simple.tested i s) = omega arith
some_token (Simple.switched i) = omega arith
some_token (Simple.named i) = omega arith
some_token (Simple.short (Relation.ordered (Stated.plain i)) j) = omega arith
some_token (Simple.short (Relation.ordered (Stated.with_not k i)) j) = omega arith
some_token (Simple.short (Relation.bounded i) j) = omega arith
some_token (Simple.bare i) = omega arith

-- whatever ends these tokens
abbrev Spells : Carry → List ℕ → List ℕ → Carry → Type 0
Spells c us out d = (rest : List ℕ) → Ends 2 rest → (parts : ℕ) → length (us ++ rest) ≤ parts → Goes c us out d rest parts

-- two parts joined by AND or OR
joined : {c d e : Carry} {ts us out more : List ℕ} (o : ℕ) → ((rest : List ℕ) → part d (o ∷ rest) ≡ parsed (simple o 0 0) d rest) →
    ((rest : List ℕ) → Ends 2 (o ∷ rest)) → Spells c ts out d → Spells d us more e → Spells c (ts ++ o ∷ us) (out ++ o ∷ more) e
joined {ts = ts} {us = us} o stays ends p q rest s parts l =
    goes_then (p (o ∷ us ++ rest) (ends (us ++ rest)) parts (rw (append_assoc ts (o ∷ us) rest) at l)) λ m h.
    goes_then {us = o ∷ []} (copies o m (stays (us ++ rest)) h) λ n k. q rest s n k

spells : {c d : Carry} {ts : List ℕ} {t : Tree} → Condition c ts t d → Spells c ts (expanded t) d
unfolding expanded
spells derivation =
    elim derivation as
    (λ c ts t d h. Spells c ts (expanded t) d)
    (λ c ts t d h. Spells c ts (expanded t) d)
    (λ c ts t d h. Spells c ts (expanded t) d)
    (λ c ts t d h. Spells c ts (expanded t) d) [
      | Condition.chain (h → p) ↦ p
      | Condition.ors {o = o} (h → p) i (g → q) ↦ rw (← or_token o i) (joined o (λ rest. simp (at i)) (λ rest. rw i.is (omega arith)) p q)
      | Chain.term (h → p) ↦ p
      | Chain.ands {o = o} (h → p) i (g → q) ↦ rw (← and_token o i) (joined o (λ rest. simp (at i)) (λ rest. rw i.is (omega arith)) p q)
      | Term.body (h → p) ↦ p
      | Term.negation {c = c} {n = n} i g (h → p) ↦
          λ rest s parts l.
          rw (← not_token n i)
          (goes_then {us = n ∷ []} (copies n parts (simp (at i) (skip_order g rest c (λ m. m + 32) _)) l) λ m h. p rest s m h)
      | Body.one h ↦ λ rest s parts l. goes parts (simple_part h rest s) (some_token h) l
      | Body.brackets {ts = ts} {l = l} {r = r} i (h → p) j ↦
          λ rest s parts g.
          rw (← opening_token l i, ← closing_token r j)
          (goes_then {us = l ∷ []} (copies l parts (simp (at i)) g) λ m h.
          goes_then (p (r ∷ rest) (rw j.is (omega arith)) m (rw (append_assoc ts (r ∷ []) rest) at h)) λ n k.
          copies r n (simp (at j)) k)
    ]

-- after the last token there is no part
pub none_left : (parts : ℕ) (c : Carry) → parts_spelled parts c [] ≡ []
unfolding parts_spelled on
none_left zero c = refl
none_left (suc parts) nothing = refl
none_left (suc parts) (carried a m) = refl

-- "The expanded form is the same tokens with the omitted ones inserted where they were left out"
pub spelled-expanded : (ts : List ℕ) (t : Tree) → read ts ≡ accepted t → spelled ts ≡ expanded t
unfolding spelled
spelled-expanded ts t e =
    let h = sound ts t e in
    let g = spells h.derivation [] tt (length ts) (rw append-nil (omega arith)) in
    rw (append-nil, none_left g.left h.carry, append-nil) at g.says
