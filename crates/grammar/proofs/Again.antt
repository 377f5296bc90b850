-- What refusals 5, 6 and 8 let pass they let pass when it is expanded: the tokens that are inserted exist, and none is a bracket.
use mathlib.Core.Path.{◌≡◌, refl}
use mathlib.Core.Bool.{Bool, true, false, cond}
use mathlib.Core.List.{List, [], ◌∷◌, ◌++◌, Memᴰ}
use Prim.Native.Nat.{ℕ, zero, suc, pred, ◌/◌, ◌%◌, ◌<◌, ◌≤◌}
use native.Mathlib.Omega.{arith}
use borrow.Author.Tests.{ne_eqb, le-leb}
use lib.ListN.{length, get_or}
use lib.Dec.{eqb}
use Rattle.tables.specs.declared.Refusal.TheVariants.{Token, Depth}
use Rattle.tables.specs.Tokens.{token_there}
use Rattle.tables.specs.Rows.{row_count, name_count}
use Rattle.tables.specs.Operands.{Lent}
use Rattle.tables.specs.Tables.{token_check}
use Rattle.tables.proofs.Lines.{failing_none}
use Rattle.grammar.specs.Grammar.{operand, Is, Carry, nothing, carried, Tree, plain, with_not}
use Rattle.grammar.specs.Grammar.{Relation, ordered, bounded, Simple, full, tested, switched, named, short, bare}
use Rattle.grammar.specs.Grammar.{Condition, Chain, Term, Body, Derives}
use Rattle.grammar.specs.Depth.{depth_from, depth_check}
use Rattle.grammar.specs.Expanded.{expanded}
use Rattle.grammar.proofs.Spelling.{operand_token, not_token, order_token, bound_token, opening_token, closing_token, and_token, or_token}
use Rattle.grammar.proofs.Expansion.{full_relation, full_test, full-switch, rederives}
use Rattle.grammar.proofs.Judging.{some_leaf}
use Rattle.grammar.proofs.Size.{rows_bound}
use Rattle.grammar.proofs.Shapes.{There, tokens_there, there_left, there_right, there_tail}
use Rattle.std.specs.Prelude.{Err, Ok}

at_place : (ts : List ℕ) (k : ℕ) → k < length ts → Memᴰ (get_or ts k 0) ts
at_place [] k l = absurd (omega arith)
at_place (x ∷ ts) zero l = Memᴰ.head refl
at_place (x ∷ ts) (suc k) l = Memᴰ.tail (at_place ts k (omega arith))

module _ (lent : Lent) where
  pub there_passes : (ts : List ℕ) → There lent ts → token_check lent ts ≡ Ok tt
  there_passes ts h =
      failing_none (λ i. token_there lent.off (row_count lent.items) (row_count lent.literals) (name_count lent.names) (get_or ts i 0)) Token 0 (length ts)
      (λ k l m. h (get_or ts k 0) (at_place ts k (omega arith)))

  record Insertable (x : ℕ) : Type 0 where
    there : token_there lent.off (row_count lent.items) (row_count lent.literals) (name_count lent.names) x ≡ true
    not_opening : eqb x 262144 ≡ false
    not_closing : eqb x 262145 ≡ false

  -- a carried subject
  operand_inserts : {x : ℕ} {ts : List ℕ} → Is operand x → There lent (x ∷ ts) → Insertable x
  operand_inserts {x} i h =
      let l : x < 131072 = operand_token x i in
      record {
        there = h x (Memᴰ.head refl);
        not_opening = ne_eqb x 262144 (λ e. omega arith);
        not_closing = ne_eqb x 262145 (λ e. omega arith);
      }

  -- NOT, AND, OR and the words of relations
  word_inserts : (x : ℕ) → (262146 ≤ x) × (x ≤ 262153) → Insertable x
  word_inserts x l =
      let k : x / 65536 ≡ 4 = omega arith in
      record {
        there = rw (k, le-leb (x % 65536) 16 (omega arith));
        not_opening = ne_eqb x 262144 (λ e. omega arith);
        not_closing = ne_eqb x 262145 (λ e. omega arith);
      }

  -- the second list is the first with such tokens inserted
  data Filled : List ℕ → List ℕ → Type 0 where
    end : Filled [] []
    kept : {x : ℕ} {ts us : List ℕ} → Filled ts us → Filled (x ∷ ts) (x ∷ us)
    added : {x : ℕ} {ts us : List ℕ} → Insertable x → Filled ts us → Filled ts (x ∷ us)

  filled_none : (ts : List ℕ) → Filled ts ts
  filled_none [] = end
  filled_none (x ∷ ts) = kept (filled_none ts)

  filled_relation : {r : List ℕ} {n : ℕ} (ts : List ℕ) → Relation r n → Filled ts (r ++ ts)
  filled_relation ts (ordered (plain {w = w} h)) = added (word_inserts w (omega (arith, order_token w h))) (filled_none ts)
  filled_relation ts (ordered (with_not {n = n} {w = w} i h)) =
      added (word_inserts n (omega (arith, not_token n i))) (added (word_inserts w (omega (arith, order_token w h))) (filled_none ts))
  filled_relation ts (bounded {w = w} h) = added (word_inserts w (omega (arith, bound_token w h))) (filled_none ts)

  filled-append : {ts us vs ws : List ℕ} → Filled ts us → Filled vs ws → Filled (ts ++ vs) (us ++ ws)
  filled-append end k = k
  filled-append (kept h) k = kept (filled-append h k)
  filled-append (added p h) k = added p (filled-append h k)

  abbrev Carries : Carry → Type 0
  Carries nothing = Unit {0}
  Carries (carried a m) = Insertable a × ((r : List ℕ) × Relation r m)

  -- from what is carried to what is left: us is ts with the omitted tokens inserted
  record Fills (c : Carry) (ts us : List ℕ) (d : Carry) : Type 0 where
    fills : Carries c → There lent ts → Filled ts us × Carries d

  simple_fills : {c d : Carry} {ts : List ℕ} {t : Tree} → Simple c ts t d → Fills c ts (expanded t) d
  unfolding expanded
  simple_fills (full {r = r} {a = a} {b = b} i s j) =
      rw (full_relation a b s) (record { fills = λ k h. (filled_none _, (operand_inserts i h, (r, s))) })
  simple_fills (tested {a = a} i s) = rw (full_test a 0 s) (record { fills = λ k h. (filled_none _, tt) })
  simple_fills (switched {s = s} i) = rw (full-switch s) (record { fills = λ k h. (filled_none _, tt) })
  simple_fills (named {s = s} i) = rw (full-switch s) (record { fills = λ k h. (filled_none _, tt) })
  simple_fills (short {r = r} {a = a} {b = b} s j) =
      rw (full_relation a b s) (record { fills = λ k h. (added k.0 (filled_none _), (k.0, (r, s))) })
  simple_fills (bare {a = a} {b = b} j) =
      record { fills = λ k h. (rw (full_relation a b k.1.1) (added k.0 (filled_relation _ k.1.1)), k) }

  joined : {c d e : Carry} {ts us vs ws : List ℕ} (o : ℕ) → Fills c ts us d → Fills d vs ws e → Fills c (ts ++ o ∷ vs) (us ++ o ∷ ws) e
  joined {ts = ts} o p q =
      record {
        fills = λ k h.
            let (x, l) = p.fills k (there_left lent _ h) in
            let (y, m) = q.fills l (there_tail lent (there_right lent ts h)) in
            (filled-append x (kept y), m);
      }

  tree_fills : {c d : Carry} {ts : List ℕ} {t : Tree} → Condition c ts t d → Fills c ts (expanded t) d
  unfolding expanded
  tree_fills derivation =
      elim derivation as
      (λ c ts t d h. Fills c ts (expanded t) d)
      (λ c ts t d h. Fills c ts (expanded t) d)
      (λ c ts t d h. Fills c ts (expanded t) d)
      (λ c ts t d h. Fills c ts (expanded t) d) [
        | Condition.chain (h → p) ↦ p
        | Condition.ors {o = o} (h → p) i (g → q) ↦ rw (or_token o i) (joined 262148 p q)
        | Chain.term (h → p) ↦ p
        | Chain.ands {o = o} (h → p) i (g → q) ↦ rw (and_token o i) (joined 262147 p q)
        | Term.body (h → p) ↦ p
        | Term.negation {n = n} i l (h → p) ↦
            rw (not_token n i) (record { fills = λ k h. let (x, m) = p.fills k (there_tail lent h) in (kept x, m) })
        | Body.one h ↦ simple_fills h
        | Body.brackets {l = l} {r = r} i (h → p) j ↦
            rw (opening_token l i, closing_token r j)
            (record { fills = λ k h. (kept (filled-append (p.fills tt (there_left lent _ (there_tail lent h))).0 (filled_none _)), tt) })
      ]

  filled_there : {ts us : List ℕ} → Filled ts us → There lent ts → There lent us
  filled_there end e x m = e x m
  filled_there (kept h) e x (Memᴰ.head q) = e x (Memᴰ.head q)
  filled_there (kept h) e x (Memᴰ.tail m) = filled_there h (there_tail lent e) x m
  filled_there (added p h) e x (Memᴰ.head q) = rw q p.there
  filled_there (added p h) e x (Memᴰ.tail m) = filled_there h e x m

  -- 8 depends only on the brackets and their order
  filled_depth : {ts us : List ℕ} → Filled ts us → (at place opened : ℕ) → depth_from at opened ts ≡ Ok tt → depth_from place opened us ≡ Ok tt
  unfolding depth_from
  filled_depth end at place opened e = refl
  filled_depth (kept {x = x} {ts = ts} {us = us} h) at place opened e =
      go (eqb x 262144) (eqb opened 16) (cond (eqb x 262145) (pred opened) opened) (filled_depth h (suc at) (suc place)) e
    where
      go : (opens most : Bool) (left : ℕ) → ((n : ℕ) → depth_from (suc at) n ts ≡ Ok tt → depth_from (suc place) n us ≡ Ok tt) →
          cond opens (cond most (Err (Depth at)) (depth_from (suc at) (suc opened) ts)) (depth_from (suc at) left ts) ≡ Ok tt →
          cond opens (cond most (Err (Depth place)) (depth_from (suc place) (suc opened) us)) (depth_from (suc place) left us) ≡ Ok tt
      go true true left f e = absurd (let z : ◌≡◌ {A = ℕ} 0 1 = cc in omega arith)
      go true false left f e = f (suc opened) e
      go false most left f e = f left e
  filled_depth (added p h) at place opened e = rw (p.not_opening, p.not_closing) (filled_depth h at (suc place) opened e)

pub expanded-some : {ts : List ℕ} {t : Tree} → Derives ts t → 1 ≤ length (expanded t)
expanded-some {t = t} h = omega (arith, rows_bound (rederives h), some_leaf t)

module _ (lent : Lent) {ts : List ℕ} {t : Tree} (h : Derives ts t) (e : token_check lent ts ≡ Ok tt) where
  filled : Filled lent ts (expanded t)
  filled = ((tree_fills lent h.derivation).fills tt (tokens_there lent ts e)).0

  pub expanded-tokens : token_check lent (expanded t) ≡ Ok tt
  expanded-tokens = there_passes lent (expanded t) (filled_there lent filled (tokens_there lent ts e))

  pub expanded_depth : depth_check ts ≡ Ok tt → depth_check (expanded t) ≡ Ok tt
  expanded_depth d = filled_depth lent filled 0 0 0 d
