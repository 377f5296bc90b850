-- What the reading of a token sequence means: it accepts what the grammar derives, and refuses at the grammar's place.
use mathlib.Core.Path.{◌≡◌, refl, ap}
use mathlib.Core.List.Memᴰ
use mathlib.Core.List.{List, [], ◌∷◌, ◌++◌, append-nil, append_assoc}
use Prim.Native.Nat.{ℕ, suc, ◌+◌, ◌*◌, ◌-◌, ◌≤◌}
use native.Mathlib.Omega.{arith}
use native.Mathlib.Decide.{dec_le}
use lib.ListN.{length, take, length-append}
use lib.Seq.{take_at, take-append-add, append_snoc}
use Rattle.grammar.specs.Grammar.{Carry, nothing, Tree, Condition, Derives, Begins, Completes, Place}
use Rattle.grammar.specs.Parser.{Result, parsed, stuck, parse_condition, accepted, refused, reading, read}
use Rattle.grammar.proofs.Sound.{Held, none, Outcome, derived, begun, good_condition}
use Rattle.grammar.proofs.Complete.{complete-condition}
use Rattle.grammar.proofs.Local.{left, Longer, local_condition, agree-condition}

pub sound : (ts : List ℕ) (t : Tree) → read ts ≡ accepted t → Derives ts t
unfolding read
sound ts t e = go (parse_condition (4 * length ts + 4) nothing ts) (good_condition (4 * length ts + 4) nothing none ts) e
  where
    go : (r : Result) → Outcome [] (Condition nothing) ts r → reading (length ts) r ≡ accepted t → Derives ts t
    go (parsed u c []) (derived us i h k) e =
        let v : u ≡ t = cc in
        record { carry = c; derivation = rw (← v, i, append-nil) h }
    go (parsed u c (x ∷ rest)) o e = let z : ◌≡◌ {A = ℕ} 0 1 = cc in absurd (omega arith)
    go (stuck rest) o e = let z : ◌≡◌ {A = ℕ} 0 1 = cc in absurd (omega arith)

parses : (ts : List ℕ) (t : Tree) (h : Derives ts t) (f : ℕ) → 4 * length ts + 4 ≤ f → parse_condition f nothing ts ≡ parsed t h.carry []
parses ts t h f l = rw append-nil at (complete-condition f h.derivation [] tt (omega arith))

pub complete : (ts : List ℕ) (t : Tree) → Derives ts t → read ts ≡ accepted t
unfolding read
complete ts t h = rw (parses ts t h (4 * length ts + 4) (omega arith))

-- No token sequence derives two trees.
pub unambiguous : (ts : List ℕ) (t u : Tree) → Derives ts t → Derives ts u → t ≡ u
unambiguous ts t u h k = cc (complete ts t h, complete ts u k)

-- More fuel than the reading has changes nothing.
pub enough : (f : ℕ) (c : Carry) (ts : List ℕ) → 4 * length ts + 4 ≤ f → parse_condition f c ts ≡ parse_condition (4 * length ts + 4) c ts
enough f c ts l = agree-condition f (4 * length ts + 4) (length ts) c l (omega arith) ts (omega arith)

-- The parser does not stop at a token with which a derived sequence goes on.
clash : (r s : Result) (x : ℕ) (us vs : List ℕ) (t : Tree) (c : Carry) → left s ≡ x ∷ us → Longer us r s → Longer vs r (parsed t c []) → ⊥
clash (parsed u d []) s x us vs t c e h k = omega (arith, ap length e)
clash (parsed u d (y ∷ l)) s x us vs t c e h k = let z : ◌≡◌ {A = ℕ} 0 1 = cc in omega arith
clash (stuck []) s x us vs t c e h k = omega (arith, ap length e)
clash (stuck (y ∷ l)) s x us vs t c e h k = let z : ◌≡◌ {A = ℕ} 0 1 = cc in omega arith

-- What the parser leaves of the tokens.
abbrev remains : List ℕ → List ℕ
remains ts = left (parse_condition (4 * length ts + 4) nothing ts)

stops : (ps : List ℕ) (x : ℕ) (us vs : List ℕ) (t : Tree) → remains (ps ++ x ∷ us) ≡ x ∷ us → Derives (ps ++ x ∷ vs) t → ⊥
stops ps x us vs t e h =
    let f = 4 * (length (ps ++ x ∷ us) + length (ps ++ x ∷ vs)) + 4 in
    clash
    (parse_condition f nothing (ps ++ x ∷ []))
    (parse_condition f nothing (ps ++ x ∷ us))
    x
    us
    vs
    t
    h.carry
    (rw (enough f nothing (ps ++ x ∷ us) (omega arith)) e)
    (rw append_snoc at ((local_condition f nothing).longer us (ps ++ x ∷ [])))
    (rw (append_snoc, parses (ps ++ x ∷ vs) t h f (omega arith)) at ((local_condition f nothing).longer vs (ps ++ x ∷ [])))

longest_at : (us rest : List ℕ) → remains (us ++ rest) ≡ rest → (m : ℕ) → m ≤ length (us ++ rest) → Begins (take m (us ++ rest)) → m ≤ length us
longest_at us [] e m l b = omega (arith, length-append us [])
longest_at us (x ∷ rest) e m l b = go (dec_le m (length us))
  where
    go : Dec (m ≤ length us) → m ≤ length us
    go (yes k) = k
    go (no k) =
        let j = m - suc (length us) in
        let q : m ≡ length us + suc j = omega arith in
        let d : Derives (us ++ x ∷ (take j rest ++ b.more)) b.tree =
        rw (q, take-append-add us (x ∷ rest) (suc j), append_assoc us (x ∷ take j rest) b.more) at b.derives in
        absurd (stops us x rest (take j rest ++ b.more) b.tree e d)

place_at : (ts us rest vs : List ℕ) {t : Tree} {c : Carry} →
    ts ≡ us ++ rest → Condition nothing (us ++ vs) t c → Held us vs → remains ts ≡ rest → Place ts (length ts - length rest)
place_at ts us rest vs {t} {c} i h g e =
    let n : length ts - length rest ≡ length us = omega (arith, ap length i, length-append us rest) in
    let b : Completes us = record { begins = record { more = vs; tree = t; derives = record { carry = c; derivation = h } }; held = g } in
    rw (n, i)
    (record {
      inside = omega (arith, length-append us rest);
      completes = rw (take_at us rest (length us) refl) b;
      longest = longest_at us rest (rw i at e);
    })

pub place : (ts : List ℕ) (n : ℕ) → read ts ≡ refused n → Place ts n
unfolding read
place ts n e = go (parse_condition (4 * length ts + 4) nothing ts) refl (good_condition (4 * length ts + 4) nothing none ts) e
  where
    go : (r : Result) → parse_condition (4 * length ts + 4) nothing ts ≡ r → Outcome [] (Condition nothing) ts r → reading (length ts) r ≡ refused n → Place ts n
    go (parsed t c []) q o e = let z : ◌≡◌ {A = ℕ} 0 1 = cc in absurd (omega arith)
    go (parsed t c (x ∷ rest)) q (derived us i h k) e =
        let v : length ts - length (x ∷ rest) ≡ n = cc in
        rw v at (place_at ts us (x ∷ rest) [] {t = t} {c = c} i (rw append-nil h) (λ y m j. absurd (Memᴰ.not-nil m)) (ap left q))
    go (stuck rest) q (begun us vs i h k g) e =
        let v : length ts - length rest ≡ n = cc in
        rw v at (place_at ts us rest vs i h g (ap left q))

-- No token sequence has two places.
pub one_place : (ts : List ℕ) (n m : ℕ) → Place ts n → Place ts m → n ≡ m
one_place ts n m h k = omega (arith, h.longest m k.inside k.completes.begins, k.longest n h.inside h.completes.begins)

-- What is refused is not derived.
pub not_derived : (ts : List ℕ) (n : ℕ) (t : Tree) → read ts ≡ refused n → ¬ Derives ts t
not_derived ts n t e h = let z : ◌≡◌ {A = ℕ} 0 1 = cc (complete ts t h) in omega arith
