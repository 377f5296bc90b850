-- Bytes with each quote doubled, as code counts and writes them.
use mathlib.Core.Path.{◌≡◌, refl, sym, ap, ◌∙◌}
use mathlib.Core.Bool.{Bool, true, false, cond}
use mathlib.Core.List.{List, [], ◌∷◌, ◌++◌}
use Prim.Native.Nat.{ℕ, suc, ◌+◌, ◌-◌, ◌*◌, ◌≤◌, ◌<◌}
use native.Mathlib.Omega.{arith}
use native.Mathlib.Numerals.{add-one}
use borrow.Rule.Slice.PartMut.{put_mid}
use lib.ListN.{length, get_or, set, take, drop, length-append, length-drop, length-set, drop_of_length-le}
use lib.Seq.{drop-cons, drop-drop, set-set}
use Rattle.tables.proofs.Front.{Front, front_none, front_store, front_part, front_length, front_rest, Copied, copied_none, copied_more, copied-left}
use Rattle.spelling.specs.Words.{is_quote}
use Rattle.spelling.specs.Literals.{doubled, quoted}
use Rattle.literal_bytes.specs.Written.{written_over}

here : (part : List ℕ) (i : ℕ) → i < length part
    → doubled (drop i part) ≡ cond (is_quote (get_or part i 0)) (get_or part i 0 ∷ get_or part i 0 ∷ doubled (drop (i + 1) part)) (get_or part i 0 ∷ doubled (drop (i + 1) part))
unfolding doubled
here part i h = rw (add-one, drop-cons part i 0 h)

pub size_on : (part : List ℕ) (i s : ℕ) → i < length part → s ≡ cond (is_quote (get_or part i 0)) 2 1
    → (length (doubled (drop i part)) ≡ s + length (doubled (drop (i + 1) part))) × (s ≤ 2)
size_on part i s h e = rw (here part i h) (by (is_quote (get_or part i 0)) e)
  where
    by : (t : Bool) → s ≡ cond t 2 1
        → (length (cond t (get_or part i 0 ∷ get_or part i 0 ∷ doubled (drop (i + 1) part)) (get_or part i 0 ∷ doubled (drop (i + 1) part))) ≡ s + length (doubled (drop (i + 1) part))) × (s ≤ 2)
    by true e = (omega arith, omega arith)
    by false e = (omega arith, omega arith)

pub size_end : (part : List ℕ) (i : ℕ) → length part ≤ i → length (doubled (drop i part)) ≡ 0
unfolding doubled
size_end part i h = rw (drop_of_length-le part h)

-- n bytes are written, and the next one is that at i
pub record Doubles (part before : List ℕ) (n i : ℕ) (now : List ℕ) : Type 0 where
  pub copied : Copied (doubled part) before n now
  pub left : drop n (doubled part) ≡ doubled (drop i part)

pub doubles_none : (part before : List ℕ) → length (doubled part) ≤ length before → Doubles part before 0 0 before
doubles_none part before h = record { copied = copied_none (doubled part) before h; left = refl }

module _ {part before now : List ℕ} {n i : ℕ} (d : Doubles part before n i now) (h : i < length part) where
  next : (t : Bool) → is_quote (get_or part i 0) ≡ t
      → drop n (doubled part) ≡ cond t (get_or part i 0 ∷ get_or part i 0 ∷ doubled (drop (i + 1) part)) (get_or part i 0 ∷ doubled (drop (i + 1) part))
  next t e = d.left ∙ here part i h ∙ ap (λ (u : Bool). cond u (get_or part i 0 ∷ get_or part i 0 ∷ doubled (drop (i + 1) part)) (get_or part i 0 ∷ doubled (drop (i + 1) part))) e

  pub doubles_left : (s : ℕ) → s ≡ cond (is_quote (get_or part i 0)) 2 1 → (1 ≤ s) × (n + s ≤ length (doubled part))
  doubles_left s e = by (is_quote (get_or part i 0)) refl e
    where
      by : (t : Bool) → is_quote (get_or part i 0) ≡ t → s ≡ cond t 2 1 → (1 ≤ s) × (n + s ≤ length (doubled part))
      by true q e = (omega arith, omega (arith, ap length (next true q), length-drop n (doubled part)))
      by false q e = (omega arith, omega (arith, ap length (next false q), length-drop n (doubled part)))

  pub doubles_more : (s : ℕ) → s ≡ cond (is_quote (get_or part i 0)) 2 1
      → Doubles part before (n + s) (i + 1) (set (set now n (get_or part i 0)) (n + s - 1) (get_or part i 0))
  doubles_more s e = by (is_quote (get_or part i 0)) refl e
    where
      by : (t : Bool) → is_quote (get_or part i 0) ≡ t → s ≡ cond t 2 1
          → Doubles part before (n + s) (i + 1) (set (set now n (get_or part i 0)) (n + s - 1) (get_or part i 0))
      by false q e =
          let z : n + 1 - 1 ≡ n = omega arith in
          rw (e, z, set-set now n (get_or part i 0) (get_or part i 0))
          record {
            copied = copied_more d.copied (get_or part i 0) (doubled (drop (i + 1) part)) (next false q);
            left = sym (drop-drop 1 n (doubled part)) ∙ ap (drop 1) (next false q);
          }
      by true q e =
          let z : n + 2 - 1 ≡ n + 1 = omega arith in
          let y : n + 2 ≡ n + 1 + 1 = omega arith in
          let one = copied_more d.copied (get_or part i 0) (get_or part i 0 ∷ doubled (drop (i + 1) part)) (next true q) in
          let again : drop (n + 1) (doubled part) ≡ get_or part i 0 ∷ doubled (drop (i + 1) part) = sym (drop-drop 1 n (doubled part)) ∙ ap (drop 1) (next true q) in
          rw (e, z, y)
          record {
            copied = copied_more one (get_or part i 0) (doubled (drop (i + 1) part)) again;
            left = sym (drop-drop 1 (n + 1) (doubled part)) ∙ ap (drop 1) again;
          }

pub doubles_all : {part before now : List ℕ} {n i : ℕ} → Doubles part before n i now → length part ≤ i → length (doubled part) ≤ n
doubles_all {part} {before} {now} {n} {i} d h =
    omega (arith, ap length d.left, size_end part i h, length-drop n (doubled part), d.copied.within)

pub doubled-most : (v : List ℕ) → length (doubled v) ≤ 2 * length v
unfolding doubled
doubled-most [] = omega arith
doubled-most (b ∷ v) = by (is_quote b) (doubled-most v)
  where
    by : (t : Bool) → length (doubled v) ≤ 2 * length v → length (cond t (b ∷ b ∷ doubled v) (b ∷ doubled v)) ≤ 2 * suc (length v)
    by true h = omega arith
    by false h = omega arith

-- in quotes
pub quoted-length : (part : List ℕ) → length (doubled part) + 2 ≡ length (quoted part)
quoted-length part = omega (arith, length-append (doubled part) (0x22 ∷ []))

module _ (part out : List ℕ) (last : ℕ) (e : suc last ≡ length (quoted part)) (room : length (quoted part) ≤ length out) where
  abbrev begun : List ℕ
  begun = set out 0 0x22

  first : Front (0x22 ∷ []) out 1 begun
  first = front_store (front_none out) 0x22 (omega arith)

  pub begun_length : length begun ≡ length out
  begun_length = front_length first

  pub inner_room : length (doubled part) ≤ length (take (length begun - 1) (drop 1 begun))
  inner_room = rw (front_rest first) (omega (arith, quoted-length part, length-drop 1 out))

  module _ (back : List ℕ) (f : back ≡ written_over (doubled part) (take (length begun - 1) (drop 1 begun))) where
    filled : Front (0x22 ∷ doubled part) out (1 + length (doubled part)) (put_mid 1 (length begun - 1) begun back)
    filled = front_part first (doubled part) back (length (doubled part)) refl (omega (arith, quoted-length part)) f

    pub last_room : last < length (put_mid 1 (length begun - 1) begun back)
    last_room = omega (arith, front_length filled)

    pub filled-length : length (set (put_mid 1 (length begun - 1) begun back) last 0x22) ≡ length out
    filled-length = length-set (put_mid 1 (length begun - 1) begun back) last 0x22 ∙ front_length filled

    pub quoted_put : set (put_mid 1 (length begun - 1) begun back) last 0x22 ≡ written_over (quoted part) out
    quoted_put =
        let z : last ≡ 1 + length (doubled part) = omega (arith, quoted-length part) in
        let y : 1 + length (doubled part) + 1 ≡ length (quoted part) = omega (arith, quoted-length part) in
        let done = front_store filled 0x22 (omega (arith, quoted-length part)) in
        rw z (done.holds ∙ ap (λ (k : ℕ). quoted part ++ drop k out) y)
