-- 7 need be looked for no further than the "(" at which 8 refuses.
use mathlib.Core.Path.{◌≡◌, refl, sym, ap, ◌∙◌}
use mathlib.Core.Logic.{◌⊎◌, inl, inr, ⊎_elim}
use mathlib.Core.List.{List, ◌++◌}
use Prim.Native.Nat.{ℕ, suc, ◌≤◌}
use native.Mathlib.Omega.{arith}
use native.Mathlib.Decide.{dec_le}
use lib.ListN.{length, take, drop, take-append-drop}
use lib.Seq.{length-take-le}
use borrow.Author.Tests.{lt-leb}
use Rattle.tables.specs.declared.Refusal.{Refusal}
use Rattle.tables.specs.Refusals.{place, Check}
use Rattle.grammar.specs.Parser.{Reading, accepted, refused, read}
use Rattle.grammar.specs.Depth.{depth_check}
use Rattle.grammar.proofs.Beginning.{refused_whole, refused_beginning}
use Rattle.grammar.proofs.Depth.{depth_inside}
use Rattle.rules.specs.Calls.{grammar_check, earlier}
use Rattle.std.specs.Prelude.{Err}

-- two readings that have the same places up to 8's come to the same line
module _ (eight : Refusal) where
  abbrev Follows : Reading → Reading → Type 0
  Follows r s = (n : ℕ) → n ≤ place eight → r ≡ refused n → s ≡ refused n

  abbrev line : Reading → Check
  line r = earlier (grammar_check r) (Err eight)

  -- 7 at a place up to 8's, or else 8
  near : (r : Reading) → ((n : ℕ) × (n ≤ place eight) × (r ≡ refused n)) ⊎ (line r ≡ Err eight)
  near (accepted t) = inr refl
  near (refused n) = by (dec_le n (place eight))
    where
      by : Dec (n ≤ place eight) → ((m : ℕ) × (m ≤ place eight) × (refused n ≡ refused m)) ⊎ (line (refused n) ≡ Err eight)
      by (yes l) = inl (n, l, refl)
      by (no l) = inr (rw (lt-leb n (place eight) (omega arith)))

  same_line : (r s : Reading) → Follows r s → Follows s r → line r ≡ line s
  same_line r s f g =
      ⊎_elim
      (λ x. ap line (x.2 ∙ sym (f x.0 x.1 x.2)))
      (λ y. ⊎_elim (λ x. ap line (g x.0 x.1 x.2 ∙ sym x.2)) (λ z. y ∙ sym z) (near s))
      (near r)

pub deep_enough : (tokens : List ℕ) (eight : Refusal) → depth_check tokens ≡ Err eight →
    earlier (grammar_check (read (take (suc (place eight)) tokens))) (Err eight) ≡ earlier (grammar_check (read tokens)) (Err eight)
deep_enough tokens eight e =
    same_line eight (read us) (read tokens)
    (λ n l h. rw (take-append-drop (suc (place eight)) tokens) at (refused_whole us rest n (omega (arith, long)) h))
    (λ n l h. refused_beginning us rest n (omega (arith, long)) (rw (take-append-drop (suc (place eight)) tokens) h))
  where
    us : List ℕ
    us = take (suc (place eight)) tokens

    rest : List ℕ
    rest = drop (suc (place eight)) tokens

    long : length us ≡ suc (place eight)
    long = length-take-le (suc (place eight)) tokens (omega (arith, depth_inside tokens e))
