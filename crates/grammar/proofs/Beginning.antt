-- A beginning of the tokens decides refusal 7 as far as it goes: a place inside the beginning is the place of the whole, and the
-- other way.
use mathlib.Core.Path.{◌≡◌, ap}
use mathlib.Core.List.{List, [], ◌∷◌, ◌++◌}
use Prim.Native.Nat.{ℕ, ◌+◌, ◌*◌, ◌≤◌, ◌<◌}
use native.Mathlib.Omega.{arith}
use lib.ListN.{length, length-append}
use Rattle.grammar.specs.Grammar.{nothing}
use Rattle.grammar.specs.Parser.{Result, parsed, stuck, parse_condition, refused, reading, read}
use Rattle.grammar.proofs.Local.{left, Longer, local_condition}
use Rattle.grammar.proofs.Reading.{enough}

same_place : {m n : ℕ} → refused m ≡ refused n → m ≡ n
same_place e = cc

module _ (us e : List ℕ) (n : ℕ) (inside : n < length us) where
  -- where the parser of the beginning stops at a token, the parser of the whole stops there
  onward : (r s : Result) → Longer e r s → reading (length us) r ≡ refused n → reading (length (us ++ e)) s ≡ refused n
  onward (parsed t c []) s g h = let z : ◌≡◌ {A = ℕ} 0 1 = cc in absurd (omega arith)
  onward (parsed t c (x ∷ rest)) s g h = rw g (ap refused (omega (arith, same_place h, length-append us e, length-append rest e)))
  onward (stuck []) s g h = absurd (omega (arith, same_place h))
  onward (stuck (x ∷ rest)) s g h = rw g (ap refused (omega (arith, same_place h, length-append us e, length-append rest e)))

  beyond : (s : Result) → length (left s) ≤ length e → reading (length (us ++ e)) s ≡ refused n → ⊥
  beyond (parsed t c []) l h = let z : ◌≡◌ {A = ℕ} 0 1 = cc in omega arith
  beyond (parsed t c (x ∷ rest)) l h = omega (arith, same_place h, length-append us e)
  beyond (stuck rest) l h = omega (arith, same_place h, length-append us e)

  back : (r s : Result) → Longer e r s → reading (length (us ++ e)) s ≡ refused n → reading (length us) r ≡ refused n
  back (parsed t c []) s g h = absurd (beyond s g h)
  back (parsed t c (x ∷ rest)) s g h = ap refused (omega (arith, same_place (rw g at h), length-append us e, length-append rest e))
  back (stuck []) s g h = absurd (beyond s g h)
  back (stuck (x ∷ rest)) s g h = ap refused (omega (arith, same_place (rw g at h), length-append us e, length-append rest e))

  -- the parser of the beginning, with the fuel of the whole
  abbrev fuel : ℕ
  fuel = 4 * length (us ++ e) + 4

  fueled : parse_condition fuel nothing us ≡ parse_condition (4 * length us + 4) nothing us
  fueled = enough fuel nothing us (omega (arith, length-append us e))

  pub refused_whole : read us ≡ refused n → read (us ++ e) ≡ refused n
  unfolding read
  refused_whole h =
      onward (parse_condition fuel nothing us) (parse_condition fuel nothing (us ++ e)) ((local_condition fuel nothing).longer e us) (rw fueled h)

  pub refused_beginning : read (us ++ e) ≡ refused n → read us ≡ refused n
  unfolding read
  refused_beginning h =
      rw (← fueled)
      (back (parse_condition fuel nothing us) (parse_condition fuel nothing (us ++ e)) ((local_condition fuel nothing).longer e us) h)
