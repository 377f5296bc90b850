-- A number with its point, as code writes it.
use mathlib.Core.Path.{◌≡◌, refl, sym, ap, ◌∙◌}
use mathlib.Core.Bool.{Bool, true, false, cond}
use mathlib.Core.List.{List, [], ◌∷◌, ◌++◌, append_assoc}
use Prim.Native.Nat.{ℕ, suc, ◌+◌, ◌-◌, ◌≤◌, ◌<◌}
use native.Mathlib.Omega.{arith}
use borrow.Rule.Slice.PartMut.{put_mid}
use borrow.Author.Rules.{part_to_end}
use lib.ListN.{length, set, take, drop, length-append, length-drop, length-set}
use lib.Seq.{length-take-le}
use borrow.Author.Tests.{eq-eqb, ne_eqb}
use Rattle.tables.proofs.Front.{Front, front_store, front_part, front_length, front_rest}
use Rattle.spelling.specs.Literals.{pointed}
use Rattle.literal_bytes.specs.Written.{written_over}

module _ (scale : ℕ) (part : List ℕ) where
  pub whole : scale ≡ 0 → pointed scale part ≡ part
  whole e = rw (eq-eqb scale 0 e)

  module _ (some : scale ≡ 0 → ⊥) (h : scale ≤ length part) where
    abbrev before : ℕ
    before = length part - scale

    split : pointed scale part ≡ take before part ++ 0x2e ∷ drop before part
    split = rw (ne_eqb scale 0 some)

    pub before-length : before ≡ length (take before part)
    before-length = sym (length-take-le before part (omega arith))

    pub pointed-length : length part + 1 ≡ length (pointed scale part)
    pointed-length =
        omega (arith, ap length split, length-append (take before part) (0x2e ∷ drop before part), before-length, length-drop before part)

    module _ (out : List ℕ) (room : length (pointed scale part) ≤ length out) where
      pub before-room : length (take before part) ≤ length out
      before-room = omega (arith, before-length, pointed-length)

      module _ (one : List ℕ) (e : one ≡ written_over (take before part) out) where
        first : Front (take before part) out before one
        first = record { size = before-length; fits = omega (arith, pointed-length); holds = rw (← before-length) at e }

        pub point_room : before < length one
        point_room = omega (arith, front_length first, pointed-length)

        abbrev two : List ℕ
        two = set one before 0x2e

        second : Front (take before part ++ 0x2e ∷ []) out (before + 1) two
        second = front_store first 0x2e (omega (arith, pointed-length))

        pub two_length : length two ≡ length out
        two_length = front_length second

        pub after-start : before + 1 ≤ length two
        after-start = omega (arith, two_length, pointed-length)

        abbrev rest : List ℕ
        rest = take (length part - before) (drop before part)

        rest_is : rest ≡ drop before part
        rest_is = part_to_end part before

        pub rest_room : length rest ≤ length (take (length two - (before + 1)) (drop (before + 1) two))
        rest_room = rw (front_rest second, rest_is) (omega (arith, pointed-length, length-drop before part, length-drop (before + 1) out))

        module _ (back : List ℕ) (f : back ≡ written_over rest (take (length two - (before + 1)) (drop (before + 1) two))) where
          third : Front ((take before part ++ 0x2e ∷ []) ++ rest) out (before + 1 + length rest) (put_mid (before + 1) (length two - (before + 1)) two back)
          third = front_part second rest back (length rest) refl (omega (arith, pointed-length, ap length rest_is, length-drop before part)) f

          pub put_length : length (put_mid (before + 1) (length two - (before + 1)) two back) ≡ length out
          put_length = front_length third

          pub pointed_put : put_mid (before + 1) (length two - (before + 1)) two back ≡ written_over (pointed scale part) out
          pointed_put =
              let z : (take before part ++ 0x2e ∷ []) ++ rest ≡ pointed scale part =
              append_assoc (take before part) (0x2e ∷ []) rest ∙ ap (λ (v : List ℕ). take before part ++ 0x2e ∷ v) rest_is ∙ sym split in
              let n : before + 1 + length rest ≡ length (pointed scale part) = third.size ∙ ap length z in
              rw (z, n) at third.holds
