-- A row and a literal's bytes, written over what was there.
use mathlib.Core.Path.{◌≡◌, refl, sym, ap, ◌∙◌}
use mathlib.Core.List.{List, [], ◌∷◌, ◌++◌, append_assoc}
use Prim.Native.Nat.{ℕ, suc, ◌+◌, ◌-◌, ◌*◌, ◌≤◌, ◌<◌}
use native.Mathlib.Omega.{arith}
use borrow.Rule.Slice.PartMut.{put_mid}
use lib.ListN.{length, take, drop, set, length-append, length-take, length-drop, take-append-drop}
use lib.Seq.{sets-eq, length-take-le, take_at, drop_at}
use Rattle.tables.proofs.Front.{Front, front_part}
use Rattle.literal_bytes.specs.Written.{written_over}
use Rattle.lexer.specs.Gathers.{over_at}

pub row-over : (rows : List ℕ) (at k o n s d : ℕ) → at + 5 ≤ length rows
    → set (set (set (set (set rows at k) (at + 1) o) (at + 2) n) (at + 3) s) (at + 4) d ≡ over_at at (k ∷ o ∷ n ∷ s ∷ d ∷ []) rows
row-over rows at k o n s d h =
    let e1 : at + 1 ≡ suc at = omega arith in
    let e2 : at + 2 ≡ suc (suc at) = omega arith in
    let e3 : at + 3 ≡ suc (suc (suc at)) = omega arith in
    let e4 : at + 4 ≡ suc (suc (suc (suc at))) = omega arith in
    rw (e1, e2, e3, e4) (sets-eq (k ∷ o ∷ n ∷ s ∷ d ∷ []) rows at h ∙ append_assoc (take at rows) (k ∷ o ∷ n ∷ s ∷ d ∷ []) (drop (at + 5) rows))

pub bytes-over : (b : ℕ) (new bytes back : List ℕ) → b + length new ≤ length bytes → back ≡ written_over new (take (length bytes - b) (drop b bytes))
    → put_mid b (length bytes - b) bytes back ≡ over_at b new bytes
bytes-over b new bytes back h e =
    let f : Front (take b bytes) bytes b bytes =
    record { size = sym (length-take-le b bytes (omega arith)); fits = omega arith; holds = sym (take-append-drop b bytes) } in
    (front_part f new back (length new) refl (omega arith) e).holds ∙ append_assoc (take b bytes) new (drop (b + length new) bytes)

-- the beginning, with what was written
pub over_front : (at : ℕ) (new old : List ℕ) → at ≤ length old → take (at + length new) (over_at at new old) ≡ take at old ++ new
over_front at new old h =
    let rest : List ℕ = drop (at + length new) old in
    let n : length (take at old ++ new) ≡ at + length new = omega (arith, length-append (take at old) new, length-take-le at old h) in
    ap (take (at + length new)) (sym (append_assoc (take at old) new rest)) ∙ take_at (take at old ++ new) rest (at + length new) n

-- and what is beyond it
pub over_rest : (at : ℕ) (new old : List ℕ) → at ≤ length old → drop (at + length new) (over_at at new old) ≡ drop (at + length new) old
over_rest at new old h =
    let rest : List ℕ = drop (at + length new) old in
    let n : length (take at old ++ new) ≡ at + length new = omega (arith, length-append (take at old) new, length-take-le at old h) in
    ap (drop (at + length new)) (sym (append_assoc (take at old) new rest)) ∙ drop_at (take at old ++ new) rest (at + length new) n

pub rest_length : (b : ℕ) (bytes : List ℕ) → length (take (length bytes - b) (drop b bytes)) ≡ length bytes - b
rest_length b bytes = omega (arith, length-take (length bytes - b) (drop b bytes), length-drop b bytes)
