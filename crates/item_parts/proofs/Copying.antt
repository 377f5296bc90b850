-- A part lent to a copy. Assumes nothing.
use Prim.Native.Nat.{ℕ, suc, ◌+◌, ◌-◌, ◌≤◌, ◌<◌}
use native.Mathlib.Nat.{add-sub_cancel_left}
use native.Mathlib.Omega.{arith}
use native.Mathlib.Numerals.{add-one}
use mathlib.Core.Path.{◌≡◌, refl, sym, ap, ◌∙◌}
use mathlib.Core.List.{List, ◌∷◌, ◌++◌, append-nil, append_assoc}
use lib.ListN.{length, get_or, take, drop, set, drop_of_length-le}
use lib.Seq.{length-take-le, take-suc, take_all, drop-cons, drop-drop, set_at, append_snoc}
use borrow.Rule.Slice.PartMut.{put_mid}
use Rattle.content.specs.declared.Row.{Row}
use Rattle.items.specs.Items.{replaced}

pub put_replaced : (r : Row) (a s : ℕ) (out bytes last : List ℕ) → a ≡ r.offset → s ≡ r.size → last ≡ bytes
    → put_mid a (a + s - a) out last ≡ replaced r bytes out
put_replaced r a s out bytes last p q e =
    rw (p, q, e, add-sub_cancel_left)
    (ap (λ (l : List ℕ). take r.offset out ++ (bytes ++ l)) (drop-drop r.size r.offset out)
    ∙ sym (append_assoc (take r.offset out) bytes (drop (r.offset + r.size) out)))
