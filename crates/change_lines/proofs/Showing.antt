-- The content of an item, byte by byte.
use mathlib.Core.Path.{◌≡◌, refl, sym, ap, ◌∙◌, subst}
use mathlib.Core.Bool.{Bool, true, false, cond}
use mathlib.Core.List.{List, [], ◌∷◌, ◌++◌, append_assoc, append-nil}
use Prim.Native.Nat.{ℕ, suc, ◌+◌, ◌≤◌, ◌<◌}
use native.Mathlib.Numerals.{add-one}
use lib.ListN.{length, take, get_or}
use lib.Seq.{take-suc, take_all}
use Rattle.lines.specs.Put.{Puts}
use Rattle.lines.proofs.Joining.{put_nothing, joined}
use Rattle.change_lines.specs.Contents.{byte_shown, bytes_shown, content_shown}

one_after : (shown : List ℕ) (byte : ℕ) → bytes_shown (shown ++ byte ∷ []) ≡ bytes_shown shown ++ byte_shown byte
unfolding bytes_shown
one_after [] byte = append-nil (byte_shown byte)
one_after (b ∷ shown) byte = ap (λ (l : List ℕ). byte_shown b ++ l) (one_after shown byte) ∙ sym (append_assoc (byte_shown b) (bytes_shown shown) (byte_shown byte))

-- none yet, one more, and all of them between quotes
pub no_bytes : (out : List ℕ) (at : ℕ) (content : List ℕ) → Puts out at (bytes_shown (take 0 content)) at out
unfolding bytes_shown
no_bytes out at content = put_nothing out at

module _ {out : List ℕ} {at end : ℕ} {after : List ℕ} {last : ℕ} {final : List ℕ} (content : List ℕ) (i : ℕ) where
  pub byte_more : Puts out at (bytes_shown (take i content)) end after → i < length content → Puts after end (byte_shown (get_or content i 0)) last final
      → Puts out at (bytes_shown (take (i + 1) content)) last final
  byte_more P h Q =
      subst (λ (l : List ℕ). Puts out at l last final)
      (sym (one_after (take i content) (get_or content i 0)) ∙ ap bytes_shown (sym (rw (add-one i) (take-suc content i 0 h))))
      (joined P Q)

pub content-done : {out : List ℕ} {at end : ℕ} {after : List ℕ} {last : ℕ} {final : List ℕ} {close : ℕ} {closed : List ℕ} (content : List ℕ) (i : ℕ)
    → Puts out at (0x22 ∷ []) end after → Puts after end (bytes_shown (take i content)) last final → length content ≤ i
    → Puts final last (0x22 ∷ []) close closed → Puts out at (content_shown content) close closed
content-done {out} {at} {close = close} {closed = closed} content i O P h Q =
    subst (λ (l : List ℕ). Puts out at (0x22 ∷ [] ++ bytes_shown l ++ 0x22 ∷ []) close closed) (take_all i content h) (joined (joined O P) Q)
