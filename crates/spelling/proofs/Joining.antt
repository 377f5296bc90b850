-- Words none of which another joins are read one by one.
use mathlib.Core.Path.{◌≡◌, refl, sym, ap, ◌∙◌}
use mathlib.Core.Bool.{Bool, true, false, cond}
use mathlib.Core.List.{List, [], ◌∷◌, map}
use Prim.Native.Nat.{ℕ, zero, suc}
use native.Mathlib.Omega.{arith}
use Rattle.content.specs.Content.{all}
use Rattle.content.specs.WrongByte.{valid_content, first_from}
use Rattle.description.specs.Reader.{is_name}
use Rattle.description.specs.Grammar.{Word, bytes, same, within, any, all as every}
use Rattle.spelling.specs.Names.{Known}
use Rattle.spelling.specs.Literals.{Literal, is_text, is_number, doubled, undoubled, without_point, after_point}
use Rattle.spelling.specs.Keywords.{Piece, token, literal, fault, Meaning, alone, item, value, order, equal, faulty}
use Rattle.spelling.specs.Meanings.{lookup, meaning, next, joins, piece_of}
use Rattle.spelling.specs.Reading.{Placed, pieces_from}
use Rattle.spelling.proofs.Cutting.{same_true}

-- the word means this token or this literal, whatever follows
pub data Means (known : Known) (w : List ℕ) : Piece → Type 0 where
  by_itself : {t : ℕ} → meaning known w ≡ alone t → Means known w (token t)
  by_item : {t : ℕ} → meaning known w ≡ item t → Means known w (token t)
  by_value : {l : Literal} → meaning known w ≡ value l → Means known w (literal l)

pub data Spelt (known : Known) : List Piece → List Word → Type 0 where
  none : Spelt known [] []
  more : {p : Piece} {w : Word} {ps : List Piece} {ws : List Word} → Means known w.text p → Spelt known ps ws → Spelt known (p ∷ ps) (w ∷ ws)

-- IS means nothing by itself
is_faulty : (known : Known) → meaning known (bytes "IS") ≡ faulty 15
unfolding meaning lookup is_text is_number is_name same within every any all valid_content first_from doubled undoubled without_point after_point
is_faulty known = refl

not_is : {known : Known} {p : Piece} (w : List ℕ) → Means known w p → same w (bytes "IS") ≡ false
not_is {known} w m = by (same w (bytes "IS")) refl m
  where
    wrong : {p : Piece} → w ≡ (bytes "IS") → Means known w p → ⊥
    wrong q (by_itself e) = let f : meaning known w ≡ faulty 15 = rw q (is_faulty known) in let z : ◌≡◌ {A = ℕ} 0 1 = cc in omega arith
    wrong q (by_item e) = let f : meaning known w ≡ faulty 15 = rw q (is_faulty known) in let z : ◌≡◌ {A = ℕ} 0 1 = cc in omega arith
    wrong q (by_value e) = let f : meaning known w ≡ faulty 15 = rw q (is_faulty known) in let z : ◌≡◌ {A = ℕ} 0 1 = cc in omega arith

    by : {p : Piece} (b : Bool) → same w (bytes "IS") ≡ b → Means known w p → same w (bytes "IS") ≡ false
    by true e m = absurd (wrong (same_true w (bytes "IS") e) m)
    by false e m = e

not_next : {known : Known} {ps : List Piece} {ws : List Word} → Spelt known ps ws → next (bytes "IS") ws ≡ false
unfolding next
not_next none = refl
not_next (more {w = w} m s) = not_is w.text m

pub read_again : {known : Known} {ps : List Piece} {ws : List Word} → Spelt known ps ws
    → map (λ (x : Placed). x.piece) (pieces_from known 0 ws) ≡ ps
unfolding pieces_from
read_again none = refl
read_again (more {p = p} (by_itself e) s) = rw e (ap (λ (ps : List Piece). p ∷ ps) (read_again s))
read_again (more {p = p} (by_item e) s) = rw (e, not_next s) (ap (λ (ps : List Piece). p ∷ ps) (read_again s))
read_again (more {p = p} (by_value e) s) = rw (e, not_next s) (ap (λ (ps : List Piece). p ∷ ps) (read_again s))
