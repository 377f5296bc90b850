-- Words that stand by themselves: names, numbers, and text in quotes.
use mathlib.Core.Path.{◌≡◌, refl, sym, ap, ap₂, ◌∙◌, subst}
use mathlib.Core.Bool.{Bool, true, false, cond, not, ◌&&◌, ◌||◌}
use mathlib.Core.List.{List, [], ◌∷◌, ◌++◌}
use mathlib.Core.Logic.{◌⊎◌, inl, inr, ⊎_elim}
use Prim.Native.Nat.{ℕ, zero, suc, ◌+◌, ◌-◌, ◌≤◌, ◌<◌}
use native.Mathlib.Omega.{arith}
use lib.ListN.{length, get_or, take, drop, length-append}
use lib.Seq.{get_or-append_seam, take_at, drop_at}
use lib.Dec.{eqb, leb}
use borrow.Author.Tests.{leb-true, eqb-true, ne_eqb, not-true}
use Rattle.content.specs.Content.{all, is_digit, is_sign, first_byte, last_byte, but_first}
use Rattle.content.specs.WrongByte.{valid_content}
use Rattle.content.proofs.WrongByte.{valid_digits, valid_leading}
use Rattle.tables.proofs.Tests.{both, either}
use Rattle.description.specs.Grammar.{is_blank, is_letter, is_hyphen, is_name_byte, all as every}
use Rattle.spelling.specs.Words.{is_bracket, is_order, is_equals, is_quote, runs, word_length}
use Rattle.spelling.specs.Literals.{doubled, quoted, is_point, without_point, after_point, pointed}
use Rattle.spelling.specs.Printing.{spaced}
use Rattle.spelling.proofs.Cutting.{Stands}

-- a byte that neither ends a word nor is a quote
pub record Plain (b : ℕ) : Type 0 where
  pub blank : is_blank b ≡ false
  pub bracket : is_bracket b ≡ false
  pub order : is_order b ≡ false
  pub equals : is_equals b ≡ false
  pub quote : is_quote b ≡ false

abbrev pub AllPlain : List ℕ → Type 0
AllPlain [] = Unit {0}
AllPlain (b ∷ bytes) = Plain b × AllPlain bytes

plain : (b : ℕ) → (b ≡ 0x20 → ⊥) → (b ≡ 0x0a → ⊥) → (b ≡ 0x28 → ⊥) → (b ≡ 0x29 → ⊥) → (b ≡ 0x3e → ⊥) → (b ≡ 0x3c → ⊥)
    → (b ≡ 0x3d → ⊥) → (b ≡ 0x22 → ⊥) → Plain b
plain b h1 h2 h3 h4 h5 h6 h7 h8 =
    record {
      blank = rw (ne_eqb b 0x20 h1, ne_eqb b 0x0a h2);
      bracket = rw (ne_eqb b 0x28 h3, ne_eqb b 0x29 h4);
      order = rw (ne_eqb b 0x3e h5, ne_eqb b 0x3c h6);
      equals = ne_eqb b 0x3d h7;
      quote = ne_eqb b 0x22 h8;
    }

-- signs, point and digits; letters
pub plain_low : (b : ℕ) → 0x2a ≤ b → b ≤ 0x3b → Plain b
plain_low b h g =
    plain b (λ e. omega arith) (λ e. omega arith) (λ e. omega arith) (λ e. omega arith) (λ e. omega arith) (λ e. omega arith)
    (λ e. omega arith) (λ e. omega arith)

pub plain_high : (b : ℕ) → 0x3f ≤ b → Plain b
plain_high b h =
    plain b (λ e. omega arith) (λ e. omega arith) (λ e. omega arith) (λ e. omega arith) (λ e. omega arith) (λ e. omega arith)
    (λ e. omega arith) (λ e. omega arith)

plain_digit : (b : ℕ) → is_digit b ≡ true → Plain b
plain_digit b e =
    let p = both (leb 0x30 b) (leb b 0x39) e in
    plain_low b (omega (arith, leb-true 0x30 b p.0)) (omega (arith, leb-true b 0x39 p.1))

plain_one : (b c : ℕ) → eqb b c ≡ true → 0x2a ≤ c → c ≤ 0x3b → Plain b
plain_one b c e h g = plain_low b (omega (arith, eqb-true b c e)) (omega (arith, eqb-true b c e))

plain_sign : (b : ℕ) → is_sign b ≡ true → Plain b
plain_sign b e =
    ⊎_elim (λ p. plain_one b 0x2b p (omega arith) (omega arith)) (λ p. plain_one b 0x2d p (omega arith) (omega arith))
    (either (eqb b 0x2b) (eqb b 0x2d) e)

plain_name_byte : (b : ℕ) → is_name_byte b ≡ true → Plain b
plain_name_byte b e =
    ⊎_elim
    (λ p. ⊎_elim (λ q. plain_high b (omega (arith, leb-true 0x41 b (both (leb 0x41 b) (leb b 0x5a) q).0))) (plain_digit b) (either (is_letter b) (is_digit b) p))
    (λ p. plain_one b 0x2d p (omega arith) (omega arith))
    (either (is_letter b || is_digit b) (is_hyphen b) e)

pub plain-all : (test : ℕ → Bool) → ((b : ℕ) → test b ≡ true → Plain b) → (w : List ℕ) → all test w ≡ true → AllPlain w
unfolding all
plain-all test h [] e = tt
plain-all test h (b ∷ w) e = let p = both (test b) (all test w) e in (h b p.0, plain-all test h w p.1)

pub plain_name : (w : List ℕ) → every is_name_byte w ≡ true → AllPlain w
unfolding every
plain_name [] e = tt
plain_name (b ∷ w) e = let p = both (is_name_byte b) (every is_name_byte w) e in (plain_name_byte b p.0, plain_name w p.1)

plain-pointed : (w : List ℕ) → AllPlain (without_point w) → AllPlain w
unfolding without_point
plain-pointed [] p = tt
plain-pointed (b ∷ w) p = by (is_point b) refl p (plain-pointed w)
  where
    by : (t : Bool) → is_point b ≡ t → AllPlain (cond t w (b ∷ without_point w)) → (AllPlain (without_point w) → AllPlain w) → AllPlain (b ∷ w)
    by true e p rec = (plain_one b 0x2e e (omega arith) (omega arith), p)
    by false e p rec = (p.0, rec p.1)

-- the number's bytes, by its kind
pub plain-number : (kind digits : ℕ) (w : List ℕ) → (kind ≡ 3) ⊎ (kind ≡ 5) → 1 ≤ length (without_point w)
    → valid_content kind digits (without_point w) ≡ true → AllPlain w
plain-number kind digits w k some e = plain-pointed w (⊎_elim unsigned signed k)
  where
    unsigned : kind ≡ 3 → AllPlain (without_point w)
    unsigned q = plain-all is_digit plain_digit (without_point w) (sym (valid_digits digits (without_point w)) ∙ (rw q at e))

    with_sign : (v : List ℕ) → 1 ≤ length v → is_sign (first_byte v) && all is_digit (but_first v) ≡ true → AllPlain v
    with_sign [] some e = tt
    with_sign (b ∷ v) some e =
        let p = both (is_sign b) (all is_digit v) e in
        (plain_sign b p.0, plain-all is_digit plain_digit v p.1)

    signed : kind ≡ 5 → AllPlain (without_point w)
    signed q = with_sign (without_point w) some (sym (valid_leading digits (without_point w) some) ∙ (rw q at e))

runs-plain : (w : List ℕ) (ws : List (List ℕ)) → AllPlain w → runs false (w ++ spaced ws) ≡ length w
unfolding runs spaced
runs-plain [] [] p = refl
runs-plain [] (w ∷ ws) p = refl
runs-plain (b ∷ w) ws p =
    rw (p.0.blank, p.0.bracket, p.0.order, p.0.equals, p.0.quote) (ap suc (runs-plain w ws p.1))

pub plain_stands : (w : List ℕ) → AllPlain w → 1 ≤ length w → Stands w
unfolding word_length
plain_stands [] p h = absurd (omega arith)
plain_stands (b ∷ w) p h =
    record {
      some = h;
      starts = p.0.blank;
      whole = λ ws. rw (p.0.bracket, p.0.equals, p.0.order) (runs-plain (b ∷ w) ws p);
    }

-- text in quotes
runs-quoted : (v : List ℕ) (ws : List (List ℕ)) → runs true ((doubled v ++ 0x22 ∷ []) ++ spaced ws) ≡ length (doubled v ++ 0x22 ∷ [])
unfolding runs doubled spaced
runs-quoted [] [] = refl
runs-quoted [] (w ∷ ws) = refl
runs-quoted (b ∷ v) ws = by (is_quote b) refl (runs-quoted v ws)
  where
    by : (t : Bool) → is_quote b ≡ t → runs true ((doubled v ++ 0x22 ∷ []) ++ spaced ws) ≡ length (doubled v ++ 0x22 ∷ [])
        → runs true ((cond t (b ∷ b ∷ doubled v) (b ∷ doubled v) ++ 0x22 ∷ []) ++ spaced ws)
        ≡ length (cond t (b ∷ b ∷ doubled v) (b ∷ doubled v) ++ 0x22 ∷ [])
    by true e ih =
        subst
        (λ (c : ℕ). runs true ((c ∷ c ∷ doubled v ++ 0x22 ∷ []) ++ spaced ws) ≡ length (c ∷ c ∷ doubled v ++ 0x22 ∷ []))
        (sym (eqb-true b 0x22 e))
        (ap (λ (n : ℕ). suc (suc n)) ih)
    by false e ih = rw e (ap suc ih)

pub quoted_stands : (v : List ℕ) → Stands (quoted v)
unfolding word_length runs
quoted_stands v = record { some = omega arith; starts = refl; whole = λ ws. ap suc (runs-quoted v ws) }

-- where the point of a number stands
pub data Point (w : List ℕ) : Type 0 where
  whole_number : without_point w ≡ w → after_point w ≡ [] → Point w
  parted : (x y : List ℕ) → w ≡ x ++ 0x2e ∷ y → without_point w ≡ x ++ y → after_point w ≡ y → Point w

point : (w : List ℕ) → Point w
unfolding without_point after_point
point [] = whole_number refl refl
point (b ∷ w) = by (is_point b) refl (point w)
  where
    by : (t : Bool) → is_point b ≡ t → Point w → Point (b ∷ w)
    by true e p = let q : b ≡ 0x2e = eqb-true b 0x2e e in parted [] w (rw q) (rw e) (rw e)
    by false e (whole_number p q) = whole_number (rw (e, p)) (rw (e, q))
    by false e (parted x y p q r) = parted (b ∷ x) y (rw p) (rw (e, q)) (rw (e, r))

-- a number printed is the number read
pub pointed_again : (w : List ℕ) → is_point (last_byte w) ≡ false → pointed (length (after_point w)) (without_point w) ≡ w
pointed_again w e = by (point w)
  where
    by : Point w → pointed (length (after_point w)) (without_point w) ≡ w
    by (whole_number p q) = rw (p, q)
    by (parted x [] p q r) =
        let long : length (x ++ 0x2e ∷ []) - 1 ≡ length x = omega (arith, length-append x (0x2e ∷ [])) in
        let last : last_byte w ≡ 0x2e = rw (p, long) (get_or-append_seam x 0x2e [] 0) in
        let bad : true ≡ false = rw last at e in
        let z : ◌≡◌ {A = ℕ} 0 1 = cc in absurd (omega arith)
    by (parted x (c ∷ y) p q r) =
        let long : length x ≡ length (x ++ c ∷ y) - suc (length y) = omega (arith, length-append x (c ∷ y)) in
        let some : eqb (suc (length y)) 0 ≡ false = ne_eqb (suc (length y)) 0 (λ h. omega arith) in
        rw (q, r, some, take_at x (c ∷ y) (length (x ++ c ∷ y) - suc (length y)) long, drop_at x (c ∷ y) (length (x ++ c ∷ y) - suc (length y)) long) (sym p)
