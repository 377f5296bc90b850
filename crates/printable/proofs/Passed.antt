-- Tokens before the first that fails a test, and names that stand once.
use mathlib.Core.Path.{◌≡◌, refl, sym, ap, ap₂, ◌∙◌}
use mathlib.Core.Bool.{Bool, true, false, cond, not, ◌&&◌, ◌||◌}
use mathlib.Core.List.{List, [], ◌∷◌}
use Prim.Native.Nat.{ℕ, suc, ◌+◌, ◌-◌, ◌/◌, ◌%◌, ◌≤◌, ◌<◌}
use native.Mathlib.Omega.{arith}
use native.Mathlib.Numerals.{add-one}
use lib.Dec.{eqb, ltb}
use lib.ListN.{length, get_or, take, drop, length-drop, drop_of_length-le}
use lib.Seq.{drop-cons, length-take-le, get_or-take, get_or-drop}
use borrow.Author.Tests.{eq-eqb, ne_eqb}
use Rattle.description.specs.Grammar.{all, is_name_byte}
use Rattle.spelling.specs.Names.{leading, Known, every_name}
use Rattle.spelling.specs.Printing.{uniquely, has_name}
use Rattle.naming.specs.Named.{known_at, Listed}
use Rattle.naming.proofs.Finding.{name_at_lem}
use Rattle.printable.specs.Passing.{passing, There}

module _ (test : ℕ → Bool) (tokens : List ℕ) (i : ℕ) where
  pub passed_end : length tokens ≤ i → passing test (drop i tokens) ≡ 0
  unfolding passing
  passed_end h = rw (drop_of_length-le tokens h)

  module _ (h : i < length tokens) where
    pub fails_here : test (get_or tokens i 0) ≡ false → passing test (drop i tokens) ≡ 0
    unfolding passing
    fails_here e = rw (drop-cons tokens i 0 h, e)

    pub passes_on : test (get_or tokens i 0) ≡ true → passing test (drop i tokens) ≡ suc (passing test (drop (i + 1) tokens))
    unfolding passing
    passes_on e = rw (add-one, drop-cons tokens i 0 h, e)

-- names
pub leading-bytes : (rest : List ℕ) → all is_name_byte (leading rest) ≡ true
unfolding leading all
leading-bytes [] = refl
leading-bytes (b ∷ rest) = by (is_name_byte b) refl (leading-bytes rest)
  where
    by : (t : Bool) → is_name_byte b ≡ t → all is_name_byte (leading rest) ≡ true → all is_name_byte (cond t (b ∷ leading rest) []) ≡ true
    by true e h = rw (e, h)
    by false e h = refl

-- the name of a token
module _ (text : List ℕ) (items : ℕ) (places : List ℕ) (t : ℕ) where
  abbrev known : Known
  known = known_at text items places

  pub no_name : (t / 65536 ≡ 0 → ⊥) → (t / 65536 ≡ 5 → ⊥) → true ≡ has_name known t
  no_name e f = rw (ne_eqb (t / 65536) 0 e, ne_eqb (t / 65536) 5 f)

  module _ (L : Listed items places) (T : There items places t) where
    pub item_place : t / 65536 ≡ 0 → t % 65536 < length places
    item_place e = omega (arith, T.item e, L.within)

    pub an_item : t / 65536 ≡ 0 → uniquely known (leading (drop (get_or places (t % 65536) 0) text)) ≡ has_name known t
    an_item e =
        let h : t % 65536 < length (take items places) = omega (arith, T.item e, length-take-le items places L.within) in
        rw (e, name_at_lem text (take items places) (t % 65536) h, get_or-take items places (t % 65536) 0 (T.item e))

    pub a_condition : t / 65536 ≡ 5 → uniquely known (leading (drop (get_or places (items + t % 65536) 0) text)) ≡ has_name known t
    a_condition e =
        let h : t % 65536 < length (drop items places) = omega (arith, T.condition e, length-drop items places) in
        rw (e, name_at_lem text (drop items places) (t % 65536) h, get_or-drop items places (t % 65536) 0)
