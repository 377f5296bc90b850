-- Words that join others, as code passes them.
use mathlib.Core.Path.{◌≡◌, refl, sym, ap, ap₂, ◌∙◌, subst}
use mathlib.Core.Bool.{Bool, true, false, cond, ◌&&◌, and-false}
use mathlib.Core.List.{List, [], ◌∷◌}
use Prim.Native.Nat.{ℕ, zero, suc, ◌+◌, ◌≤◌, ◌<◌}
use native.Mathlib.Omega.{arith}
use lib.Dec.{ltb, leb}
use lib.ListN.{length, drop}
use lib.Seq.{drop-drop}
use borrow.Author.Tests.{lt-ltb, le-ltb, le-leb}
use Rattle.content.specs.declared.Row.{Row}
use Rattle.description.specs.Grammar.{Word, bytes}
use Rattle.spelling.specs.Literals.{Literal, row_of_literal}
use Rattle.spelling.specs.Keywords.{Meaning, alone, item, value, order, equal, faulty}
use Rattle.spelling.specs.Meanings.{next, taken, or_equal, after_than, joins}
use Rattle.splitter.specs.Splits.{words_at, Past}
use Rattle.std.specs.Prelude.{Ok, Err}
use Rattle.senses.specs.declared.Sense.{Sense}
use Rattle.senses.specs.declared.Sense.TheVariants.{Token, Item, Literal as LiteralSense, Order, Equal}
use Rattle.senses.specs.declared.Met.TheVariants.{Token as MetToken, Literal as MetLiteral}
use Rattle.senses.specs.declared.Piece.{Piece}
use Rattle.senses.specs.Senses.{sense_of, PastOrEqual, PieceAfter, PieceBy}

-- whether a word was the next one, by whether it was passed
module _ {word text : List ℕ} {from past : ℕ} (p : Past word text from past) where
  stayed : past ≡ from → next word (words_at text from) ≡ false
  stayed e = sym p.told ∙ le-ltb from past (omega arith)

  moved : (past ≡ from → ⊥) → next word (words_at text from) ≡ true
  moved e = sym p.told ∙ lt-ltb from past (omega (arith, p.passed, e))

  one_on : (past ≡ from → ⊥) → words_at text past ≡ drop 1 (words_at text from)
  one_on e = p.words ∙ ap (λ (t : Bool). drop (cond t 1 0) (words_at text from)) (moved e)

none_joins : (text : List ℕ) (from : ℕ) → from ≤ length text → next (bytes "OR") (words_at text from) && next (bytes "EQUAL") (drop 1 (words_at text from)) ≡ false
    → PastOrEqual text from from
none_joins text from h e = record { within = h; passed = omega arith; told = rw e (le-ltb from from (omega arith)); words = rw e }

-- no OR; OR, but no EQUAL; both
module _ {text : List ℕ} {from or : ℕ} (h : from ≤ length text) (p : Past (bytes "OR") text from or) where
  pub no_or : or ≡ from → PastOrEqual text from from
  no_or e = none_joins text from h (rw (stayed p e))

  module _ {equals : ℕ} (some : or ≡ from → ⊥) (q : Past (bytes "EQUAL") text or equals) where
    second : (t : Bool) → next (bytes "EQUAL") (words_at text or) ≡ t → next (bytes "EQUAL") (drop 1 (words_at text from)) ≡ t
    second t e = sym (ap (next (bytes "EQUAL")) (one_on p some)) ∙ e

    pub no_equal : equals ≡ or → PastOrEqual text from from
    no_equal e = none_joins text from h (rw (second false (stayed q e)) (and-false (next (bytes "OR") (words_at text from))))

    pub or_equal_lem : {past : ℕ} → (equals ≡ or → ⊥) → Past (bytes "TO") text equals past → PastOrEqual text from past
    or_equal_lem {past} e r =
        let ws : List Word = words_at text from in
        let both : next (bytes "OR") ws && next (bytes "EQUAL") (drop 1 ws) ≡ true = rw (moved p some, second true (moved q e)) in
        let two : words_at text equals ≡ drop 2 ws = one_on q e ∙ ap (drop 1) (one_on p some) ∙ drop-drop 1 1 ws in
        let n : ℕ = taken (bytes "TO") (drop 2 ws) in
        let on : leb 1 (2 + n) ≡ true = le-leb 1 (2 + n) (omega arith) in
        record {
          within = r.within;
          passed = omega (arith, p.passed, q.passed, r.passed);
          told = rw (both, on) (lt-ltb from past (omega (arith, p.passed, q.passed, r.passed, some)));
          words = rw both (rw two at r.words ∙ drop-drop n 2 ws);
        }

-- GREATER or LESS
pub order_piece : {text : List ℕ} {end than past plain joined : ℕ} → Past (bytes "THAN") text end than → PastOrEqual text than past → (t : Bool) → ltb than past ≡ t
    → PieceBy (order plain joined) text end (record { met = Ok (MetToken (cond t joined plain)); past = past })
order_piece {text} {end} {than} {past} {plain} {joined} p q t e =
    let ws : List Word = words_at text end in
    let a : words_at text than ≡ after_than ws = p.words in
    let told : leb 1 (or_equal (after_than ws)) ≡ t = ap (λ (vs : List Word). leb 1 (or_equal vs)) (sym a) ∙ sym q.told ∙ e in
    record {
      met = ap (λ (b : Bool). Ok (MetToken (cond b joined plain))) (sym told);
      within = q.within;
      passed = omega (arith, p.passed, q.passed);
      words = rw a at q.words ∙ drop-drop (or_equal (after_than ws)) (taken (bytes "THAN") ws) ws;
    }

-- the meaning, by its sense
is_token : (m : Meaning) {t : ℕ} → sense_of m ≡ Ok (Token t) → m ≡ alone t
is_token (alone u) e = cc
is_token (item u) e = cc
is_token (value l) e = cc
is_token (order p j) e = cc
is_token equal e = cc
is_token (faulty n) e = cc

is_item_lem : (m : Meaning) {t : ℕ} → sense_of m ≡ Ok (Item t) → m ≡ item t
is_item_lem (alone u) e = cc
is_item_lem (item u) e = cc
is_item_lem (value l) e = cc
is_item_lem (order p j) e = cc
is_item_lem equal e = cc
is_item_lem (faulty n) e = cc

is_order_lem : (m : Meaning) {plain joined : ℕ} → sense_of m ≡ Ok (Order plain joined) → m ≡ order plain joined
is_order_lem (alone u) e = cc
is_order_lem (item u) e = cc
is_order_lem (value l) e = cc
is_order_lem (order p j) e = cc
is_order_lem equal e = cc
is_order_lem (faulty n) e = cc

is_fault : (m : Meaning) {number : ℕ} → sense_of m ≡ Err number → m ≡ faulty number
is_fault (alone u) e = cc
is_fault (item u) e = cc
is_fault (value l) e = cc
is_fault (order p j) e = cc
is_fault equal e = cc
is_fault (faulty n) e = cc

is_equal_lem : (m : Meaning) → sense_of m ≡ Ok Equal → m ≡ equal
is_equal_lem (alone u) e = cc
is_equal_lem (item u) e = cc
is_equal_lem (value l) e = cc
is_equal_lem (order p j) e = cc
is_equal_lem equal e = cc
is_equal_lem (faulty n) e = cc

module _ {text : List ℕ} {end : ℕ} (m : Meaning) where
  pub token_piece : {t : ℕ} → end ≤ length text → sense_of m ≡ Ok (Token t) → PieceBy m text end (record { met = Ok (MetToken t); past = end })
  token_piece h e = rw (is_token m e) record { met = refl; within = h; passed = omega arith; words = refl }

  pub fault_piece : {number : ℕ} → end ≤ length text → sense_of m ≡ Err number → PieceBy m text end (record { met = Err number; past = end })
  fault_piece h e = rw (is_fault m e) record { met = refl; within = h; passed = omega arith; words = refl }

  pub item_piece : {t : ℕ} {r : Piece} → sense_of m ≡ Ok (Item t) → PieceAfter (bytes "IS") (MetToken t) text end r → PieceBy m text end r
  item_piece e p =
      rw (is_item_lem m e) record { met = p.same; within = p.past.within; passed = p.past.passed; words = p.past.words }

  pub equal_piece : {r : Piece} → sense_of m ≡ Ok Equal → PieceAfter (bytes "TO") (MetToken 262151) text end r → PieceBy m text end r
  equal_piece e p =
      rw (is_equal_lem m e) record { met = p.same; within = p.past.within; passed = p.past.passed; words = p.past.words }

  pub ordered : {plain joined : ℕ} {r : Piece} → sense_of m ≡ Ok (Order plain joined) → PieceBy (order plain joined) text end r → PieceBy m text end r
  ordered e p = rw (is_order_lem m e) p

pub literal_piece : {text : List ℕ} {end : ℕ} {row : Row} {r : Piece} (m : Meaning) → sense_of m ≡ Ok (LiteralSense row)
    → PieceAfter (bytes "IS") (MetLiteral row) text end r → PieceBy m text end r
literal_piece {row = row} (value l) e p =
    let q : row_of_literal 0 l ≡ row = cc in
    record { met = p.same ∙ ap (λ (x : Row). Ok (MetLiteral x)) (sym q); within = p.past.within; passed = p.past.passed; words = p.past.words }
literal_piece (alone u) e p = let z : ◌≡◌ {A = ℕ} 0 1 = cc in absurd (omega arith)
literal_piece (item u) e p = let z : ◌≡◌ {A = ℕ} 0 1 = cc in absurd (omega arith)
literal_piece (order x y) e p = let z : ◌≡◌ {A = ℕ} 0 1 = cc in absurd (omega arith)
literal_piece equal e p = let z : ◌≡◌ {A = ℕ} 0 1 = cc in absurd (omega arith)
literal_piece (faulty n) e p = let z : ◌≡◌ {A = ℕ} 0 1 = cc in absurd (omega arith)
