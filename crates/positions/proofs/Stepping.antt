-- One step over the tokens of a rule, over the pieces of its text and over its bytes.
use mathlib.Core.Path.{◌≡◌, refl, sym, ap, ◌∙◌}
use mathlib.Core.Bool.{Bool, true, false, cond, not}
use mathlib.Core.List.{List, [], ◌∷◌}
use Prim.Native.Nat.{ℕ, zero, suc, ◌+◌, ◌-◌, ◌≤◌, ◌<◌}
use native.Mathlib.Omega.{arith}
use native.Mathlib.Numerals.{add-one}
use lib.ListN.{length, drop, get_or, drop_of_length-le}
use lib.Seq.{drop-cons}
use Rattle.description.specs.Grammar.{is_blank}
use Rattle.description.proofs.Bytes.{eqb_no}
use Rattle.spelling.specs.Names.{Known}
use Rattle.spelling.specs.Reading.{Placed, pieces_from}
use Rattle.std.specs.Prelude.{Some}
use Rattle.splitter.specs.Splits.{words_at, from_next}
use Rattle.splitter.proofs.Walking.{no_word}
use Rattle.senses.specs.declared.Piece.{Piece}
use Rattle.lexer.specs.Gathers.{left, Meets}
use Rattle.positions.specs.Positions.{is_connective, leads_in, starts_here, left_after, condition_token, end_from, place_in, token_place, refusal_place}

next : (l : List ℕ) (i : ℕ) → i < length l → drop i l ≡ get_or l i 0 ∷ drop (i + 1) l
next l i h = rw (add-one i) (drop-cons l i 0 h)

-- the first token of a simple condition, one before it, and the end
module _ (tokens : List ℕ) (i left : ℕ) where
  pub starts : i < length tokens → starts_here left (get_or tokens i 0) ≡ true → i + condition_token left (drop i tokens) ≡ i
  unfolding condition_token
  starts h e =
      let q : condition_token left (drop i tokens) ≡ 0 =
      ap (condition_token left) (next tokens i h)
      ∙ ap (λ (b : Bool). cond b 0 (suc (condition_token (left_after left (get_or tokens i 0)) (drop (i + 1) tokens)))) e in
      omega (arith, q)

  pub passed : i < length tokens → starts_here left (get_or tokens i 0) ≡ false
      → i + 1 + condition_token (left_after left (get_or tokens i 0)) (drop (i + 1) tokens) ≡ i + condition_token left (drop i tokens)
  unfolding condition_token
  passed h e =
      let q : condition_token left (drop i tokens) ≡ suc (condition_token (left_after left (get_or tokens i 0)) (drop (i + 1) tokens)) =
      ap (condition_token left) (next tokens i h)
      ∙ ap (λ (b : Bool). cond b 0 (suc (condition_token (left_after left (get_or tokens i 0)) (drop (i + 1) tokens)))) e in
      omega (arith, q)

  pub no_more : length tokens ≤ i → i + condition_token left (drop i tokens) ≡ i
  unfolding condition_token
  no_more h = let q : condition_token left (drop i tokens) ≡ 0 = ap (condition_token left) (drop_of_length-le tokens h) in omega (arith, q)

module _ (known : Known) (text : List ℕ) (end : ℕ) (past : ℕ) where
  pub this_piece : (at close : ℕ) → words_at text past ≡ from_next text (Some (record { at = at; end = close })) → place_in end 0 (left known text past) ≡ at
  unfolding place_in pieces_from
  this_piece at close e = ap (λ ws. place_in end 0 (pieces_from known 0 ws)) e

  pub next_piece : {at close : ℕ} {r : Piece} (k : ℕ) → ¬ (k ≡ 0) → Meets known text past at close r
      → place_in end (k - 1) (left known text r.past) ≡ place_in end k (left known text past)
  unfolding place_in
  next_piece zero z m = absurd (z refl)
  next_piece {r = r} (suc k) z m =
      let n : suc k - 1 ≡ k = omega arith in
      ap (λ (j : ℕ). place_in end j (left known text r.past)) n ∙ sym (ap (place_in end (suc k)) m.next)

  pub no_piece : (k : ℕ) → words_at text past ≡ [] → place_in end k (left known text past) ≡ end
  unfolding place_in pieces_from
  no_piece k e = ap (λ ws. place_in end k (pieces_from known 0 ws)) e

  pub past_all : (k : ℕ) → length text ≤ past → place_in end k (left known text past) ≡ end
  past_all k h = no_piece k (no_word text past h)

pub turned : (b t : Bool) → not b ≡ t → b ≡ not t
turned true t e = ap not e
turned false t e = ap not e

module _ (text : List ℕ) (i : ℕ) where
  pub word_byte : (end : ℕ) → i < length text → is_blank (get_or text i 0) ≡ false → end_from (i + 1) (i + 1) (drop (i + 1) text) ≡ end_from end i (drop i text)
  unfolding end_from
  word_byte end h e =
      ap (λ (b : Bool). end_from (cond b end (i + 1)) (i + 1) (drop (i + 1) text)) (sym e) ∙ sym (ap (end_from end i) (next text i h))

  pub blank_byte : (end : ℕ) → i < length text → is_blank (get_or text i 0) ≡ true → end_from end (i + 1) (drop (i + 1) text) ≡ end_from end i (drop i text)
  unfolding end_from
  blank_byte end h e =
      ap (λ (b : Bool). end_from (cond b end (i + 1)) (i + 1) (drop (i + 1) text)) (sym e) ∙ sym (ap (end_from end i) (next text i h))

  pub all-bytes : (end : ℕ) → length text ≤ i → end_from end i (drop i text) ≡ end
  unfolding end_from
  all-bytes end h = rw (drop_of_length-le text h) refl

-- what is left after a token, and whether a condition starts with it
module _ (left token : ℕ) where
  pub none_left : left ≡ 0 → left_after left token ≡ 0
  none_left e = rw e refl

  pub may_start : left ≡ 0 → starts_here left token ≡ not (leads_in token)
  may_start e = rw e refl

pub one_less : (left token : ℕ) → ¬ (left ≡ 0) → is_connective token ≡ true → left_after left token ≡ left - 1
one_less zero token z e = absurd (z refl)
one_less (suc left) token z e = rw e (omega arith)

pub as_many : (left token : ℕ) → ¬ (left ≡ 0) → is_connective token ≡ false → left_after left token ≡ left
as_many zero token z e = absurd (z refl)
as_many (suc left) token z e = rw e refl

pub not_yet : (left token : ℕ) → ¬ (left ≡ 0) → starts_here left token ≡ false
not_yet zero token z = absurd (z refl)
not_yet (suc left) token z = refl

-- a refusal's place by its number
module _ (known : Known) (text tokens : List ℕ) (number place : ℕ) where
  pub of_condition : (token : ℕ) → token ≡ condition_token place tokens → number ≡ 9
      → token_place known text token ≡ refusal_place known text tokens number place
  unfolding refusal_place
  of_condition token e n = ap (token_place known text) e ∙ rw n refl

  pub of_token : ¬ (number ≡ 9) → token_place known text place ≡ refusal_place known text tokens number place
  unfolding refusal_place
  of_token n = ap (λ (b : Bool). token_place known text (cond b (condition_token place tokens) place)) (sym (eqb_no number 9 n))
