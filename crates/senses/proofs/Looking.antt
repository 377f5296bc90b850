-- A word that is no literal: a name, or a word of the vocabulary.
use mathlib.Core.Path.{◌≡◌, refl, sym, ap, ◌∙◌, subst}
use mathlib.Core.Bool.{Bool, true, false, cond, not, ◌&&◌, false≢true, true≢false}
use mathlib.Core.Logic.{⊎_elim}
use mathlib.Core.List.{List, [], ◌∷◌}
use Prim.Native.Nat.{ℕ, suc, ◌+◌, ◌-◌, ◌≤◌}
use native.Mathlib.Omega.{arith}
use lib.Dec.{eqb, leb, ltb}
use lib.ListN.{length, get_or}
use borrow.Author.Tests.{eqb-true}
use Rattle.content.specs.declared.Row.{Row}
use Rattle.description.specs.Grammar.{same, within, any, all, is_letter, is_hyphen, is_name_byte, keywords}
use Rattle.description.specs.Reader.{is_name}
use Rattle.description.proofs.Bytes.{and_both}
use Rattle.spelling.specs.Literals.{text_of, is_text, row_of_literal, number_of, is_number}
use Rattle.spelling.specs.Names.{Known, every_name}
use Rattle.spelling.specs.Keywords.{Meaning, alone, item, value, order, equal, faulty, Keyword, vocabulary}
use Rattle.spelling.specs.Meanings.{count, position, named, lookup, meaning}
use Rattle.spelling.proofs.Cutting.{same_true}
use Rattle.content.specs.WrongByte.{valid_content}
use Rattle.tables.specs.Rows.{row_sound}
use Rattle.tables.proofs.Tests.{both}
use Rattle.spelling.specs.Literals.{quoted, fits}
use Rattle.spelling.proofs.Accepted.{small_size}
use Rattle.literal_words.specs.Found.{text_found, number_found}
use Rattle.naming.specs.declared.Called.{Called}
use Rattle.naming.specs.declared.Called.TheVariants.{Item as Named, Condition}
use Rattle.naming.specs.Named.{called_by}
use Rattle.naming.proofs.Finding.{position-within}
use Rattle.senses.specs.declared.Sense.TheVariants.{Token, Item, Literal}
use Rattle.senses.specs.Senses.{sense_of, text_row}
use Rattle.std.specs.Prelude.{None, Option, Some, Ok, Err}

-- a name is no word of the vocabulary
abbrev NoNames : List Keyword → Type 0
NoNames [] = Unit {0}
NoNames (k ∷ ks) = (is_name k.bytes ≡ false) × NoNames ks

no_names : NoNames vocabulary
unfolding is_name same within any all
no_names = (
  refl,
  (
    refl,
    (
      refl,
      (
        refl,
        (
          refl,
          (
            refl,
            (
              refl,
              (
                refl,
                (
                  refl,
                  (
                    refl,
                    (
                      refl,
                      (
                        refl,
                        (
                          refl,
                          (
                            refl,
                            (
                              refl,
                              (
                                refl,
                                (
                                  refl,
                                  (
                                    refl,
                                    (
                                      refl,
                                      (
                                        refl,
                                        (
                                          refl,
                                          (refl, (refl, (refl, (refl, (refl, (refl, (refl, tt))))))),
                                        ),
                                      ),
                                    ),
                                  ),
                                ),
                              ),
                            ),
                          ),
                        ),
                      ),
                    ),
                  ),
                ),
              ),
            ),
          ),
        ),
      ),
    ),
  ),
)

passes : (w : List ℕ) (other : Meaning) (ks : List Keyword) → NoNames ks → is_name w ≡ true → lookup w other ks ≡ other
unfolding lookup
passes w other [] n e = refl
passes w other (k ∷ ks) n e = by (same w k.bytes) refl (passes w other ks n.1 e)
  where
    by : (t : Bool) → same w k.bytes ≡ t → lookup w other ks ≡ other → cond t k.meaning (lookup w other ks) ≡ other
    by true q rest = absurd (true≢false (sym e ∙ ap is_name (same_true w k.bytes q) ∙ n.0))
    by false q rest = rest

module _ (known : Known) (w : List ℕ) where
  pub name_sense : is_name w ≡ true → sense_of (named known w) ≡ sense_of (lookup w (named known w) vocabulary)
  name_sense e = ap sense_of (sym (passes w (named known w) vocabulary no_names e))

  pub word_sense : is_name w ≡ false → sense_of (lookup w (faulty 15) vocabulary) ≡ sense_of (lookup w (named known w) vocabulary)
  word_sense e = rw e

  -- a name's row
  module _ (e : is_name w ≡ true) where
    pub name_bytes : all is_name_byte w ≡ true
    unfolding is_name
    name_bytes =
        let f5 = (and_both _ (not (within w keywords)) e).0 in
        let f4 = (and_both _ (leb (length w) 30) f5).0 in
        let f3 = (and_both _ (any is_letter w) f4).0 in
        let f2 = (and_both _ (not (is_hyphen (get_or w (length w - 1) 0))) f3).0 in
        (and_both (all is_name_byte w) (not (is_hyphen (get_or w 0 0))) f2).0

    abbrev all-names : List (List ℕ)
    all-names = every_name known

    abbrev n : ℕ
    n = length known.items

    abbrev p : ℕ
    p = position w all-names

    -- by the test whether one has the name, and whether that is an item
    pub item_sense : {v : ℕ} (r : Option Called) → r ≡ called_by w known → r ≡ Some (Named v) → Ok (Item v) ≡ sense_of (named known w)
    item_sense {v} r f g = rw e (by (eqb (count w all-names) 1) (ltb p n) (sym g ∙ f))
      where
        by : (t u : Bool) → Some (Named v) ≡ cond t (Some (cond u (Named p) (Condition (p - n)))) None
            → Ok (Item v) ≡ sense_of (cond t (cond u (item p) (alone (327680 + (p - n)))) (faulty 16))
        by true true q = let z : v ≡ p = cc in ap (λ (k : ℕ). Ok (Item k)) z
        by true false q = cc
        by false u q = cc

    pub condition_sense : {v : ℕ} (r : Option Called) → r ≡ called_by w known → r ≡ Some (Condition v) → Ok (Token (327680 + v)) ≡ sense_of (named known w)
    condition_sense {v} r f g = rw e (by (eqb (count w all-names) 1) (ltb p n) (sym g ∙ f))
      where
        by : (t u : Bool) → Some (Condition v) ≡ cond t (Some (cond u (Named p) (Condition (p - n)))) None
            → Ok (Token (327680 + v)) ≡ sense_of (cond t (cond u (item p) (alone (327680 + (p - n)))) (faulty 16))
        by true true q = cc
        by true false q = let z : v ≡ p - n = cc in ap (λ (k : ℕ). Ok (Token (327680 + k))) z
        by false u q = cc

    -- a row that there is
    pub condition_small : {v : ℕ} (r : Option Called) → r ≡ called_by w known → r ≡ Some (Condition v) → length all-names ≤ 128 → v ≤ 128
    condition_small {v} r f g h = by (eqb (count w all-names) 1) (ltb p n) (sym g ∙ f)
      where
        by : (t u : Bool) → Some (Condition v) ≡ cond t (Some (cond u (Named p) (Condition (p - n)))) None → v ≤ 128
        by true true q = let z : ◌≡◌ {A = ℕ} 0 1 = cc in absurd (omega arith)
        by true false q = let z : v ≡ p - n = cc in omega (arith, position-within w all-names)
        by false u q = let z : ◌≡◌ {A = ℕ} 0 1 = cc in absurd (omega arith)

    pub no_row_sense : (r : Option Called) → r ≡ called_by w known → r ≡ None → Err 16 ≡ sense_of (named known w)
    no_row_sense r f g = rw e (by (eqb (count w all-names) 1) (ltb p n) (sym g ∙ f))
      where
        by : (t u : Bool) → None ≡ cond t (Some (cond u (Named p) (Condition (p - n)))) None
            → Err 16 ≡ sense_of (cond t (cond u (item p) (alone (327680 + (p - n)))) (faulty 16))
        by true true q = cc
        by true false q = cc
        by false u q = refl

-- a nonnumeric literal, by its size
module _ (w : List ℕ) (r : Option ℕ) (f : r ≡ text_found w) where
  pub text_is : {n : ℕ} → r ≡ Some n → (is_text w ≡ true) × (length (text_of w).bytes ≡ n)
  text_is {n} g = by (is_text w) refl (sym g ∙ f)
    where
      by : (t : Bool) → is_text w ≡ t → Some n ≡ cond t (Some (length (text_of w).bytes)) None → (is_text w ≡ true) × (length (text_of w).bytes ≡ n)
      by true p q = (p, cc)
      by false p q = let z : ◌≡◌ {A = ℕ} 0 1 = cc in absurd (omega arith)

  pub text_not : r ≡ None → is_text w ≡ false
  text_not g = by (is_text w) refl (sym g ∙ f)
    where
      by : (t : Bool) → is_text w ≡ t → None ≡ cond t (Some (length (text_of w).bytes)) None → is_text w ≡ false
      by true p q = let z : ◌≡◌ {A = ℕ} 0 1 = cc in absurd (omega arith)
      by false p q = p

pub text_small : (w : List ℕ) → is_text w ≡ true → length (text_of w).bytes ≤ 256
unfolding is_text
text_small w e =
    let f = (both (same w (quoted (text_of w).bytes)) (fits (text_of w)) e).1 in
    small_size (text_of w) (both (row_sound (row_of_literal 0 (text_of w))) (valid_content 2 0 (text_of w).bytes) f).0 refl

module _ (known : Known) (w : List ℕ) where
  pub text_sense : {n : ℕ} → is_text w ≡ true → length (text_of w).bytes ≡ n → Ok (Literal (text_row n)) ≡ sense_of (meaning known w)
  unfolding meaning
  text_sense e q = rw (e, q)

  module _ (e : is_text w ≡ false) (r : Option Row) (f : r ≡ number_found w) where
    pub number_sense : {row : Row} → r ≡ Some row → Ok (Literal row) ≡ sense_of (meaning known w)
    unfolding meaning
    number_sense {row} g = rw e (by (is_number w) (sym g ∙ f))
      where
        by : (t : Bool) → Some row ≡ cond t (Some (row_of_literal 0 (number_of w))) None
            → Ok (Literal row) ≡ sense_of (cond t (value (number_of w)) (lookup w (named known w) vocabulary))
        by true q = let p : row ≡ row_of_literal 0 (number_of w) = cc in ap (λ (x : Row). Ok (Literal x)) p
        by false q = cc

    pub plain_sense : r ≡ None → sense_of (lookup w (named known w) vocabulary) ≡ sense_of (meaning known w)
    unfolding meaning
    plain_sense g = rw e (by (is_number w) (sym g ∙ f))
      where
        by : (t : Bool) → None ≡ cond t (Some (row_of_literal 0 (number_of w))) None
            → sense_of (lookup w (named known w) vocabulary) ≡ sense_of (cond t (value (number_of w)) (lookup w (named known w) vocabulary))
        by true q = cc
        by false q = refl
