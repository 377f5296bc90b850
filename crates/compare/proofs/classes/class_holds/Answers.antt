-- Rests on the word and the kind, which pick their case of `class_holds`, and on what each test of the bytes returns.
use Prim.Native.Nat.{ℕ}
use mathlib.Core.Path.{◌≡◌, ◌∙◌}
use mathlib.Core.Bool.{true, false, ◌||◌}
use mathlib.Core.List.{List}
use lib.Dec.{eqb}
use borrow.Author.Tests.{ne_eqb}
use Rattle.content.specs.Content.{all, is_digit}
use Rattle.content.specs.WrongByte.{valid_content}
use Rattle.compare.specs.Classes.{class_holds}
use Rattle.compare.proofs.classes.class_holds.Goals as goal

-- NUMERIC by kind: all digits, or valid content
module _ (word kind digits : ℕ) (bytes : List ℕ) (numeric : word ≡ 10) where
  as-digits : eqb kind 2 || eqb kind 7 ≡ true → all is_digit bytes ≡ class_holds word kind digits bytes
  unfolding class_holds
  as-digits e = rw (numeric, e)

  as-content : eqb kind 2 || eqb kind 7 ≡ false → valid_content kind digits bytes ≡ class_holds word kind digits bytes
  unfolding class_holds
  as-content e = rw (numeric, e)

pub returns-then-kind : goal.returns-then-kind
returns-then-kind c =
    let a = c.args in
    c.all_digits.ensures ∙ as-digits a.word a.row.kind a.row.digits a.bytes.now c.if-word-eq-NUMERIC.true c.if-kind.true

pub returns-then-word-eq-NUMERIC : goal.returns-then-word-eq-NUMERIC
returns-then-word-eq-NUMERIC c =
    let a = c.args in
    c.valid_content.ensures ∙ as-content a.word a.row.kind a.row.digits a.bytes.now c.if-word-eq-NUMERIC.true c.if-kind.false

pub returns : goal.returns
unfolding class_holds
returns c = rw (ne_eqb _ 10 c.if-word-eq-NUMERIC.false) c.all_in_alphabet.ensures
