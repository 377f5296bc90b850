-- Truths told by words are right.
use mathlib.Core.Path.{◌≡◌, refl, sym, ap, ◌∙◌}
use mathlib.Core.Bool.{Bool, true, false, not, cond, ◌&&◌}
use Prim.Native.Nat.{ℕ, ◌<◌, ◌≤◌}
use native.Mathlib.Omega.{arith}
use lib.Dec.{eqb, ltb}
use borrow.Author.Tests.{lt-ltb, le-ltb, eq-eqb, ne_eqb, ltb-true, ltb-false, eqb-true, eqb-false}
use Rattle.tables.specs.declared.Outcome.{Outcome}
use Rattle.tables.specs.declared.Outcome.TheVariants.{True as Holds, False as Fails}
use Rattle.values.specs.Truth.{truth, turned}
use Rattle.digit_words.specs.declared.Asked.{Asked}
use Rattle.digit_words.specs.Asked.{answered}
use Rattle.block_truths.specs.Columns.{bit, coded, compared, tested, related, related_to, Right}

-- a bit is its truth
pub bit-right : (b : Bool) {out : Outcome} {v : ℕ} → out ≡ truth b → v ≡ bit b → Right out v
bit-right true e f = record { fails = λ g. absurd (omega (arith, f, g)); holds = λ _. e }
bit-right false e f = record { fails = λ _. e; holds = λ g. absurd (omega (arith, f, g)) }

-- of a truth that is not known nothing is said
pub two_right : {out : Outcome} {v : ℕ} → v ≡ 2 → Right out v
two_right e = record { fails = λ g. absurd (omega (arith, e, g)); holds = λ g. absurd (omega (arith, e, g)) }

-- the three truths of two words are the one that is asked
three_ways : (asked : Asked) (a b : ℕ)
    → cond (ltb a b) (coded asked true false false) (cond (eqb a b) (coded asked false true false) (coded asked false false true)) ≡ bit (answered asked a b)
three_ways asked a b = by (ltb a b) (eqb a b) refl refl
  where
    by : (l e : Bool) → ltb a b ≡ l → eqb a b ≡ e
        → cond (ltb a b) (coded asked true false false) (cond (eqb a b) (coded asked false true false) (coded asked false false true)) ≡ bit (answered asked a b)
    by true e l m =
        rw (l, ne_eqb a b (λ z. omega (arith, z, ltb-true a b l)), le-ltb b a (omega (arith, ltb-true a b l)))
    by false true l m = rw (l, m, le-ltb b a (omega (arith, eqb-true a b m)))
    by false false l m = rw (l, m, lt-ltb b a (omega (arith, ltb-false a b l, eqb-false a b m)))

-- one test of two words, where it is the one that is asked
pub chosen : (turn b : Bool) → cond b (bit (turned turn true)) (bit (turned turn false)) ≡ bit (turned turn b)
chosen turn true = refl
chosen turn false = refl

pub asked_related : (asked : Asked) (a b : ℕ) (valid test : Bool) {v : ℕ} → cond asked.equal (eqb a b) (cond asked.second (ltb b a) (ltb a b)) ≡ test
    → v ≡ tested valid test (bit (turned asked.turned true)) (bit (turned asked.turned false)) → v ≡ related asked valid a b
asked_related asked a b true test f e =
    e ∙ chosen asked.turned test ∙ ap (λ (t : Bool). bit (turned asked.turned t)) (sym f) ∙ sym (three_ways asked a b)
asked_related asked a b false test f e = e

-- two fields
pub related-right : (asked : Asked) (a b : ℕ) (valid : Bool) {out : Outcome} {v : ℕ} → v ≡ related asked valid a b
    → (valid ≡ true → out ≡ truth (answered asked a b)) → Right out v
related-right asked a b true e f = bit-right (answered asked a b) (f refl) (e ∙ three_ways asked a b)
related-right asked a b false e f = two_right e

-- a field and a word, which is the relation's first side where they are exchanged
three_back : (asked : Asked) (a b : ℕ)
    → cond (ltb a b) (coded asked false false true) (cond (eqb a b) (coded asked false true false) (coded asked true false false)) ≡ bit (answered asked b a)
three_back asked a b = by (ltb a b) (eqb a b) refl refl
  where
    by : (l e : Bool) → ltb a b ≡ l → eqb a b ≡ e
        → cond (ltb a b) (coded asked false false true) (cond (eqb a b) (coded asked false true false) (coded asked true false false)) ≡ bit (answered asked b a)
    by true e l m =
        rw (l, ne_eqb b a (λ z. omega (arith, z, ltb-true a b l)), le-ltb b a (omega (arith, ltb-true a b l)))
    by false true l m = rw (l, m, eq-eqb b a (sym (eqb-true a b m)), le-ltb b a (omega (arith, eqb-true a b m)))
    by false false l m = rw (l, m, ne_eqb b a (λ z. eqb-false a b m (sym z)), lt-ltb b a (omega (arith, ltb-false a b l, eqb-false a b m)))

pub first-right : (asked : Asked) (a b : ℕ) (valid : Bool) {out : Outcome} {v : ℕ} → v ≡ related_to asked false valid a b
    → (valid ≡ true → out ≡ truth (answered asked a b)) → Right out v
first-right asked a b true e f = bit-right (answered asked a b) (f refl) (e ∙ three_ways asked a b)
first-right asked a b false e f = two_right e

pub second_right : (asked : Asked) (a b : ℕ) (valid : Bool) {out : Outcome} {v : ℕ} → v ≡ related_to asked true valid a b
    → (valid ≡ true → out ≡ truth (answered asked b a)) → Right out v
second_right asked a b true e f = bit-right (answered asked b a) (f refl) (e ∙ three_back asked a b)
second_right asked a b false e f = two_right e
