-- An answer is read back from its numbers.
use mathlib.Core.Path.{◌≡◌, refl, sym, ap, ◌∙◌}
use mathlib.Core.Bool.{false, cond}
use mathlib.Core.List.{List}
use Prim.Native.Nat.{ℕ}
use lib.ListN.{get_or}
use lib.Dec.{eqb}
use Rattle.tables.specs.declared.Refusal.{Refusal}
use Rattle.tables.specs.declared.Refusal.TheVariants.{ItemTable, ItemRow, LiteralTable, LiteralRow, TokenCount, Token, Grammar, Depth}
use Rattle.tables.specs.declared.Refusal.TheVariants.{Typing, Room, PlanRow, Record, Data, Letters, Name, Overlap, Lengths}
use Rattle.tables.specs.declared.Verdict.{Verdict}
use Rattle.tables.specs.declared.Verdict.TheVariants.{True, False, Refused as Unjudged}
use Rattle.tables.specs.Refusals.{number, Written}
use Rattle.rules.specs.Numbers.{of_refusal, of_written, of_verdict, NumbersTell}
use Rattle.std.specs.Prelude.{Err, Ok}

-- the refusal of a number, a place and a byte
abbrev refusal_of : ℕ → ℕ → ℕ → Refusal
refusal_of number place byte =
    cond (eqb number 1) ItemTable
    (cond (eqb number 2) (ItemRow place)
    (cond (eqb number 3) LiteralTable
    (cond (eqb number 4) (LiteralRow place)
    (cond (eqb number 5) TokenCount
    (cond (eqb number 6) (Token place)
    (cond (eqb number 7) (Grammar place)
    (cond (eqb number 8) (Depth place)
    (cond (eqb number 9) (Typing place)
    (cond (eqb number 10) (Room place)
    (cond (eqb number 11) (PlanRow place)
    (cond (eqb number 12) (Record place)
    (cond (eqb number 13) (Data place byte)
    (cond (eqb number 17) (Letters place byte)
    (cond (eqb number 18) (Name place)
    (cond (eqb number 19) (Overlap place) Lengths)))))))))))))))

refusal_in : List ℕ → Refusal
refusal_in numbers = refusal_of (get_or numbers 0 0) (get_or numbers 1 0) (get_or numbers 2 0)

-- a refusal is read back, and its number is not 0
refusal_back : (refusal : Refusal) → (refusal_in (of_refusal refusal) ≡ refusal) × (eqb (number refusal) 0 ≡ false)
unfolding refusal_in
refusal_back ItemTable = (refl, refl)
refusal_back (ItemRow row) = (refl, refl)
refusal_back LiteralTable = (refl, refl)
refusal_back (LiteralRow row) = (refl, refl)
refusal_back TokenCount = (refl, refl)
refusal_back (Token at) = (refl, refl)
refusal_back (Grammar at) = (refl, refl)
refusal_back (Depth at) = (refl, refl)
refusal_back (Typing condition) = (refl, refl)
refusal_back (Room needed) = (refl, refl)
refusal_back (PlanRow row) = (refl, refl)
refusal_back (Record row) = (refl, refl)
refusal_back (Data condition byte) = (refl, refl)
refusal_back (Letters condition byte) = (refl, refl)
refusal_back (Name row) = (refl, refl)
refusal_back (Overlap row) = (refl, refl)
refusal_back Lengths = (refl, refl)

written_in : List ℕ → Written
written_in numbers = cond (eqb (get_or numbers 0 0) 0) (Ok (get_or numbers 1 0)) (Err (refusal_in numbers))

written_back : (a : Written) → written_in (of_written a) ≡ a
unfolding written_in
written_back (Ok n) = refl
written_back (Err refusal) = let (back, some) = refusal_back refusal in rw (some, back)

verdict_in : List ℕ → Verdict
verdict_in numbers = cond (eqb (get_or numbers 0 0) 0) (cond (eqb (get_or numbers 1 0) 1) True False) (Unjudged (refusal_in numbers))

verdict_back : (a : Verdict) → verdict_in (of_verdict a) ≡ a
unfolding verdict_in
verdict_back True = refl
verdict_back False = refl
verdict_back (Unjudged refusal) = let (back, some) = refusal_back refusal in rw (some, back)

pub numbers_tell : NumbersTell
numbers_tell =
    record {
      written = λ a b e. sym (written_back a) ∙ ap written_in e ∙ written_back b;
      verdict = λ a b e. sym (verdict_back a) ∙ ap verdict_in e ∙ verdict_back b;
    }
