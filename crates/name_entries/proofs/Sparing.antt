-- What values leave as it was.
use mathlib.Core.Path.{◌≡◌, refl, sym, ap, ◌∙◌}
use mathlib.Core.Bool.{Bool, true, false, ◌||◌}
use mathlib.Core.List.{List, [], ◌∷◌}
use Prim.Native.Nat.{ℕ, ◌+◌, ◌*◌, ◌≤◌}
use native.Mathlib.Omega.{arith}
use lib.ListN.{length, take, drop, replicate}
use lib.Seq.{sets, length-sets}
use Rattle.description.proofs.Bytes.{apart}
use Rattle.condition_names.specs.declared.Found.{Found}
use Rattle.value_weights.specs.declared.Weighed.{Weighed}
use Rattle.value_weights.specs.declared.Weighed.TheVariants.{Barred, Single, Range}
use Rattle.value_notes.specs.Taking.{note_numbers, full, notes_after, row_after, tally_after, wants, is_barred, Takes}
use Rattle.name_entries.specs.Named.{Spared}
use Rattle.value_notes.specs.declared.Tally.{Tally}
use Rattle.value_notes.proofs.Taken.{room_of}
use Rattle.tables.proofs.Front.{later_rest}
use Rattle.value_notes.proofs.Cells.{sets_before, sets_after}

-- notes from the k-th literal to the m-th are new
pub record Fresh (k m : ℕ) (before now : List ℕ) : Type 0 where
  pub up : k ≤ m
  pub long : length now ≡ length before
  pub counted : take (k * 7) now ≡ take (k * 7) before
  pub beyond : drop (m * 7) now ≡ drop (m * 7) before

fresh_one : {k m : ℕ} {before now : List ℕ} → Fresh k m before now → (ns : List ℕ) → length ns ≡ 7 → Fresh k (m + 1) before (sets now (m * 7) ns)
fresh_one {k} {m} {before} {now} f ns s =
    record {
      up = omega (arith, f.up);
      long = length-sets now (m * 7) ns ∙ f.long;
      counted = sets_before ns now (m * 7) (k * 7) (omega (arith, f.up)) ∙ f.counted;
      beyond = sets_after ns now (m * 7) ((m + 1) * 7) (omega (arith, s)) ∙ later_rest now before (m * 7) ((m + 1) * 7) (omega arith) f.beyond;
    }

-- What is left after some values, the tally of which is t.
pub record Rest (k : ℕ) (before : List ℕ) (t : Tally) (row notes : List ℕ) : Type 0 where
  pub spared : Spared k before row notes
  pub fresh : t.over ≡ false → Fresh k t.literals before notes

pub spared_first : {k : ℕ} {row notes : List ℕ} → row ≡ replicate 18 0 → Spared k notes row notes
spared_first z = record { wide = ap length z; unnamed = ap (take 2) z; long = refl; counted = refl; beyond = refl }

pub rest_first : {t : Tally} {row notes : List ℕ} → row ≡ replicate 18 0 → Rest t.literals notes t row notes
rest_first z = record { spared = spared_first z; fresh = λ e. record { up = omega arith; long = refl; counted = refl; beyond = refl } }

-- One value more.
module _ {k : ℕ} {before : List ℕ} {t : Tally} {row notes : List ℕ} (R : Rest k before t row notes) where
  stored : {m : ℕ} {now : List ℕ} (n : ℕ) (ps : List ℕ) → Fresh k m before now → m ≤ 64 → Spared k before (sets row (n + 2) ps) now
  stored {m} {now} n ps f l =
      record {
        wide = length-sets row (n + 2) ps ∙ R.spared.wide;
        unnamed = sets_before ps row (n + 2) 2 (omega arith) ∙ R.spared.unnamed;
        long = f.long;
        counted = f.counted;
        beyond = later_rest now before (m * 7) 448 (omega arith) f.beyond;
      }

  module _ {w : Weighed} {f : Found} {r : Tally} {row-after notes-after : List ℕ} (T : Takes w f t row notes r row-after notes-after) where
    or_no : (a b : Bool) → a || b ≡ false → (a ≡ false) × (b ≡ false)
    or_no true b e = apart refl e
    or_no false b e = (refl, e)

    pub rest_more : Rest k before r row-after notes-after
    unfolding is_barred wants tally_after row_after notes_after
    rest_more = by r.over refl
      where
        taken : (w : Weighed) → is_barred w || full t (wants w) ≡ false → Rest k before (tally_after w t) (row_after w t row) (notes_after w f t notes)
        taken Barred e = apart refl e
        taken (Single low) e =
            let m = room_of t 1 e in
            let f1 = fresh_one (R.fresh m.«open») (note_numbers low t.bytes f.low f.mid) refl in
            record { spared = stored (t.values * 2) (t.literals ∷ t.literals ∷ []) f1 m.literals; fresh = λ _. f1 }
        taken (Range low high) e =
            let m = room_of t 2 e in
            let f1 = fresh_one (R.fresh m.«open») (note_numbers low t.bytes f.low f.mid) refl in
            let z : t.literals + 1 + 1 ≡ t.literals + 2 = omega arith in
            let f2 = rw z at (fresh_one f1 (note_numbers high (t.bytes + low.size) f.high f.end) refl) in
            record { spared = stored (t.values * 2) (t.literals ∷ (t.literals + 1) ∷ []) f2 m.literals; fresh = λ _. f2 }

        by : (b : Bool) → r.over ≡ b → Rest k before r row-after notes-after
        by true e = rw ((T.passed e).1, (T.passed e).2) (record { spared = R.spared; fresh = λ o. apart e o })
        by false e = rw (T.tallied e, T.paired e, T.noted e) (taken w (sym T.over ∙ e))
