-- A size that fills a file, and from one part of the file to the next.
use mathlib.Core.Path.{◌≡◌, refl, sym, ap, ap₂, ◌∙◌}
use mathlib.Core.Bool.{Bool, true, false, cond, ◌&&◌}
use mathlib.Core.List.{List, [], ◌∷◌, ◌++◌}
use Prim.Native.Nat.{ℕ, zero, suc, ◌+◌, ◌-◌, ◌*◌, ◌/◌, ◌%◌, ◌≤◌, ◌<◌}
use native.Mathlib.Omega.{arith}
use native.Mathlib.Nat.{suc-mul, zero-mul, add-mul, mul-le-mul_right, mod-add-div'}
use lib.ListN.{length, take, drop}
use lib.Seq.{sets, sets-eq, length-sets}
use lib.Dec.{eqb, leb}
use borrow.Author.Tests.{eqb-true, leb-true, le-leb}
use Rattle.tables.specs.declared.Judged.{Judged}
use Rattle.tables.specs.Rows.{row_count}
use Rattle.tables.specs.Operands.{Lent}
use Rattle.tables.specs.Refusals.{first_failing}
use Rattle.tables.specs.Tables.{record_check}
use Rattle.tables.proofs.Tests.{both}
use Rattle.sweeps.specs.Sweep.{laid, records_of, answers_of, evenly}
use Rattle.sweeps.specs.Parts.{Part}
use Rattle.sweeps.proofs.Laying.{four_each, told_more}

-- a size that fills a file
pub filled : (size bytes : ℕ) → evenly size bytes ≡ true → (1 ≤ size) × (bytes / size * size ≡ bytes) × (bytes / size ≤ 1073741823)
unfolding evenly
filled size bytes e =
    let a = both (leb 1 size && eqb (bytes % size) 0) (leb (bytes / size) 1073741823) e in
    let b = both (leb 1 size) (eqb (bytes % size) 0) a.0 in
    (leb-true 1 size b.0, omega (arith, mod-add-div' bytes size, eqb-true (bytes % size) 0 b.1), leb-true (bytes / size) 1073741823 a.1)

pub nothing_fills : (size bytes : ℕ) → size ≡ 0 → false ≡ evenly size bytes
unfolding evenly
nothing_fills size bytes e = rw e

pub fills : (size bytes : ℕ) → (size ≡ 0 → ⊥) → eqb (bytes % size) 0 && leb (bytes / size) 1073741823 ≡ evenly size bytes
unfolding evenly
fills size bytes e = rw (le-leb 1 size (by size e))
  where
    by : (n : ℕ) → (n ≡ 0 → ⊥) → 1 ≤ n
    by zero z = absurd (z refl)
    by (suc n) z = omega arith

pub one_fits : (size bytes : ℕ) → evenly size bytes ≡ true → (bytes ≡ 0 → ⊥) → size ≤ bytes
one_fits size bytes e some = by (bytes / size) (filled size bytes e).1
  where
    by : (n : ℕ) → n * size ≡ bytes → size ≤ bytes
    by zero h = absurd (some (sym h ∙ zero-mul size))
    by (suc n) h = omega (arith, h, suc-mul n size)

-- 12 asks for the length of a record alone
pub as_long : (lent : Lent) (content other : List ℕ) → length content ≡ length other → record_check lent content ≡ record_check lent other
as_long lent content other e = rw e

module _ (run : List ℕ → Judged) (file : List ℕ) (size : ℕ) (before : List ℕ) where
  -- between two parts: some records are done, and their numbers stand at the front
  pub record Between (answers : List ℕ) (left from out : ℕ) : Type 0 where
    pub done : ℕ
    pub rest : done + left ≡ length file / size
    pub here : from ≡ done * size
    pub stand : out ≡ done * 4
    pub told : answers ≡ sets before 0 (answers_of run (laid done size file))

  pub begins : Between before (length file / size) 0 0
  unfolding laid answers_of
  begins = record { done = 0; rest = omega arith; here = sym (zero-mul size); stand = refl; told = refl }

  module _ (even : evenly size (length file) ≡ true) (room : length file / size * 4 ≤ length before) where
    module _ {answers : List ℕ} {left from out : ℕ} (S : Between answers left from out) where
      pub long : length answers ≡ length before
      long = ap length S.told ∙ length-sets before 0 (answers_of run (laid S.done size file))

      module _ (n : ℕ) (some : n ≤ left) where
        -- n more of those left
        more : S.done * size + n * size ≤ length file
        more =
            let all : (S.done + n) * size ≤ length file / size * size = mul-le-mul_right size (omega (arith, S.rest)) in
            omega (arith, all, add-mul S.done n size, (filled size (length file) even).1)

        pub part : 1 ≤ n → n ≤ 64 → Part file size from n out (length answers)
        part least few =
            record { some = least; few = few; within = omega (arith, more, S.here); fits = omega (arith, S.rest, S.stand, long, room) }

        pub goes_on : {after : List ℕ} → after ≡ sets answers out (answers_of run (laid n size (drop from file)))
            → Between after (left - n) (from + n * size) (out + n * 4)
        goes_on {after} e =
            record {
              done = S.done + n;
              rest = omega (arith, S.rest);
              here = omega (arith, S.here, add-mul S.done n size);
              stand = omega (arith, S.stand);
              told = told_more run file before answers after size 0 S.done n S.told
                  (e ∙ ap₂ (λ (k : ℕ) (b : ℕ). sets answers k (answers_of run (laid n size (drop b file)))) (omega (arith, S.stand)) S.here);
            }

      -- after the last part
      pub ends : left ≡ 0 → answers ≡ answers_of run (records_of size file) ++ drop (length file / size * 4) before
      ends none =
          let all : S.done ≡ length file / size = omega (arith, S.rest) in
          let count = four_each run (length file / size) size file in
          let end : 0 + length (answers_of run (records_of size file)) ≡ length file / size * 4 = omega (arith, count) in
          S.told
          ∙ ap (λ (k : ℕ). sets before 0 (answers_of run (laid k size file))) all
          ∙ sets-eq (answers_of run (records_of size file)) before 0 (omega (arith, count, room))
          ∙ ap (λ (k : ℕ). answers_of run (records_of size file) ++ drop k before) end
