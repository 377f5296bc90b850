-- A part of a file that can be swept: its records can be walked as a block, and each can be run.
use mathlib.Core.Path.{◌≡◌, refl, sym, ap, ap₂, ◌∙◌}
use mathlib.Core.List.{List}
use Prim.Native.Nat.{ℕ, ◌+◌, ◌-◌, ◌*◌, ◌<◌, ◌≤◌}
use native.Mathlib.Omega.{arith}
use native.Mathlib.Nat.{suc-mul, mul-le-mul_right}
use native.Mathlib.Numerals.{add-one}
use lib.ListN.{length, get_or, take, drop, replicate, get_or-replicate}
use lib.Seq.{sets, drop-drop}
use Rattle.tables.specs.declared.Judged.{Judged}
use Rattle.tables.specs.Operands.{Lent}
use Rattle.block_truths.specs.Columns.{record_at}
use Rattle.blocks.specs.Blocks.{Walkable, Walked}
use Rattle.sweeps.specs.Sweep.{laid, answer_of, answers_of, Sweepable}
use Rattle.sweeps.specs.Parts.{Part}
use Rattle.sweeps.proofs.Laying.{one_record, told_more}
use Rattle.sweeps.proofs.Lines.{run_record, plan_sound}

one_more : (j size : ℕ) → (j + 1) * size ≡ j * size + size
one_more j size = ap (λ (k : ℕ). k * size) (add-one j) ∙ suc-mul j size

module _ {records : List ℕ} {size from n out room : ℕ} (P : Part records size from n out room) where
  pub inside : (j : ℕ) → j < n → from + j * size + size ≤ length records
  inside j l =
      let upto : (j + 1) * size ≤ n * size = mul-le-mul_right size (omega arith) in
      omega (arith, upto, one_more j size, P.within)

  pub walkable : (lent : Lent) (plan : List ℕ) (switches : ℕ) → Sweepable lent plan records size room → Walkable lent plan records from size n
  walkable lent plan switches S =
      record {
        laid = record { some = P.some; few = P.few; within = inside };
        sound = plan_sound lent plan S.rules;
        runnable = λ j l. run_record lent plan records size switches S (from + j * size) (inside j l);
      }

-- the numbers of record j behind those of the records before it
pub answered : (run : List ℕ → Judged) (file before answers after : List ℕ) (size from out j base to : ℕ) → base ≡ from + j * size → to ≡ out + j * 4
    → answers ≡ sets before out (answers_of run (laid j size (drop from file))) → after ≡ sets answers to (answer_of (run (take size (drop base file))))
    → after ≡ sets before out (answers_of run (laid (j + 1) size (drop from file)))
answered run file before answers after size from out j base to e f g h =
    let there : drop (j * size) (drop from file) ≡ drop base file = drop-drop (j * size) from file ∙ ap (λ (k : ℕ). drop k file) (sym e) in
    told_more run (drop from file) before answers after size out j 1 g
    (h ∙ ap₂ (sets answers) f (sym (one_record run size (drop (j * size) (drop from file)) ∙ ap (λ (l : List ℕ). answer_of (run (take size l))) there)))

-- where no walk was made, nothing is known of any record
pub unwalked : (lent : Lent) (plan records : List ℕ) (from size n switches : ℕ) → n ≤ 64
    → Walked lent plan records from size n switches (replicate 64 130) (replicate 64 0)
unwalked lent plan records from size n switches few =
    record {
      settled = λ j l. let z = get_or-replicate {A = ℕ} 64 j 130 0 (omega arith) in
          record { done = omega (arith, z); most = omega (arith, z); fails = λ f. absurd (omega (arith, z, f)); holds = λ f. absurd (omega (arith, z, f)) };
      others = λ j _ l. (get_or-replicate {A = ℕ} 64 j 130 0 l, get_or-replicate {A = ℕ} 64 j 0 0 l);
      few = λ j l. omega (arith, get_or-replicate {A = ℕ} 64 j 0 0 l);
    }
