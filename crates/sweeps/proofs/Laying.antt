-- Records of a file, and the numbers that stand for them, some and then more.
use mathlib.Core.Path.{◌≡◌, refl, sym, ap, ap₂, ◌∙◌}
use mathlib.Core.List.{List, [], ◌∷◌, ◌++◌, append_assoc, append-nil}
use Prim.Native.Nat.{ℕ, zero, suc, ◌+◌, ◌*◌, ◌/◌, ◌≤◌}
use native.Mathlib.Omega.{arith}
use native.Mathlib.Nat.{suc-mul, zero-mul, add-mul, suc-add, add-suc, add-zero, zero-add}
use lib.ListN.{length, take, drop, length-append}
use lib.Seq.{drop-drop, sets, length-sets}
use Rattle.tables.specs.declared.Judged.{Judged}
use Rattle.sweeps.specs.Sweep.{laid, records_of, answer_of, answers_of}

-- stores, and then those behind them
pub sets_more : (l : List ℕ) (i : ℕ) (vs ws : List ℕ) → sets (sets l i vs) (i + length vs) ws ≡ sets l i (vs ++ ws)
sets_more l i [] ws = ap (λ (k : ℕ). sets l k ws) (add-zero i)
sets_more l i (v ∷ vs) ws = ap (λ (k : ℕ). sets (sets l i (v ∷ vs)) k ws) (add-suc i (length vs) ∙ sym (suc-add i (length vs))) ∙ sets_more _ (suc i) vs ws

pub as_long_as : {answers : List ℕ} (before : List ℕ) (out : ℕ) (vs : List ℕ) → answers ≡ sets before out vs → length answers ≡ length before
as_long_as {answers} before out vs e = ap length e ∙ length-sets before out vs

pub laid_more : (n m size : ℕ) (file : List ℕ) → laid (n + m) size file ≡ laid n size file ++ laid m size (drop (n * size) file)
unfolding laid
laid_more zero m size file = ap₂ (λ (k : ℕ) (d : ℕ). laid k size (drop d file)) (zero-add m) (sym (zero-mul size))
laid_more (suc n) m size file =
    let rest : size + n * size ≡ suc n * size = omega (arith, suc-mul n size) in
    ap (λ (k : ℕ). laid k size file) (suc-add n m)
    ∙ ap (λ (l : List (List ℕ)). take size file ∷ l) (laid_more n m size (drop size file))
    ∙ ap (λ (l : List ℕ). take size file ∷ laid n size (drop size file) ++ laid m size l) (drop-drop (n * size) size file ∙ ap (λ (k : ℕ). drop k file) rest)

module _ (run : List ℕ → Judged) where
  pub answers_more : (some others : List (List ℕ)) → answers_of run (some ++ others) ≡ answers_of run some ++ answers_of run others
  unfolding answers_of
  answers_more [] others = refl
  answers_more (content ∷ some) others =
      ap (λ (l : List ℕ). answer_of (run content) ++ l) (answers_more some others)
      ∙ sym (append_assoc (answer_of (run content)) (answers_of run some) (answers_of run others))

  -- so many numbers
  pub four_each : (n size : ℕ) (file : List ℕ) → length (answers_of run (laid n size file)) ≡ n * 4
  unfolding laid answers_of
  four_each zero size file = refl
  four_each (suc n) size file =
      omega (
        arith,
        length-append (answer_of (run (take size file))) (answers_of run (laid n size (drop size file))),
        four_each n size (drop size file),
      )

  -- one record
  pub one_record : (size : ℕ) (file : List ℕ) → answers_of run (laid 1 size file) ≡ answer_of (run (take size file))
  unfolding laid answers_of
  one_record size file = refl

  -- the numbers of some records stand from a place on, and then those of n more
  pub told_more : (file before answers after : List ℕ) (size out done n : ℕ) → answers ≡ sets before out (answers_of run (laid done size file))
      → after ≡ sets answers (out + done * 4) (answers_of run (laid n size (drop (done * size) file)))
      → after ≡ sets before out (answers_of run (laid (done + n) size file))
  told_more file before answers after size out done n e f =
      let some : List ℕ = answers_of run (laid done size file) in
      let more : List ℕ = answers_of run (laid n size (drop (done * size) file)) in
      f
      ∙ ap₂ (λ (l : List ℕ) (k : ℕ). sets l (out + k) more) e (sym (four_each done size file))
      ∙ sets_more before out some more
      ∙ ap (sets before out) (sym (ap (answers_of run) (laid_more done n size file) ∙ answers_more (laid done size file) (laid n size (drop (done * size) file))))
