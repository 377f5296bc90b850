-- The rows that pass a test, in row order. Assumes nothing.
use Prim.Native.Nat.{ℕ, zero, suc, ◌<◌}
use native.Mathlib.Omega.{arith}
use native.Mathlib.Decide.{dec_lt}
use mathlib.Core.Path.{◌≡◌, refl}
use mathlib.Core.List.Memᴰ
use mathlib.Core.List.{List, [], ◌∷◌, ◌++◌, Memᴰ}
use mathlib.Core.Logic.{⊎_elim}
use mathlib.Core.Bool.{Bool, true, false, cond}
use Rattle.items.specs.Items.{listed}

-- a row is listed where it passes
abbrev pub entry_of : (ℕ → Bool) → ℕ → List ℕ
entry_of test v = cond (test v) (v ∷ []) []

pub rows_none : (test : ℕ → Bool) (n : ℕ) → ((v : ℕ) → v < n → test v ≡ false) → listed (entry_of test) n ≡ []
unfolding listed
rows_none test zero h = refl
rows_none test (suc v) h = rw (rows_none test v (λ u k. h u (omega arith)), h v (omega arith))

-- a row is among them exactly where it passes
pub rows_all : (test : ℕ → Bool) (n v : ℕ) → v < n → test v ≡ true → Memᴰ v (listed (entry_of test) n)
unfolding listed
rows_all test zero v h e = absurd (omega arith)
rows_all test (suc n) v h e = by (dec_lt v n) (λ g. rows_all test n v g e)
  where
    by : Dec (v < n) → (v < n → Memᴰ v (listed (entry_of test) n)) → Memᴰ v (listed (entry_of test) n ++ cond (test n) (n ∷ []) [])
    by (yes g) rest = Memᴰ.append_left (cond (test n) (n ∷ []) []) (rest g)
    by (no g) rest =
        let q : v ≡ n = omega arith in
        let f : test n ≡ true = rw q at e in
        rw f (Memᴰ.append_right (listed (entry_of test) n) (Memᴰ.head q))

pub rows_only : (test : ℕ → Bool) (n v : ℕ) → Memᴰ v (listed (entry_of test) n) → (v < n) × (test v ≡ true)
unfolding listed
rows_only test zero v m = absurd (Memᴰ.not-nil m)
rows_only test (suc n) v m =
    ⊎_elim (λ a. let r = rows_only test n v a in (omega arith, r.1)) (λ a. by (test n) refl a) (Memᴰ.append_cases (listed (entry_of test) n) m)
  where
    by : (b : Bool) → test n ≡ b → Memᴰ v (cond b (n ∷ []) []) → (v < suc n) × (test v ≡ true)
    by true e a = let q : v ≡ n = Memᴰ.eq_of_singleton a in (omega arith, rw q e)
    by false e a = absurd (Memᴰ.not-nil a)
