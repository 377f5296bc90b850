-- Laws of a loop over places from 0 on: whether every one passes a test, and whether some one does.
use mathlib.Core.Path.{◌≡◌, refl}
use mathlib.Core.Bool.{Bool, true, false, ◌&&◌, ◌||◌, and-false}
use Prim.Native.Nat.{ℕ, zero, suc, ◌+◌, ◌<◌}
use native.Mathlib.Omega.{arith}
use native.Mathlib.Numerals.{add-one}
use native.Mathlib.Decide.{ℕ_discrete}
use Rattle.values.specs.Names.{every, some}

pub none_yet : (test : ℕ → Bool) → some test 0 ≡ false
unfolding some
none_yet test = refl

pub all_yet : (test : ℕ → Bool) → every test 0 ≡ true
unfolding every
all_yet test = refl

module _ (test : ℕ → Bool) (k : ℕ) where
  pub some_more : some test k ≡ false → test k ≡ false → some test (k + 1) ≡ false
  unfolding some
  some_more e f = rw (add-one k) (rw (e, f))

  pub every_more : every test k ≡ true → test k ≡ true → every test (k + 1) ≡ true
  unfolding every
  every_more e f = rw (add-one k) (rw (e, f))

pub some_holds : (test : ℕ → Bool) (k n : ℕ) → k < n → test k ≡ true → some test n ≡ true
unfolding some
some_holds test k zero l e = absurd (omega arith)
some_holds test k (suc n) l e = by (ℕ_discrete k n) (some_holds test k n)
  where
    last : (b : Bool) → test n ≡ true → b || test n ≡ true
    last true h = refl
    last false h = h

    by : Dec (k ≡ n) → (k < n → test k ≡ true → some test n ≡ true) → some test n || test n ≡ true
    by (yes q) rest = last (some test n) (rw q at e)
    by (no q) rest = rw (rest (omega arith) e)

pub every_fails : (test : ℕ → Bool) (k n : ℕ) → k < n → test k ≡ false → every test n ≡ false
unfolding every
every_fails test k zero l e = absurd (omega arith)
every_fails test k (suc n) l e = by (ℕ_discrete k n) (every_fails test k n)
  where
    by : Dec (k ≡ n) → (k < n → test k ≡ false → every test n ≡ false) → every test n && test n ≡ false
    by (yes q) rest = rw (rw q at e) (and-false (every test n))
    by (no q) rest = rw (rest (omega arith) e)
