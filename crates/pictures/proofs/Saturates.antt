-- The code's step is the definition's, with counts that stop at 131,072.
use mathlib.Core.Path.{◌≡◌, refl, sym, ap}
use mathlib.Core.Bool.{Bool, true, false, cond, ◌&&◌, not, and-false}
use mathlib.Core.Option as maybe
use mathlib.Core.Option.{none, some}
use Prim.Native.Nat.{ℕ, zero, suc, ◌+◌, ◌*◌, ◌-◌, ◌≤◌, ◌<◌, min}
use native.Mathlib.Omega.{arith}
use lib.Dec.{eqb, leb}
use Rattle.description.specs.Grammar.{is_digit}
use Rattle.description.specs.Reader as R
use Rattle.description.proofs.Bytes.{eqb_no}
use Rattle.pictures.specs.Steps.{cap, made, on_pending}
use Rattle.pictures.specs.Drawings.{cap_pending}
use Rattle.pictures.specs.declared.Pending.{Pending}
use Rattle.pictures.specs.declared.Pending.TheVariants.{Settled, Last, Counting}
use Rattle.pictures.specs.declared.Tally.{Tally}
use Rattle.std.specs.Prelude.{None, Option, Some}

abbrev pub shown : maybe.Option R.Tally → Option Tally
shown none = None
shown (some t) = Some (made (cap t.count) (cap_pending t.pending))

pub saturates : (c n : ℕ) (p : R.Pending) (b : ℕ) → on_pending c (cap n) (cap_pending p) b ≡ shown (R.tallying c n p b)
saturates c n R.settled b = by (eqb b c)
  where
    by : (t : Bool) → cond t (Some (made (cap n) Last)) None ≡ shown (R.given t (R.tally n R.last))
    by true = refl
    by false = refl
saturates c n R.last b = by (eqb b c) (eqb b 0x28)
  where
    more : cap (cap n + 1) ≡ cap (suc n)
    more = omega arith

    by : (s t : Bool) → cond s (Some (made (cap (cap n + 1)) Last)) (cond t (Some (made (cap n) (Counting 0))) None)
        ≡ shown (cond s (some (R.tally (suc n) R.last)) (R.given t (R.tally n (R.counting 0))))
    by true t = rw more
    by false true = refl
    by false false = refl
saturates c n (R.counting v) b = by (is_digit b) (eqb b 0x29)
  where
    digit : cap (cap v * 10 + (b - 0x30)) ≡ cap (v * 10 + (b - 0x30))
    digit = omega arith

    closed : (v : ℕ) → cond (not (eqb (cap v) 0)) (Some (made (cap (cap n + cap v)) Settled)) None ≡ shown (R.closing n v)
    closed zero = refl
    closed (suc k) =
        let sum : cap (cap n + cap (suc k)) ≡ cap (n + suc k) = omega arith in
        rw (eqb_no (cap (suc k)) 0 (λ e. omega arith), sum)

    by : (s t : Bool) → cond s (Some (made (cap n) (Counting (cap (cap v * 10 + (b - 0x30)))))) (cond (t && not (eqb (cap v) 0)) (Some (made (cap (cap n + cap v)) Settled)) None)
        ≡ shown (cond s (some (R.tally n (R.counting (v * 10 + (b - 0x30))))) (cond t (R.closing n v) none))
    by true t = rw digit
    by false true = closed v
    by false false = refl
