-- The step of a tally with counts that stop at 131,072.
use Rattle.std.specs.Prelude.{Bool, cond, ◌&&◌, not, Option, Some, None, ℕ, ◌+◌, ◌*◌, ◌-◌, ◌≤◌, min, eqb, leb}
use Rattle.description.specs.Grammar.{is_digit}
use Rattle.pictures.specs.declared.Pending.{Pending}
use Rattle.pictures.specs.declared.Pending.TheVariants.{Settled, Last, Counting}
use Rattle.pictures.specs.declared.Tally.{Tally}

abbrev pub cap : ℕ → ℕ
cap n = min n 131072

abbrev pub made : ℕ → Pending → Tally
made n p = record { count = n; pending = p }

abbrev pub on_settled : ℕ → ℕ → ℕ → Option Tally
on_settled c n b = cond (eqb b c) (Some (made n Last)) None

abbrev pub on_last : ℕ → ℕ → ℕ → Option Tally
on_last c n b = cond (eqb b c) (Some (made (cap (n + 1)) Last)) (cond (eqb b 0x28) (Some (made n (Counting 0))) None)

abbrev pub on_counting : ℕ → ℕ → ℕ → Option Tally
on_counting n v b =
    cond (is_digit b) (Some (made n (Counting (cap (v * 10 + (b - 0x30)))))) (cond (eqb b 0x29 && not (eqb v 0)) (Some (made (cap (n + v)) Settled)) None)

abbrev pub on_pending : ℕ → ℕ → Pending → ℕ → Option Tally
on_pending c n Settled b = on_settled c n b
on_pending c n Last b = on_last c n b
on_pending c n (Counting v) b = on_counting n v b

abbrev pub on_tally : ℕ → Tally → ℕ → Option Tally
on_tally c t b = on_pending c t.count t.pending b

-- Counts within the bound.
abbrev pub SmallPending : Pending → Type 0
SmallPending Settled = Unit {0}
SmallPending Last = Unit {0}
SmallPending (Counting v) = v ≤ 131072

pub record Small (t : Tally) : Type 0 where
  pub count : t.count ≤ 131072
  pub pending : SmallPending t.pending

-- how often the character stands, unless its count is being read
abbrev pub total_of_pending : ℕ → Pending → Option ℕ
total_of_pending n Settled = Some n
total_of_pending n Last = Some (cap (n + 1))
total_of_pending n (Counting v) = None

abbrev pub total_of : Tally → Option ℕ
total_of t = total_of_pending t.count t.pending
