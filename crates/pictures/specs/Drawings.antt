-- The step of a picture with counts that stop at 131,072, and what a picture is where it ends.
use Rattle.std.specs.Prelude.{Bool, true, false, cond, List, [], Option, Some, None, ℕ, ◌+◌, ◌≤◌, eqb, take, Result, Ok, Err}
use Rattle.std.proofs.Math.Option.{get_or}
use Rattle.description.specs.Machine.{after}
use Rattle.description.specs.Reader as R
use Rattle.description.specs.Reader.{is_some, pictures}
use Rattle.description.specs.Stages.{reach, clauses}
use Rattle.description.specs.declared.Pictured.{Pictured}
use Rattle.description.specs.declared.Pictured.TheVariants as Pictured
use Rattle.pictures.specs.Steps.{cap, made, on_tally, total_of, Small}
use Rattle.pictures.specs.declared.Pending.{Pending}
use Rattle.pictures.specs.declared.Pending.TheVariants.{Settled, Last, Counting}
use Rattle.pictures.specs.declared.Tally.{Tally}
use Rattle.pictures.specs.declared.Drawn.{Drawn}
use Rattle.pictures.specs.declared.Drawn.TheVariants.{Nothing, Letters, Whole, Pointed}
use Rattle.pictures.specs.declared.Sketch.{Sketch}

abbrev pub drew : (Tally → Drawn) → Option Tally → Option Drawn
drew f (Some t) = Some (f t)
drew f None = None

abbrev pub on_letters : ℕ → Tally → ℕ → Option Drawn
on_letters c t b = drew (Letters c) (on_tally c t b)

abbrev pub on_pointed : Bool → ℕ → Tally → ℕ → Option Drawn
on_pointed s m t b = drew (Pointed s m) (on_tally 0x39 t b)

abbrev pub point_after : Bool → Option ℕ → Option Drawn
point_after s (Some m) = Some (Pointed s m (made 0 Settled))
point_after s None = None

abbrev pub on_point : Bool → Tally → Option Drawn
on_point s t = point_after s (total_of t)

abbrev pub on_number : Bool → Tally → ℕ → Option Drawn
on_number s t b = cond (eqb b 0x56) (on_point s t) (drew (Whole s) (on_tally 0x39 t b))

abbrev pub on_first : ℕ → Option Drawn
on_first b =
    cond (eqb b 0x58) (Some (Letters 0x58 (made 0 Last)))
    (cond (eqb b 0x41) (Some (Letters 0x41 (made 0 Last)))
    (cond (eqb b 0x53) (Some (Whole true (made 0 Settled))) (on_number false (made 0 Settled) b)))

abbrev pub on_drawn : Drawn → ℕ → Option Drawn
on_drawn Nothing b = on_first b
on_drawn (Letters c t) b = on_letters c t b
on_drawn (Whole s t) b = on_number s t b
on_drawn (Pointed s m t) b = on_pointed s m t b

-- Counts within the bound.
abbrev pub SmallDrawn : Drawn → Type 0
SmallDrawn Nothing = Unit {0}
SmallDrawn (Letters c t) = Small t
SmallDrawn (Whole s t) = Small t
SmallDrawn (Pointed s m t) = (m ≤ 131072) × Small t

abbrev pub number_kind : Bool → ℕ
number_kind true = 4
number_kind false = 3

abbrev pub number_end : Bool → ℕ → ℕ → ℕ → Bool → Result Pictured ℕ
number_end s m n k period =
    cond (eqb (cap (m + n)) 0) (Err k) (cond period (Ok (Pictured.Ended (clauses (number_kind s) (cap (m + n)) n (cap (m + n)) (k + 1)))) (Ok (Pictured.Number s m n k)))

abbrev pub letters_end : ℕ → ℕ → ℕ → Bool → Result Pictured ℕ
letters_end c n k period =
    cond (eqb n 0) (Err k) (cond period (Ok (Pictured.Ended (clauses (cond (eqb c 0x58) 2 1) n 0 0 (k + 1)))) (Err k))

abbrev pub end_with : (ℕ → Result Pictured ℕ) → ℕ → Option ℕ → Result Pictured ℕ
end_with f k (Some n) = f n
end_with f k None = Err k

abbrev pub drawn_end : Drawn → ℕ → Bool → Result Pictured ℕ
drawn_end Nothing k period = Err k
drawn_end (Letters c t) k period = end_with (λ n. letters_end c n k period) k (total_of t)
drawn_end (Whole s t) k period = end_with (λ m. number_end s m 0 k period) k (total_of t)
drawn_end (Pointed s m t) k period = end_with (λ n. number_end s m n k period) k (total_of t)

-- The same of the definition's states: counts above 131,072 are taken as 131,072.
abbrev pub cap_pending : R.Pending → Pending
cap_pending R.settled = Settled
cap_pending R.last = Last
cap_pending (R.counting v) = Counting (cap v)

abbrev pub cap_tally : R.Tally → Tally
cap_tally t = made (cap t.count) (cap_pending t.pending)

abbrev pub cap_drawn : R.Drawn → Drawn
cap_drawn R.nothing = Nothing
cap_drawn (R.letters c t) = Letters (R.letter_byte c) (cap_tally t)
cap_drawn (R.whole s t) = Whole s (cap_tally t)
cap_drawn (R.pointed s m t) = Pointed s (cap m) (cap_tally t)

abbrev pub cap_pictured : Result Pictured ℕ → Result Pictured ℕ
cap_pictured (Ok (Pictured.Ended x)) = Ok (Pictured.Ended (clauses x.kind (cap x.size) (cap x.scale) (cap x.digits) x.end))
cap_pictured (Ok (Pictured.Number s i j k)) = Ok (Pictured.Number s (cap i) (cap j) k)
cap_pictured (Err k) = Err k

-- A picture as far as it goes on, and what has been read of it there.
abbrev pub draws : List ℕ → Bool
draws u = is_some (after pictures R.nothing u)

abbrev pub sketch : List ℕ → Sketch
sketch rest =
    record {
      len = reach draws [] rest;
      drawn = cap_drawn (get_or (after pictures R.nothing (take (reach draws [] rest) rest)) R.nothing);
    }
