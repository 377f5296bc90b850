-- What the class of a token says of its number, and back.
use mathlib.Core.Path.{◌≡◌, refl, subst, sym}
use mathlib.Core.List.{List, [], ◌∷◌}
use Prim.Native.Nat.{ℕ, zero, suc, ◌+◌, ◌*◌, ◌<◌, ◌≤◌, ◌/◌, ◌%◌}
use native.Mathlib.Omega.{arith}
use native.Mathlib.Decide.{ℕ_discrete, dec_le}
use lib.ListN.{get_or, get_or-eq_default}
use Rattle.grammar.specs.Grammar.{Class, operand, switch, opening, closing, not, and, or, order, bound, test, name, other}
use Rattle.grammar.specs.Grammar.{words, class, Is}

-- the kind q and the number w that a token of each class has; `other` is all beyond the last word
abbrev pub Spelled : Class → ℕ → ℕ → Type 0
Spelled operand q w = q < 2
Spelled switch q w = (2 ≤ q) × (q < 4)
Spelled opening q w = (q ≡ 4) × (w ≡ 0)
Spelled closing q w = (q ≡ 4) × (w ≡ 1)
Spelled not q w = (q ≡ 4) × (w ≡ 2)
Spelled and q w = (q ≡ 4) × (w ≡ 3)
Spelled or q w = (q ≡ 4) × (w ≡ 4)
Spelled order q w = (q ≡ 4) × (5 ≤ w) × (w ≤ 7)
Spelled bound q w = (q ≡ 4) × (8 ≤ w) × (w ≤ 9)
Spelled test q w = (q ≡ 4) × (10 ≤ w) × (w ≤ 16)
Spelled name q w = q ≡ 5
Spelled other q w = 262160 < q * 65536 + w

-- the classes of the kinds, where the word is number w
abbrev kinds : ℕ → List Class
kinds w = operand ∷ operand ∷ switch ∷ switch ∷ get_or words w other ∷ name ∷ []

-- P holds of each of n numbers from `low` on, so of any number among them
abbrev EachFrom : (ℕ → Type 0) → ℕ → ℕ → Type 0
EachFrom P low zero = Unit {0}
EachFrom P low (suc n) = P low × EachFrom P (suc low) n

pub among : (P : ℕ → Type 0) (low n x : ℕ) → low ≤ x → x < low + n → EachFrom P low n → P x
among P low zero x h g ps = absurd (omega arith)
among P low (suc n) x h g ps =
    elim (ℕ_discrete x low) [
      | yes e ↦ subst P (sym e) ps.0
      | no e ↦ among P (suc low) n x (omega arith) (omega arith) ps.1
    ]

-- in two parts, since omega takes at most 64 facts at once
spelled-word : (w : ℕ) → Spelled (get_or words w other) 4 w
spelled-word w =
    elim (dec_le w 9) [
      | yes l ↦ among (λ v. Spelled (get_or words v other) 4 v) 0 10 w (omega arith) (omega arith) (omega arith)
      | no l ↦
          elim (dec_le w 16) [
            | yes m ↦ among (λ v. Spelled (get_or words v other) 4 v) 10 7 w (omega arith) (omega arith) (omega arith)
            | no m ↦ let g : 17 ≤ w = omega arith in rw (get_or-eq_default words other g) (omega arith)
          ]
    ]

spelled-parts : (q w : ℕ) → Spelled (get_or (kinds w) q other) q w
spelled-parts zero w = omega arith
spelled-parts (suc zero) w = omega arith
spelled-parts (suc (suc zero)) w = omega arith
spelled-parts (suc (suc (suc zero))) w = omega arith
spelled-parts (suc (suc (suc (suc zero)))) w = spelled-word w
spelled-parts (suc (suc (suc (suc (suc zero))))) w = omega arith
spelled-parts (suc (suc (suc (suc (suc (suc q)))))) w = omega arith

pub spelled : {k : Class} (x : ℕ) → Is k x → Spelled k (x / 65536) (x % 65536)
unfolding class
spelled x h = subst (λ k. Spelled k (x / 65536) (x % 65536)) h.is (spelled-parts (x / 65536) (x % 65536))

pub operand_token : (x : ℕ) → Is operand x → x < 131072
operand_token x h = omega (arith, spelled x h)

pub switch_token_lem : (x : ℕ) → Is switch x → (131072 ≤ x) × (x < 262144)
switch_token_lem x h = omega (arith, spelled x h)

pub opening_token : (x : ℕ) → Is opening x → x ≡ 262144
opening_token x h = omega (arith, spelled x h)

pub closing_token : (x : ℕ) → Is closing x → x ≡ 262145
closing_token x h = omega (arith, spelled x h)

pub not_token : (x : ℕ) → Is not x → x ≡ 262146
not_token x h = omega (arith, spelled x h)

pub and_token : (x : ℕ) → Is and x → x ≡ 262147
and_token x h = omega (arith, spelled x h)

pub or_token : (x : ℕ) → Is or x → x ≡ 262148
or_token x h = omega (arith, spelled x h)

pub order_token : (x : ℕ) → Is order x → (262149 ≤ x) × (x ≤ 262151)
order_token x h = omega (arith, spelled x h)

pub bound_token : (x : ℕ) → Is bound x → (262152 ≤ x) × (x ≤ 262153)
bound_token x h = omega (arith, spelled x h)

pub test_token : (x : ℕ) → Is test x → (262154 ≤ x) × (x ≤ 262160)
test_token x h = omega (arith, spelled x h)

pub name_token_lem : (x : ℕ) → Is name x → (327680 ≤ x) × (x < 393216)
name_token_lem x h = omega (arith, spelled x h)

pub is_operand_lem : (x : ℕ) → x < 131072 → Is operand x
unfolding class
is_operand_lem x h =
    record { is = among (λ q. get_or (kinds (x % 65536)) q other ≡ operand) 0 2 (x / 65536) (omega arith) (omega arith) (refl, (refl, tt)) }

pub is_switch_lem : (x : ℕ) → 131072 ≤ x → x < 262144 → Is switch x
unfolding class
is_switch_lem x h g =
    record { is = among (λ q. get_or (kinds (x % 65536)) q other ≡ switch) 2 2 (x / 65536) (omega arith) (omega arith) (refl, (refl, tt)) }

pub is_name_lem : (x : ℕ) → 327680 ≤ x → x < 393216 → Is name x
unfolding class
is_name_lem x h g = record { is = among (λ q. get_or (kinds (x % 65536)) q other ≡ name) 5 1 (x / 65536) (omega arith) (omega arith) (refl, tt) }

pub is_opening : (x : ℕ) → x ≡ 262144 → Is opening x
unfolding class
is_opening x e = record { is = rw e }

pub is_closing : (x : ℕ) → x ≡ 262145 → Is closing x
unfolding class
is_closing x e = record { is = rw e }

pub is_not : (x : ℕ) → x ≡ 262146 → Is not x
unfolding class
is_not x e = record { is = rw e }

pub is_and : (x : ℕ) → x ≡ 262147 → Is and x
unfolding class
is_and x e = record { is = rw e }

pub is_or : (x : ℕ) → x ≡ 262148 → Is or x
unfolding class
is_or x e = record { is = rw e }

pub is_order_lem : (x : ℕ) → 262149 ≤ x → x ≤ 262151 → Is order x
unfolding class
is_order_lem x h g = record { is = among (λ y. class y ≡ order) 262149 3 x h (omega arith) (refl, (refl, (refl, tt))) }

pub is_bound : (x : ℕ) → 262152 ≤ x → x ≤ 262153 → Is bound x
unfolding class
is_bound x h g = record { is = among (λ y. class y ≡ bound) 262152 2 x h (omega arith) (refl, (refl, tt)) }

pub is_test : (x : ℕ) → 262154 ≤ x → x ≤ 262160 → Is test x
unfolding class
is_test x h g =
    record { is = among (λ y. class y ≡ test) 262154 7 x h (omega arith) (refl, (refl, (refl, (refl, (refl, (refl, (refl, tt))))))) }

pub is_other : (x : ℕ) → 262160 < x → ¬ (x / 65536 ≡ 5) → Is other x
unfolding class
is_other x h n =
    record {
      is =
          elim (dec_le (x / 65536) 4) [
            | yes l ↦
                let e : x / 65536 ≡ 4 = omega arith in
                let g : 17 ≤ x % 65536 = omega arith in
                rw e (get_or-eq_default words other g)
            | no l ↦
                let g : 6 ≤ x / 65536 = omega arith in
                get_or-eq_default (kinds (x % 65536)) other g
          ];
    }
