-- The stack of open groups is the definition's list of them.
use mathlib.Core.Path.{◌≡◌, refl, sym, ap, subst, ◌∙◌}
use mathlib.Core.Bool.{Bool, true, false, not, cond, ◌&&◌, ◌||◌}
use mathlib.Core.Option.{none, some}
use mathlib.Core.List.{List, [], ◌∷◌}
use Prim.Native.Nat.{ℕ, zero, suc, ◌+◌, ◌*◌, ◌-◌, ◌≤◌, ◌<◌}
use native.Mathlib.Omega.{arith}
use native.Mathlib.Numerals.{add-one}
use borrow.Author.Tests.{eqb-true, leb-true, le-ltb, lt-ltb}
use lib.Dec.{eqb, leb, ltb}
use lib.ListN.{length, get_or, set}
use lib.Seq.{get_or-set_same, get_or-set_other}
use Rattle.description.specs.Machine.{bind}
use Rattle.description.specs.Grammar.{is_digit}
use Rattle.description.specs.Reader.{is_some, given, read_level, back, enter, enters, begins_level, some_below, Groups, awaiting, inside}
use Rattle.description.specs.Stages.{is_eight, level_at, leveled}
use Rattle.description.specs.declared.Leveled.{Leveled}
use Rattle.description.specs.declared.Leveled.TheVariants as Leveled
use Rattle.description.proofs.Bytes.{apart, and_both, eqb_no, eqb_same}
use Rattle.levels.specs.Stack.{opened, groups_of, back_depth, backed, entered_by, topped, topped_by}
use Rattle.std.specs.Prelude.{Ok, Err, None, Option, Some, is_some as has_some}

-- The walk back.
pub back_here : (stack : List ℕ) (d l n : ℕ) → 0 < d → get_or stack (d - 1) 0 ≡ l → n ≡ back_depth stack d l → d ≡ n
unfolding back_depth
back_here stack zero l n h e f = absurd (omega arith)
back_here stack (suc d) l n h e f = let z : suc d - 1 ≡ d = omega arith in let i : get_or stack d 0 ≡ l = rw z at e in sym (f ∙ rw (i, eqb_same l))

pub back_on : (stack : List ℕ) (d l n : ℕ) → 0 < d → ¬ (get_or stack (d - 1) 0 ≡ l) → n ≡ back_depth stack d l → n ≡ back_depth stack (d - 1) l
unfolding back_depth
back_on stack zero l n h e f = absurd (omega arith)
back_on stack (suc d) l n h e f =
    let z : suc d - 1 ≡ d = omega arith in
    let i : ¬ (get_or stack d 0 ≡ l) = rw z at e in
    f ∙ rw (eqb_no (get_or stack d 0) l i, z)

pub back_none : (stack : List ℕ) (d l n : ℕ) → d ≤ 0 → n ≡ back_depth stack d l → 0 ≡ n
unfolding back_depth
back_none stack zero l n h f = sym f
back_none stack (suc d) l n h f = absurd (omega arith)

back_is : (stack : List ℕ) (d l : ℕ) → back (opened stack d) l ≡ topped_by stack l (backed (back_depth stack d l))
unfolding back back_depth opened
back_is stack zero l = refl
back_is stack (suc d) l = by (eqb (get_or stack d 0) l) refl (back_is stack d l)
  where
    by : (t : Bool) → eqb (get_or stack d 0) l ≡ t → back (opened stack d) l ≡ topped_by stack l (backed (back_depth stack d l)) →
        cond t (some (get_or stack d 0 ∷ opened stack d)) (back (opened stack d) l) ≡ topped_by stack l (backed (cond t (suc d) (back_depth stack d l)))
    by true e f = rw (eqb_no (suc d) 0 (λ i. omega arith), eqb-true (get_or stack d 0) l e)
    by false e f = f

-- Where an entry of this level may stand, these groups are open at it.
pub enter_is : (stack : List ℕ) (depth waiting l : ℕ) → enter (groups_of stack depth waiting) l ≡ topped_by stack l (entered_by stack depth waiting l)
unfolding enter
enter_is stack depth waiting l = by (eqb waiting 0)
  where
    outside : (t : Bool) → cond t (some []) (back (opened stack depth) l) ≡ topped_by stack l (cond t (Some 0) (backed (back_depth stack depth l)))
    outside true = refl
    outside false = back_is stack depth l

    member : (t : Bool) → given t (l ∷ opened stack depth) ≡ topped_by stack l (cond t (Some (depth + 1)) None)
    member true = rw add-one
    member false = refl

    by : (t : Bool) → enter (cond t (inside (opened stack depth)) (awaiting (waiting - 1) (opened stack depth))) l
        ≡ topped_by stack l (cond t (cond (eqb l 1 || eqb l 77) (Some 0) (backed (back_depth stack depth l))) (cond (ltb (waiting - 1) l && leb l 49) (Some (depth + 1)) None))
    by true = outside (eqb l 1 || eqb l 77)
    by false = member (ltb (waiting - 1) l && leb l 49)

-- The branches of entering.
module _ (stack : List ℕ) (depth waiting l : ℕ) where
  pub enter_member : ¬ (waiting ≡ 0) → ltb (waiting - 1) l && leb l 49 ≡ true → Some (depth + 1) ≡ entered_by stack depth waiting l
  enter_member h e = rw (eqb_no waiting 0 h, e)

  pub enter_no_member : ¬ (waiting ≡ 0) → ltb (waiting - 1) l && leb l 49 ≡ false → None ≡ entered_by stack depth waiting l
  enter_no_member h e = rw (eqb_no waiting 0 h, e)

  pub enter_outside : waiting ≡ 0 → eqb l 1 || eqb l 77 ≡ true → Some 0 ≡ entered_by stack depth waiting l
  enter_outside h e = rw (h, e)

  pub enter_none : waiting ≡ 0 → eqb l 1 || eqb l 77 ≡ false → {d : ℕ} → d ≡ back_depth stack depth l → d ≡ 0 → None ≡ entered_by stack depth waiting l
  enter_none h e f g = let i : back_depth stack depth l ≡ 0 = sym f ∙ g in rw (h, e, i)

  pub enter-back : waiting ≡ 0 → eqb l 1 || eqb l 77 ≡ false → {d : ℕ} → d ≡ back_depth stack depth l → ¬ (d ≡ 0) → Some d ≡ entered_by stack depth waiting l
  enter-back h e {d} f g = rw (h, e, ← f, eqb_no d 0 g)

-- Whether a level may stand.
pub enters_none : (g : Groups) (a b : ℕ) → is_digit a ≡ false → false ≡ enters g (a ∷ b ∷ [])
enters_none g a b h = rw h

pub enters_no_second : (g : Groups) (a b : ℕ) → is_digit a ≡ true → is_digit b ≡ false → false ≡ enters g (a ∷ b ∷ [])
enters_no_second g a b h k = rw (h, k)

pub enters_none_88 : (g : Groups) (a b l : ℕ) → is_digit a ≡ true → is_digit b ≡ true → l ≡ 10 * (a - 0x30) + (b - 0x30) → 88 ≤ l → false ≡ enters g (a ∷ b ∷ [])
enters_none_88 g a b l h k e m = rw (h, k, ← e, le-ltb l 88 m)

module _ (stack : List ℕ) (depth waiting a b l : ℕ) (h : is_digit a ≡ true) (k : is_digit b ≡ true) (e : l ≡ 10 * (a - 0x30) + (b - 0x30)) (m : l < 88) {x : Option ℕ}
    (f : x ≡ entered_by stack depth waiting l) where
  enters_is : is_some (topped_by stack l x) ≡ enters (groups_of stack depth waiting) (a ∷ b ∷ [])
  enters_is = rw (h, k, ← e, lt-ltb l 88 m, enter_is stack depth waiting l, f)

  pub enters_some : {r : Bool} → r ≡ has_some x → r ≡ enters (groups_of stack depth waiting) (a ∷ b ∷ [])
  enters_some i = i ∙ by x ∙ enters_is
    where
      by : (y : Option ℕ) → has_some y ≡ is_some (topped_by stack l y)
      by (Some d) = refl
      by None = refl

pub digits_of : (g : Groups) (a b : ℕ) → enters g (a ∷ b ∷ []) ≡ true → (is_digit a ≡ true) × (is_digit b ≡ true)
digits_of g a b h = by (is_digit a && is_digit b && ltb (10 * (a - 0x30) + (b - 0x30)) 88) refl h
  where
    by : (t : Bool) → is_digit a && is_digit b && ltb (10 * (a - 0x30) + (b - 0x30)) 88 ≡ t →
        is_some (bind (given t (10 * (a - 0x30) + (b - 0x30))) (enter g)) ≡ true → (is_digit a ≡ true) × (is_digit b ≡ true)
    by true e h = and_both (is_digit a) (is_digit b) (and_both (is_digit a && is_digit b) (ltb (10 * (a - 0x30) + (b - 0x30)) 88) e).0
    by false e h = apart h refl

pub digit_range : (b : ℕ) → is_digit b ≡ true → (0x30 ≤ b) × (b ≤ 0x39)
digit_range b h = let k = and_both (leb 0x30 b) (leb b 0x39) h in (leb-true 0x30 b k.0, leb-true b 0x39 k.1)

-- The digits that may come second, from the least up.
abbrev pub second_below : Groups → ℕ → ℕ → Bool
second_below g a n = some_below n (λ d. enters g (a ∷ (0x30 + d) ∷ []))

below_has : (test : ℕ → Bool) (n m : ℕ) → n < m → test n ≡ true → some_below m test ≡ true
unfolding some_below
below_has test n zero h e = absurd (omega arith)
below_has test n (suc m) h e = by (test m) refl (λ k. below_has test n m k e)
  where
    by : (t : Bool) → test m ≡ t → (n < m → some_below m test ≡ true) → t || some_below m test ≡ true
    by true f g = refl
    by false f g =
        let k : ¬ (n ≡ m) = λ q. apart (rw q at e) f in
        g (omega arith)

pub second_yes : (g : Groups) (a n : ℕ) → n < 10 → enters g (a ∷ (0x30 + n) ∷ []) ≡ true → true ≡ second_below g a 10
second_yes g a n h e = sym (below_has (λ d. enters g (a ∷ (0x30 + d) ∷ [])) n 10 h e)

pub second_no : (g : Groups) (a n : ℕ) → second_below g a n ≡ false → enters g (a ∷ (0x30 + n) ∷ []) ≡ false → second_below g a (n + 1) ≡ false
unfolding some_below
second_no g a n h e = rw (add-one, e) h

-- A level number.
module _ (g : Groups) (named : Bool) (text : List ℕ) (p : ℕ) {a b : ℕ} (e : a ≡ get_or text p 0) (f : b ≡ get_or text (p + 1) 0) where
  pub level_yes : {l : ℕ} → enters g (a ∷ b ∷ []) ≡ true → l ≡ 10 * (a - 0x30) + (b - 0x30) → Ok (Leveled.Level l) ≡ level_at g named text p
  level_yes h k = rw (← e, ← f, h, k)

  pub level_name : enters g (a ∷ b ∷ []) ≡ false → named && (is_eight a && is_eight b) ≡ true → Ok Leveled.Name ≡ level_at g named text p
  level_name h k = rw (← e, ← f, h, k)

  pub level_second : enters g (a ∷ b ∷ []) ≡ false → named && (is_eight a && is_eight b) ≡ false → begins_level g (a ∷ []) || (named && is_eight a) ≡ true →
      Err (p + 1) ≡ level_at g named text p
  level_second h k m = rw (← e, ← f, h, k, m)

  pub level_first : enters g (a ∷ b ∷ []) ≡ false → named && (is_eight a && is_eight b) ≡ false → begins_level g (a ∷ []) || (named && is_eight a) ≡ false →
      Err p ≡ level_at g named text p
  level_first h k m = rw (← e, ← f, h, k, m)

-- A level number that is stored leaves those below it.
opened-set : (stack : List ℕ) (i v d : ℕ) → d ≤ i → opened (set stack i v) d ≡ opened stack d
unfolding opened
opened-set stack i v zero h = refl
opened-set stack i v (suc d) h =
    let k : ¬ (d ≡ i) = λ e. omega arith in
    rw (get_or-set_other stack i d v 0 k, opened-set stack i v d (omega arith))

pub stored_top : (stack : List ℕ) (l d : ℕ) → 0 < d → d ≤ length stack → opened (set stack (d - 1) l) d ≡ topped stack l d
unfolding opened
stored_top stack l zero h k = absurd (omega arith)
stored_top stack l (suc d) h k =
    let z : suc d - 1 ≡ d = omega arith in
    subst (λ i. opened (set stack i l) (suc d) ≡ l ∷ opened stack d) (sym z) (rw (get_or-set_same stack d l 0, opened-set stack d l d (omega arith)))

-- At most one group more is open.
back_le : (stack : List ℕ) (d l : ℕ) → back_depth stack d l ≤ d
unfolding back_depth
back_le stack zero l = omega arith
back_le stack (suc d) l = by (eqb (get_or stack d 0) l) (back_le stack d l)
  where
    by : (t : Bool) → back_depth stack d l ≤ d → cond t (suc d) (back_depth stack d l) ≤ suc d
    by true h = omega arith
    by false h = omega arith

abbrev pub AtMost : ℕ → Option ℕ → Type 0
AtMost n (Some d) = d ≤ n
AtMost n None = Unit {0}

pub entered_le : (stack : List ℕ) (depth waiting l : ℕ) → AtMost (depth + 1) (entered_by stack depth waiting l)
entered_le stack depth waiting l = by (eqb waiting 0) (eqb l 1 || eqb l 77) (ltb (waiting - 1) l && leb l 49)
  where
    walked : (t : Bool) → AtMost (depth + 1) (cond t None (Some (back_depth stack depth l)))
    walked true = tt
    walked false = omega (arith, back_le stack depth l)

    by : (s t u : Bool) → AtMost (depth + 1) (cond s (cond t (Some 0) (backed (back_depth stack depth l))) (cond u (Some (depth + 1)) None))
    by true true u = omega arith
    by true false u = walked (eqb (back_depth stack depth l) 0)
    by false t true = omega arith
    by false t false = tt
