-- Document 02, l): what the old rules accept, converted, the new rules accept: tokens that exist, brackets, and rows of plans.
use mathlib.Core.Path.{◌≡◌, refl, sym, ap, ap₂, ◌∙◌}
use mathlib.Core.Bool.{Bool, true, false, cond, not, ◌&&◌, or-false, false≢true}
use mathlib.Core.List.Memᴰ
use mathlib.Core.List.{List, [], ◌∷◌, ◌++◌}
use Prim.Native.Nat.{ℕ, zero, suc, pred, ◌+◌, ◌-◌, ◌*◌, ◌/◌, ◌%◌, ◌<◌, ◌≤◌}
use native.Mathlib.Omega.{arith}
use native.Mathlib.Nat.{zero-add, add-zero}
use borrow.Author.Tests.{ne_eqb, eq-eqb, eqb-true, le-leb, leb-true}
use lib.ListN.{length, get_or}
use lib.Dec.{eqb}
use Rattle.tables.specs.declared.Refusal.TheVariants.{Depth, PlanRow as PlanFault}
use Rattle.tables.specs.Tokens.{is_off, index_of, token_there}
use Rattle.tables.specs.Rows.{row_count, name_count}
use Rattle.tables.specs.Operands.{Lent, under, operand_sound, alone_sound}
use Rattle.tables.specs.Refusals.{first_failing, first_of}
use Rattle.tables.specs.Tables.{token_check}
use Rattle.tables.proofs.Tests.{both, four, and_both}
use Rattle.tables.proofs.Lines.{Throughout, line_last, failing_none}
use Rattle.typing.specs.declared.Test.{Test}
use Rattle.typing.specs.declared.Test.TheVariants.{Alone, Relation, Class, Sign, Unknown}
use Rattle.typing.specs.Tests.{test_of}
use Rattle.typing.specs.Shape.{shape_sound}
use Rattle.typing.specs.Typing.{test_typed, typed}
use Rattle.typing.proofs.Lending.{operand_rules}
use Rattle.grammar.specs.declared.PlanRow.{PlanRow}
use Rattle.grammar.specs.Depth.{depth_from, depth_check}
use Rattle.grammar.specs.Plan.{plan_row, plan_rows, target_sound, plan_row_sound, plan_length_sound, plan_check}
use Rattle.grammar.specs.Converted.{on_token, not_if, only_on, converted_tokens, on_row, on_rows, rows_from, converted_plan}
use Rattle.grammar.proofs.Segment.{flat-length, row_of-flat, blank}
use Rattle.grammar.proofs.Sure.{lines, some-rows}
use Rattle.grammar.proofs.Shapes.{There, tokens_there, there_tail}
use Rattle.grammar.proofs.Again.{there_passes}
use Rattle.grammar.proofs.Converted.{Clean, clean_stays}
use Rattle.std.specs.Prelude.{Err, Ok}

-- an off token that exists under the old rules has an on token that exists under the new ones
off_index : (i l n x : ℕ) → token_there true i l n x ≡ true → is_off x ≡ true → index_of x ≤ 7
off_index i l n x h e = leb-true (index_of x) 7 (simp or-false at (rw (eqb-true (x / 65536) 3 e) at h))

on_exists : (i l n x : ℕ) → token_there true i l n x ≡ true → is_off x ≡ true → token_there false i l n (on_token x) ≡ true
on_exists i l n x h e =
    let k : x / 65536 ≡ 3 = eqb-true (x / 65536) 3 e in
    let s : index_of x ≤ 7 = off_index i l n x h e in
    let q : (x - 65536) / 65536 ≡ 2 = omega arith in
    rw (q, le-leb ((x - 65536) % 65536) 7 (omega arith))

-- every other token exists under both or under neither
else_exists : (i l n x : ℕ) → is_off x ≡ false → token_there false i l n x ≡ token_there true i l n x
else_exists i l n x e = rw e

module _ (lent : Lent) where
  abbrev old : Lent
  old = under true lent

  abbrev new : Lent
  new = under false lent

  there_cons : {x : ℕ} {ts : List ℕ} → token_there false (row_count lent.items) (row_count lent.literals) (name_count lent.names) x ≡ true → There new ts → There new (x ∷ ts)
  there_cons e h y (Memᴰ.head q) = rw q e
  there_cons e h y (Memᴰ.tail m) = h y m

  there_not : (w : Bool) (ts : List ℕ) → There new ts → There new (not_if w ++ ts)
  there_not true ts h = there_cons refl h
  there_not false ts h = h

  there_none : There new []
  there_none y m = absurd (Memᴰ.not-nil m)

  on_there : (w : Bool) (ts : List ℕ) → There old ts → There new (only_on w ts)
  unfolding only_on
  on_there w [] h = there_all w
    where
      there_all : (w : Bool) → There new (not_if w)
      there_all true = there_cons refl there_none
      there_all false = there_none
  on_there w (x ∷ ts) h = go (is_off x) (eqb x 262146) refl (on_there true ts (there_tail old h)) (on_there false ts (there_tail old h))
    where
      here : token_there true (row_count lent.items) (row_count lent.literals) (name_count lent.names) x ≡ true
      here = h x (Memᴰ.head refl)

      go : (f n : Bool) → is_off x ≡ f → There new (only_on true ts) → There new (only_on false ts) →
          There new (cond f (not_if (not w) ++ on_token x ∷ only_on false ts) (cond n (not_if w ++ only_on true ts) (not_if w ++ x ∷ only_on false ts)))
      go true n e p q = there_not (not w) _ (there_cons (on_exists _ _ _ x here e) q)
      go false true e p q = there_not w _ p
      go false false e p q = there_not w _ (there_cons (else_exists _ _ _ x e ∙ here) q)

  pub converted_tokens_lem : (ts : List ℕ) → token_check old ts ≡ Ok tt → token_check new (converted_tokens ts) ≡ Ok tt
  converted_tokens_lem ts e = there_passes new (converted_tokens ts) (on_there false ts (tokens_there old ts e))

-- what the new rules let pass holds no off token, so that converting it changes nothing
clean_there : (lent : Lent) (ts : List ℕ) → There (under false lent) ts → Clean ts
clean_there lent [] h = tt
clean_there lent (x ∷ ts) h = (go (is_off x) refl, clean_there lent ts (there_tail (under false lent) h))
  where
    go : (b : Bool) → is_off x ≡ b → b ≡ false
    go true e = absurd (false≢true (rw (eqb-true (x / 65536) 3 e) at (h x (Memᴰ.head refl))))
    go false e = refl

pub converted_stays : (lent : Lent) (ts : List ℕ) → token_check (under false lent) ts ≡ Ok tt → converted_tokens ts ≡ ts
converted_stays lent ts e = clean_stays false ts (clean_there lent ts (tokens_there (under false lent) ts e))

-- 8 depends only on the brackets
abbrev Shallow : ℕ → List ℕ → Type 0
Shallow opened ts = (at : ℕ) → depth_from at opened ts ≡ Ok tt

past : (x opened : ℕ) (ts : List ℕ) → eqb x 262144 ≡ false → eqb x 262145 ≡ false → Shallow opened ts → Shallow opened (x ∷ ts)
unfolding depth_from
past x opened ts e f h at = rw (e, f) (h (suc at))

past_not : (w : Bool) (opened : ℕ) (ts : List ℕ) → Shallow opened ts → Shallow opened (not_if w ++ ts)
past_not true opened ts h = past 262146 opened ts refl refl h
past_not false opened ts h = h

past_back : (x opened at : ℕ) (ts : List ℕ) → eqb x 262144 ≡ false → eqb x 262145 ≡ false → depth_from at opened (x ∷ ts) ≡ Ok tt → depth_from (suc at) opened ts ≡ Ok tt
unfolding depth_from
past_back x opened at ts e f h = rw (e, f) at h

-- a token that stays
kept_depth : (x opened at : ℕ) (ts us : List ℕ) → ((n : ℕ) → depth_from (suc at) n ts ≡ Ok tt → Shallow n us) → depth_from at opened (x ∷ ts) ≡ Ok tt → Shallow opened (x ∷ us)
unfolding depth_from
kept_depth x opened at ts us f e place = go (eqb x 262144) (eqb opened 16) (cond (eqb x 262145) (pred opened) opened) e
  where
    go : (opens most : Bool) (left : ℕ) →
        cond opens (cond most (Err (Depth at)) (depth_from (suc at) (suc opened) ts)) (depth_from (suc at) left ts) ≡ Ok tt →
        cond opens (cond most (Err (Depth place)) (depth_from (suc place) (suc opened) us)) (depth_from (suc place) left us) ≡ Ok tt
    go true true left e = absurd (let z : ◌≡◌ {A = ℕ} 0 1 = cc in omega arith)
    go true false left e = f (suc opened) e (suc place)
    go false most left e = f left e (suc place)

empty : (opened : ℕ) → Shallow opened []
unfolding depth_from
empty opened place = refl

on_depth : (w : Bool) (ts : List ℕ) (at opened : ℕ) → depth_from at opened ts ≡ Ok tt → Shallow opened (only_on w ts)
unfolding only_on
on_depth w [] at opened e = none w
  where
    none : (w : Bool) → Shallow opened (not_if w)
    none true = past 262146 opened [] refl refl (empty opened)
    none false = empty opened
on_depth w (x ∷ ts) at opened e = go (is_off x) (eqb x 262146) refl refl (on_depth true ts (suc at)) (on_depth false ts (suc at))
  where
    go : (f n : Bool) → is_off x ≡ f → eqb x 262146 ≡ n → ((m : ℕ) → depth_from (suc at) m ts ≡ Ok tt → Shallow m (only_on true ts)) →
        ((m : ℕ) → depth_from (suc at) m ts ≡ Ok tt → Shallow m (only_on false ts)) →
        Shallow opened (cond f (not_if (not w) ++ on_token x ∷ only_on false ts) (cond n (not_if w ++ only_on true ts) (not_if w ++ x ∷ only_on false ts)))
    go true n i j p q =
        let k : x / 65536 ≡ 3 = eqb-true (x / 65536) 3 i in
        past_not (not w) opened _
        (past (on_token x) opened _ (ne_eqb (x - 65536) 262144 (λ z. omega arith)) (ne_eqb (x - 65536) 262145 (λ z. omega arith))
        (q opened (past_back x opened at ts (ne_eqb x 262144 (λ z. omega arith)) (ne_eqb x 262145 (λ z. omega arith)) e)))
    go false true i j p q =
        let k : x ≡ 262146 = eqb-true x 262146 j in
        past_not w opened _ (p opened (past_back x opened at ts (ne_eqb x 262144 (λ z. omega arith)) (ne_eqb x 262145 (λ z. omega arith)) e))
    go false false i j p q = past_not w opened _ (kept_depth x opened at ts _ q e)

pub converted_depth : (ts : List ℕ) → depth_check ts ≡ Ok tt → depth_check (converted_tokens ts) ≡ Ok tt
converted_depth ts e = on_depth false ts 0 0 e 0

-- an off token is a subject of nothing but a switch condition
pub off_switch : (lent : Lent) (r a b : ℕ) → shape_sound lent (test_of r) a b ≡ true → is_off a ≡ true → test_of r ≡ Alone
off_switch lent r a b h e = go (test_of r) refl h
  where
    no_operand : operand_sound lent a ≡ false
    no_operand = rw (eqb-true (a / 65536) 3 e)

    go : (x : Test) → test_of r ≡ x → shape_sound lent x a b ≡ true → test_of r ≡ Alone
    go Alone q s = q
    go (Relation word negated) q s = absurd (false≢true (sym no_operand ∙ (both (operand_sound lent a) _ s).0))
    go (Class word negated) q s = absurd (false≢true (sym no_operand ∙ (both (operand_sound lent a) _ s).0))
    go (Sign word negated) q s = absurd (false≢true (sym no_operand ∙ (both (operand_sound lent a) _ s).0))
    go Unknown q s = absurd (false≢true s)

-- a switch condition is well typed
pub on_typed : (lent : Lent) (r a b : ℕ) → test_of r ≡ Alone → typed lent a r b ≡ true
unfolding typed
on_typed lent r a b e = rw e

-- typing does not ask whether there are off words
pub typed_rules : (lent : Lent) (a r b : ℕ) → typed (under true lent) a r b ≡ typed (under false lent) a r b
unfolding typed
typed_rules lent a r b = go (test_of r)
  where
    go : (x : Test) → test_typed (under true lent) x a b ≡ test_typed (under false lent) x a b
    go Alone = refl
    go (Relation word negated) = refl
    go (Class word negated) = refl
    go (Sign word negated) = refl
    go Unknown = refl

-- the shape of a row under the old rules and under the new ones
module _ (lent : Lent) where
  switch_rules : (x : ℕ) → is_off x ≡ false → alone_sound (under true lent) x ≡ alone_sound (under false lent) x
  switch_rules x e = rw e

  shape_rules : (x : Test) (a b : ℕ) → is_off a ≡ false → shape_sound (under true lent) x a b ≡ shape_sound (under false lent) x a b
  shape_rules Alone a b e = ap (λ t. t && eqb b 0) (switch_rules a e)
  shape_rules (Relation word negated) a b e = ap₂ (λ s t. s && t) (operand_rules true lent a) (operand_rules true lent b)
  shape_rules (Class word negated) a b e = ap (λ t. t && eqb b 0) (operand_rules true lent a)
  shape_rules (Sign word negated) a b e = ap (λ t. t && eqb b 0) (operand_rules true lent a)
  shape_rules Unknown a b e = refl

  -- the on switch of an off switch
  on_switch : (x : ℕ) → alone_sound (under true lent) x ≡ true → is_off x ≡ true → alone_sound (under false lent) (on_token x) ≡ true
  on_switch x h e =
      let k : x / 65536 ≡ 3 = eqb-true (x / 65536) 3 e in
      let q : (x - 65536) / 65536 ≡ 2 = omega arith in
      let s : index_of x ≤ 7 = leb-true (index_of x) 7 (simp or-false at (rw k at h)) in
      rw (q, le-leb ((x - 65536) % 65536) 7 (omega arith))

  -- a condition of sound shape with the on switch in its place
  pub on_shape : (r a b : ℕ) → shape_sound (under true lent) (test_of r) a b ≡ true → is_off a ≡ true → shape_sound (under false lent) (test_of r) (on_token a) b ≡ true
  on_shape r a b h e =
      let s = off_switch (under true lent) r a b h e in
      let p = both (alone_sound (under true lent) a) (eqb b 0) (rw s at h) in
      rw s (and_both _ _ (on_switch a p.0 e) p.1)

  -- a row of a plan
  on_row_sound : (rows k : ℕ) (r : PlanRow) → plan_row_sound (under true lent) rows k r ≡ true → plan_row_sound (under false lent) rows k (on_row r) ≡ true
  unfolding plan_row_sound on_row
  on_row_sound rows k r h = go (is_off r.subject) refl
    where
      parts : (shape_sound (under true lent) (test_of r.relation) r.subject r.object ≡ true)
          × (typed (under true lent) r.subject r.relation r.object ≡ true)
          × (target_sound rows k r.holds ≡ true) × (target_sound rows k r.fails ≡ true)
      parts = four _ _ _ _ h

      go : (b : Bool) → is_off r.subject ≡ b →
          plan_row_sound (under false lent) rows k
          (cond b (record { subject = on_token r.subject; relation = r.relation; object = r.object; holds = r.fails; fails = r.holds }) r) ≡ true
      go true e =
          rw (
            on_shape r.relation r.subject r.object parts.0 e,
            on_typed (under false lent) r.relation (on_token r.subject) r.object (off_switch (under true lent) r.relation r.subject r.object parts.0 e),
            parts.3,
            parts.2,
          )
      go false e =
          rw (
            ← shape_rules (test_of r.relation) r.subject r.object e,
            parts.0,
            ← typed_rules lent r.subject r.relation r.object,
            parts.1,
            parts.2,
            parts.3,
          )

-- the rows of a converted plan
length_on : (rows : List PlanRow) → length (on_rows rows) ≡ length rows
unfolding on_rows
length_on [] = refl
length_on (r ∷ rows) = ap suc (length_on rows)

length_from : (row : ℕ → PlanRow) (k n : ℕ) → length (rows_from row k n) ≡ n
unfolding rows_from
length_from row k zero = refl
length_from row k (suc n) = ap suc (length_from row (suc k) n)

row_on : (row : ℕ → PlanRow) (j n k : ℕ) → k < n → get_or (on_rows (rows_from row j n)) k blank ≡ on_row (row (j + k))
unfolding on_rows rows_from
row_on row j zero k l = absurd (omega arith)
row_on row j (suc n) zero l = rw add-zero
row_on row j (suc n) (suc k) l =
    let e : j + suc k ≡ suc j + k = omega arith in
    rw e (row_on row (suc j) n k (omega arith))

module _ (plan : List ℕ) where
  abbrev rows : List PlanRow
  rows = on_rows (rows_from (plan_row plan) 0 (plan_rows plan))

  many : length rows ≡ plan_rows plan
  many = length_on (rows_from (plan_row plan) 0 (plan_rows plan)) ∙ length_from (plan_row plan) 0 (plan_rows plan)

  pub converted_length : length (converted_plan plan) ≡ plan_rows plan * 5
  unfolding converted_plan
  converted_length = flat-length rows ∙ ap (λ n. n * 5) many

  pub converted_count : plan_rows (converted_plan plan) ≡ plan_rows plan
  converted_count = omega (arith, converted_length)

  pub converted_row : (k : ℕ) → k < plan_rows plan → plan_row (converted_plan plan) k ≡ on_row (plan_row plan k)
  unfolding converted_plan
  converted_row k l =
      row_of-flat rows k (omega (arith, many)) ∙ row_on (plan_row plan) 0 (plan_rows plan) k l ∙ ap (λ n. on_row (plan_row plan n)) (zero-add k)

-- run's refusal 11 under the new rules is never given of what was converted
pub converted_plan_sound : (lent : Lent) (plan : List ℕ) → plan_check (under true lent) plan ≡ Ok tt → plan_check (under false lent) (converted_plan plan) ≡ Ok tt
unfolding first_of
converted_plan_sound lent plan s =
    rw (length_sound_lem)
    (line_last (first_failing (λ k. plan_row_sound (under false lent) count k (plan_row (converted_plan plan) k)) PlanFault 0 count)
    ∙ failing_none (λ k. plan_row_sound (under false lent) count k (plan_row (converted_plan plan) k)) PlanFault 0 count row_sound_lem)
  where
    count : ℕ
    count = plan_rows (converted_plan plan)

    some : (length plan % 5 ≡ 0) × (1 ≤ plan_rows plan) × (plan_rows plan ≤ 128)
    some = some-rows (under true lent) plan s

    length_sound_lem : plan_length_sound (converted_plan plan) ≡ true
    length_sound_lem =
        rw (
          eq-eqb (length (converted_plan plan) % 5) 0 (omega (arith, converted_length plan)),
          le-leb 1 count (omega (arith, converted_count plan, some)),
          le-leb count 128 (omega (arith, converted_count plan, some)),
        )

    row_sound_lem : Throughout (λ k. plan_row_sound (under false lent) count k (plan_row (converted_plan plan) k) ≡ true) 0 count
    row_sound_lem k g h =
        let l : k < plan_rows plan = omega (arith, converted_count plan) in
        rw (converted_row plan k l, converted_count plan)
        (on_row_sound lent (plan_rows plan) k (plan_row plan k)
        ((lines (under true lent) plan s).1 k l))
