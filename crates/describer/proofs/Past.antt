-- What is not counted stays as it was.
use mathlib.Core.Path.{◌≡◌, refl, ◌∙◌}
use mathlib.Core.Bool.{Bool, true, false}
use mathlib.Core.List.{List}
use Prim.Native.Nat.{ℕ, zero, suc, ◌+◌, ◌*◌, ◌-◌, ◌≤◌}
use native.Mathlib.Omega.{arith}
use lib.ListN.{length, drop}
use lib.Seq.{sets, drop-set-lt}
use Rattle.description.specs.Grammar.{Value}
use Rattle.description.specs.Stages.{inked}
use Rattle.description.proofs.Bytes.{apart}
use Rattle.entries.specs.declared.Noted.{Noted}
use Rattle.tables.proofs.Front.{later_rest}
use Rattle.value_notes.proofs.Cells.{sets_after}
use Rattle.noting.specs.Stored.{numbers_of, pushed}
use Rattle.storing.specs.Naming.{names, NotStored, Stepped}
use Rattle.storing.specs.Reads.{Beyond}
use Rattle.storing.specs.declared.Found.{Found}
use Rattle.storing.specs.declared.Names.{Names}
use Rattle.storing.proofs.Stored.{passed_over, passed_count}

abbrev pub found : ℕ → Bool → ℕ → Names → Found
found n w p s = record { count = n; whole = w; place = p; names = s }

pub beyond_first : {flat stack rows places notes row : List ℕ} → length row ≡ 18 → Beyond (found 0 true 0 (names false 0 0 0 0)) flat stack rows places notes flat stack rows places notes row
beyond_first l = record { entries = refl; groups = refl; names = refl; placed = refl; noted = refl; literals = λ _ _. refl; row = l }

module _ {count : ℕ} {s : Names} {flat₀ stack₀ rows₀ places₀ notes₀ flat stack rows places notes row : List ℕ}
    (B : Beyond (found count true 0 s) flat₀ stack₀ rows₀ places₀ notes₀ flat stack rows places notes row) where
  -- an answer
  pub beyond_as : {w : Bool} {p : ℕ} {r : Found} → r ≡ found count w p s → Beyond r flat₀ stack₀ rows₀ places₀ notes₀ flat stack rows places notes row
  beyond_as q =
      rw q
      (record { entries = B.entries; groups = B.groups; names = B.names; placed = B.placed; noted = B.noted; literals = λ _ o. B.literals refl o; row = B.row })

  -- an item's entry more
  pub beyond_item : (x : Noted) (n : ℕ) → n ≤ count + 1 →
      Beyond (found (count + 1) true 0 s) flat₀ stack₀ rows₀ places₀ notes₀ (sets flat (count * 7) (numbers_of x)) (pushed stack n x.level) rows places notes row
  beyond_item x n l =
      record {
        entries = sets_after (numbers_of x) flat (count * 7) ((count + 1) * 7) (omega arith) ∙ later_rest flat flat₀ (count * 7) ((count + 1) * 7) (omega arith) B.entries;
        groups = by n l;
        names = B.names;
        placed = B.placed;
        noted = B.noted;
        literals = B.literals;
        row = B.row;
      }
    where
      by : (n : ℕ) → n ≤ count + 1 → drop (count + 1) (pushed stack n x.level) ≡ drop (count + 1) stack₀
      by zero l = later_rest stack stack₀ count (count + 1) (omega arith) B.groups
      by (suc n) l = drop-set-lt (count + 1) stack n x.level (omega arith) ∙ later_rest stack stack₀ count (count + 1) (omega arith) B.groups

  module _ {rows' places' notes' row' : List ℕ} where
    -- a name that is not stored
    beyond_none : {r : Found} → r.count ≡ count → r.names.count ≡ s.count → NotStored s rows places notes rows' places' notes' row' →
        (r.whole ≡ true → r.names.over ≡ true) → Beyond r flat₀ stack₀ rows₀ places₀ notes₀ flat stack rows' places' notes' row'
    beyond_none c e n o =
        record {
          entries = rw c B.entries;
          groups = rw c B.groups;
          names = rw (e, n.named) B.names;
          placed = rw (e, n.placed) B.placed;
          noted = n.spared.beyond ∙ B.noted;
          literals = λ w f. apart (o w) f;
          row = n.spared.wide;
        }

    pub beyond_fault : {p : ℕ} {r : Found} → r ≡ found count false p s → NotStored s rows places notes rows' places' notes' row' →
        Beyond r flat₀ stack₀ rows₀ places₀ notes₀ flat stack rows' places' notes' row'
    beyond_fault q n = rw q (beyond_none refl refl n (λ w. apart w refl))

    -- a name that is read
    module _ {text : List ℕ} (p : ℕ) (entries : List ℕ) {items : ℕ} {vs : List Value} {r : Names} (t : Stepped text p entries items s rows places notes vs r rows' places' notes' row')
        (m : t.tallied.over ≡ false → (s.over ≡ false) × (s.literals ≤ t.tallied.literals) × (t.tallied.literals ≤ 64)) (l : length row' ≡ 18) where
      pub beyond_step : Beyond (found count true 0 r) flat₀ stack₀ rows₀ places₀ notes₀ flat stack rows' places' notes' row'
      beyond_step = by t.tallied.over refl
        where
          stored : (o : t.tallied.over ≡ false) →
              Beyond (found count true 0 (names false 0 (s.count + 1) t.tallied.literals t.tallied.bytes)) flat₀ stack₀ rows₀ places₀ notes₀ flat stack rows' places' notes' row'
          stored o =
              let n = t.stored o in
              let k = m o in
              record {
                entries = B.entries;
                groups = B.groups;
                names = rw n.stored (sets_after row' rows (s.count * 18) ((s.count + 1) * 18) (omega (arith, l))
                    ∙ later_rest rows rows₀ (s.count * 18) ((s.count + 1) * 18) (omega arith) B.names);
                placed = rw n.placed (drop-set-lt (s.count + 1) places s.count (inked text (p + 2)) (omega arith)
                    ∙ later_rest places places₀ s.count (s.count + 1) (omega arith) B.placed);
                noted = later_rest notes' notes (t.tallied.literals * 7) 448 (omega (arith, k.2)) (t.beyond o) ∙ B.noted;
                literals = λ _ _. t.beyond o ∙ later_rest notes notes₀ (s.literals * 7) (t.tallied.literals * 7) (omega (arith, k.1)) (B.literals refl k.0);
                row = l;
              }

          by : (b : Bool) → t.tallied.over ≡ b → Beyond (found count true 0 r) flat₀ stack₀ rows₀ places₀ notes₀ flat stack rows' places' notes' row'
          by true o = rw (t.is, o) (beyond_none refl (passed_count s p) (t.passed o) (λ _. passed_over s p))
          by false o = rw (t.is, o) (stored o)
