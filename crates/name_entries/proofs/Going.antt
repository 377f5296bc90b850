-- The values of an entry, one after another.
use mathlib.Core.Path.{◌≡◌, refl, sym, ap, subst, ◌∙◌}
use mathlib.Core.Bool.{Bool, true, false, cond, ◌||◌}
use mathlib.Core.Option.{none}
use mathlib.Core.List.{List, [], ◌∷◌, ◌++◌, append-nil}
use Prim.Native.Nat.{ℕ, ◌+◌, ◌-◌, ◌≤◌, ◌<◌}
use native.Mathlib.Omega.{arith}
use borrow.Author.Tests.{le-ltb}
use lib.Dec.{eqb, ltb}
use lib.ListN.{length, take, drop, replicate, length-drop}
use Rattle.content.specs.declared.Row as Rules
use Rattle.description.specs.Grammar.{bytes, Value, pairs, literals}
use Rattle.description.specs.Limits.{any_barred}
use Rattle.description.specs.Reader.{is_name, begins_name, Naming, label, value, values}
use Rattle.description.specs.Stages.{inked, joined, literal_at, name_reach, label_at}
use Rattle.description.proofs.Stages.{reach_le}
use Rattle.description.proofs.Phases.{on_reached}
use Rattle.text_bytes.proofs.Laws.{inked_le}
use Rattle.description.proofs.Valued.{label_leads, value-leads}
use Rattle.condition_names.specs.Values.{value_at, value_of, Stands}
use Rattle.value_weights.specs.Weights.{shown, weighed}
use Rattle.condition_names.specs.declared.Found.{Found}
use Rattle.condition_names.specs.declared.ValueRead.{ValueRead}
use Rattle.condition_names.specs.declared.ValueRead.TheVariants as ValueRead
use Rattle.condition_names.proofs.Leads.{on_read, value-leads_on, Goes, value_goes}
use Rattle.value_notes.specs.Taking.{Rooms, Takes}
use Rattle.name_entries.specs.Named.{Span, literals_in, pair_numbers, over_values, Noted, Left, Begun, Ready, Held, ValuesBy, NamedBy}
use Rattle.value_notes.specs.declared.Tally.{Tally}
use Rattle.name_entries.specs.declared.NameRead.{NameRead}
use Rattle.name_entries.proofs.Holding.{held_more}
use Rattle.name_entries.proofs.Sparing.{Rest, rest_first, rest_more, spared_first}
use Rattle.std.specs.Prelude.{Result, Ok, Err}

-- What has been read up to `at`, from n on.
pub record Going (text : List ℕ) (n : ℕ) (item : Rules.Row) (start : Tally) (notes-before : List ℕ) (row notes : List ℕ) (t : Tally) (at : ℕ) : Type 0 where
  pub taken : List Value
  pub reads : (h : Naming) (p : ℕ) → joined text n (values h p [] none) ≡ joined text at (values h p taken none)
  pub held : (ss : List Span) → (start.over ≡ false → Noted text notes-before start ss) → Held text item start.over ss taken t row notes
  pub past : n ≤ at
  pub inside : at ≤ length text
  pub rest : Rest start.literals notes-before t row notes

module _ (text : List ℕ) (n : ℕ) (item : Rules.Row) (start : Tally) (row notes : List ℕ) (l : n ≤ length text) (b : Begun text start row notes) where
  first_held : (ss : List Span) → (start.over ≡ false → Noted text notes start ss) → Held text item start.over ss [] start row notes
  unfolding any_barred literals pairs pair_numbers literals_in
  first_held ss f = record { over = by start.over refl; left = λ e. left (f e) }
    where
      by : (t : Bool) → start.over ≡ t → t ≡ t || over_values (length ss) (shown item) []
      by true e = refl
      by false e =
          let z : ltb 64 (length ss + 0) ≡ false = le-ltb 64 (length ss + 0) (omega (arith, (f e).few, (f e).counted)) in
          rw z

      left : Noted text notes start ss → Left text ss [] start row notes
      left m =
          record {
            spans = [];
            noted = rw (append-nil ss) m;
            valued = refl;
            values = b.values;
            few = omega (arith, b.values);
            paired = b.zeros;
          }

  pub going_first : Going text n item start notes row notes start n
  going_first =
      record {
        taken = [];
        reads = λ h p. refl;
        held = first_held;
        past = omega arith;
        inside = l;
        rest = rest_first b.zeros;
      }

module _ {text : List ℕ} {n : ℕ} {item : Rules.Row} {start : Tally} {notes-before row notes : List ℕ} {t : Tally} {at : ℕ}
    (g : Going text n item start notes-before row notes t at) where
  pub stands : {f : Found} {e : ℕ} → (Ok (ValueRead.Open f e) ≡ value_at text at) → Stands text f × (at < e) × (e ≤ length text)
  stands q = subst (Goes text at) (sym q) (value_goes text at g.inside)

  pub stands_ended : {f : Found} {e : ℕ} → (Ok (ValueRead.Ended f e) ≡ value_at text at) → Stands text f × (at < e) × (e ≤ length text)
  stands_ended q = subst (Goes text at) (sym q) (value_goes text at g.inside)

  pub rooms : {f : Found} {row₀ : List ℕ} → Begun text start row₀ notes-before → Stands text f → Rooms f t row notes
  rooms b s =
      record {
        wide = g.rest.spared.wide;
        long = omega (arith, g.rest.spared.long, b.long);
        mid = (omega (arith, s.starts, s.middle, b.short), omega (arith, s.middle, b.short));
        end = (omega (arith, s.goes, s.ends, b.short), omega (arith, s.ends, b.short));
        bytes = λ e. ((g.held b.spans b.noted).left e).noted.small;
      }

  module _ {f : Found} {e : ℕ} {row-after notes-after : List ℕ} {r : Tally} (m : 448 ≤ length notes)
      (k : Takes (weighed item (value_of text f)) f t row notes r row-after notes-after) where
    pub going_more : (Ok (ValueRead.Open f e) ≡ value_at text at) → Going text n item start notes-before row-after notes-after r e
    going_more q =
        let s = stands q in
        record {
          taken = g.taken ++ value_of text f ∷ [];
          reads = λ h p. g.reads h p ∙ value-leads_on text h p g.taken at ∙ ap (on_read text h p g.taken) (sym q);
          held = λ ss i. held_more text item start.over ss g.taken t row notes f s.0 (g.held ss i) m r row-after notes-after k;
          past = omega (arith, g.past, s.1);
          inside = s.2;
          rest = rest_more g.rest k;
        }

    pub going_ended : (Ok (ValueRead.Ended f e) ≡ value_at text at) → ValuesBy text n item start notes-before (Ok (record { tally = r; end = e })) row-after notes-after
    going_ended q =
        let s = stands_ended q in
        record {
          values = g.taken ++ value_of text f ∷ [];
          reads = λ h p. g.reads h p ∙ value-leads_on text h p g.taken at ∙ ap (on_read text h p g.taken) (sym q);
          held = (
            s.2,
            omega (arith, g.past, s.1),
            λ ss i. held_more text item start.over ss g.taken t row notes f s.0 (g.held ss i) m r row-after notes-after k,
            λ o. ((rest_more g.rest k).fresh o).beyond,
          );
          spared = (rest_more g.rest k).spared;
        }

  pub going_fault : {k : ℕ} → (Err k ≡ value_at text at) → ValuesBy text n item start notes-before (Err k) row notes
  going_fault q =
      record {
        values = g.taken;
        reads = λ h p. g.reads h p ∙ value-leads_on text h p g.taken at ∙ ap (on_read text h p g.taken) (sym q);
        held = tt;
        spared = g.rest.spared;
      }

pub begun : {text : List ℕ} {t : Tally} {row notes : List ℕ} → Ready text t notes → row ≡ replicate 18 0 → Begun text t row notes
begun r z = record { short = r.short; values = r.values; zeros = z; long = r.long; spans = r.spans; noted = r.noted }

-- The name and VALUE before the values.
to_value : (text : List ℕ) (n k : ℕ) → Ok k ≡ label_at text n → (h : Naming) →
    joined text n (label h) ≡ on_reached text (value h (inked text n)) (values h (inked text n) [] none) (literal_at (bytes "VALUE") text k)
to_value text n k q h = label_leads text n h ∙ ap (on_reached text (label h) (value h (inked text n))) (sym q) ∙ value-leads text k h (inked text n)

module _ (text : List ℕ) (n : ℕ) {item : Rules.Row} {start : Tally} {notes : List ℕ} where
  pub label_fault : {e : ℕ} {row : List ℕ} → row ≡ replicate 18 0 → Err e ≡ label_at text n → NamedBy text n item start notes (Err e) row notes
  label_fault z q =
      record {
        values = [];
        reads = λ h. label_leads text n h ∙ ap (on_reached text (label h) (value h (inked text n))) (sym q);
        held = tt;
        spared = spared_first z;
      }

  module _ (k : ℕ) (q : Ok k ≡ label_at text n) where
    pub value-fault : {e : ℕ} {row : List ℕ} → row ≡ replicate 18 0 → Err e ≡ literal_at (bytes "VALUE") text k → NamedBy text n item start notes (Err e) row notes
    value-fault z s =
        record {
          values = [];
          reads = λ h. to_value text n k q h ∙ ap (on_reached text (value h (inked text n)) (values h (inked text n) [] none)) (sym s);
          held = tt;
          spared = spared_first z;
        }

    pub valued : {m : ℕ} (r : Result NameRead ℕ) {row-after notes-after : List ℕ} → n ≤ m → Ok m ≡ literal_at (bytes "VALUE") text k →
        ValuesBy text m item start notes r row-after notes-after → NamedBy text n item start notes r row-after notes-after
    valued (Ok t) l s v =
        let h = v.held in
        record {
          values = v.values;
          reads = λ h. to_value text n k q h ∙ ap (on_reached text (value h (inked text n)) (values h (inked text n) [] none)) (sym s) ∙ v.reads h (inked text n);
          held = (h.0, omega (arith, h.1), h.2, h.3);
          spared = v.spared;
        }
    valued (Err e) l s v =
        record {
          values = v.values;
          reads = λ h. to_value text n k q h ∙ ap (on_reached text (value h (inked text n)) (values h (inked text n) [] none)) (sym s) ∙ v.reads h (inked text n);
          held = tt;
          spared = v.spared;
        }

pub label_within : (text : List ℕ) (n k : ℕ) → n ≤ length text → Ok k ≡ label_at text n → (n ≤ k) × (k ≤ length text)
label_within text n k l q = by (eqb (inked text n) n) (is_name (take (name_reach text (inked text n)) (drop (inked text n) text))) (sym q)
  where
    by : (a b : Bool) →
        cond a (Err n) (cond b (Ok (inked text n + name_reach text (inked text n))) (Err (inked text n + name_reach text (inked text n)))) ≡ Ok k →
        (n ≤ k) × (k ≤ length text)
    by true b e = let z : ◌≡◌ {A = ℕ} 0 1 = cc in absurd (omega arith)
    by false true e =
        let z : inked text n + name_reach text (inked text n) ≡ k = cc in (
          omega (arith, z),
          omega (arith, inked_le text n l, reach_le begins_name [] (drop (inked text n) text), length-drop (inked text n) text, z),
        )
    by false false e = let z : ◌≡◌ {A = ℕ} 0 1 = cc in absurd (omega arith)
