-- A level 88 entry as the code takes it.
use mathlib.Core.Path.{◌≡◌, refl, sym, ◌∙◌}
use mathlib.Core.Bool.{Bool, true, false, cond, ◌||◌}
use mathlib.Core.List.{List}
use Prim.Native.Nat.{ℕ, ◌+◌, ◌-◌, ◌≤◌, ◌<◌}
use borrow.Author.Tests.{leb-false}
use lib.Dec.{leb}
use Rattle.content.specs.declared.Row as Rules
use Rattle.description.specs.Stages.{inked}
use Rattle.description.proofs.Bytes.{apart}
use Rattle.value_notes.specs.Taking.{tally}
use Rattle.name_entries.specs.Named.{Span, Ready, NamedBy, Noted as NotesHold}
use Rattle.value_notes.specs.declared.Tally.{Tally}
use Rattle.name_entries.specs.declared.NameRead.{NameRead}
use Rattle.noting.specs.Stored.{noted_at}
use Rattle.storing.specs.Naming.{item_row, names, start_of, passed_by, NameReady, NameStored, NotStored, NameBy}
use Rattle.storing.specs.declared.Names.{Names}
use Rattle.std.specs.Prelude.{Result, Ok, Err}

notes_as : {text notes : List ℕ} (s : Names) {ss : List Span} → NotesHold text notes (tally false 0 s.literals s.bytes) ss → NotesHold text notes (start_of s) ss
notes_as s n = record { laid = n.laid; standing = n.standing; counted = n.counted; sized = n.sized; few = n.few; small = n.small }

or_left : (a b : Bool) → a || b ≡ false → a ≡ false
or_left true b e = apart refl e
or_left false b e = refl

or_right : (a b : Bool) → a || b ≡ false → b ≡ false
or_right true b e = apart refl e
or_right false b e = e

module _ {text : List ℕ} {p : ℕ} {flat : List ℕ} {count : ℕ} {s : Names} {rows places notes row : List ℕ} (R : NameReady text p flat count s rows places notes row) where
  pub ready : {start : Tally} → start ≡ start_of s → Ready text start notes
  ready e =
      rw e
      (record {
        short = R.short;
        values = refl;
        long = R.wide.2;
        spans = R.spans;
        noted = λ x. notes_as s (R.noted (or_left s.over (leb 64 s.count) x));
      })

  module _ {item : Rules.Row} {start : Tally} {r : Result NameRead ℕ} {row-after notes-after : List ℕ} (i : item ≡ item_row (noted_at flat (count - 1))) (q : start ≡ start_of s)
      (N : NamedBy text (p + 2) item start notes r row-after notes-after) where
    whole : {w : NameRead} → r ≡ Ok w → NamedBy text (p + 2) (item_row (noted_at flat (count - 1))) (start_of s) notes (Ok w) row-after notes-after
    whole u = rw (← u, ← i, ← q) N

    pub below : {w : NameRead} → r ≡ Ok w → w.tally.over ≡ false → (s.count < 64) × (w.tally.values ≤ 8)
    below u o =
        let h = (whole u).held.2 R.spans (λ x. notes_as s (R.noted (or_left s.over (leb 64 s.count) x))) in
        let a = or_left (s.over || leb 64 s.count) _ (sym h.over ∙ o) in
        (leb-false 64 s.count (or_right s.over (leb 64 s.count) a), (h.left o).few)

    module _ {w : NameRead} (u : r ≡ Ok w) {next : Names} where
      stepped : next ≡ cond w.tally.over (passed_by s p) (names false 0 (s.count + 1) w.tally.literals w.tally.bytes) → {rows-after places-after row_last : List ℕ} →
          (w.tally.over ≡ false → NameStored s.count (count - 1) w.tally.values (inked text (p + 2)) rows places row-after rows-after places-after row_last) →
          (w.tally.over ≡ true → NotStored s rows places notes rows-after places-after notes-after row_last) →
          NameBy text p flat count s rows places notes (Ok (record { names = next; end = w.end })) rows-after places-after notes-after row_last
      stepped m f g =
          let y = whole u in
          record {
            values = y.values;
            by = (
              y.reads,
              y.held.0,
              y.held.1,
              record { tallied = w.tally; row = row-after; held = y.held.2; is = m; stored = f; beyond = y.held.3; passed = g },
            );
          }

      pub named_step : w.tally.over ≡ false → next ≡ names false 0 (s.count + 1) w.tally.literals w.tally.bytes → {rows-after places-after row_last : List ℕ} →
          NameStored s.count (count - 1) w.tally.values (inked text (p + 2)) rows places row-after rows-after places-after row_last →
          NameBy text p flat count s rows places notes (Ok (record { names = next; end = w.end })) rows-after places-after notes-after row_last
      named_step o m f = stepped (m ∙ sym (rw o)) (λ _. f) (λ x. apart x o)

      pub named-over : w.tally.over ≡ true → next ≡ passed_by s p → NameBy text p flat count s rows places notes (Ok (record { names = next; end = w.end })) rows places notes-after row-after
      named-over o m =
          stepped (m ∙ sym (rw o)) (λ x. apart o x) (λ _. record { named = refl; placed = refl; spared = (whole u).spared })

    pub named-fault : {k : ℕ} → r ≡ Err k → NameBy text p flat count s rows places notes (Err k) rows places notes-after row-after
    named-fault {k} u =
        let w : NamedBy text (p + 2) (item_row (noted_at flat (count - 1))) (start_of s) notes (Err k) row-after notes-after = rw (← u, ← i, ← q) N in
        record { values = w.values; by = (w.reads, record { named = refl; placed = refl; spared = w.spared }) }
