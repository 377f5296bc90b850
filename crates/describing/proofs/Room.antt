-- Room for the outputs, and what is written to them.
use mathlib.Core.Path.{◌≡◌, refl, sym, ◌∙◌}
use mathlib.Core.Bool.{Bool, true, false, cond}
use mathlib.Core.List.{List, ◌++◌, map}
use Prim.Native.Nat.{ℕ, ◌+◌, ◌*◌, ◌≤◌, ◌<◌}
use native.Mathlib.Omega.{arith}
use borrow.Author.Tests.{leb-true}
use lib.Dec.{leb}
use lib.ListN.{length, take, drop}
use lib.Seq.{length-take-le}
use Rattle.description.proofs.Bytes.{leb_so, leb_no}
use Rattle.storing.specs.declared.Found.{Found}
use Rattle.noting.specs.Stored.{noted_from}
use Rattle.outputs.specs.Noted.{named_of, rows_from, bytes_from}
use Rattle.outputs.proofs.Copying.{named-length, rows-length}
use Rattle.describing.specs.Calls.{room_for, needed, sizes, over, Ready, Roomy, Wrote, Given}
use Rattle.describing.specs.declared.Sizes.{Sizes}
use Rattle.describing.specs.declared.Described.{Described}
use Rattle.describing.specs.declared.Described.TheVariants.{Counts, Faulty, Room}

-- The first output that lacks room.
module _ (n h : Sizes) where
  pub lacks_rows : h.rows < n.rows → Room n.rows ≡ room_for n h
  lacks_rows l = rw (leb_no n.rows h.rows l)

  module _ (a : n.rows ≤ h.rows) where
    pub lacks_places : h.places < n.places → Room n.places ≡ room_for n h
    lacks_places l = rw (leb_so a, leb_no n.places h.places l)

    module _ (b : n.places ≤ h.places) where
      pub lacks_names : h.names < n.names → Room n.names ≡ room_for n h
      lacks_names l = rw (leb_so a, leb_so b, leb_no n.names h.names l)

      module _ (c : n.names ≤ h.names) where
        pub lacks_spots : h.spots < n.spots → Room n.spots ≡ room_for n h
        lacks_spots l = rw (leb_so a, leb_so b, leb_so c, leb_no n.spots h.spots l)

        module _ (d : n.spots ≤ h.spots) where
          pub lacks_literals : h.literals < n.literals → Room n.literals ≡ room_for n h
          lacks_literals l = rw (leb_so a, leb_so b, leb_so c, leb_so d, leb_no n.literals h.literals l)

          module _ (e : n.literals ≤ h.literals) where
            pub lacks_bytes : h.bytes < n.bytes → Room n.bytes ≡ room_for n h
            lacks_bytes l = rw (leb_so a, leb_so b, leb_so c, leb_so d, leb_so e, leb_no n.bytes h.bytes l)

            pub lacks_none : n.bytes ≤ h.bytes → Counts n.rows n.places n.names n.spots n.literals n.bytes ≡ room_for n h
            lacks_none f = rw (leb_so a, leb_so b, leb_so c, leb_so d, leb_so e, leb_so f)

-- Counts are given where none lacks room.
room_here : (t : Bool) (x : Described) (m : ℕ) {a b c d e f : ℕ} → cond t x (Room m) ≡ Counts a b c d e f → (t ≡ true) × (x ≡ Counts a b c d e f)
room_here true x m q = (refl, q)
room_here false x m q = let z : ◌≡◌ {A = ℕ} 0 1 = cc in absurd (omega arith)

pub all_room : (f : Found) (h : Sizes) {a b c d e g : ℕ} → room_for (needed f) h ≡ Counts a b c d e g →
    Roomy f h.rows h.places h.names h.spots h.literals h.bytes
all_room f h q =
    let n = needed f in
    let s1 = room_here (leb n.rows h.rows) _ n.rows q in
    let s2 = room_here (leb n.places h.places) _ n.places s1.1 in
    let s3 = room_here (leb n.names h.names) _ n.names s2.1 in
    let s4 = room_here (leb n.spots h.spots) _ n.spots s3.1 in
    let s5 = room_here (leb n.literals h.literals) _ n.literals s4.1 in
    let s6 = room_here (leb n.bytes h.bytes) _ n.bytes s5.1 in
    record {
      for_rows = leb-true n.rows h.rows s1.0;
      for_places = leb-true n.places h.places s2.0;
      for_names = leb-true n.names h.names s3.0;
      for_name_places = leb-true n.spots h.spots s4.0;
      for_literals = leb-true n.literals h.literals s5.0;
      for_bytes = leb-true n.bytes h.bytes s6.0;
    }

module _ {text laid flat named spots notes : List ℕ} {f : Found} {rows places names name-places literals bytes : List ℕ} where
  -- six copies
  pub wrote : {o1 o2 o3 o4 o5 o6 : List ℕ} → Ready text laid flat named spots notes f → o1 ≡ take (f.count * 5) laid ++ drop (f.count * 5) rows →
      o2 ≡ map named_of (noted_from flat 0 f.count) ++ drop f.count places → o3 ≡ take (f.names.count * 18) named ++ drop (f.names.count * 18) names →
      o4 ≡ take f.names.count spots ++ drop f.names.count name-places → o5 ≡ rows_from notes 0 f.names.literals ++ drop (f.names.literals * 5) literals →
      o6 ≡ over (bytes_from text notes 0 f.names.literals) bytes → Wrote text laid flat named spots notes f rows places names name-places literals bytes o1 o2 o3 o4 o5 o6
  wrote r e1 e2 e3 e4 e5 e6 =
      record {
        rows_are = rw (length-take-le (f.count * 5) laid r.rows) e1;
        places_are = rw (named-length flat f.count) e2;
        names_are = rw (length-take-le (f.names.count * 18) named r.names) e3;
        name_places_are = rw (length-take-le f.names.count spots r.places) e4;
        literals_are = rw (rows-length notes 0 f.names.literals) e5;
        bytes_are = e6;
      }

  module _ {r : Described} (e : r ≡ room_for (needed f) (sizes (length rows) (length places) (length names) (length name-places) (length literals) (length bytes))) where
    pub given-all : {a b c d g h : ℕ} {o1 o2 o3 o4 o5 o6 : List ℕ} → r ≡ Counts a b c d g h →
        Wrote text laid flat named spots notes f rows places names name-places literals bytes o1 o2 o3 o4 o5 o6 →
        Given text laid flat named spots notes f rows places names name-places literals bytes r o1 o2 o3 o4 o5 o6
    given-all q w =
        record {
          answered = e;
          rows_written = rw q w.rows_are;
          places_written = rw q w.places_are;
          names_written = rw q w.names_are;
          name_places_written = rw q w.name_places_are;
          literals_written = rw q w.literals_are;
          bytes_written = rw q w.bytes_are;
        }

    -- a refusal
    pub given-room : {p : ℕ} → r ≡ Room p →
        Given text laid flat named spots notes f rows places names name-places literals bytes (Room p) rows places names name-places literals bytes
    given-room q =
        record {
          answered = sym q ∙ e;
          rows_written = refl;
          places_written = refl;
          names_written = refl;
          name_places_written = refl;
          literals_written = refl;
          bytes_written = refl;
        }

    pub given_faulty : {p : ℕ} → r ≡ Faulty p →
        Given text laid flat named spots notes f rows places names name-places literals bytes (Faulty p) rows places names name-places literals bytes
    given_faulty q =
        record {
          answered = sym q ∙ e;
          rows_written = refl;
          places_written = refl;
          names_written = refl;
          name_places_written = refl;
          literals_written = refl;
          bytes_written = refl;
        }
