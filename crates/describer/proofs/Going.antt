-- Reading entry by entry: what is known between entries, and how each turn goes.
use mathlib.Core.Path.{◌≡◌, refl, sym, ap, subst, ◌∙◌}
use mathlib.Core.Bool.{Bool, true, false, cond, ◌&&◌, ◌||◌}
use mathlib.Core.Option.{some}
use mathlib.Core.List.{List, [], ◌∷◌, ◌++◌, map}
use Prim.Native.Nat.{ℕ, zero, suc, ◌+◌, ◌*◌, ◌-◌, ◌≤◌, ◌<◌}
use native.Mathlib.Omega.{arith}
use native.Mathlib.Numerals.{add-one}
use borrow.Author.Tests.{ltb-true}
use lib.Dec.{eqb, ltb}
use lib.ListN.{set, length, get_or, take, drop, length-set, length-append, get_or-map}
use lib.Seq.{sets}
use Rattle.description.specs.Grammar.{Entry, row, Condition, condition}
use Rattle.description.specs.Reader.{Groups, enters, begins_level, awaiting, inside, level, label, Parts, parts, has_item, ends, read, faulty, read_text}
use Rattle.description.specs.Stages.{inked, onward, parted, joined, clauses_at, name_at, leveled, own_row, own_rows}
use Rattle.description.proofs.Bytes.{eqb_no}
use Rattle.description.proofs.Takes.{naming}
use Rattle.description.proofs.Opening.{shut, level_ends}
use Rattle.levels.specs.Stack.{opened, groups_of, entered_by, topped}
use Rattle.levels.proofs.Stack.{stored_top}
use Rattle.text_bytes.proofs.Laws.{inked_le}
use Rattle.entries.specs.declared.Noted.{Noted}
use Rattle.entries.specs.declared.EntryRead.{EntryRead}
use Rattle.entries.specs.declared.EntryRead.TheVariants.{Whole, Name}
use Rattle.entries.specs.Entries.{noted, cap_noted, cap_entry, item_of, called_of, entered_at, leveled_at, entry_at, entry_of}
use Rattle.description.specs.declared.Clauses.{Clauses}
use Rattle.description.specs.declared.Called.{Called}
use Rattle.description.specs.declared.Called.TheVariants as Called
use Rattle.entries.proofs.Bounds.{Wholes}
use Rattle.entries.proofs.Leads.{groups_after, on_entry, entry-leads, entry_whole, Deep, entry_deep}
use Rattle.noting.specs.Stored.{numbers_of, noted_at, noted_from, pushed, waiting_after, Scaled}
use Rattle.storing.specs.Naming.{names, Stores, Kept, NameReady, NameBy}
use Rattle.storing.specs.Reads.{reading_of, ReadBy, Beyond}
use Rattle.storing.specs.declared.Names.{Names}
use Rattle.storing.specs.declared.NameStep.{NameStep}
use Rattle.storing.specs.declared.Found.{Found}
use Rattle.storing.proofs.Stored.{stored_alike}
use Rattle.describer.proofs.Labels.{none_kept, kept_item, kept_more, literals_more}
use Rattle.describer.proofs.Past.{found, beyond_item, beyond_step}
use Rattle.noting.proofs.Flat.{kept, held_there, noted-same, noted_snoc}
use Rattle.std.specs.Prelude.{Result, Ok, Err, Option, Some, None}

-- Without an item before it no entry is one of level 88.
no_item : (l d p n : ℕ) (x : Result Clauses ℕ) → item_of l d p n x ≡ Ok Name → ⊥
no_item l d p n (Ok x) e = let z : ◌≡◌ {A = ℕ} 0 1 = cc in omega arith
no_item l d p n (Err k) e = let z : ◌≡◌ {A = ℕ} 0 1 = cc in omega arith

no_called : (text : List ℕ) (l d p : ℕ) (x : Result Called ℕ) → called_of text l d p x ≡ Ok Name → ⊥
no_called text l d p (Ok (Called.Item k)) e = no_item l d p (inked text (p + 2)) (clauses_at text k) e
no_called text l d p (Ok (Called.Group k)) e = let z : ◌≡◌ {A = ℕ} 0 1 = cc in omega arith
no_called text l d p (Err k) e = let z : ◌≡◌ {A = ℕ} 0 1 = cc in omega arith

no_entered : (text : List ℕ) (l p : ℕ) (x : Option ℕ) → entered_at text l p x ≡ Ok Name → ⊥
no_entered text l p (Some d) e = no_called text l d p (name_at l text (p + 2)) e
no_entered text l p None e = let z : ◌≡◌ {A = ℕ} 0 1 = cc in omega arith

no_name : (stack : List ℕ) (depth waiting : ℕ) (text : List ℕ) (p : ℕ) → entry_at stack depth waiting false text p ≡ Ok Name → ⊥
no_name stack depth waiting text p e =
    by (enters (groups_of stack depth waiting) (get_or text p 0 ∷ get_or text (p + 1) 0 ∷ [])) (begins_level (groups_of stack depth waiting) (get_or text p 0 ∷ []) || false) e
  where
    by : (s t : Bool) → leveled_at stack depth waiting text p (leveled p s false t (10 * (get_or text p 0 - 0x30) + (get_or text (p + 1) 0 - 0x30))) ≡ Ok Name → ⊥
    by true t e =
        no_entered text (10 * (get_or text p 0 - 0x30) + (get_or text (p + 1) 0 - 0x30)) p
        (entered_by stack depth waiting (10 * (get_or text p 0 - 0x30) + (get_or text (p + 1) 0 - 0x30))) e
    by false true e = let z : ◌≡◌ {A = ℕ} 0 1 = cc in omega arith
    by false false e = let z : ◌≡◌ {A = ℕ} 0 1 = cc in omega arith

pub record Going (text flat stack rows places notes : List ℕ) (depth waiting count at : ℕ) (s : Names) : Type 0 where
  pub exact : List Noted
  pub conditions : List Condition
  pub held : noted_from flat 0 count ≡ map cap_noted exact
  pub scaled : Scaled exact
  pub counted : length exact ≡ count
  pub reading : read_text text ≡ onward text at (level (groups_of stack depth waiting) (parts (map entry_of exact) conditions))
  pub inside : at ≤ length text
  pub few : 5 * count ≤ at
  pub deep : depth ≤ count
  pub wide : 821 ≤ length stack
  pub kept : Kept text (map entry_of exact) conditions s rows places notes

abbrev pub Reads : List ℕ → List ℕ → List ℕ → List ℕ → List ℕ → Found → Type 0
Reads text flat rows places notes r = ReadBy text (read_text text) flat rows places notes r

pub begins : (text flat stack rows places notes : List ℕ) → 821 ≤ length stack → Going text flat stack rows places notes 0 0 0 0 (names false 0 0 0 0)
unfolding read_text noted_from opened
begins text flat stack rows places notes h =
    record {
      exact = [];
      conditions = [];
      held = refl;
      scaled = tt;
      counted = refl;
      reading = refl;
      inside = omega arith;
      few = omega arith;
      deep = omega arith;
      wide = h;
      kept = none_kept text rows places notes;
    }

map-length : (ys : List Noted) → length (map entry_of ys) ≡ length ys
map-length [] = refl
map-length (y ∷ ys) = ap suc (map-length ys)

-- An entry in the buffer, and by itself.
abbrev nothing : Noted
nothing = noted 0 0 0 0 0 0 0

noted_there : (flat : List ℕ) (i n j : ℕ) → j < n → get_or (noted_from flat i n) j (cap_noted nothing) ≡ noted_at flat (i + j)
unfolding noted_from
noted_there flat i zero j l = absurd (omega arith)
noted_there flat i (suc n) zero l = let z : i + 0 ≡ i = omega arith in rw z
noted_there flat i (suc n) (suc j) l = let z : i + suc j ≡ suc i + j = omega arith in rw z (noted_there flat (suc i) n j (omega arith))

own_there : (ys : List Noted) (j : ℕ) → j < length ys → get_or (own_rows (map entry_of ys)) j (row 0 0 0 0 0) ≡ own_row (entry_of (get_or ys j nothing)).content
unfolding own_rows
own_there [] j l = absurd (omega arith)
own_there (y ∷ ys) zero l = refl
own_there (y ∷ ys) (suc j) l = own_there ys j (omega arith)

module _ (text flat stack rows places notes : List ℕ) (depth waiting count at : ℕ) (s : Names) (G : Going text flat stack rows places notes depth waiting count at s)
    (short : length text ≤ 4096) where
  abbrev es : List Entry
  es = map entry_of G.exact

  abbrev d : Parts
  d = parts es G.conditions

  abbrev g : Groups
  g = groups_of stack depth waiting

  -- The text is over.
  pub over : {p : ℕ} → p ≡ inked text at → p ≡ length text → {r : Found} → r ≡ found count (ltb 0 count && eqb waiting 0) p s → Reads text flat rows places notes r
  over {p} e h q =
      rw q
      (record {
        exact = G.exact;
        conditions = G.conditions;
        held = G.held;
        scaled = G.scaled;
        reading = G.reading ∙ level_ends text at g d (omega arith) ∙ by (eqb waiting 0) (ltb 0 count) (rw (map-length G.exact, G.counted)) ∙ rw e;
        few = omega (arith, G.few, G.inside);
        limit = G.kept.limit;
        stores = G.kept.stores;
        all = G.kept.all;
      })
    where
      by : (t n : Bool) → has_item d ≡ n →
          shut (ends (level (cond t (inside (opened stack depth)) (awaiting (waiting - 1) (opened stack depth))) d)) d (inked text at)
          ≡ reading_of (n && t) d (inked text at)
      by true true i = rw i
      by true false i = rw i
      by false true i = refl
      by false false i = refl

  -- An answer that is no description.
  faulty_as : (p : ℕ) → read_text text ≡ faulty d p → {r : Found} → r ≡ found count false p s → {notes' : List ℕ} → Stores text (take s.count G.conditions) s rows places notes' →
      Reads text flat rows places notes' r
  faulty_as p f q S =
      rw q
      (record {
        exact = G.exact;
        conditions = G.conditions;
        held = G.held;
        scaled = G.scaled;
        reading = f;
        few = omega (arith, G.few, G.inside);
        limit = G.kept.limit;
        stores = S;
        all = G.kept.all;
      })

  module _ {p : ℕ} (e : p ≡ inked text at) (h : ¬ (p ≡ length text)) {r : Result EntryRead ℕ} (f : r ≡ cap_entry (entry_at stack depth waiting (ltb 0 count) text p)) where
    pub before_end : p < length text
    before_end = omega (arith, inked_le text at G.inside)

    has : ltb 0 count ≡ has_item d
    has = sym (rw (map-length G.exact, G.counted))

    leads : read_text text ≡ on_entry stack g p text d (entry_at stack depth waiting (ltb 0 count) text p)
    leads =
        let l : inked text at < length text = omega (arith, before_end) in
        rw e (G.reading ∙ entry-leads stack text d depth waiting (ltb 0 count) has at l)

    -- An entry that is faulty.
    pub faults : {k : ℕ} → r ≡ Err k → {z : Found} → z ≡ found count false k s → Reads text flat rows places notes z
    faults {k} i q = faulty_as k (leads ∙ by (entry_at stack depth waiting (ltb 0 count) text p) (sym i ∙ f)) q G.kept.stores
      where
        by : (z : Result EntryRead ℕ) → Err k ≡ cap_entry z → on_entry stack g p text d z ≡ faulty d k
        by (Ok (Whole y n m)) i = let z : ◌≡◌ {A = ℕ} 0 1 = cc in absurd (omega arith)
        by (Ok Name) i = let z : ◌≡◌ {A = ℕ} 0 1 = cc in absurd (omega arith)
        by (Err m) i = let j : m ≡ k = cc in rw j

    -- Level 88.
    module _ (i : r ≡ Ok Name) where
      is_name_lem : entry_at stack depth waiting (ltb 0 count) text p ≡ Ok Name
      is_name_lem = by (entry_at stack depth waiting (ltb 0 count) text p) (sym i ∙ f)
        where
          by : (z : Result EntryRead ℕ) → Ok Name ≡ cap_entry z → z ≡ Ok Name
          by (Ok (Whole y n m)) i = let z : ◌≡◌ {A = ℕ} 0 1 = cc in absurd (omega arith)
          by (Ok Name) i = refl
          by (Err m) i = let z : ◌≡◌ {A = ℕ} 0 1 = cc in absurd (omega arith)

      name_leads : read_text text ≡ joined text (p + 2) (label (naming g p d))
      name_leads = leads ∙ rw is_name_lem

      some_item : 0 < count
      some_item = by (ltb 0 count) refl is_name_lem
        where
          by : (t : Bool) → ltb 0 count ≡ t → entry_at stack depth waiting t text p ≡ Ok Name → 0 < count
          by true j q = ltb-true 0 count j
          by false j q = absurd (no_name stack depth waiting text p q)

      abbrev y : Noted
      y = get_or G.exact (count - 1) nothing

      there : noted_at flat (count - 1) ≡ cap_noted y
      there =
          let z : 0 + (count - 1) ≡ count - 1 = omega arith in
          let a : get_or (noted_from flat 0 count) (count - 1) (cap_noted nothing) ≡ noted_at flat (count - 1) = rw z at (noted_there flat 0 count (count - 1) (omega (arith, some_item))) in
          sym a ∙ ap (λ (l : List Noted). get_or l (count - 1) (cap_noted nothing)) G.held ∙ get_or-map cap_noted G.exact (count - 1) nothing

      own : get_or (own_rows es) (length es - 1) (row 0 0 0 0 0) ≡ own_row (entry_of y).content
      own =
          let z : length es - 1 ≡ count - 1 = omega (arith, map-length G.exact, G.counted) in
          rw z (own_there G.exact (count - 1) (omega (arith, G.counted, some_item)))

      inside_name : p + 2 ≤ length text
      inside_name = subst (Wholes text p) is_name_lem (entry_whole stack text d depth waiting (ltb 0 count) has p before_end)

      pub name_ready : {nrow : List ℕ} → (1152 ≤ length rows) × (64 ≤ length places) × (448 ≤ length notes) × (length nrow ≡ 18) → 5747 ≤ length flat →
          NameReady text p flat count s rows places notes nrow
      name_ready w m =
          record {
            inside = inside_name;
            short = short;
            some = some_item;
            few = omega (arith, G.few, G.inside, short);
            held = omega (arith, G.few, G.inside, short, m);
            wide = w;
            spans = G.kept.stores.spans;
            noted = λ _. G.kept.stores.noted;
          }

      module _ {rows' places' notes' nrow' : List ℕ} where
        pub name_fault : {k : ℕ} → NameBy text p flat count s rows places notes (Err k) rows' places' notes' nrow' → {z : Found} → z ≡ found count false k s →
            Reads text flat rows' places' notes' z
        name_fault {k} N q =
            let m = N.by.1 in
            rw (m.named, m.placed) (faulty_as k (name_leads ∙ N.by.0 (naming g p d)) q (stored_alike m.spared.counted G.kept.stores))

        module _ {step : NameStep} (w : (1152 ≤ length rows) × (64 ≤ length places))
            (N : NameBy text p flat count s rows places notes (Ok step) rows' places' notes' nrow') where
          abbrev c : Condition
          c = condition (length es - 1) p (inked text (p + 2)) N.values

          name_joins : read_text text ≡ joined text step.end (level g (parts es (G.conditions ++ c ∷ [])))
          name_joins = name_leads ∙ N.by.0 (naming g p d)

          kept_name : Kept text es (G.conditions ++ c ∷ []) step.names rows' places' notes'
          kept_name =
              kept_more G.kept p count flat y N.values step.names rows' places' notes' nrow' own there
              (omega (arith, map-length G.exact, G.counted)) (omega (arith, map-length G.exact, G.counted, some_item)) w N.by.3

          pub name_beyond : {flat₀ stack₀ rows₀ places₀ notes₀ nrow : List ℕ} → Beyond (found count true 0 s) flat₀ stack₀ rows₀ places₀ notes₀ flat stack rows places notes nrow →
              length nrow' ≡ 18 → Beyond (found count true 0 step.names) flat₀ stack₀ rows₀ places₀ notes₀ flat stack rows' places' notes' nrow'
          name_beyond B l =
              beyond_step B p flat N.by.3 (literals_more G.kept p count flat y N.values step.names rows' places' notes' nrow' own there
              (omega (arith, map-length G.exact, G.counted)) (omega (arith, map-length G.exact, G.counted, some_item)) w N.by.3) l

          pub name_stops : parted (drop step.end text) ≡ false → {z : Found} → z ≡ found count false step.end step.names → Reads text flat rows' places' notes' z
          name_stops b q =
              rw q
              (record {
                exact = G.exact;
                conditions = G.conditions ++ c ∷ [];
                held = G.held;
                scaled = G.scaled;
                reading = name_joins ∙ rw b;
                few = omega (arith, G.few, G.inside, short);
                limit = kept_name.limit;
                stores = kept_name.stores;
                all = kept_name.all;
              })

          pub name_goes : parted (drop step.end text) ≡ true → Going text flat stack rows' places' notes' depth waiting count step.end step.names
          name_goes b =
              record {
                exact = G.exact;
                conditions = G.conditions ++ c ∷ [];
                held = G.held;
                scaled = G.scaled;
                counted = G.counted;
                reading = name_joins ∙ rw b;
                inside = N.by.1;
                few = omega (arith, G.few, N.by.2, e);
                deep = G.deep;
                wide = G.wide;
                kept = kept_name;
              }

          pub name_further : (at < step.end) × (step.end ≤ length text)
          name_further = (omega (arith, N.by.2, e), N.by.1)

    -- An entry that is whole: the exact one.
    pub record Exact (x : Noted) (n k : ℕ) : Type 0 where
      pub y : Noted
      pub is : entry_at stack depth waiting (ltb 0 count) text p ≡ Ok (Whole y n k)
      pub capped : x ≡ cap_noted y
      pub scale : y.scale ≤ y.digits
      pub ends : (p + 5 ≤ k) × (k ≤ length text)
      pub near : (n ≤ depth + 1) × (y.level ≤ 99)

    pub exactly : {x : Noted} {n k : ℕ} → r ≡ Ok (Whole x n k) → Exact x n k
    exactly {x} {n} {k} i = by (entry_at stack depth waiting (ltb 0 count) text p) refl (sym i ∙ f) (entry_whole stack text d depth waiting (ltb 0 count) has p before_end)
        (entry_deep stack text d depth waiting (ltb 0 count) has p)
      where
        by : (z : Result EntryRead ℕ) → entry_at stack depth waiting (ltb 0 count) text p ≡ z → Ok (Whole x n k) ≡ cap_entry z → Wholes text p z → Deep stack text d depth waiting (ltb 0 count) has z → Exact x n k
        by (Ok (Whole y d' m)) j i w o =
            let a : n ≡ d' = cc in
            let b : k ≡ m = cc in
            let c : x ≡ cap_noted y = cc in
            record {
              y = y;
              is = rw (a, b) j;
              capped = c;
              scale = w.0;
              ends = (omega (arith, w.1.0), omega (arith, w.1.1));
              near = (omega (arith, o.0), o.1);
            }
        by (Ok Name) j i w o = let z : ◌≡◌ {A = ℕ} 0 1 = cc in absurd (omega arith)
        by (Err m) j i w o = let z : ◌≡◌ {A = ℕ} 0 1 = cc in absurd (omega arith)

    module _ {x : Noted} {n k : ℕ} (i : r ≡ Ok (Whole x n k)) (room : 5747 ≤ length flat) where
      abbrev X : Exact x n k
      X = exactly i

      abbrev after : List ℕ
      after = sets flat (count * 7) (numbers_of x)

      pub fits : count * 7 + 6 < length flat
      fits = omega (arith, G.few, G.inside)

      pub fits_stack : n ≤ length stack
      fits_stack = omega (arith, X.near.0, G.deep, G.few, G.inside, G.wide)

      pub level_fits : x.level < 4294967295
      level_fits = let i : x.level ≡ X.y.level = ap (λ (z : Noted). z.level) X.capped in omega (arith, X.near.1)

      held_after : noted_from after 0 (count + 1) ≡ map cap_noted (G.exact ++ X.y ∷ [])
      held_after =
          let n0 : 0 + count ≡ count = omega arith in
          let a : noted_from after 0 count ≡ noted_from flat 0 count = noted-same after flat 0 count (λ m l. kept flat count x fits m (omega arith)) in
          rw (add-one, noted_snoc after 0 count, n0, held_there flat count x fits, a, G.held)
          (ap (λ (z : Noted). map cap_noted G.exact ++ z ∷ []) X.capped ∙ sym (by G.exact))
        where
          by : (ys : List Noted) → map cap_noted (ys ++ X.y ∷ []) ≡ map cap_noted ys ++ cap_noted X.y ∷ []
          by [] = refl
          by (y ∷ ys) = ap (λ (l : List Noted). cap_noted y ∷ l) (by ys)

      entries_after : map entry_of (G.exact ++ X.y ∷ []) ≡ map entry_of G.exact ++ entry_of X.y ∷ []
      entries_after = by G.exact
        where
          by : (ys : List Noted) → map entry_of (ys ++ X.y ∷ []) ≡ map entry_of ys ++ entry_of X.y ∷ []
          by [] = refl
          by (y ∷ ys) = ap (λ (l : List Entry). entry_of y ∷ l) (by ys)

      scaled_after : Scaled (G.exact ++ X.y ∷ [])
      scaled_after = by G.exact G.scaled
        where
          by : (ys : List Noted) → Scaled ys → Scaled (ys ++ X.y ∷ [])
          by [] s = (X.scale, tt)
          by (y ∷ ys) s = (s.0, by ys s.1)

      joins : read_text text ≡ joined text k (level (groups_after stack X.y n) (parts (map entry_of (G.exact ++ X.y ∷ [])) G.conditions))
      joins = leads ∙ rw (X.is, entries_after)

      kept_after : Kept text (map entry_of (G.exact ++ X.y ∷ [])) G.conditions s rows places notes
      kept_after = rw entries_after (kept_item (entry_of X.y) G.kept)

      -- A byte after it that is no blank.
      pub stops : parted (drop k text) ≡ false → {z : Found} → z ≡ found (count + 1) false k s → Reads text after rows places notes z
      stops b q =
          rw q
          (record {
            exact = G.exact ++ X.y ∷ [];
            conditions = G.conditions;
            held = held_after;
            scaled = scaled_after;
            reading = joins ∙ rw b;
            few = omega (arith, G.few, X.ends, e);
            limit = kept_after.limit;
            stores = kept_after.stores;
            all = kept_after.all;
          })

      top : opened (pushed stack n x.level) n ≡ topped stack x.level n
      unfolding opened
      top = by n fits_stack
        where
          by : (d : ℕ) → d ≤ length stack → opened (pushed stack d x.level) d ≡ topped stack x.level d
          by zero l = refl
          by (suc d) l = let z : suc d - 1 ≡ d = omega arith in subst (λ i. opened (set stack i x.level) (suc d) ≡ topped stack x.level (suc d)) z (stored_top stack x.level (suc d) (omega arith) l)

      groups : groups_after stack X.y n ≡ groups_of (pushed stack n x.level) n (waiting_after x)
      groups =
          let a : x.level ≡ X.y.level = ap (λ (z : Noted). z.level) X.capped in
          let b : x.kind ≡ X.y.kind = ap (λ (z : Noted). z.kind) X.capped in
          rw (← a, ← b) (by (eqb x.kind 0))
        where
          by : (t : Bool) → cond t (awaiting x.level (topped stack x.level n)) (inside (topped stack x.level n))
              ≡ groups_of (pushed stack n x.level) n (cond t (x.level + 1) 0)
          by true =
              let z : (x.level + 1) - 1 ≡ x.level = omega arith in
              rw (top, eqb_no (x.level + 1) 0 (λ i. omega arith), z)
          by false = rw top

      wide_after : 821 ≤ length (pushed stack n x.level)
      wide_after = by n
        where
          by : (d : ℕ) → 821 ≤ length (pushed stack d x.level)
          by zero = G.wide
          by (suc d) = omega (arith, length-set stack d x.level, G.wide)

      -- A blank or the end after it.
      pub goes_on : parted (drop k text) ≡ true → Going text after (pushed stack n x.level) rows places notes n (waiting_after x) (count + 1) k s
      goes_on b =
          record {
            exact = G.exact ++ X.y ∷ [];
            conditions = G.conditions;
            held = held_after;
            scaled = scaled_after;
            counted = omega (arith, length-append G.exact (X.y ∷ []), G.counted);
            reading = joins ∙ rw (b, groups);
            inside = X.ends.1;
            few = omega (arith, G.few, X.ends, e);
            deep = omega (arith, X.near.0, G.deep);
            wide = wide_after;
            kept = kept_after;
          }

      pub item_beyond : {flat₀ stack₀ rows₀ places₀ notes₀ nrow : List ℕ} → Beyond (found count true 0 s) flat₀ stack₀ rows₀ places₀ notes₀ flat stack rows places notes nrow →
          Beyond (found (count + 1) true 0 s) flat₀ stack₀ rows₀ places₀ notes₀ after (pushed stack n x.level) rows places notes nrow
      item_beyond B = beyond_item B x n (omega (arith, X.near.0, G.deep))

      pub further : (at < k) × (k ≤ length text)
      further = (omega (arith, X.ends.0, e), X.ends.1)

pub step_as : {text : List ℕ} {p : ℕ} {flat : List ℕ} {count : ℕ} {s : Names} {rows places notes rows-after places-after notes-after row-after : List ℕ} {r z : Result NameStep ℕ} →
    NameBy text p flat count s rows places notes r rows-after places-after notes-after row-after → r ≡ z →
    NameBy text p flat count s rows places notes z rows-after places-after notes-after row-after
step_as N q = rw (← q) N
