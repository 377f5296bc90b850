-- An entry as the code reads it leads on as the reader does.
use mathlib.Core.Path.{◌≡◌, refl, sym, ap, ◌∙◌}
use mathlib.Core.Bool.{Bool, true, false, cond}
use mathlib.Core.Option.{none, some}
use mathlib.Core.List.{List, [], ◌∷◌, ◌++◌}
use Prim.Native.Nat.{ℕ, zero, suc, ◌+◌, ◌≤◌, ◌<◌}
use native.Mathlib.Omega.{arith}
use lib.Dec.{eqb}
use lib.ListN.{length}
use Rattle.description.specs.Grammar.{Entry, entry, Content, group, item}
use Rattle.description.specs.Reader.{Groups, awaiting, inside, enter, Parts, with_item, has_item, State, level, name, label, Reading, faulty}
use Rattle.description.specs.Stages.{inked, name_at, clauses_at, level_at, onward, joined}
use Rattle.description.specs.declared.Called.{Called}
use Rattle.description.specs.declared.Called.TheVariants as Called
use Rattle.description.specs.declared.Clauses.{Clauses}
use Rattle.description.specs.declared.Leveled.{Leveled}
use Rattle.description.specs.declared.Leveled.TheVariants as Leveled
use Rattle.description.proofs.Bytes.{eqb_no}
use Rattle.description.proofs.Takes.{started, naming}
use Rattle.description.proofs.Ended.{on_called, name_leads}
use Rattle.description.proofs.Opening.{on_clauses, clauses_lead, on_leveled, started_at, level_leads}
use Rattle.levels.specs.Stack.{groups_of, entered_by, topped, topped_by}
use Rattle.levels.proofs.Stack.{enter_is, AtMost, entered_le}
use Rattle.entries.specs.Entries.{content_of, entry_of, noted, item_of, item_at, called_of, named_at, entered_at, leveled_at, entry_at}
use Rattle.std.specs.Prelude.{Result, Ok, Err, None, Option, Some}
use Rattle.entries.specs.declared.Noted.{Noted}
use Rattle.entries.specs.declared.EntryRead.{EntryRead}
use Rattle.entries.specs.declared.EntryRead.TheVariants.{Whole, Name}
use Rattle.entries.proofs.Bounds.{Ends, Names, Wholes, clauses_end, name_reaches, named_whole, level_inside, name_inside, level_small, leveled_le}

-- The groups that are open after it.
abbrev pub groups_after : List ℕ → Noted → ℕ → Groups
groups_after stack x d = cond (eqb x.kind 0) (awaiting x.level (topped stack x.level d)) (inside (topped stack x.level d))

abbrev pub on_entry : List ℕ → Groups → ℕ → List ℕ → Parts → Result EntryRead ℕ → Reading
on_entry stack g p text es (Ok (Whole x d k)) = joined text k (level (groups_after stack x d) (with_item es (entry_of x)))
on_entry stack g p text es (Ok Name) = joined text (p + 2) (label (naming g p es))
on_entry stack g p text es (Err k) = faulty es k

module _ (stack : List ℕ) (g : Groups) (text : List ℕ) (es : Parts) where
  item_leads : (l d p n k : ℕ) (x : Result Clauses ℕ) → Ends text k x → on_clauses text (started (topped stack l d) l p es) n x ≡ on_entry stack g p text es (item_of l d p n x)
  item_leads l d p n k (Ok x) r = rw (eqb_no x.kind 0 (λ h. omega (arith, r.0.0)))
  item_leads l d p n k (Err e) r = refl

  called-leads : (l d p : ℕ) (x : Result Called ℕ) → Names text (p + 2) x →
      on_called text (started (topped stack l d) l p es) (inked text (p + 2)) x ≡ on_entry stack g p text es (called_of text l d p x)
  called-leads l d p (Ok (Called.Item k)) r =
      clauses_lead text (started (topped stack l d) l p es) (inked text (p + 2)) k
      ∙ item_leads l d p (inked text (p + 2)) k (clauses_at text k) (clauses_end text k r.1)
  called-leads l d p (Ok (Called.Group k)) r = refl
  called-leads l d p (Err k) r = refl

  named-leads : (l d p : ℕ) → p + 2 ≤ length text → joined text (p + 2) (name (started (topped stack l d) l p es)) ≡ on_entry stack g p text es (named_at text l d p)
  named-leads l d p h =
      name_leads text (p + 2) (started (topped stack l d) l p es)
      ∙ called-leads l d p (name_at l text (p + 2)) (name_reaches text (p + 2) h l)

  entered_leads : (l p : ℕ) → p + 2 ≤ length text → (x : Option ℕ) → started_at text es p l (topped_by stack l x) ≡ on_entry stack g p text es (entered_at text l p x)
  entered_leads l p h (Some d) = named-leads l d p h
  entered_leads l p h None = refl

module _ (stack text : List ℕ) (es : Parts) (depth waiting : ℕ) (named : Bool) (named-is : named ≡ has_item es) where
  abbrev groups : Groups
  groups = groups_of stack depth waiting

  leveled-leads : (p : ℕ) (x : Result Leveled ℕ) → level_at groups named text p ≡ x → on_leveled text groups es p x ≡ on_entry stack groups p text es (leveled_at stack depth waiting text p x)
  leveled-leads p (Ok (Leveled.Level l)) h =
      rw (enter_is stack depth waiting l) (entered_leads stack groups text es l p (level_inside groups named text p l h) (entered_by stack depth waiting l))
  leveled-leads p (Ok Leveled.Name) h = refl
  leveled-leads p (Err k) h = refl

  -- An entry.
  pub entry-leads : (n : ℕ) → inked text n < length text →
      onward text n (level groups es) ≡ on_entry stack groups (inked text n) text es (entry_at stack depth waiting named text (inked text n))
  entry-leads n l =
      level_leads text n groups es l ∙ rw (← named-is) (leveled-leads (inked text n) (level_at groups named text (inked text n)) refl)

  -- It ends within the text, five bytes on at least.
  entered_whole : (l p : ℕ) → p + 2 ≤ length text → p < length text → (x : Option ℕ) → Wholes text p (entered_at text l p x)
  entered_whole l p h k (Some d) = named_whole text l d p h
  entered_whole l p h k None = omega arith

  leveled_whole : (p : ℕ) → p < length text → (x : Result Leveled ℕ) → level_at groups named text p ≡ x → Wholes text p (leveled_at stack depth waiting text p x)
  leveled_whole p k (Ok (Leveled.Level l)) h = entered_whole l p (level_inside groups named text p l h) k (entered_by stack depth waiting l)
  leveled_whole p k (Ok Leveled.Name) h = name_inside groups named text p h
  leveled_whole p k (Err e) h = leveled_le groups named text p e k h

  pub entry_whole : (p : ℕ) → p < length text → Wholes text p (entry_at stack depth waiting named text p)
  entry_whole p k = leveled_whole p k (level_at groups named text p) refl

  -- At most one group more is open at it, and its level has two digits.
  abbrev pub Deep : Result EntryRead ℕ → Type 0
  Deep (Ok (Whole x d k)) = (d ≤ depth + 1) × (x.level ≤ 99)
  Deep (Ok Name) = Unit {0}
  Deep (Err k) = Unit {0}

  clauses_deep : (l d p n : ℕ) → (d ≤ depth + 1) × (l ≤ 99) → (x : Result Clauses ℕ) → Deep (item_of l d p n x)
  clauses_deep l d p n h (Ok x) = h
  clauses_deep l d p n h (Err k) = tt

  called_deep : (l d p : ℕ) → (d ≤ depth + 1) × (l ≤ 99) → (x : Result Called ℕ) → Deep (called_of text l d p x)
  called_deep l d p h (Ok (Called.Item k)) = clauses_deep l d p (inked text (p + 2)) h (clauses_at text k)
  called_deep l d p h (Ok (Called.Group k)) = h
  called_deep l d p h (Err k) = tt

  entered_deep : (l p : ℕ) → l ≤ 99 → (x : Option ℕ) → AtMost (depth + 1) x → Deep (entered_at text l p x)
  entered_deep l p g (Some d) h = called_deep l d p (h, g) (name_at l text (p + 2))
  entered_deep l p g None h = tt

  leveled_deep : (p : ℕ) (x : Result Leveled ℕ) → level_at groups named text p ≡ x → Deep (leveled_at stack depth waiting text p x)
  leveled_deep p (Ok (Leveled.Level l)) h =
      entered_deep l p (level_small groups named text p l h) (entered_by stack depth waiting l) (entered_le stack depth waiting l)
  leveled_deep p (Ok Leveled.Name) h = tt
  leveled_deep p (Err k) h = tt

  pub entry_deep : (p : ℕ) → Deep (entry_at stack depth waiting named text p)
  entry_deep p = leveled_deep p (level_at groups named text p) refl
