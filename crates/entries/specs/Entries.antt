-- Entries as the code reads them: exact, and with counts that stop at 65,536.
use Rattle.std.specs.Prelude.{Bool, cond, List, ℕ, ◌+◌, min, eqb, Result, Ok, Err, None, Option, Some}
use Rattle.description.specs.Grammar.{bytes, ended, Entry, entry, Content, group, item}
use Rattle.description.specs.Stages.{inked, literal_at, sided, clauses, after_separate, after_picture, picture_at, clauses_at, name_at, level_at}
use Rattle.description.specs.declared.Sided.{Sided}
use Rattle.description.specs.declared.Called.{Called}
use Rattle.description.specs.declared.Called.TheVariants as Called
use Rattle.description.specs.declared.Clauses.{Clauses}
use Rattle.description.specs.declared.Leveled.{Leveled}
use Rattle.description.specs.declared.Leveled.TheVariants as Leveled
use Rattle.levels.specs.Stack.{groups_of, entered_by}
use Rattle.entries.specs.declared.Noted.{Noted}
use Rattle.entries.specs.declared.EntryRead.{EntryRead}
use Rattle.entries.specs.declared.EntryRead.TheVariants.{Whole, Name}
use Rattle.content.specs.Kinds.{kind_group}

abbrev pub cap : ℕ → ℕ
cap n = min n 65536

abbrev pub sided_by : List ℕ → ℕ → List ℕ → ℕ → Result Sided ℕ
sided_by word kind text n = sided kind (literal_at word text n)

abbrev pub separate_at : ℕ → ℕ → ℕ → List ℕ → ℕ → Result Clauses ℕ
separate_at kind i j text n = after_separate kind i j (literal_at (ended (bytes "SEPARATE")) text n)

abbrev pub picture_clause : List ℕ → ℕ → Result Clauses ℕ
picture_clause text n = after_picture text (picture_at text n)

abbrev pub cap_ended : Clauses → Clauses
cap_ended x = clauses x.kind (cap x.size) (cap x.scale) (cap x.digits) x.end

abbrev pub cap_clauses : Result Clauses ℕ → Result Clauses ℕ
cap_clauses (Ok x) = Ok (cap_ended x)
cap_clauses (Err k) = Err k

abbrev pub noted : ℕ → ℕ → ℕ → ℕ → ℕ → ℕ → ℕ → Noted
noted l p n k s c t = record { level = l; place = p; named = n; kind = k; size = s; scale = c; digits = t }

abbrev pub item_of : ℕ → ℕ → ℕ → ℕ → Result Clauses ℕ → Result EntryRead ℕ
item_of l d p n (Ok x) = Ok (Whole (noted l p n x.kind x.size x.scale x.digits) d x.end)
item_of l d p n (Err k) = Err k

-- an item whose name ends at k
abbrev pub item_at : List ℕ → ℕ → ℕ → ℕ → ℕ → ℕ → Result EntryRead ℕ
item_at text l d p n k = item_of l d p n (clauses_at text k)

abbrev pub called_of : List ℕ → ℕ → ℕ → ℕ → Result Called ℕ → Result EntryRead ℕ
called_of text l d p (Ok (Called.Item k)) = item_at text l d p (inked text (p + 2)) k
called_of text l d p (Ok (Called.Group k)) = Ok (Whole (noted l p (inked text (p + 2)) 0 0 0 0) d k)
called_of text l d p (Err k) = Err k

-- an entry of level l, in the innermost of d groups, at p
abbrev pub named_at : List ℕ → ℕ → ℕ → ℕ → Result EntryRead ℕ
named_at text l d p = called_of text l d p (name_at l text (p + 2))

abbrev pub entered_at : List ℕ → ℕ → ℕ → Option ℕ → Result EntryRead ℕ
entered_at text l p (Some d) = named_at text l d p
entered_at text l p None = Err p

abbrev pub leveled_at : List ℕ → ℕ → ℕ → List ℕ → ℕ → Result Leveled ℕ → Result EntryRead ℕ
leveled_at stack depth waiting text p (Ok (Leveled.Level l)) = entered_at text l p (entered_by stack depth waiting l)
leveled_at stack depth waiting text p (Ok Leveled.Name) = Ok Name
leveled_at stack depth waiting text p (Err k) = Err k

-- the entry at p
abbrev pub entry_at : List ℕ → ℕ → ℕ → Bool → List ℕ → ℕ → Result EntryRead ℕ
entry_at stack depth waiting named text p = leveled_at stack depth waiting text p (level_at (groups_of stack depth waiting) named text p)

abbrev pub cap_noted : Noted → Noted
cap_noted x = noted x.level x.place x.named x.kind (cap x.size) (cap x.scale) (cap x.digits)

abbrev pub cap_entry : Result EntryRead ℕ → Result EntryRead ℕ
cap_entry (Ok (Whole x d k)) = Ok (Whole (cap_noted x) d k)
cap_entry (Ok Name) = Ok Name
cap_entry (Err k) = Err k

-- The entry that was noted: kind 0 is a group.
abbrev pub content_of : ℕ → ℕ → ℕ → ℕ → Content
content_of kind size scale digits = cond (eqb kind kind_group) group (item kind size scale digits)

abbrev pub entry_of : Noted → Entry
entry_of x = entry x.level x.place x.named (content_of x.kind x.size x.scale x.digits)
