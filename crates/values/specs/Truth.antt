-- Document 01, "Truth on a record": what one simple condition comes to.
use Rattle.std.specs.Prelude.{◌≡◌, Bool, true, false, not, cond, List, ℕ, ◌≤◌, ◌<◌, length, eqb, pos, Ok}
use Rattle.tables.specs.declared.Outcome.{Outcome}
use Rattle.tables.specs.declared.Outcome.TheVariants.{True, False, Stopped}
use Rattle.tables.specs.declared.Stop.{Stop}
use Rattle.tables.specs.declared.Stop.TheVariants.{Digits, Letters}
use Rattle.typing.specs.declared.Test.{Test}
use Rattle.typing.specs.declared.Test.TheVariants.{Alone, Relation, Class, Sign, Unknown}
use Rattle.content.specs.declared.Row.{Row}
use Rattle.tables.specs.Rows.{row_sound, is_numeric, name_count}
use Rattle.content.specs.WrongByte.{Wrong, Nowhere, At}
use Rattle.tables.specs.Operands.{Lent, Within}
use Rattle.tables.specs.Refusals.{first_of}
use Rattle.tables.specs.Tables.{record_check}
use Rattle.tables.specs.Tokens.{is_name, index_of}
use Rattle.tables.specs.Names.{name_item}
use Rattle.typing.specs.Tests.{test_of}
use Rattle.typing.specs.Shape.{shape_sound}
use Rattle.typing.specs.Typing.{typed}
use Rattle.compare.specs.Fields.{NumberField}
use Rattle.compare.specs.Order.{orderℤ, relation_holds, sign_holds}
use Rattle.values.specs.Comparison.{Side, side_of, value_of, comparison, wrong_byte, fault}
use Rattle.values.specs.Names.{item_side, name_holds, lent_lines}
use Rattle.compare.specs.Classes.{class_holds}
use Rattle.compare.specs.Switches.{switch_holds}
use Rattle.content.specs.Kinds.{kind_alphabetic}

abbrev pub truth : Bool → Outcome
truth true = True
truth false = False

-- NOT that belongs to a word
abbrev pub turned : Bool → Bool → Bool
turned negated b = cond negated (not b) b

-- the stop at a byte of an item of this kind: 17 for kind 1, 13 for the numeric kinds
abbrev pub stop_of : ℕ → ℕ → Stop
stop_of kind byte = cond (eqb kind kind_alphabetic) (Letters byte) (Digits byte)

-- the stop at the wrong byte of an item of this kind, or what comes where there is none
abbrev pub or_stop : ℕ → Wrong → Outcome → Outcome
or_stop kind Nowhere out = out
or_stop kind (At byte) out = Stopped (stop_of kind byte)

-- "A reached relation or sign condition that uses a numeric item's value or digits with invalid content stops all with refusal
-- 13. Class conditions never stop." Document 02, g): 17 "when a reached relation uses a kind 1 item against anything but a group and it
-- holds a byte other than a letter or space. In one relation the subject's fault, 13 or 17, comes before the object's."
abbrev pub relation_outcome : ℕ → Bool → Side → Side → Outcome
relation_outcome word negated s o =
    or_stop s.row.kind (fault s o.row) (or_stop o.row.kind (fault o s.row) (truth (turned negated (relation_holds word (comparison s o)))))

abbrev pub class_outcome : ℕ → Bool → Side → Outcome
class_outcome word negated s = truth (turned negated (class_holds word s.row.kind s.row.digits s.bytes))

abbrev pub sign_outcome : ℕ → Bool → Side → Outcome
sign_outcome word negated s = or_stop s.row.kind (wrong_byte s) (truth (turned negated (sign_holds word (orderℤ (value_of s) (pos 0)))))

-- Document 02, h): "is true if the item equals one value or lies in one range", and "An invalid item gives 13 or 17": as a relation with its
-- literals would, which are no groups (rules/specs/Names.antt)
abbrev pub name_outcome : Lent → List ℕ → ℕ → Outcome
name_outcome lent content v =
    let item = item_side lent content (name_item lent.names v) in
    or_stop item.row.kind (wrong_byte item) (truth (name_holds lent item v))

module _ (lent : Lent) (content : List ℕ) (switches : ℕ) where
  abbrev pub test_outcome : Test → ℕ → ℕ → Outcome
  test_outcome Alone subject object =
      cond (is_name subject) (name_outcome lent content (index_of subject)) (truth (switch_holds switches subject))
  test_outcome (Relation word negated) subject object =
      relation_outcome word negated (side_of lent content subject) (side_of lent content object)
  test_outcome (Class word negated) subject object = class_outcome word negated (side_of lent content subject)
  test_outcome (Sign word negated) subject object = sign_outcome word negated (side_of lent content subject)
  -- no simple condition that is well typed asks this
  test_outcome Unknown subject object = False

  -- "A simple condition gives true, false or its stop."
  unfoldable pub outcome : ℕ → ℕ → ℕ → Outcome
  outcome subject relation object = test_outcome (test_of relation) subject object

-- What the code needs to know of a simple condition before it reads the record: refusals 1 to 4, 18 and 12 are ruled out, and the
-- condition has a sound shape and is well typed.
pub record Readable (lent : Lent) (content : List ℕ) (subject relation object : ℕ) : Type 0 where
  pub tables : first_of (lent_lines lent) ≡ Ok tt
  pub holds : record_check lent content ≡ Ok tt
  pub shape : shape_sound lent (test_of relation) subject object ≡ true
  pub well : typed lent subject relation object ≡ true

-- the same of a condition-name of the table
pub record Named (lent : Lent) (content : List ℕ) (v : ℕ) : Type 0 where
  pub tables : first_of (lent_lines lent) ≡ Ok tt
  pub holds : record_check lent content ≡ Ok tt
  pub there : v < name_count lent.names

-- a side whose row is sound, with as many bytes as its row says
pub record Fit (s : Side) : Type 0 where
  pub sound : row_sound s.row ≡ true
  pub sized : length s.bytes ≡ s.row.size

-- an operand within its table and its bytes, whose side is fit to be read
pub record Sided (lent : Lent) (content : List ℕ) (token : ℕ) : Type 0 where
  pub within : Within lent content token
  pub fit : Fit (side_of lent content token)

-- a part that starts and ends not too far from the record's start
pub record Near (row : Row) (bytes : List ℕ) : Type 0 where
  pub offset : row.offset ≤ 65535
  pub most : length bytes ≤ 65535

-- a side that holds a number: at most 18 digits, at most 18 of them after the point
pub record Numeral (row : Row) (bytes : List ℕ) : Type 0 where
  pub kind : is_numeric row ≡ true
  pub field : NumberField row.kind bytes
  pub scaled : row.scale ≤ 18
  pub near : Near row bytes
