-- Document 01, "The condition grammar": typing of a simple condition, over kinds.
use Rattle.std.specs.Prelude.{Bool, true, false, not, cond, ◌&&◌, ◌||◌, ℕ, eqb}
use Rattle.content.specs.declared.Row.{Row}
use Rattle.typing.specs.declared.Test.{Test}
use Rattle.typing.specs.declared.Test.TheVariants.{Alone, Relation, Class, Sign, Unknown}
use Rattle.content.specs.Packed.{is_packed}
use Rattle.tables.specs.Tokens.{is_item, is_literal}
use Rattle.tables.specs.Rows.{is_group, is_numeric}
use Rattle.tables.specs.Operands.{Lent, row_of}
use Rattle.typing.specs.Tests.{test_of}
use Rattle.content.specs.Relations.{word_numeric}
use Rattle.content.specs.Kinds.{kind_alphabetic, kind_alphanumeric, kind_unsigned_group}

-- a numeric side that may stand beside one that is not: "its scale is 0". Document 02, f), of packed items: "beside any nonnumeric operand they
-- are refused with 9".
abbrev pub fits_beside : Row → Bool
fits_beside r = eqb r.scale 0 && not (is_packed r.kind)

abbrev pub side_fits : Row → Row → Bool
side_fits side other = not (is_numeric side) || is_numeric other || fits_beside side

-- "relation: not two literals; if exactly one side is numeric (3 to 6), its scale is 0". Document 02, f), has two more numeric kinds.
abbrev pub relation_typed : Lent → ℕ → ℕ → Bool
relation_typed lent subject object =
    not (is_literal subject && is_literal object)
    && side_fits (row_of lent subject) (row_of lent object)
    && side_fits (row_of lent object) (row_of lent subject)

-- "NUMERIC for kinds 2 to 6": document 02, b), "corrects 01's typing rule", so that it is for kind 7 too; f): "NUMERIC .. and sign tests
-- are allowed on packed items"
abbrev pub may_be_numeric : Row → Bool
may_be_numeric r = eqb r.kind kind_alphanumeric || eqb r.kind kind_unsigned_group || is_numeric r

-- "the alphabetic tests for 0 to 2": for groups and kinds 1 and 2. Document 02, b): kind 7 is "tested for letters as a group".
abbrev pub may_be_alphabetic : Row → Bool
may_be_alphabetic r = is_group r || eqb r.kind kind_alphabetic || eqb r.kind kind_alphanumeric

-- "class: the operand is an item; NUMERIC for kinds .., the alphabetic tests for .."
abbrev pub class_typed : Lent → ℕ → ℕ → Bool
class_typed lent word subject =
    is_item subject && cond (eqb word word_numeric) (may_be_numeric (row_of lent subject)) (may_be_alphabetic (row_of lent subject))

-- "sign: an item of kinds 3 to 6", and of the packed kinds
abbrev pub sign_typed : Lent → ℕ → Bool
sign_typed lent subject = is_item subject && is_numeric (row_of lent subject)

abbrev pub test_typed : Lent → Test → ℕ → ℕ → Bool
test_typed lent Alone subject object = true
test_typed lent (Relation word negated) subject object = relation_typed lent subject object
test_typed lent (Class word negated) subject object = class_typed lent word subject
test_typed lent (Sign word negated) subject object = sign_typed lent subject
test_typed lent Unknown subject object = false

-- the simple condition of a subject, a relation number and an object is well typed
unfoldable pub typed : Lent → ℕ → ℕ → ℕ → Bool
typed lent subject relation object = test_typed lent (test_of relation) subject object
