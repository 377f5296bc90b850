-- Document 02, h): condition-names. When a row of their table is sound (refusal 18), and when a name holds.
use Rattle.std.specs.Prelude.{Bool, true, false, not, cond, ◌&&◌, ◌||◌, List, [], ◌∷◌, ◌++◌, ℕ, zero, suc, eqb, leb, ltb}
use Rattle.tables.specs.declared.Refusal.TheVariants.{Name}
use Rattle.content.specs.declared.Row.{Row}
use Rattle.tables.specs.Rows.{row_count, name_count, row_at, is_numeric, part}
use Rattle.tables.specs.Operands.{Lent}
use Rattle.tables.specs.Refusals.{unless, first_failing, first_of, Check}
use Rattle.tables.specs.Tables.{table_lines}
use Rattle.tables.specs.Names.{name_item, name_pairs, name_low, name_high, names_length_sound}
use Rattle.typing.specs.Typing.{side_fits}
use Rattle.compare.specs.Order.{relation_holds}
use Rattle.values.specs.Comparison.{Side, side, comparison}

-- every one, and some one, of n places from 0 on
unfoldable pub every : (ℕ → Bool) → ℕ → Bool
every test zero = true
every test (suc k) = every test k && test k

unfoldable pub some : (ℕ → Bool) → ℕ → Bool
some test zero = false
some test (suc k) = some test k || test k

-- the sides of an item row and of a literal row, as `side_of` gives them for their tokens
abbrev pub item_side : Lent → List ℕ → ℕ → Side
item_side lent content v = side true (row_at lent.items v) (part (row_at lent.items v) content)

abbrev pub literal_side : Lent → ℕ → Side
literal_side lent v = side false (row_at lent.literals v) (part (row_at lent.literals v) lent.bytes)

-- "a value that may not be compared with the item": 01's typing of a relation of an item and a literal, f)'s packed items too
abbrev pub comparable : Row → Row → Bool
comparable item literal = side_fits item literal && side_fits literal item

-- a range that has not "one numeric end only"
abbrev pub ends_alike : Row → Row → Bool
ends_alike low high = cond (is_numeric low) (is_numeric high) (not (is_numeric high))

-- "A range whose low end exceeds its high end or has one numeric end only, a value that may not be compared with the item": each end is
-- a literal row, and the two compare by their own kinds
abbrev pub pair_sound : Lent → Row → ℕ → ℕ → Bool
pair_sound lent item low high =
    ltb low (row_count lent.literals)
    && ltb high (row_count lent.literals)
    && ends_alike (row_at lent.literals low) (row_at lent.literals high)
    && not (relation_holds 5 (comparison (literal_side lent low) (literal_side lent high)))
    && comparable item (row_at lent.literals low)
    && comparable item (row_at lent.literals high)

-- place k of the eight: a pair, or zeros
abbrev pub place_sound : Lent → ℕ → ℕ → Bool
place_sound lent v k =
    cond (ltb k (name_pairs lent.names v))
    (pair_sound lent (row_at lent.items (name_item lent.names v)) (name_low lent.names v k) (name_high lent.names v k))
    (eqb (name_low lent.names v k) 0 && eqb (name_high lent.names v k) 0)

-- "item row, a count of 1 to 8, that many pairs of literal rows .., zeros"; "or a row otherwise unsound"
abbrev pub name_sound : Lent → ℕ → Bool
name_sound lent v =
    ltb (name_item lent.names v) (row_count lent.items)
    && leb 1 (name_pairs lent.names v)
    && leb (name_pairs lent.names v) 8
    && every (place_sound lent v) 8

-- 18: "refused with 18 at its row (an unfit length at 0)"
abbrev pub name_check : Lent → Check
name_check lent =
    first_of (unless (names_length_sound lent.names) (Name 0) ∷ first_failing (name_sound lent) Name 0 (name_count lent.names) ∷ [])

-- 1 to 4, and 18 "just after 4"
abbrev pub lent_lines : Lent → List Check
lent_lines lent = table_lines lent ++ name_check lent ∷ []

-- "is true if the item equals one value or lies in one range by 01's comparison", "ends included": word 8 is >=, 9 is <=. A single value
-- is a range of which both ends are alike; to lie in it is to equal the value (`single-value` in proofs/Names.antt).
abbrev pub in_range : Side → Side → Side → Bool
in_range item low high = relation_holds 8 (comparison item low) && relation_holds 9 (comparison item high)

abbrev pub name_holds : Lent → Side → ℕ → Bool
name_holds lent item v =
    some (λ k. in_range item (literal_side lent (name_low lent.names v k)) (literal_side lent (name_high lent.names v k))) (name_pairs lent.names v)
