-- What is lent to the calls, in one list of numbers: each part a count, at its place, and then its numbers.
use Rattle.std.specs.Prelude.{cond, List, [], ◌∷◌, ℕ, zero, suc, ◌+◌, ◌-◌, ◌%◌, ltb, take, drop, get_or, set}

-- 0 beyond the end
abbrev pub number_at : List ℕ → ℕ → ℕ
number_at store at = get_or store at 0

-- the place of a part's number i
abbrev pub place_of : ℕ → ℕ → ℕ
place_of part i = cond (ltb part 18432) (part + 1 + i) 18432

abbrev pub part_in : List ℕ → ℕ → List ℕ
part_in store part = take (number_at store part) (drop (part + 1) store)

abbrev pub switches_in : List ℕ → ℕ
switches_in store = number_at store 14337 % 256

-- one number more; a part has at most 2,047
abbrev pub pushed : List ℕ → ℕ → ℕ → List ℕ
pushed store part number =
    cond (ltb (number_at store part) 2047) (set (set store (place_of part (number_at store part)) number) part (number_at store part + 1)) store

unfoldable pub pushed_all : List ℕ → ℕ → List ℕ → List ℕ
pushed_all store part [] = store
pushed_all store part (number ∷ numbers) = pushed_all (pushed store part number) part numbers

-- a part becomes these numbers
abbrev pub kept_as : List ℕ → ℕ → List ℕ → List ℕ
kept_as store part numbers = pushed_all (set store part 0) part numbers

-- so many numbers of a part, from one on, once more
unfoldable pub again_from : List ℕ → ℕ → ℕ → ℕ → List ℕ
again_from store part i zero = store
again_from store part i (suc left) = again_from (pushed store part (number_at store (place_of part i))) part (i + 1) left

-- the same so many times
unfoldable pub times_more : List ℕ → ℕ → ℕ → ℕ → ℕ → List ℕ
times_more store part from count zero = store
times_more store part from count (suc left) = times_more (again_from store part from count) part from count left

-- "[ .. ] x3 is what stands between the brackets, three times": from the mark on
abbrev pub repeated_in : List ℕ → ℕ → ℕ → List ℕ
repeated_in store part times = times_more store part (number_at store 16384) (number_at store part - number_at store 16384) (times - 1)
