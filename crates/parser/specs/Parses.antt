-- What the parser's functions promise: each answers as the parser of Parser.antt does on the tokens from its place on, and
-- leaves the rows of the tree in the buffer.
use Rattle.std.specs.Prelude.{◌≡◌, List, ◌++◌, ℕ, ◌+◌, ◌*◌, ◌-◌, ◌≤◌, ◌<◌, length, take, drop, Result, Ok, Err}
use Rattle.simples.specs.declared.Carried.{Carried}
use Rattle.simples.specs.declared.Single.{Single}
use Rattle.simples.specs.Reads.{carry_of}
use Rattle.parser.specs.declared.Part.{Part}
use Rattle.grammar.specs.Grammar.{Carry, Tree}
use Rattle.grammar.specs.Parser.{Result as Parsing, parsed, stuck, Parser, Reading, accepted, refused, read}
use Rattle.grammar.specs.Judging.{simple_count}
use Rattle.grammar.specs.Plan.{on_true, on_false, rows_of, flat, planned}
use Rattle.plans.specs.Rows.{Added}

-- the row of a simple condition that was read
abbrev pub Placeable : Result Single ℕ → ℕ → Type 0
Placeable (Err p) row = Unit {0}
Placeable (Ok s) row = row < 128

abbrev pub Placed : Result Single ℕ → ℕ → List ℕ → Result Part ℕ → List ℕ → Type 0
Placed (Err p) row before r after = (r ≡ Err p) × (after ≡ before)
Placed (Ok s) row before r after =
    (r ≡ Ok (record { next = s.next; carry = s.carry; row = row + 1 })) × Added row before s.subject s.relation s.object after

-- What a call at a place and a row needs: each row before it has a token of its own and an AND or OR after it, so 256 tokens have
-- at most 128 rows.
pub record Room (tokens : List ℕ) (at row : ℕ) (before : List ℕ) : Type 0 where
  pub within : at ≤ length tokens
  pub short : length tokens ≤ 256
  pub few : 2 * row ≤ at
  pub wide : 640 ≤ length before

-- the result is a tree, and its rows stand in the buffer after those before `row`; what follows them is as it was
pub record Laid (tokens : List ℕ) (row : ℕ) (before after : List ℕ) (p : ℕ) (c : Carried) (n : ℕ) (result : Parsing) : Type 0 where
  pub tree : Tree
  pub gives : result ≡ parsed tree (carry_of c) (drop p tokens)
  pub count : n ≡ row + simple_count tree
  pub rows : take (n * 5) after ≡ take (row * 5) before ++ flat (rows_of row on_true on_false tree)
  pub rest : drop (n * 5) after ≡ drop (n * 5) before

-- the answer, with the rows that it leaves, is the parser's result
abbrev pub Told : List ℕ → ℕ → List ℕ → List ℕ → Result Part ℕ → Parsing → Type 0
Told tokens row before after (Err p) result = result ≡ stuck (drop p tokens)
Told tokens row before after (Ok s) result = Laid tokens row before after s.next s.carry s.row result

abbrev pub place_of : Result Part ℕ → ℕ
place_of (Ok s) = s.next
place_of (Err p) = p

-- Where no derived sequence goes on at a place, rows `row` to `upto` of the buffer are free: what was read before the place has
-- written there. Each of them has a token of its own and all but the last an AND or OR after it. All other numbers are as they were.
pub record Partly (row place : ℕ) (before after : List ℕ) : Type 0 where
  pub upto : ℕ
  pub since : row ≤ upto
  pub few : 2 * upto ≤ place + 1
  pub most : upto ≤ 128
  pub front : take (row * 5) after ≡ take (row * 5) before
  pub rest : drop (upto * 5) after ≡ drop (upto * 5) before

-- the next row, after rows that each have a token of their own and all but the last an AND or OR after it
abbrev pub Fits : ℕ → List ℕ → List ℕ → Result Part ℕ → Type 0
Fits row before after (Ok s) = (row ≤ s.row) × (2 * s.row ≤ s.next + 1)
Fits row before after (Err p) = Partly row p before after

-- The call answers as the parser does, with every fuel above the measure: 4 for each token left, and the level.
pub record Plans (parser : ℕ → Carry → Parser) (level : ℕ) (tokens : List ℕ) (at : ℕ) (carry : Carried) (row : ℕ) (before : List ℕ)
    (r : Result Part ℕ) (after : List ℕ) : Type 0 where
  pub told : (f : ℕ) → 4 * (length tokens - at) + level < f → Told tokens row before after r (parser f (carry_of carry) (drop at tokens))
  pub from : at ≤ place_of r
  pub upto : place_of r ≤ length tokens
  pub fits : Fits row before after r

-- The whole sequence is read, and the buffer is its plan and then as it was. A sequence that is refused leaves at most the rows
-- of what stands before its place.
unfoldable pub Whole : Result ℕ ℕ → List ℕ → List ℕ → Reading → Type 0
Whole r before after (accepted t) = (r ≡ Ok (simple_count t)) × (after ≡ planned t ++ drop (simple_count t * 5) before)
Whole r before after (refused n) = (r ≡ Err n) × Partly 0 n before after

abbrev pub Parses : List ℕ → Result ℕ ℕ → List ℕ → List ℕ → Type 0
Parses tokens r before after = Whole r before after (read tokens)
