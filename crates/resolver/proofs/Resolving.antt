-- What the lines 7 to 9 come to, one law for each answer of the functions that try them.
use mathlib.Core.Path.{◌≡◌, refl, sym, ap, ◌∙◌}
use mathlib.Core.Bool.{Bool, true, false, cond}
use mathlib.Core.List.{List, []}
use Prim.Native.Nat.{ℕ, ◌*◌, ◌≤◌, ◌<◌}
use native.Mathlib.Omega.{arith}
use lib.ListN.{length, take, drop}
use lib.Seq.{take_all, take_at, drop_at, length-take-le}
use lib.Dec.{leb}
use borrow.Author.Tests.{le-leb, lt-leb}
use Rattle.tables.specs.declared.Refusal.{Refusal}
use Rattle.tables.specs.declared.Refusal.TheVariants.{Grammar}
use Rattle.tables.specs.Operands.{Lent, lend, lend_names, under}
use Rattle.tables.specs.Refusals.{place, first_of, Check}
use Rattle.tables.proofs.Lines.{line_sound, line_refused, line_last}
use Rattle.std.proofs.Common.{Result}
use Rattle.grammar.specs.Parser.{Reading, accepted, refused, read}
use Rattle.grammar.specs.Depth.{depth_check}
use Rattle.grammar.specs.Judging.{simple_count}
use Rattle.grammar.specs.Plan.{planned}
use Rattle.grammar.specs.Typed.{Shaped, typed_rows}
use Rattle.parser.specs.Parses.{Whole, Parses}
use Rattle.grammar.proofs.Reading.{sound}
use Rattle.grammar.proofs.Depth.{depth_inside}
use Rattle.grammar.proofs.Segment.{planned-length}
use Rattle.grammar.proofs.Size.{few_rows}
use Rattle.tables.proofs.Front.{later_rest}
use Rattle.rules.proofs.Deep.{deep_enough}
use Rattle.grammar.proofs.Shapes.{shaped, rows_shaped, rows-typed}
use Rattle.rules.specs.Calls.{grammar_check, earlier, typing_check, grammar_lines}
use Rattle.resolver.specs.Resolved.{parse_check, parsed_tokens, There, RowsStand, Resolves}
use Rattle.std.specs.Prelude.{Err, Ok}

-- of 7 and 8
pub seven_first : (seven : ℕ) (eight : Refusal) → seven ≤ place eight → Err (Grammar seven) ≡ earlier (Err (Grammar seven)) (Err eight)
seven_first seven eight h = rw (le-leb seven (place eight) h)

pub eight_first : (seven : ℕ) (eight : Refusal) → place eight < seven → Err eight ≡ earlier (Err (Grammar seven)) (Err eight)
eight_first seven eight h = rw (lt-leb seven (place eight) h)

-- what was parsed is what is read
seven : (r : Result ℕ ℕ) (before after : List ℕ) (reading : Reading) → Whole r before after reading → parse_check r ≡ grammar_check reading
unfolding Whole
seven r before after (accepted t) w = ap parse_check w.0
seven r before after (refused at) w = ap parse_check w.0

-- the rows of an accepted sequence
lies : (count : ℕ) (before after : List ℕ) (reading : Reading) → Whole (Ok count) before after reading → RowsStand reading count before after
unfolding Whole
lies count before after (accepted t) w =
    let e : count ≡ simple_count t = cc w.0 in
    record { tree = t; read_as = refl; counted = e; rows = rw e w.1 }
lies count before after (refused at) w = let z : ◌≡◌ {A = ℕ} 0 1 = cc w.0 in absurd (omega arith)

pub stands_rows : {reading : Reading} {count : ℕ} {before after : List ℕ} (s : RowsStand reading count before after) → take (count * 5) after ≡ planned s.tree
stands_rows {count = count} {before = before} s =
    rw s.rows (take_at (planned s.tree) (drop (count * 5) before) (count * 5) (planned-length s.tree ∙ ap (λ n. n * 5) (sym s.counted)))

-- what is parsed of at most 256 tokens leaves the buffer as it was from its 128th row on
spared : (tokens : List ℕ) (r : Result ℕ ℕ) (before after : List ℕ) → length tokens ≤ 256 → Parses tokens r before after → drop 640 after ≡ drop 640 before
unfolding Whole
spared tokens r before after l w = go (read tokens) refl w
  where
    go : (reading : Reading) → read tokens ≡ reading → Whole r before after reading → drop 640 after ≡ drop 640 before
    go (refused at) e w = later_rest after before (w.1.upto * 5) 640 (omega (arith, w.1.most)) w.1.rest
    go (accepted t) e w =
        later_rest after before (simple_count t * 5) 640 (omega (arith, few_rows (sound tokens t e) l))
        (rw w.1 (drop_at (planned t) (drop (simple_count t * 5) before) (simple_count t * 5) (planned-length t)))

-- the tokens that are parsed tell as much of 7 and 8 as all do
pub eight_inside : (tokens : List ℕ) {depth : Check} {eight : Refusal} → depth ≡ depth_check tokens → depth ≡ Err eight → place eight < length tokens
eight_inside tokens d e = depth_inside tokens (sym d ∙ e)

parsed_enough : (tokens : List ℕ) (depth : Check) → depth ≡ depth_check tokens →
    earlier (grammar_check (read (take (parsed_tokens tokens depth) tokens))) depth ≡ earlier (grammar_check (read tokens)) depth
parsed_enough tokens (Ok _) d = rw (take_all (length tokens) tokens (omega arith))
parsed_enough tokens (Err eight) d = deep_enough tokens eight (sym d)

-- 7 to 9, of a sequence of which 1 to 6 refuse nothing
module _ (lent : Lent) (tokens before after : List ℕ) (parsed : Result ℕ ℕ) {depth : Check} {end : ℕ} (d : depth ≡ depth_check tokens)
    (n : end ≡ parsed_tokens tokens depth) (parses : Parses (take end tokens) parsed before after) where
  -- the line of 7 and 8, as the code has tried it
  first-line : {r : Check} → r ≡ earlier (parse_check parsed) depth → earlier (grammar_check (read tokens)) (depth_check tokens) ≡ r
  first-line e =
      rw (← d)
      (sym (parsed_enough tokens depth d)
      ∙ rw (← n, ← seven parsed before after (read (take end tokens)) parses) (sym e))

  pub grammar_refused : length tokens ≤ 256 → end ≤ length tokens → {r : Check} → r ≡ earlier (parse_check parsed) depth → {refusal : Refusal} → r ≡ Err refusal →
      Resolves lent tokens (Err refusal) before after
  grammar_refused l k e f =
      let short : length (take end tokens) ≤ 256 = omega (arith, length-take-le end tokens k) in
      record { readied = (line_refused _ (first-line e ∙ f), spared (take end tokens) parsed before after short parses) }

-- a sequence that is not parsed is refused with 7 or 8
pub unparsed_refused : (depth r : Check) (at : ℕ) → r ≡ earlier (Err (Grammar at)) depth → r ≡ Ok tt → ⊥
unparsed_refused (Ok _) r at e f = let z : ◌≡◌ {A = ℕ} 0 1 = cc in omega arith
unparsed_refused (Err eight) r at e f = pick (leb at (place eight)) (sym e ∙ f)
  where
    pick : (b : Bool) → cond {A = Check} b (Err (Grammar at)) (Err eight) ≡ Ok tt → ⊥
    pick true k = let z : ◌≡◌ {A = ℕ} 0 1 = cc in omega arith
    pick false k = let z : ◌≡◌ {A = ℕ} 0 1 = cc in omega arith

-- where neither 7 nor 8 refuses, all tokens are parsed
all_parsed : (tokens before after : List ℕ) (p : Result ℕ ℕ) (depth : Check) → depth ≡ Ok tt → Parses (take (parsed_tokens tokens depth) tokens) p before after →
    Parses tokens p before after
all_parsed tokens before after p depth e h = rw (e, take_all (length tokens) tokens (omega arith)) at h

module _ (items literals tokens before after : List ℕ) (count : ℕ) {depth : Check} {end : ℕ} (d : depth ≡ depth_check tokens)
    (n : end ≡ parsed_tokens tokens depth) (parsed : Parses (take end tokens) (Ok count) before after) {r : Check}
    (e : r ≡ earlier (parse_check (Ok count)) depth) (f : r ≡ Ok tt) (there : There items literals tokens) where
  abbrev lent : Lent
  lent = lend items literals []

  parses : Parses tokens (Ok count) before after
  parses = all_parsed tokens before after (Ok count) depth (sym e ∙ f) (rw n at parsed)

  -- 9 is tried of the rows in the buffer
  typing_of : (reading : Reading) → RowsStand reading count before after → typing_check lent reading ≡ typed_rows lent after count
  typing_of reading s =
      ap (typing_check lent) s.read_as
      ∙ sym (ap (typed_rows lent after) s.counted ∙ rows-typed s.tree after (rw s.counted at (stands_rows s)) lent)

  shaped_of : RowsStand (read tokens) count before after → Shaped lent after count
  shaped_of s =
      rw s.counted
      (rows_shaped s.tree after (rw s.counted at (stands_rows s)) there.off items literals [] there.names
      (shaped (under there.off (lend_names items literals [] there.names)) (sound tokens s.tree s.read_as) there.exist))

  pub shaped_rows : Shaped lent after count
  shaped_rows = shaped_of (lies count before after (read tokens) parses)

  last_line : {typing : Check} → typing ≡ typed_rows lent after count → first_of (grammar_lines lent tokens) ≡ typing
  last_line g =
      line_sound _ (first-line lent tokens before after (Ok count) d n parsed e ∙ f)
      ∙ line_last _
      ∙ typing_of (read tokens) (lies count before after (read tokens) parses)
      ∙ sym g

  pub typing_refused : length tokens ≤ 256 → {typing : Check} → typing ≡ typed_rows lent after count → {refusal : Refusal} → typing ≡ Err refusal →
      Resolves lent tokens (Err refusal) before after
  typing_refused l g h = record { readied = (last_line g ∙ h, spared tokens (Ok count) before after l parses) }

  pub resolved : {typing : Check} → typing ≡ typed_rows lent after count → typing ≡ Ok tt → Resolves lent tokens (Ok count) before after
  resolved g h = record { readied = (last_line g ∙ h, lies count before after (read tokens) parses) }
