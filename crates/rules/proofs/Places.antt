-- No place is above 640, and no count, and no byte is above 131,071: each fits a 32-bit number.
use mathlib.Core.Path.{◌≡◌, refl, ap, subst, ◌∙◌}
use mathlib.Core.Bool.{Bool, true, false, cond, ◌&&◌}
use mathlib.Core.List.{List, [], ◌∷◌, ◌++◌}
use Prim.Native.Nat.{ℕ, zero, suc, pred, ◌+◌, ◌*◌, ◌-◌, ◌/◌, ◌%◌, ◌≤◌, ◌<◌}
use native.Mathlib.Omega.{arith}
use native.Mathlib.Decide.{ℕ_discrete, dec_lt}
use lib.ListN.{length}
use lib.Dec.{leb, eqb}
use borrow.Author.Tests.{leb-true}
use Rattle.tables.specs.declared.Refusal.{Refusal}
use Rattle.tables.specs.declared.Refusal.TheVariants.{ItemTable, ItemRow, LiteralTable, LiteralRow, TokenCount, Token, Grammar, Depth, Typing, Room, PlanRow as PlanFault, Record, Name}
use Rattle.tables.specs.declared.Outcome.{Outcome}
use Rattle.tables.specs.declared.Outcome.TheVariants.{True as Holds, False as Fails, Stopped}
use Rattle.tables.specs.declared.Stop.TheVariants.{Digits, Letters}
use Rattle.tables.specs.declared.Verdict.{Verdict}
use Rattle.tables.specs.declared.Verdict.TheVariants.{True, False, Refused as Unjudged}
use Rattle.tables.specs.Rows.{row_count, name_count}
use Rattle.tables.specs.Operands.{Lent, under}
use Rattle.tables.specs.Refusals.{place, byte_of, unless, first_failing, first_of, Check}
use Rattle.tables.specs.Tables.{length_sound, item_table_check, item_row_check, literal_table_check, literal_row_check, token_count_check, token_check, record_check}
use Rattle.values.specs.Names.{name_check, lent_lines}
use Rattle.tables.specs.Names.{names_length_sound}
use Rattle.tables.proofs.Tests.{both}
use Rattle.tables.proofs.Lines.{test_sound, line_last, lines_sound}
use Rattle.typing.specs.Typing.{typed}
use Rattle.values.specs.Truth.{outcome}
use Rattle.grammar.specs.Grammar.{Tree, Derives, simple, negated, bracketed, both as chained, either}
use Rattle.grammar.specs.Parser.{Result, parsed, stuck, Reading, accepted, refused, reading, read}
use Rattle.grammar.specs.Depth.{depth_from, depth_check}
use Rattle.grammar.specs.Typed.{typing_from}
use Rattle.grammar.specs.Judging.{Outcomes, simple_count, when, at, Walk, judging}
use Rattle.grammar.proofs.Reading.{sound, place as grammar-place}
use Rattle.grammar.proofs.Judging.{visited_le}
use Rattle.grammar.proofs.Size.{few_rows, expanded_bound}
use Rattle.grammar.proofs.Segment.{planned-length, follow-row, follow_true, follow_false, run-count}
use Rattle.grammar.proofs.Sure.{some-rows, sure}
use Rattle.grammar.specs.Expanded.{expanded}
use Rattle.grammar.specs.Plan.{on_true, on_false, planned, plan_row, plan_rows, plan_length_sound, plan_check, follow, run, running}
use Rattle.grammar.specs.Converted.{converted_tokens, converted_plan}
use Rattle.grammar.proofs.ConvertedSound.{converted_length}
use Rattle.rules.specs.Places.{Small, Modest, Fits}
use Rattle.rules.specs.Converting.{fit_check, convert_gives, convert_plan_gives}
use Rattle.rules.specs.Calls.{grammar_check, earlier, typing_check, condition_lines, room_check, writes, numbers_of, writing, expand_gives, plan_gives}
use Rattle.rules.specs.Calls.{answers, told, tree_answer, judge_walk, judge_gives, run_walk, run_gives}
use Rattle.rules.proofs.Passing.{both_sound, passed, read_as, few_tokens as short-passed}
use Rattle.rules.proofs.Answers.{runs_as}
use Rattle.rules.proofs.Stops.{Stops, stops_near}
use Rattle.std.specs.Prelude.{Err, Ok}

-- a line that is none, or one whose place is at most 640, without a byte
abbrev Low : Check → Type 0
Low (Ok _) = Unit {0}
Low (Err refusal) = (place refusal ≤ 640) × (byte_of refusal ≡ 0)

low_unless : (test : Bool) (refusal : Refusal) → Low (Err refusal) → Low (unless test refusal)
low_unless true refusal h = tt
low_unless false refusal h = h

low_failing : (test : ℕ → Bool) (refusal : ℕ → Refusal) → ((k : ℕ) → (place (refusal k) ≡ k) × (byte_of (refusal k) ≡ 0)) → (at n : ℕ) → at + n ≤ 640 →
    Low (first_failing test refusal at n)
unfolding first_failing
low_failing test refusal h at zero l = tt
low_failing test refusal h at (suc n) l = go (test at) (low_failing test refusal h (suc at) n (omega arith))
  where
    go : (b : Bool) → Low (first_failing test refusal (suc at) n) → Low (cond b (first_failing test refusal (suc at) n) (Err (refusal at)))
    go true g = g
    go false g = (omega (arith, (h at).0), (h at).1)

-- the first line that applies, each line looked at where those before it do not
low_first : (line : Check) (lines : List Check) → Low line → (line ≡ Ok tt → Low (first_of lines)) → Low (first_of (line ∷ lines))
unfolding first_of
low_first (Ok _) lines h g = g refl
low_first (Err refusal) lines h g = h

low_last : (line : Check) → Low line → Low (first_of (line ∷ []))
low_last line h = rw (line_last line) h

-- a table has at most 64 rows
few_of : (table : List ℕ) (refusal : Refusal) → unless (length_sound table) refusal ≡ Ok tt → row_count table ≤ 64
few_of table refusal e =
    let l : length table ≤ 320 = leb-true _ _ (both (eqb (length table % 5) 0) (leb (length table) 320) (test_sound _ refusal e)).1 in
    omega arith

-- 18
low_names : (lent : Lent) → Low (name_check lent)
low_names lent =
    low_first (unless (names_length_sound lent.names) (Name 0)) _ (low_unless (names_length_sound lent.names) (Name 0) (omega arith, refl)) (λ e.
    let l : length lent.names ≤ 1152 =
    leb-true _ _ (both (eqb (length lent.names % 18) 0) (leb (length lent.names) 1152) (test_sound _ (Name 0) e)).1 in
    low_last _ (low_failing _ Name (λ k. (refl, refl)) 0 (name_count lent.names) (omega arith)))

-- 1 to 4, 18, and lines after them
low_tables : (lent : Lent) (others : List Check) → (row_count lent.items ≤ 64 → Low (first_of others)) → Low (first_of (lent_lines lent ++ others))
low_tables lent others h =
    low_first (item_table_check lent) _ (low_unless (length_sound lent.items) ItemTable (omega arith, refl)) (λ one.
    let few = few_of lent.items ItemTable one in
    low_first (item_row_check lent) _ (low_failing _ ItemRow (λ k. (refl, refl)) 0 (row_count lent.items) (omega arith)) (λ two.
    low_first (literal_table_check lent) _ (low_unless (length_sound lent.literals) LiteralTable (omega arith, refl)) (λ three.
    low_first (literal_row_check lent) _
    (low_failing _ LiteralRow (λ k. (refl, refl)) 0 (row_count lent.literals) (omega (arith, few_of lent.literals LiteralTable three)))
    (λ four. low_first (name_check lent) _ (low_names lent) (λ five. h few)))))

low_record : (lent : Lent) (content : List ℕ) → row_count lent.items ≤ 64 → Low (record_check lent content)
low_record lent content few = low_failing _ Record (λ k. (refl, refl)) 0 (row_count lent.items) (omega arith)

-- 7 and 8: places of the tokens, or the place after them
low_earlier : (seven eight : Check) → Low seven → Low eight → Low (earlier seven eight)
low_earlier (Ok _) eight h g = g
low_earlier (Err seven) (Ok _) h g = h
low_earlier (Err seven) (Err eight) h g = pick (leb (place seven) (place eight))
  where
    pick : (b : Bool) → Low (cond b (Err seven) (Err eight))
    pick true = h
    pick false = g

low_grammar : (tokens : List ℕ) → length tokens ≤ 256 → Low (grammar_check (read tokens))
low_grammar tokens l = go (read tokens) refl
  where
    go : (r : Reading) → read tokens ≡ r → Low (grammar_check r)
    go (accepted t) e = tt
    go (refused at) e = (omega (arith, (grammar-place tokens at e).inside), refl)

low_depth : (at opened : ℕ) (tokens : List ℕ) → at + length tokens ≤ 640 → Low (depth_from at opened tokens)
unfolding depth_from
low_depth at opened [] l = tt
low_depth at opened (x ∷ tokens) l = pick (eqb x 262144) (eqb opened 16) (λ n. low_depth (suc at) n tokens (omega arith))
  where
    pick : (b c : Bool) → ((n : ℕ) → Low (depth_from (suc at) n tokens)) →
        Low (cond b (cond c (Err (Depth at)) (depth_from (suc at) (suc opened) tokens)) (depth_from (suc at) (cond (eqb x 262145) (pred opened) opened) tokens))
    pick true true later = (omega arith, refl)
    pick true false later = later (suc opened)
    pick false c later = later (cond (eqb x 262145) (pred opened) opened)

-- 9
low_typing : (lent : Lent) (n : ℕ) (t : Tree) → n + simple_count t ≤ 640 → Low (typing_from lent n t)
unfolding typing_from simple_count
low_typing lent n (simple a r b) l = low_unless (typed lent a r b) (Typing n) (omega arith, refl)
low_typing lent n (negated t) l = low_typing lent n t l
low_typing lent n (bracketed t) l = low_typing lent n t l
low_typing lent n (chained t u) l =
    low_first (typing_from lent n t) _ (low_typing lent n t (omega arith)) (λ _. low_last _ (low_typing lent (n + simple_count t) u (omega arith)))
low_typing lent n (either t u) l =
    low_first (typing_from lent n t) _ (low_typing lent n t (omega arith)) (λ _. low_last _ (low_typing lent (n + simple_count t) u (omega arith)))

few_tokens : (tokens : List ℕ) → token_count_check tokens ≡ Ok tt → length tokens ≤ 256
few_tokens tokens e = leb-true _ _ (both (leb 1 (length tokens)) (leb (length tokens) 256) (test_sound _ TokenCount e)).1

-- 1 to 9, and lines after them that are low where none of them applies
low_condition : (lent : Lent) (tokens : List ℕ) (others : List Check) →
    (row_count lent.items ≤ 64 → length tokens ≤ 256 → Low (first_of others)) → Low (first_of (condition_lines lent tokens ++ others))
low_condition lent tokens others h =
    low_tables lent _ (λ few.
    low_first (token_count_check tokens) _ (low_unless (leb 1 (length tokens) && leb (length tokens) 256) TokenCount (omega arith, refl)) (λ five.
    let short = few_tokens tokens five in
    low_first (token_check lent tokens) _ (low_failing _ Token (λ k. (refl, refl)) 0 (length tokens) (omega arith)) (λ six.
    low_first (earlier (grammar_check (read tokens)) (depth_check tokens)) _
    (low_earlier (grammar_check (read tokens)) (depth_check tokens) (low_grammar tokens short) (low_depth 0 0 tokens (omega arith))) (λ seven.
    low_first (typing_check lent (read tokens)) _ (typing short (read tokens) refl) (λ nine. h few short)))))
  where
    typing : length tokens ≤ 256 → (r : Reading) → read tokens ≡ r → Low (typing_check lent r)
    typing short (accepted t) e = low_typing lent 0 t (omega (arith, few_rows (sound tokens t e) short))
    typing short (refused at) e = tt

-- 10, the last line of a writing call
low_room : (numbers output : List ℕ) → length numbers ≤ 640 → Low (first_of (room_check numbers output ∷ []))
low_room numbers output l = low_last _ (low_unless (leb (length numbers) (length output)) (Room (length numbers)) (l, refl))

-- a count or a place of a writing call
small_writes : (line : Check) (numbers output : List ℕ) → Low line → (line ≡ Ok tt → length numbers ≤ 640) → Small (writes line numbers output).answer
small_writes (Ok _) numbers output h g = g refl
small_writes (Err refusal) numbers output h g = h

-- the numbers that a call makes of the tree of a sequence that passes, or none
module _ (make : Tree → List ℕ) (few : (tokens : List ℕ) (t : Tree) → Derives tokens t → length tokens ≤ 256 → length (make t) ≤ 640) where
  few_numbers : (tokens : List ℕ) → length tokens ≤ 256 → length (numbers_of make (read tokens)) ≤ 640
  few_numbers tokens short = go (read tokens) refl
    where
      go : (r : Reading) → read tokens ≡ r → length (numbers_of make r) ≤ 640
      go (accepted t) e = few tokens t (sound tokens t e) short
      go (refused at) e = omega arith

  small_writing : (lent : Lent) (tokens output : List ℕ) → Small (writing make lent tokens output).answer
  small_writing lent tokens output =
      let numbers = numbers_of make (read tokens) in
      small_writes _ numbers output
      (low_condition lent tokens (room_check numbers output ∷ []) (λ few_items short.
      low_room numbers output (few_numbers tokens short)))
      (λ e.
      let (t, p) = passed lent tokens (both_sound (condition_lines lent tokens) (room_check numbers output ∷ []) e).0 in
      few_numbers tokens (short-passed p))

pub expand_small : (lent : Lent) (tokens output : List ℕ) → Small (expand_gives lent tokens output).answer
unfolding expand_gives
expand_small = small_writing expanded (λ tokens t h short. omega (arith, expanded_bound h short))

pub plan_small : (lent : Lent) (tokens output : List ℕ) → Small (plan_gives lent tokens output).answer
unfolding plan_gives
plan_small = small_writing planned (λ tokens t h short. omega (arith, planned-length t, few_rows h short))

-- a place of judge or run
modest_answers : (line : Check) (w : Walk) → Low line → (line ≡ Ok tt → Modest w.verdict) → Modest (answers line w).verdict
modest_answers (Ok _) w h g = g refl
modest_answers (Err refusal) w h g = (h.0, omega (arith, h.1))

-- 13, 17
modest_at : (n : ℕ) (o : Outcome) → n ≤ 640 → Stops 131072 o → Modest (at n o)
unfolding at
modest_at n Holds l h = tt
modest_at n Fails l h = tt
modest_at n (Stopped (Digits byte)) l h = (l, h)
modest_at n (Stopped (Letters byte)) l h = (l, h)

modest_when : (v a b : Verdict) → Modest v → Modest a → Modest b → Modest (when v a b Unjudged)
unfolding when
modest_when True a b h p q = p
modest_when False a b h p q = q
modest_when (Unjudged refusal) a b h p q = h

-- a count of judge or run
few_answers : (line : Check) (w : Walk) → (line ≡ Ok tt → length w.visits ≤ 128) → (told (answers line w)).count ≤ 128
few_answers (Ok _) w g = g refl
few_answers (Err refusal) w g = omega arith

judge_few : (lent : Lent) (tokens content : List ℕ) (switches : ℕ) → (judge_gives lent tokens content switches).count ≤ 128
unfolding judge_walk
judge_few lent tokens content switches =
    few_answers (first_of (condition_lines lent tokens ++ record_check lent content ∷ [])) (tree_answer lent content switches (read tokens))
    (λ e.
    let (t, p) = passed lent tokens (both_sound (condition_lines lent tokens) (record_check lent content ∷ []) e).0 in
    rw (read_as p) (omega (arith, visited_le (outcome lent content switches) 0 t, few_rows p.accepts.derives (short-passed p))))

run_few : (lent : Lent) (plan content : List ℕ) (switches : ℕ) → (run_gives lent plan content switches).count ≤ 128
unfolding run_walk
run_few lent plan content switches =
    few_answers (first_of (lent_lines lent ++ plan_check lent plan ∷ record_check lent content ∷ [])) (running (outcome lent content switches) plan)
    (λ e.
    let s = (lines_sound _ (both_sound (lent_lines lent) (plan_check lent plan ∷ record_check lent content ∷ []) e).1).0 in
    omega (arith, run-count (outcome lent content switches) plan, some-rows lent plan s))

-- a run of a sound plan comes to its rows only
module _ (lent : Lent) (plan : List ℕ) (s : plan_check lent plan ≡ Ok tt) (out : Outcomes)
    (each : (k : ℕ) → k < plan_rows plan → Stops 131072 (out (plan_row plan k).subject (plan_row plan k).relation (plan_row plan k).object)) where
  abbrev Near : ℕ → Type 0
  Near k = (k ≤ on_true) × (k < on_false → k < plan_rows plan)

  ended : (m k : ℕ) → k ≤ on_true → (k < on_false → ⊥) → Modest (follow out (plan_row plan) m k)
  ended m k top h = by (ℕ_discrete k on_true)
    where
      by : Dec (k ≡ on_true) → Modest (follow out (plan_row plan) m k)
      by (yes e) = rw (e, follow_true out (plan_row plan) m) tt
      by (no n) = let e : k ≡ on_false = omega arith in rw (e, follow_false out (plan_row plan) m) tt

  row_modest : (m k : ℕ) → ((j : ℕ) → Near j → Modest (follow out (plan_row plan) m j)) → k < on_false → k < plan_rows plan →
      Modest (follow out (plan_row plan) (suc m) k)
  row_modest m k rest l h =
      let r = sure lent plan s k h in
      rw (follow-row out (plan_row plan) m k l)
      (modest_when _ _ _ (modest_at k _ (omega (arith, some-rows lent plan s)) (each k h))
      (rest (plan_row plan k).holds (r.holds.top, r.holds.inside))
      (rest (plan_row plan k).fails (r.fails.top, r.fails.inside)))

  modest_follow : (m k : ℕ) → Near k → Modest (follow out (plan_row plan) m k)
  unfolding follow
  modest_follow zero k near = go (eqb k on_true)
    where
      go : (b : Bool) → Modest (cond b True False)
      go true = tt
      go false = tt
  modest_follow (suc m) k near = by (dec_lt k on_false) (modest_follow m)
    where
      by : Dec (k < on_false) → ((j : ℕ) → Near j → Modest (follow out (plan_row plan) m j)) → Modest (follow out (plan_row plan) (suc m) k)
      by (yes l) rest = row_modest m k rest l (near.1 l)
      by (no l) rest = ended (suc m) k near.0 l

low_plan : (lent : Lent) (plan : List ℕ) → Low (plan_check lent plan)
low_plan lent plan =
    low_first (unless (plan_length_sound plan) (PlanFault 0)) _ (low_unless (plan_length_sound plan) (PlanFault 0) (omega arith, refl)) (λ e.
    let l : plan_rows plan ≤ 128 =
    leb-true _ _ (both (eqb (length plan % 5) 0 && leb 1 (plan_rows plan)) (leb (plan_rows plan) 128) (test_sound _ (PlanFault 0) e)).1 in
    low_last _ (low_failing _ PlanFault (λ k. (refl, refl)) 0 (plan_rows plan) (omega arith)))

-- the converters
pub convert_small : (lent : Lent) (tokens output : List ℕ) → Small (convert_gives lent tokens output).answer
unfolding convert_gives
convert_small lent tokens output =
    let numbers = converted_tokens tokens in
    let rest = fit_check numbers ∷ room_check numbers output ∷ [] in
    small_writes _ numbers output
    (low_condition (under true lent) tokens rest (λ few short.
    low_first (fit_check numbers) _ (low_unless (leb (length numbers) 256) TokenCount (omega arith, refl)) (λ fits.
    low_room numbers output (fit numbers fits))))
    (λ e. fit numbers (lines_sound rest (both_sound (condition_lines (under true lent) tokens) rest e).1).0)
  where
    fit : (numbers : List ℕ) → fit_check numbers ≡ Ok tt → length numbers ≤ 640
    fit numbers e = omega (arith, leb-true (length numbers) 256 (test_sound _ TokenCount e))

pub convert_plan_small : (lent : Lent) (plan output : List ℕ) → Small (convert_plan_gives lent plan output).answer
unfolding convert_plan_gives
convert_plan_small lent plan output =
    let old = under true lent in
    let numbers = converted_plan plan in
    let rest = plan_check old plan ∷ room_check numbers output ∷ [] in
    small_writes _ numbers output
    (low_tables old rest (λ few. low_first (plan_check old plan) _ (low_plan old plan) (λ s. low_room numbers output (many s))))
    (λ e. many (lines_sound rest (both_sound (lent_lines old) rest e).1).0)
  where
    many : plan_check (under true lent) plan ≡ Ok tt → length (converted_plan plan) ≤ 640
    many s = omega (arith, converted_length plan, some-rows (under true lent) plan s)

run_modest : (lent : Lent) (plan content : List ℕ) (switches : ℕ) → Modest (run_gives lent plan content switches).verdict
unfolding run_walk run
run_modest lent plan content switches =
    modest_answers _ (running (outcome lent content switches) plan)
    (low_tables lent _ (λ few. low_first (plan_check lent plan) _ (low_plan lent plan) (λ s. low_last _ (low_record lent content few))))
    (λ e.
    let (tables, others) = both_sound (lent_lines lent) (plan_check lent plan ∷ record_check lent content ∷ []) e in
    let l = lines_sound _ others in
    modest_follow lent plan l.0 (outcome lent content switches)
    (λ k h. let r = sure lent plan l.0 k h in
    stops_near (record { tables = tables; holds = l.1.0; shape = r.shape; well = r.well }) switches)
    (plan_rows plan) 0 (omega arith, λ _. omega (arith, some-rows lent plan l.0)))

-- what judge says of a condition that passes, running its plan says too
judge_modest : (lent : Lent) (tokens content : List ℕ) (switches : ℕ) → Modest (judge_gives lent tokens content switches).verdict
unfolding judge_walk
judge_modest lent tokens content switches =
    modest_answers _ (tree_answer lent content switches (read tokens))
    (low_condition lent tokens (record_check lent content ∷ []) (λ few short. low_last _ (low_record lent content few)))
    (λ e.
    let (lines, last) = both_sound (condition_lines lent tokens) (record_check lent content ∷ []) e in
    let (t, p) = passed lent tokens lines in
    let held = (lines_sound _ last).0 in
    let same = runs_as p content switches ∙ ap (λ line. answers line (judging (outcome lent content switches) t)) held in
    rw (read_as p) (subst (λ w. Modest w.verdict) same (run_modest lent (planned t) content switches)))

pub judge_fits : (lent : Lent) (tokens content : List ℕ) (switches : ℕ) → Fits (judge_gives lent tokens content switches)
judge_fits lent tokens content switches = (judge_modest lent tokens content switches, judge_few lent tokens content switches)

pub run_fits : (lent : Lent) (plan content : List ℕ) (switches : ℕ) → Fits (run_gives lent plan content switches)
run_fits lent plan content switches = (run_modest lent plan content switches, run_few lent plan content switches)
