-- What each `return` of the cycle shows, and each turn of its loops: its answer is the parser's, since the answers of the calls
-- before it are.
use mathlib.Core.Path.{◌≡◌, refl, sym, ap, ◌∙◌}
use mathlib.Core.List.{List, ◌++◌, map, append_assoc}
use Prim.Native.Nat.{ℕ, zero, suc, ◌+◌, ◌*◌, ◌-◌, ◌≤◌, ◌<◌}
use native.Mathlib.Omega.{arith}
use lib.ListN.{length, take, drop, length-drop, drop_of_length-le, take-append-drop}
use lib.Seq.{length-take-le, take-take, take_at}
use Rattle.simples.specs.declared.Carried.{Carried}
use Rattle.simples.specs.declared.Single.{Single}
use Rattle.std.proofs.Common.{Result, Ok, Err}
use Rattle.parser.specs.declared.Part.{Part}
use Rattle.grammar.specs.Grammar.{Class, other, not, and, or, opening, closing, Is, Carry, nothing, Tree, simple, negated, bracketed, both, either}
use Rattle.grammar.specs.Parser.{Result as Parsing, Parser, ◌then◌, continue, done, fail, on, object, parse_simple, read, parse_condition, parse_chain, parse_term, parse_body}
use Rattle.grammar.specs.Judging.{simple_count}
use Rattle.grammar.specs.Plan.{on_true, on_false, rows_of, flat, planned}
use Rattle.simples.specs.Reads.{tok, carry_of, Reads}
use Rattle.plans.specs.Rows.{retargeted, Turned}
use Rattle.parser.specs.Parses.{Placeable, Placed, Laid, Told, place_of, Partly, Fits, Room, Plans, Whole, Parses}
use Rattle.grammar.proofs.Sound.{Differ}
use Rattle.grammar.proofs.Spelling.{is_or, is_and, is_not, is_opening, is_closing, or_token, and_token, not_token, opening_token, closing_token}
use Rattle.plans.proofs.Retarget.{rows_bracketed, rows_negated, rows_both, rows_either}
use Rattle.grammar.proofs.Segment.{rows-count}
use Rattle.tables.proofs.Front.{earlier_front, later_rest}
use Rattle.plans.proofs.Buffer.{flat_append, added-parts, turned_rows}
use Rattle.simples.proofs.Looking.{stands, from_here, take_on, pass_on}
use Rattle.simples.proofs.Resolving.{at_short, at_no_short}

-- each level takes one unit of fuel
plans : {parser : ℕ → Carry → Parser} {level at row : ℕ} {tokens before after : List ℕ} {c : Carried} {r : Result Part ℕ} →
    ((f : ℕ) → 4 * (length tokens - at) + level ≤ f → Told tokens row before after r (parser (suc f) (carry_of c) (drop at tokens))) →
    at ≤ place_of r → place_of r ≤ length tokens → Fits row before after r → Plans parser level tokens at c row before r after
plans {parser} {level} {at} {row} {tokens} {before} {after} {c} {r} h from upto fits = record { told = told; from = from; upto = upto; fits = fits }
  where
    told : (f : ℕ) → 4 * (length tokens - at) + level < f → Told tokens row before after r (parser f (carry_of c) (drop at tokens))
    told zero l = absurd (omega arith)
    told (suc f) l = h f (omega arith)

-- A condition and a chain are read alike: a part, and after the word `w`, of class `k`, the rest. What is true of the part goes on
-- to `y`, and what is false to `n`, of the first row of the rest.
pub record Joins (k : Class) (w : ℕ) (join : Tree → Tree → Tree) (y n : ℕ → ℕ) (lower self : ℕ → Carry → Parser) : Type 0 where
  pub word : Differ k other
  pub is : (x : ℕ) → x ≡ w → Is k x
  pub token : (x : ℕ) → Is k x → x ≡ w
  pub step : (f : ℕ) (c : Carry) (ts : List ℕ) →
      self (suc f) c ts ≡ (lower f c then λ t d. on k (λ _. self f d then λ u e. done (join t u) e) (done t d)) ts
  pub rows : (r : ℕ) (t u : Tree) → r + simple_count t ≤ on_false →
      rows_of r on_true on_false (join t u)
      ≡ map (retargeted (y (r + simple_count t)) (n (r + simple_count t))) (rows_of r on_true on_false t) ++ rows_of (r + simple_count t) on_true on_false u
  pub size : (t u : Tree) → simple_count (join t u) ≡ simple_count t + simple_count u

pub conditions : Joins or 262148 either (λ _. on_true) (λ r. r) parse_chain parse_condition
unfolding parse_condition simple_count
conditions = record { word = tt; is = is_or; token = or_token; step = λ f c ts. refl; rows = rows_either; size = λ t u. refl }

pub chains : Joins and 262147 both (λ r. r) (λ _. on_false) parse_term parse_chain
unfolding parse_condition simple_count
chains = record { word = tt; is = is_and; token = and_token; step = λ f c ts. refl; rows = rows_both; size = λ t u. refl }

row_room : {tokens before : List ℕ} {at row : ℕ} → Room tokens at row before → row * 5 ≤ length before
row_room room = omega (arith, room.within, room.short, room.few, room.wide)

-- rows that stand after those before `row` leave these alone
rows_front : (row next : ℕ) (before after rows : List ℕ) → row ≤ next → row * 5 ≤ length before → take (next * 5) after ≡ take (row * 5) before ++ rows →
    take (row * 5) after ≡ take (row * 5) before
rows_front row next before after rows l h e =
    sym (take-take (row * 5) (next * 5) after (omega arith))
    ∙ ap (take (row * 5)) e
    ∙ take_at (take (row * 5) before) rows (row * 5) (length-take-le (row * 5) before h)

-- the rows of a part, retargeted
turned-laid : (y n : ℕ) {tokens before middle between : List ℕ} {at row next p : ℕ} {d : Carried} {o : Parsing} → Room tokens at row before →
    (t : Laid tokens row before middle p d next o) → Turned y n next between middle row →
    (take (next * 5) between ≡ take (row * 5) before ++ flat (map (retargeted y n) (rows_of row on_true on_false t.tree)))
    × (drop (next * 5) between ≡ drop (next * 5) before)
turned-laid y n {before = before} {middle = middle} {row = row} {next = next} room t turned =
    let rows = rows_of row on_true on_false t.tree in
    let (front, rest) = turned_rows y n row next middle (take (row * 5) before) rows turned t.rows
    (length-take-le (row * 5) before (row_room room)) (omega (arith, t.count, rows-count row on_true on_false t.tree)) in
    (front, rest ∙ t.rest)

-- a part that is read through, and after which nothing goes on
partly : {parser : ℕ → Carry → Parser} {level first at row : ℕ} {tokens before after : List ℕ} {c : Carried} {s : Part} → Room tokens first row before →
    Plans parser level tokens at c row before (Ok s) after → Partly row s.next before after
partly {level = level} {at = at} {tokens = tokens} {s = s} room h =
    let t = h.told (4 * (length tokens - at) + level + 1) (omega arith) in
    record {
      upto = s.row;
      since = h.fits.0;
      few = h.fits.1;
      most = omega (arith, h.fits, h.upto, room.short);
      front = rows_front _ s.row _ _ _ h.fits.0 (row_room room) t.rows;
      rest = t.rest;
    }

-- an answer for later rows serves for earlier ones, after a part that left the rows before it alone
fits_more : (row next : ℕ) (before between after : List ℕ) (r : Result Part ℕ) → row ≤ next → take (row * 5) between ≡ take (row * 5) before →
    drop (next * 5) between ≡ drop (next * 5) before → Fits next between after r → Fits row before after r
fits_more row next before between after (Ok s) l front rest h = omega arith
fits_more row next before between after (Err p) l front rest h =
    record {
      upto = h.upto;
      since = omega (arith, h.since);
      few = h.few;
      most = h.most;
      front = earlier_front after between (row * 5) (next * 5) (omega arith) h.front ∙ front;
      rest = h.rest ∙ later_rest between before (next * 5) (h.upto * 5) (omega (arith, h.since)) rest;
    }

-- What a loop over the parts has shown where the next one starts: an answer from there on is an answer from the first part on.
pub record Continues (parser : ℕ → Carry → Parser) (level : ℕ) (tokens : List ℕ) (at : ℕ) (c : Carried) (row : ℕ) (before : List ℕ)
    (start : ℕ) (held : Carried) (first : ℕ) (begun : List ℕ) : Type 0 where
  pub room : Room tokens start first begun
  pub later : at ≤ start
  pub same : length begun ≡ length before
  pub whole : (r : Result Part ℕ) (after : List ℕ) → Plans parser level tokens start held first begun r after →
      Plans parser level tokens at c row before r after

pub continues : {parser : ℕ → Carry → Parser} {level at row : ℕ} {tokens before : List ℕ} {c : Carried} → Room tokens at row before →
    Continues parser level tokens at c row before at c row before
continues room = record { room = room; later = omega arith; same = refl; whole = λ r after h. h }

module _ {k : Class} {w : ℕ} {join : Tree → Tree → Tree} {y n : ℕ → ℕ} {lower self : ℕ → Carry → Parser} (j : Joins k w join y n lower self) where
  pub joins_stuck : {level at row p : ℕ} {tokens before after : List ℕ} {c : Carried} →
      Plans lower level tokens at c row before (Err p) after → Plans self (level + 1) tokens at c row before (Err p) after
  joins_stuck h = plans (λ f l. j.step f _ _ ∙ rw (h.told f (omega arith))) h.from h.upto h.fits

  pub joins_part : {level at row x : ℕ} {tokens before after : List ℕ} {c : Carried} {s : Part} →
      Plans lower level tokens at c row before (Ok s) after → x ≡ tok tokens s.next → (x ≡ w → ⊥) →
      Plans self (level + 1) tokens at c row before (Ok s) after
  joins_part {tokens} {s} h e i =
      plans
      (λ f l.
      let g = h.told f (omega arith) in
      record { tree = g.tree; gives = j.step f _ _ ∙ rw g.gives (pass_on tokens s.next e (λ k. i (j.token _ k)) _ _); count = g.count; rows = g.rows; rest = g.rest })
      h.from
      h.upto
      h.fits

  -- the rest is told of its own rows: those of the part, retargeted, stand before them
  joined : (tokens before between after : List ℕ) (row next : ℕ) (t : Tree) → next ≡ row + simple_count t → next ≤ on_false →
      take (next * 5) between ≡ take (row * 5) before ++ flat (map (retargeted (y next) (n next)) (rows_of row on_true on_false t)) →
      drop (next * 5) between ≡ drop (next * 5) before →
      (r : Result Part ℕ) (o : Parsing) → Told tokens next between after r o → Told tokens row before after r (continue o (λ u e. done (join t u) e))
  joined tokens before between after row next t e l h k (Err p) o g = rw g
  joined tokens before between after row next t e l h k (Ok s) o g =
      let u = g.tree in
      let first = map (retargeted (y next) (n next)) (rows_of row on_true on_false t) in
      let rest = rows_of next on_true on_false u in
      let both_rows : rows_of row on_true on_false (join t u) ≡ first ++ rest = rw e (j.rows row t u (omega arith)) in
      record {
        tree = join t u;
        gives = rw g.gives;
        count = rw j.size (omega (arith, g.count));
        rows = g.rows ∙ rw (h, both_rows, flat_append) (append_assoc (take (row * 5) before) (flat first) (flat rest));
        rest = g.rest ∙ later_rest between before (next * 5) (s.row * 5) (omega (arith, g.count)) k;
      }

  joins_more : {level at row x : ℕ} {tokens before middle between after : List ℕ} {c : Carried} {s : Part} {r : Result Part ℕ} →
      Room tokens at row before → Plans lower level tokens at c row before (Ok s) middle → x ≡ tok tokens s.next → x ≡ w →
      Turned (y s.row) (n s.row) s.row between middle row → Plans self (level + 1) tokens (s.next + 1) s.carry s.row between r after →
      Plans self (level + 1) tokens at c row before r after
  joins_more {level} {at} {row} {tokens = tokens} {before = before} {between = between} {after = after} {s = s} {r = r} room h e i turned g =
      let p = s.next in
      let next = s.row in
      let low : p < length tokens = stands tokens p e (j.is _ i) j.word in
      let once = h.told (4 * (length tokens - at) + level + 1) (omega arith) in
      let (first, rest) = turned-laid (y next) (n next) room once turned in
      plans
      (λ f l.
      let t = h.told f (omega arith) in
      let (first, rest) = turned-laid (y next) (n next) room t turned in
      rw (j.step, t.gives, take_on tokens p e (j.is _ i) j.word)
      (joined tokens before between after row next t.tree t.count (omega arith) first rest r _ (g.told f (omega arith))))
      (omega (arith, g.from))
      g.upto
      (fits_more row next before between after r (omega arith) (rows_front row next before between _ (omega arith) (row_room room) first) rest g.fits)

  pub joins_on : {level at row start first x : ℕ} {tokens before begun middle between : List ℕ} {c held : Carried} {part : Part} →
      Continues self (level + 1) tokens at c row before start held first begun →
      Plans lower level tokens start held first begun (Ok part) middle → x ≡ tok tokens part.next → x ≡ w →
      Turned (y part.row) (n part.row) part.row between middle first → length between ≡ length begun →
      Continues self (level + 1) tokens at c row before (part.next + 1) part.carry part.row between
  joins_on {tokens} {part} s h e i turned l =
      let low : part.next < length tokens = stands tokens part.next e (j.is _ i) j.word in
      record {
        room = omega arith;
        later = omega arith;
        same = omega arith;
        whole = λ r after g. s.whole r after (joins_more s.room h e i turned g);
      }

-- A simple condition, which `q` reads from this or a later place on, is all that is read, and its row is put.
pub placeable : {q : Parser} {at from row : ℕ} {tokens before : List ℕ} (s : Result Single ℕ) → Room tokens at row before → Reads q 1 tokens from s → at ≤ from → Placeable s row
placeable (Ok s) room h l = omega arith
placeable (Err p) room h l = tt

pub single : {parser : ℕ → Carry → Parser} {q : Parser} {level at from row : ℕ} {tokens before after : List ℕ} {c : Carried} {r : Result Part ℕ} (s : Result Single ℕ) →
    Room tokens at row before → Reads q 1 tokens from s → Placed s row before r after → at ≤ from →
    ((f : ℕ) → parser (suc f) (carry_of c) (drop at tokens) ≡ q (drop from tokens)) → Plans parser level tokens at c row before r after
unfolding simple_count
single (Ok s) room h placed l step =
    rw placed.0
    (plans (λ f _. let (front, rest) = added-parts _ _ _ _ _ (row_room room) placed.1 in
    record { tree = simple s.subject s.relation s.object; gives = step f ∙ h.found; count = refl; rows = front; rest = rest }) (omega arith) (omega arith) (omega arith))
single {row = row} {before = before} (Err p) room h placed l step =
    let same = placed.1 in
    rw placed.0
    (plans (λ f _. step f ∙ h.found) (omega arith) (omega arith)
    (record { upto = row; since = omega arith; few = omega (arith, room.few, h.from); most = omega (arith, room.few, room.within, room.short); front = rw same; rest = rw same }))

-- a term, by its first token
module _ (tokens : List ℕ) (at : ℕ) (c : Carried) {x : ℕ} (e : x ≡ tok tokens at) where
  pub term_order : (c.relation ≡ 0 → ⊥) → 262149 ≤ x → x ≤ 262151 →
      (f : ℕ) → parse_term (suc f) (carry_of c) (drop at tokens) ≡ object c.subject (x - 262144) (drop (at + 1) tokens)
  unfolding parse_condition
  term_order n l h f =
      pass_on tokens at e {k = not} (λ i. let g = not_token x i in omega arith) _ _
      ∙ at_short tokens at e c (λ m. m) _ n l h

  pub term_plain : {row : ℕ} {before after : List ℕ} {r : Result Part ℕ} → (x ≡ 262146 → ⊥) → ((c.relation ≡ 0 → ⊥) → 262149 ≤ x → 262151 < x) →
      Plans parse_body 0 tokens at c row before r after → Plans parse_term 1 tokens at c row before r after
  unfolding parse_condition
  term_plain g far h =
      plans
      (λ f l. rw (pass_on tokens at e {k = not} (λ i. g (not_token x i)), at_no_short tokens at e c) (h.told f (omega arith)))
      h.from h.upto h.fits

  -- after NOT
  module _ {y : ℕ} (g : x ≡ 262146) (d : y ≡ tok tokens (at + 1)) where
    pub term_not_order : (c.relation ≡ 0 → ⊥) → 262149 ≤ y → y ≤ 262151 →
        (f : ℕ) → parse_term (suc f) (carry_of c) (drop at tokens) ≡ object c.subject (y - 262144 + 32) (drop (at + 2) tokens)
    unfolding parse_condition
    term_not_order n l h f =
        let two : at + 1 + 1 ≡ at + 2 = omega arith in
        take_on tokens at e (is_not x g) tt _ _ ∙ at_short tokens (at + 1) d c (λ m. m + 32) _ n l h ∙ rw two

    module _ (far : (c.relation ≡ 0 → ⊥) → 262149 ≤ y → 262151 < y) where
      term_not : (f : ℕ) →
          parse_term (suc f) (carry_of c) (drop at tokens) ≡ continue (parse_body f (carry_of c) (drop (at + 1) tokens)) (λ t k. done (negated t) k)
      unfolding parse_condition
      term_not f = take_on tokens at e (is_not x g) tt _ _ ∙ at_no_short tokens (at + 1) d c _ _ far

      pub term_not_stuck : {row p : ℕ} {before after : List ℕ} →
          Plans parse_body 0 tokens (at + 1) c row before (Err p) after → Plans parse_term 1 tokens at c row before (Err p) after
      term_not_stuck h = plans (λ f l. term_not f ∙ rw (h.told f (omega arith))) (omega (arith, h.from)) h.upto h.fits

      pub term_not_row : {row : ℕ} {before middle after : List ℕ} {s : Part} → Room tokens at row before →
          Plans parse_body 0 tokens (at + 1) c row before (Ok s) middle → Turned on_false on_true s.row after middle row →
          Plans parse_term 1 tokens at c row before (Ok s) after
      unfolding simple_count
      term_not_row {row} room h turned =
          plans
          (λ f l.
          let t = h.told f (omega arith) in
          let (front, rest) = turned-laid on_false on_true room t turned in
          record {
            tree = negated t.tree;
            gives = term_not f ∙ rw t.gives;
            count = t.count;
            rows = rw (rows_negated row t.tree (omega (arith, t.count))) front;
            rest = rest;
          })
          (omega arith)
          (omega arith)
          (omega arith)

-- nothing is carried into a bracket, out of it, and at the start
abbrev none : Carried
none = record { subject = 0; relation = 0 }

-- a body, by its first token
module _ (tokens : List ℕ) (at : ℕ) (c : Carried) {x : ℕ} (e : x ≡ tok tokens at) where
  pub body_simple : (x ≡ 262144 → ⊥) → (f : ℕ) → parse_body (suc f) (carry_of c) (drop at tokens) ≡ parse_simple (carry_of c) (drop at tokens)
  unfolding parse_condition
  body_simple g f = pass_on tokens at e {k = opening} (λ i. g (opening_token x i)) _ _

  module _ (g : x ≡ 262144) where
    low : at < length tokens
    low = stands tokens at e (is_opening x g) tt

    body_open : (f : ℕ) →
        parse_body (suc f) (carry_of c) (drop at tokens)
        ≡ continue (parse_condition f nothing (drop (at + 1) tokens)) (λ t _. on closing (λ _. done (bracketed t) nothing) fail)
    unfolding parse_condition
    body_open f = take_on tokens at e (is_opening x g) tt _ _

    pub body_stuck : {row p : ℕ} {before after : List ℕ} →
        Plans parse_condition 3 tokens (at + 1) none row before (Err p) after → Plans parse_body 0 tokens at c row before (Err p) after
    unfolding carry_of
    body_stuck h = plans (λ f l. body_open f ∙ rw (h.told f (omega (arith, low)))) (omega (arith, h.from)) h.upto h.fits

    module _ {row z : ℕ} {before after : List ℕ} {s : Part}
        (h : Plans parse_condition 3 tokens (at + 1) none row before (Ok s) after) (y : z ≡ tok tokens s.next) where
      pub body_shut : z ≡ 262145 → Plans parse_body 0 tokens at c row before (Ok (record { next = s.next + 1; carry = none; row = s.row })) after
      unfolding carry_of simple_count
      body_shut k =
          plans
          (λ f l.
          let t = h.told f (omega (arith, low)) in
          record {
            tree = bracketed t.tree;
            gives = body_open f ∙ rw t.gives (take_on tokens s.next y (is_closing z k) tt _ _);
            count = t.count;
            rows = rw rows_bracketed t.rows;
            rest = t.rest;
          })
          (omega arith)
          (omega (arith, stands tokens s.next y (is_closing z k) tt))
          (omega arith)

      pub body_not_shut : Room tokens at row before → (z ≡ 262145 → ⊥) → Plans parse_body 0 tokens at c row before (Err s.next) after
      unfolding carry_of
      body_not_shut room k =
          plans
          (λ f l. body_open f ∙ rw (h.told f (omega (arith, low))).gives (pass_on tokens s.next y {k = closing} (λ i. k (closing_token z i)) _ _))
          (omega arith)
          (omega arith)
          (partly room h)

-- a whole sequence, of which all is read, or a part
module _ {tokens before after : List ℕ} where
  pub whole_stuck : {p : ℕ} → Plans parse_condition 3 tokens 0 none 0 before (Err p) after → Parses tokens (Err p) before after
  unfolding read carry_of Whole
  whole_stuck {p} h =
      let e : length tokens - (length tokens - p) ≡ p = omega (arith, h.upto) in
      rw (h.told (4 * length tokens + 4) (omega arith), length-drop, e) (refl, h.fits)

  module _ {s : Part} (h : Plans parse_condition 3 tokens 0 none 0 before (Ok s) after) where
    pub whole_part : Room tokens 0 0 before → (s.next ≡ length tokens → ⊥) → Parses tokens (Err s.next) before after
    unfolding read carry_of Whole
    whole_part room g =
        let p = s.next in
        let e : length tokens - suc (length (drop (p + 1) tokens)) ≡ p = omega (arith, length-drop (p + 1) tokens, h.upto) in
        rw ((h.told (4 * length tokens + 4) (omega arith)).gives, from_here tokens p refl (omega (arith, h.upto)), e) (refl, partly room h)

    pub whole_read : s.next ≡ length tokens → Parses tokens (Ok s.row) before after
    unfolding read carry_of Whole planned
    whole_read g =
        let t = h.told (4 * length tokens + 4) (omega arith) in
        let n = s.row in
        let m : n ≡ simple_count t.tree = omega (arith, t.count) in
        let l : length tokens ≤ s.next = omega arith in
        rw (t.gives, drop_of_length-le tokens l, ← m)
        (refl, sym (take-append-drop (n * 5) after) ∙ ap (λ w. w ++ drop (n * 5) after) t.rows ∙ ap (λ w. flat (rows_of 0 on_true on_false t.tree) ++ w) t.rest)
