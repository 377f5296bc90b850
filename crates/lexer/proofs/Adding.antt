-- What is gathered, with one piece more.
use mathlib.Core.Path.{◌≡◌, refl, sym, ap, ap₂, ◌∙◌, subst}
use mathlib.Core.Bool.{Bool, true, false, cond}
use mathlib.Core.List.{List, [], ◌∷◌, ◌++◌, map, append_assoc}
use Prim.Native.Nat.{ℕ, zero, suc, ◌+◌, ◌-◌, ◌*◌, ◌≤◌, ◌<◌}
use native.Mathlib.Omega.{arith}
use native.Mathlib.Numerals.{add-one}
use lib.Dec.{ltb}
use lib.ListN.{length, take, drop, set, length-take, length-drop}
use lib.Seq.{take-suc-set, append_snoc, drop-set-lt}
use borrow.Author.Tests.{lt-ltb, le-ltb}
use Rattle.content.specs.declared.Row.{Row}
use Rattle.spelling.specs.Names.{Known}
use Rattle.spelling.specs.Literals.{Literal, row_of_literal, laid}
use Rattle.spelling.specs.Keywords.{Piece as Spelt, token, literal, fault}
use Rattle.spelling.specs.Reading.{Placed, placed, pieces, Found, none, refusal, before, fault_at, after, first_fault, tokens_from, rows_from, bytes_of}
use Rattle.splitter.specs.Splits.{between}
use Rattle.literal_bytes.specs.Written.{literal_by}
use Rattle.std.specs.Prelude.{Option, Some, Ok, Err}
use Rattle.senses.specs.declared.Met.TheVariants.{Token as MetToken, Literal as MetLiteral}
use Rattle.senses.specs.declared.Piece.{Piece}
use Rattle.senses.specs.Senses.{met_of}
use Rattle.lexer.specs.declared.Gathered.{Gathered}
use Rattle.lexer.specs.Gathers.{left, left_pieces, over_at, moved_to, Made, MadeBy, Total, Gathers, Bounds, Ready, Meets, with_token, with_literal, LiteralRoom, LiteralLaid, Same, Steps}
use Rattle.lexer.proofs.Writing.{over_front, over_rest}

-- the first piece of what is left
tokens-next : (n t : ℕ) (ps : List Spelt) → tokens_from n (token t ∷ ps) ≡ t ∷ tokens_from n ps
unfolding tokens_from
tokens-next n t ps = refl

tokens-literal : (n : ℕ) (l : Literal) (ps : List Spelt) → tokens_from n (literal l ∷ ps) ≡ (65536 + n) ∷ tokens_from (suc n) ps
unfolding tokens_from
tokens-literal n l ps = refl

rows_next : (o t : ℕ) (ps : List Spelt) → rows_from o (token t ∷ ps) ≡ rows_from o ps
unfolding rows_from
rows_next o t ps = refl

rows-literal : (o : ℕ) (l : Literal) (ps : List Spelt) → rows_from o (literal l ∷ ps) ≡ laid (row_of_literal o l) ++ rows_from (o + length l.bytes) ps
unfolding rows_from
rows-literal o l ps = refl

bytes_next : (t : ℕ) (ps : List Spelt) → bytes_of (token t ∷ ps) ≡ bytes_of ps
unfolding bytes_of
bytes_next t ps = refl

bytes-literal : (l : Literal) (ps : List Spelt) → bytes_of (literal l ∷ ps) ≡ l.bytes ++ bytes_of ps
unfolding bytes_of
bytes-literal l ps = refl

fault-next : (n : ℕ) (x : Placed) (xs : List Placed) → first_fault n (x ∷ xs) ≡ before (fault_at n x.place x.piece) (first_fault (after n x.piece) xs)
unfolding first_fault
fault-next n x xs = refl

-- a whole that begins with what is there and goes on with `new`
joined : (whole old new rest : List ℕ) → whole ≡ old ++ (new ++ rest) → whole ≡ (old ++ new) ++ rest
joined whole old new rest e = e ∙ sym (append_assoc old new rest)

-- a fault writes nothing
pub unchanged : (tokens rows bytes : List ℕ) → Same tokens rows bytes tokens rows bytes
unchanged tokens rows bytes = record { tokens_stay = refl; rows_stay = refl; bytes_stay = refl }

module _ {known : Known} {text : List ℕ} {g : Gathered} {tokens rows bytes : List ℕ} (R : Ready text g tokens rows bytes) {at end : ℕ} {r : Piece}
    (M : Meets known text g.past at end r) where
  B : Bounds text g
  B = R.bounds

  inside : (at < length text) × (g.past < r.past)
  inside = (omega (arith, M.some, M.inside, M.within), omega (arith, M.not_before, M.some, M.inside))

  pieces-next : (s : Spelt) → M.spelt ≡ s → left_pieces known text g.past ≡ s ∷ left_pieces known text r.past
  pieces-next s e = ap (map (λ (x : Placed). x.piece)) M.next ∙ ap (λ (p : Spelt). p ∷ left_pieces known text r.past) e

  faults : (w : Total) (G : Gathers known text w g tokens rows bytes) (s : Spelt) → M.spelt ≡ s
      → w.fault ≡ before (fault_at g.literals at s) (first_fault (after g.literals s) (left known text r.past))
  faults w G s e =
      G.fault_is ∙ ap (first_fault g.literals) M.next
      ∙ fault-next g.literals (record { place = at; piece = M.spelt }) (left known text r.past)
      ∙ ap (λ (p : Spelt). before (fault_at g.literals at p) (first_fault (after g.literals p) (left known text r.past))) e

  faulty_step : {number : ℕ} → r.met ≡ Err number → (s : Spelt) → M.spelt ≡ s → Steps known text g tokens rows bytes (Err (record { number = number; place = at })) tokens rows bytes
  faulty_step {number} f (fault n) e =
      let z : n ≡ number = let q : met_of (fault n) ≡ Err number = ap met_of (sym e) ∙ sym M.met ∙ f in cc in
      record { gives = (unchanged tokens rows bytes, λ w G. faults w G (fault n) e ∙ rw z, inside.0) }
  faulty_step {number} f (token t) e = let q : met_of (token t) ≡ Err number = ap met_of (sym e) ∙ sym M.met ∙ f in let z : ◌≡◌ {A = ℕ} 0 1 = cc in absurd (omega arith)
  faulty_step {number} f (literal l) e = let q : met_of (literal l) ≡ Err number = ap met_of (sym e) ∙ sym M.met ∙ f in let z : ◌≡◌ {A = ℕ} 0 1 = cc in absurd (omega arith)

  pub fault-step : {number : ℕ} → r.met ≡ Err number → Steps known text g tokens rows bytes (Err (record { number = number; place = at })) tokens rows bytes
  fault-step f = faulty_step f M.spelt refl

  -- a token
  token_is : {t : ℕ} → r.met ≡ Ok (MetToken t) → (s : Spelt) → M.spelt ≡ s → M.spelt ≡ token t
  token_is {t} f (token u) e = let q : met_of (token u) ≡ Ok (MetToken t) = ap met_of (sym e) ∙ sym M.met ∙ f in let z : u ≡ t = cc in e ∙ ap token z
  token_is {t} f (literal l) e = let q : met_of (literal l) ≡ Ok (MetToken t) = ap met_of (sym e) ∙ sym M.met ∙ f in cc
  token_is {t} f (fault n) e = let q : met_of (fault n) ≡ Ok (MetToken t) = ap met_of (sym e) ∙ sym M.met ∙ f in cc

  stored : (whole : List ℕ) (t : ℕ) (rest : List ℕ) → whole ≡ take g.tokens tokens ++ t ∷ rest
      → whole ≡ take (g.tokens + 1) (set tokens g.tokens t) ++ rest
  stored whole t rest e =
      let h : g.tokens < length tokens = omega (arith, B.few_tokens, R.soon, R.rooms.tokens_room) in
      e ∙ sym (append_assoc (take g.tokens tokens) (t ∷ []) rest)
      ∙ ap (λ (v : List ℕ). v ++ rest) (sym (ap (λ (n : ℕ). take n (set tokens g.tokens t)) (add-one g.tokens) ∙ take-suc-set tokens g.tokens t h))

  pub token_step : {t : ℕ} {res : Gathered} {after : List ℕ} → r.met ≡ Ok (MetToken t) → res ≡ with_token g r.past → after ≡ set tokens g.tokens t
      → Steps known text g tokens rows bytes (Ok (Some res)) after rows bytes
  token_step {t} f q w =
      let e = token_is f M.spelt refl in
      let ps = left_pieces known text r.past in
      let n = pieces-next (token t) e in
      rw (q, w)
      record {
        gives = (
          λ w G.
              record {
                tokens_are = stored w.tokens t (tokens_from g.literals ps) (G.tokens_are ∙ ap (λ (v : List ℕ). take g.tokens tokens ++ v) (ap (tokens_from g.literals) n
                    ∙ tokens-next g.literals t ps));
                rows_are = G.rows_are ∙ ap (λ (v : List ℕ). take (g.literals * 5) rows ++ v) (ap (rows_from g.bytes) n ∙ rows_next g.bytes t ps);
                bytes_are = G.bytes_are ∙ ap (λ (v : List ℕ). take g.bytes bytes ++ v) (ap bytes_of n ∙ bytes_next t ps);
                fault_is = faults w G (token t) e;
              },
          record {
            within = M.within;
            few_tokens = omega (arith, B.few_tokens, inside.1);
            few_literals = B.few_literals;
            few_bytes = omega (arith, B.few_bytes, inside.1);
          },
          record { tokens_grow = omega arith; literals_grow = omega arith; bytes_grow = omega arith; read_on = inside.1 },
          record { tokens_stay = drop-set-lt (g.tokens + 1) tokens g.tokens t (omega arith); rows_stay = refl; bytes_stay = refl },
        );
      }

  -- a literal
  pub record Literally (row : Row) : Type 0 where
    pub l : Literal
    pub is : M.spelt ≡ literal l
    pub row_is : row_of_literal 0 l ≡ row
    pub made : Made (between text at end) l

  literal_by_lem : {row : Row} → r.met ≡ Ok (MetLiteral row) → (s : Spelt) → M.spelt ≡ s → MadeBy (between text at end) s → Literally row
  literal_by_lem {row} f (literal l) e m =
      let q : met_of (literal l) ≡ Ok (MetLiteral row) = ap met_of (sym e) ∙ sym M.met ∙ f in
      record { l = l; is = e; row_is = cc; made = m }
  literal_by_lem {row} f (token t) e m = let q : met_of (token t) ≡ Ok (MetLiteral row) = ap met_of (sym e) ∙ sym M.met ∙ f in let z : ◌≡◌ {A = ℕ} 0 1 = cc in absurd (omega arith)
  literal_by_lem {row} f (fault n) e m = let q : met_of (fault n) ≡ Ok (MetLiteral row) = ap met_of (sym e) ∙ sym M.met ∙ f in let z : ◌≡◌ {A = ℕ} 0 1 = cc in absurd (omega arith)

  literally : {row : Row} → r.met ≡ Ok (MetLiteral row) → Literally row
  literally f = literal_by_lem f M.spelt refl M.made

  -- the 65th
  pub full-step : {row : Row} → r.met ≡ Ok (MetLiteral row) → 64 ≤ g.literals → Steps known text g tokens rows bytes (Err (record { number = 15; place = at })) tokens rows bytes
  full-step f h =
      let L = literally f in
      record { gives = (unchanged tokens rows bytes, λ w G. faults w G (literal L.l) L.is ∙ rw (le-ltb g.literals 64 h), inside.0) }

  pub literal_room : {row : Row} → r.met ≡ Ok (MetLiteral row) → g.literals < 64 → LiteralRoom row (between text at end) g tokens rows bytes
  literal_room {row} f h =
      let L = literally f in
      let size : length L.l.bytes ≡ row.size = ap (λ (x : Row). x.size) L.row_is in
      let kind : L.l.kind ≡ row.kind = ap (λ (x : Row). x.kind) L.row_is in
      record {
        token_room = omega (arith, B.few_tokens, R.soon, R.rooms.tokens_room);
        few = h;
        row_room = omega (arith, R.rooms.rows_room);
        near = omega (arith, B.few_bytes, R.soon);
        room = omega (arith, B.few_bytes, R.soon, R.rooms.bytes_room, L.made.small, size);
        size = sym (ap (λ (k : ℕ). length (literal_by k (between text at end)).bytes) kind) ∙ sym (ap (λ (x : Literal). length x.bytes) L.made.by) ∙ size;
        small = omega (arith, L.made.small, size);
        quoted = λ q. L.made.quoted (kind ∙ q);
      }

  pub literal-step : {row : Row} {res : Gathered} {t w b : List ℕ} → r.met ≡ Ok (MetLiteral row) → g.literals < 64
      → LiteralLaid row (between text at end) g r.past tokens rows bytes res t w b → Steps known text g tokens rows bytes (Ok (Some res)) t w b
  literal-step {row} f h D =
      let L = literally f in
      let l : Literal = L.l in
      let v : ℕ = g.literals in
      let o : ℕ = g.bytes in
      let ps : List Spelt = left_pieces known text r.past in
      let n = pieces-next (literal l) L.is in
      let one : v + 1 ≡ suc v = add-one v in
      let size : length l.bytes ≡ row.size = ap (λ (x : Row). x.size) L.row_is in
      let kind : l.kind ≡ row.kind = ap (λ (x : Row). x.kind) L.row_is in
      let the_bytes : (literal_by row.kind (between text at end)).bytes ≡ l.bytes =
      sym (ap (λ (k : ℕ). (literal_by k (between text at end)).bytes) kind) ∙ sym (ap (λ (x : Literal). x.bytes) L.made.by) in
      let the_row : moved_to o row ≡ row_of_literal o l = ap (moved_to o) (sym L.row_is) in
      let wide : length (between text at end) ≤ end - at = omega (arith, length-take (end - at) (drop at text)) in
      let rows_wide : v * 5 ≤ length rows = omega (arith, R.rooms.rows_room) in
      let bytes_wide : o ≤ length bytes = omega (arith, B.few_bytes, R.soon, R.rooms.bytes_room) in
      let four : v * 5 + 5 ≡ (v + 1) * 5 = omega arith in
      let row_laid = D.row_laid ∙ ap (λ (x : Row). over_at (v * 5) (laid x) rows) the_row in
      rw (D.counts, D.token_laid, row_laid, D.bytes_laid, the_bytes)
      record {
        gives = (
          λ u G.
              record {
                tokens_are =
                    stored u.tokens (65536 + v) (tokens_from (v + 1) ps)
                    (G.tokens_are ∙ ap (λ (x : List ℕ). take g.tokens tokens ++ x) (ap (tokens_from v) n ∙ tokens-literal v l ps ∙ ap (λ (k : ℕ). (65536 + v) ∷ tokens_from k ps) (sym one)));
                rows_are =
                    joined _ (take (v * 5) rows) (laid (row_of_literal o l)) (rows_from (o + row.size) ps)
                    (G.rows_are ∙ ap (λ (x : List ℕ). take (v * 5) rows ++ x) (ap (rows_from o) n ∙ rows-literal o l ps ∙ ap (λ (k : ℕ). laid (row_of_literal o l) ++ rows_from (o + k) ps) size))
                    ∙ ap (λ (x : List ℕ). x ++ rows_from (o + row.size) ps)
                    (sym (ap (λ (k : ℕ). take k (over_at (v * 5) (laid (row_of_literal o l)) rows)) (sym four) ∙ over_front (v * 5) (laid (row_of_literal o l)) rows rows_wide));
                bytes_are =
                    joined _ (take o bytes) l.bytes (bytes_of ps)
                    (G.bytes_are ∙ ap (λ (x : List ℕ). take o bytes ++ x) (ap bytes_of n ∙ bytes-literal l ps))
                    ∙ ap (λ (x : List ℕ). x ++ bytes_of ps)
                    (sym (ap (λ (k : ℕ). take (o + k) (over_at o l.bytes bytes)) (sym size) ∙ over_front o l.bytes bytes bytes_wide));
                fault_is = faults u G (literal l) L.is ∙ rw (lt-ltb v 64 h, one);
              },
          record {
            within = M.within;
            few_tokens = omega (arith, B.few_tokens, inside.1);
            few_literals = omega arith;
            few_bytes = omega (arith, B.few_bytes, M.not_before, M.some, M.inside, L.made.short, wide, size);
          },
          record { tokens_grow = omega arith; literals_grow = omega arith; bytes_grow = omega arith; read_on = inside.1 },
          record {
            tokens_stay = drop-set-lt (g.tokens + 1) tokens g.tokens (65536 + v) (omega arith);
            rows_stay = ap (λ (k : ℕ). drop k (over_at (v * 5) (laid (row_of_literal o l)) rows)) (sym four) ∙ over_rest (v * 5) (laid (row_of_literal o l)) rows rows_wide
                ∙ ap (λ (k : ℕ). drop k rows) four;
            bytes_stay = ap (λ (k : ℕ). drop (o + k) (over_at o l.bytes bytes)) (sym size) ∙ over_rest o l.bytes bytes bytes_wide
                ∙ ap (λ (k : ℕ). drop (o + k) bytes) size;
          },
        );
      }
