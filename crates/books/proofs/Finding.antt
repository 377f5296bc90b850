-- Names and literals of a description, as they stand in the buffers that were lent for them.
use mathlib.Core.Path.{◌≡◌, refl, sym, ap, ap₂, ◌∙◌}
use mathlib.Core.List.{List, [], ◌∷◌, ◌++◌, map}
use Prim.Native.Nat.{ℕ, suc, ◌+◌, ◌*◌, ◌≤◌}
use native.Mathlib.Omega.{arith}
use lib.ListN.{length, take, drop, length-append}
use lib.Seq.{take_at, drop_at, take-append_seam, length-take-le}
use Rattle.description.specs.Grammar.{Entry, Condition, Row, Table, Literal as Told, literals_of, literal_rows}
use Rattle.description.specs.Limits.{Outcome, table, refusal, describe}
use Rattle.description.proofs.Keeping.{within}
use Rattle.spelling.specs.Names.{names_at, known_by, known_of, numbers}
use Rattle.spelling.proofs.Describing.{length-map, few_bytes}
use Rattle.naming.specs.Named.{Listed, known_at}
use Rattle.literal_bytes.specs.Written.{written_over}
use Rattle.std.specs.Prelude.{Result, Ok, Err}
use Rattle.books.specs.declared.Book.{Book}
use Rattle.books.specs.Calls.{named_as, NamedBy}

pub numbers-length : (rs : List Row) → length (numbers rs) ≡ length rs * 5
unfolding numbers
numbers-length [] = refl
numbers-length (r ∷ rs) = omega (arith, numbers-length rs)

-- as many rows as literals
rows-length : (o : ℕ) (xs : List Told) → length (literal_rows o xs) ≡ length xs
unfolding literal_rows
rows-length o [] = refl
rows-length o (x ∷ xs) = ap suc (rows-length (o + length x.bytes) xs)

-- what the numbers of a book say of the buffers
pub record NamesFound (description places rows bytes : List ℕ) (b : Book) : Type 0 where
  pub found : Table
  pub described : describe description ≡ table found
  pub known_are : known_at description b.items (take b.places places) ≡ known_of description found
  pub rows_are : take (b.literals * 5) rows ≡ numbers found.literals
  pub bytes_are : take b.bytes bytes ≡ found.bytes
  pub few_places : b.places ≤ 128
  pub within : b.items ≤ b.places
  pub there : b.places ≤ length places
  pub few_literals : b.literals ≤ 64
  pub few_bytes : b.bytes ≤ 4096
  pub short : length description ≤ 4096

module _ (text : List ℕ) (t : Table) (e : describe text ≡ table t) where
  abbrev ps : List ℕ
  ps = map (λ (e : Entry). e.named) t.entries

  abbrev cs : List ℕ
  cs = map (λ (c : Condition). c.named) t.conditions

  items-counted : length ps ≡ length t.entries
  items-counted = length-map (λ (e : Entry). e.named) t.entries

  conditions_counted : length cs ≡ length t.conditions
  conditions_counted = length-map (λ (c : Condition). c.named) t.conditions

  pub few_items : length ps ≤ 64
  few_items = omega (arith, items-counted, (within text t e).items)

  pub few_conditions : length cs ≤ 64
  few_conditions = omega (arith, conditions_counted, (within text t e).names)

  few_literals_lem : length t.literals ≤ 64
  few_literals_lem = omega (arith, ap length (within text t e).valid.literals ∙ rows-length 0 (literals_of t.conditions), (within text t e).literals)

  pub few_rows : length (numbers t.literals) ≤ 320
  few_rows = omega (arith, numbers-length t.literals, few_literals_lem)

  -- places of both, one after the other
  known-found : (rest : List ℕ) → known_at text (length t.entries) (take (length t.entries + length t.conditions) (ps ++ cs ++ rest)) ≡ known_of text t
  known-found rest =
      let n : length (ps ++ cs) ≡ length t.entries + length t.conditions = omega (arith, length-append ps cs, items-counted, conditions_counted) in
      let a : take (length t.entries) (ps ++ cs) ≡ ps = take_at ps cs (length t.entries) items-counted in
      let b : drop (length t.entries) (ps ++ cs) ≡ cs = drop_at ps cs (length t.entries) items-counted in
      ap (known_at text (length t.entries)) (take_at (ps ++ cs) rest _ n) ∙ ap₂ (λ (us vs : List ℕ). known_by (names_at text us) (names_at text vs)) a b

  book-given : {places rows bytes : List ℕ} (b : Book) (lent-places lent_rows lent-bytes : List ℕ) → Ok b ≡ named_as (table t)
      → places ≡ written_over (ps ++ cs) lent-places → rows ≡ written_over (numbers t.literals) lent_rows → bytes ≡ written_over t.bytes lent-bytes
      → NamesFound text places rows bytes b
  book-given b lent-places lent_rows lent-bytes q w x y =
      let others = drop (length (ps ++ cs)) lent-places in
      let z : b ≡ (record {
        items = length t.entries;
        places = length t.entries + length t.conditions;
        literals = length t.literals;
        bytes = length t.bytes;
      }) = cc in
      rw z
      record {
        found = t;
        described = e;
        known_are = rw w (known-found others);
        rows_are = rw x (take_at (numbers t.literals) (drop (length (numbers t.literals)) lent_rows) _ (numbers-length t.literals));
        bytes_are = rw y (take-append_seam t.bytes (drop (length t.bytes) lent-bytes));
        few_places = omega (arith, items-counted, conditions_counted, few_items, few_conditions);
        within = omega arith;
        there = omega (arith, ap length w, length-append (ps ++ cs) others, length-append ps cs, items-counted, conditions_counted);
        few_literals = few_literals_lem;
        few_bytes = few_bytes text t e;
        short = (within text t e).short;
      }

-- the description's names and literals are those of its table
module _ {description lent-places lent_rows lent-bytes : List ℕ} (d : Result Book ℕ) {places rows bytes : List ℕ}
    (N : NamedBy description lent-places lent_rows lent-bytes d places rows bytes) where
  pub book-found : {b : Book} → d ≡ Ok b → NamesFound description places rows bytes b
  book-found {b} e = by (describe description) refl
    where
      by : (o : Outcome) → describe description ≡ o → NamesFound description places rows bytes b
      by (table t) h =
          let q : Ok b ≡ named_as (table t) = sym e ∙ N.answered ∙ ap named_as h in
          book-given description t h b lent-places lent_rows lent-bytes q (N.places_written ∙ rw h) (N.rows_written ∙ rw h) (N.bytes_written ∙ rw h)
      by (refusal p) h =
          let q : ◌≡◌ {A = Result Book ℕ} (Ok b) (Err p) = sym e ∙ N.answered ∙ ap named_as h in
          let z : ◌≡◌ {A = ℕ} 0 1 = cc in absurd (omega arith)

  pub book_refused : {p : ℕ} → d ≡ Err p → describe description ≡ refusal p
  book_refused {p} e = by (describe description) refl
    where
      by : (o : Outcome) → describe description ≡ o → describe description ≡ refusal p
      by (table t) h =
          let q : Err p ≡ named_as (table t) = sym e ∙ N.answered ∙ ap named_as h in
          let z : ◌≡◌ {A = ℕ} 0 1 = cc in absurd (omega arith)
      by (refusal u) h =
          let q : ◌≡◌ {A = Result Book ℕ} (Err p) (Err u) = sym e ∙ N.answered ∙ ap named_as h in
          let z : u ≡ p = cc in h ∙ ap refusal z

  pub places-listed : {b : Book} → d ≡ Ok b → Listed b.items (take b.places places)
  places-listed {b} e =
      let F = book-found e in
      let l = length-take-le b.places places F.there in
      record { few = omega (arith, l, F.few_places); within = omega (arith, l, F.within) }
