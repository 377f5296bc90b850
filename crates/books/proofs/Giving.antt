-- What is read, given where there is room.
use mathlib.Core.Path.{◌≡◌, refl, sym, ap, ◌∙◌, subst}
use mathlib.Core.Bool.{Bool, true, false, cond, ◌&&◌}
use mathlib.Core.List.{List, []}
use Prim.Native.Nat.{ℕ, ◌*◌, ◌≤◌, ◌<◌}
use native.Mathlib.Omega.{arith}
use lib.Dec.{eqb, leb}
use lib.ListN.{length, take}
use borrow.Author.Tests.{le-leb, lt-leb}
use Rattle.spelling.specs.Reading.{Reading, refused, reading, read_after, read_condition}
use Rattle.description.specs.Limits.{Outcome}
use Rattle.spelling.specs.Names.{Book, book_of}
use Rattle.naming.specs.Named.{known_at}
use Rattle.literal_bytes.specs.Written.{written_over}
use Rattle.lexer.specs.declared.Gathered.{Gathered}
use Rattle.lexer.specs.declared.Fault.{Fault}
use Rattle.lexer.specs.Gathers.{book_in, Lexes}
use Rattle.std.specs.Prelude.{Result, Ok, Err}
use Rattle.books.specs.declared.Counts.{Counts}
use Rattle.books.specs.declared.ReadRefusal.{ReadRefusal}
use Rattle.books.specs.declared.ReadRefusal.TheVariants.{TokenCount, Room}
use Rattle.books.specs.declared.Book.{Book as Found-book}
use Rattle.books.specs.Calls.{refused_as, output_of, counted, ReadAs, NamedBy}
use Rattle.books.proofs.Finding.{book-found, book_refused}

-- n tokens, v numbers of rows and k bytes
module _ (t r b tokens literals content : List ℕ) (n v k : ℕ) (en : n ≡ length t) (ev : v ≡ length r) (ek : k ≡ length b) where
  abbrev Gives : Result Counts ReadRefusal → List ℕ → List ℕ → List ℕ → Type 0
  Gives answer x y z = ReadAs (counted t r b) tokens literals content answer x y z

  pub not_counted : leb 1 n && leb n 256 ≡ false → Gives (Err TokenCount) tokens literals content
  not_counted e = rw (rw en at e) record { answered = refl; tokens_written = refl; literals_written = refl; content_written = refl }

  module _ (e : leb 1 n && leb n 256 ≡ true) where
    counted_so : leb 1 (length t) && leb (length t) 256 ≡ true
    counted_so = rw en at e

    pub no_tokens : length tokens < n → Gives (Err (Room n)) tokens literals content
    no_tokens h =
        let a = lt-leb (length t) (length tokens) (omega (arith, en)) in
        rw (counted_so, en) record { answered = rw a; tokens_written = refl; literals_written = refl; content_written = refl }

    module _ (h : n ≤ length tokens) where
      first : leb (length t) (length tokens) ≡ true
      first = le-leb (length t) (length tokens) (omega (arith, en))

      pub no_rows : length literals < v → Gives (Err (Room v)) tokens literals content
      no_rows g =
          let a = lt-leb (length r) (length literals) (omega (arith, ev)) in
          rw (counted_so, ev) record { answered = rw (first, a); tokens_written = refl; literals_written = refl; content_written = refl }

      module _ (g : v ≤ length literals) where
        second : leb (length r) (length literals) ≡ true
        second = le-leb (length r) (length literals) (omega (arith, ev))

        pub no_bytes : length content < k → Gives (Err (Room k)) tokens literals content
        no_bytes l =
            let a = lt-leb (length b) (length content) (omega (arith, ek)) in
            rw (counted_so, ek) record { answered = rw (first, second, a); tokens_written = refl; literals_written = refl; content_written = refl }

        pub all-given : {x y z : List ℕ} → k ≤ length content → x ≡ written_over t tokens → y ≡ written_over r literals → z ≡ written_over b content
            → Gives (Ok (record { tokens = n; literals = v; bytes = k })) x y z
        all-given l p q s =
            let a = le-leb (length b) (length content) (omega (arith, ek)) in
            rw (counted_so, en, ev, ek) record { answered = rw (first, second, a); tokens_written = p; literals_written = q; content_written = s }

-- what was gathered is the reading
module _ {book : Book} {text tokens₀ rows₀ bytes₀ tokens rows bytes : List ℕ} (x : Result Gathered Fault)
    (L : Lexes book text tokens₀ rows₀ bytes₀ x tokens rows bytes) where
  pub whole_sizes : {g : Gathered} → x ≡ Ok g → (g.tokens ≤ 2048) × (g.literals ≤ 64) × (g.bytes ≤ 6144)
  whole_sizes e = let H = (subst (λ (y : Result Gathered Fault). Lexes book text tokens₀ rows₀ bytes₀ y tokens rows bytes) e L).gives in (H.few_tokens, H.few_literals, H.few_bytes)

  pub whole_reading : {g : Gathered} → x ≡ Ok g → counted (take g.tokens tokens) (take (g.literals * 5) rows) (take g.bytes bytes) ≡ reading book text
  unfolding reading
  whole_reading e =
      let H = (subst (λ (y : Result Gathered Fault). Lexes book text tokens₀ rows₀ bytes₀ y tokens rows bytes) e L).gives in
      rw (H.faultless, ← H.tokens_are, ← H.rows_are, ← H.bytes_are)

  pub fault-reading : {f : Fault} → x ≡ Err f → refused f.number f.place ≡ reading book text
  unfolding reading
  fault-reading e = let f = (subst (λ (y : Result Gathered Fault). Lexes book text tokens₀ rows₀ bytes₀ y tokens rows bytes) e L).gives.faulty in rw f

-- a refusal changes no output
pub refused_reading : {R : Reading} {number place : ℕ} {r : ReadRefusal} {tokens literals content : List ℕ} → refused number place ≡ R → r ≡ refused_as number place
    → ReadAs R tokens literals content (Err r) tokens literals content
refused_reading e f = rw (← e, f) record { answered = refl; tokens_written = refl; literals_written = refl; content_written = refl }

pub as_reading : {R S : Reading} {tokens literals content x y z : List ℕ} {answer : Result Counts ReadRefusal} → R ≡ S → ReadAs R tokens literals content answer x y z → ReadAs S tokens literals content answer x y z
as_reading e r = rw (← e) r

-- the reading by the book that was found
module _ {description lent-places lent_rows lent-bytes : List ℕ} (d : Result Found-book ℕ) {places rows bytes : List ℕ}
    (N : NamedBy description lent-places lent_rows lent-bytes d places rows bytes) (condition : List ℕ) where
  pub named-reading : {b : Found-book} → d ≡ Ok b
      → reading (book_in (known_at description b.items (take b.places places)) b.literals b.bytes rows bytes) condition ≡ read_condition description condition
  named-reading {b} e =
      let F = book-found d N e in
      let t = F.found in
      let same : book_in (known_at description b.items (take b.places places)) b.literals b.bytes rows bytes ≡ book_of description t = rw (F.known_are, F.rows_are, F.bytes_are) in
      ap (λ (x : Book). reading x condition) same ∙ sym (ap (λ (o : Outcome). read_after description o condition) F.described)

  pub undescribed_reading : {p : ℕ} → d ≡ Err p → refused 14 p ≡ read_condition description condition
  undescribed_reading e = sym (ap (λ (o : Outcome). read_after description o condition) (book_refused d N e))
