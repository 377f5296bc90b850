-- Refusals of the printer, in their order.
use mathlib.Core.Path.{◌≡◌, refl, sym, ap, ap₂, ◌∙◌, subst}
use mathlib.Core.Bool.{Bool, true, false, cond, ◌&&◌}
use mathlib.Core.List.{List, [], ◌∷◌}
use Prim.Native.Nat.{ℕ, zero, suc, ◌+◌, ◌-◌, ◌/◌, ◌≤◌, ◌<◌}
use native.Mathlib.Omega.{arith}
use native.Mathlib.Decide.{ℕ_discrete}
use lib.Dec.{eqb, leb, ltb}
use lib.ListN.{length, get_or, take}
use borrow.Author.Tests.{leb-true, lt-ltb, le-ltb, le-leb, lt-leb, ltb-true, ltb-false}
use Rattle.tables.specs.declared.Refusal.{Refusal}
use Rattle.tables.specs.declared.Refusal.TheVariants.{LiteralTable, LiteralRow, TokenCount as WrongCount, Token, Room as Short}
use Rattle.tables.specs.Rows.{row_count, row_at}
use Rattle.tables.specs.Operands.{lend}
use Rattle.tables.specs.Refusals.{number, place, first_failing, first_of, unless, Check}
use Rattle.tables.specs.Tables.{length_sound, literal_sound, table_lines, literal_table_check, literal_row_check, token_count_check}
use Rattle.description.specs.Limits.{Outcome}
use Rattle.spelling.specs.Names.{Known}
use Rattle.naming.specs.Named.{known_at}
use Rattle.spelling.specs.Reading.{Found, none, refusal, before}
use Rattle.spelling.specs.Printing.{Print, text, refused, found, first_token, printable, has_name, printed, print_result, printing, print_after, print_condition}
use Rattle.naming.proofs.Finding.{items-length, conditions_length}
use Rattle.printer.proofs.Wording.{item_row_lem, condition_there}
use Rattle.printable.specs.Passing.{passing, may_print, AllThere}
use Rattle.printer.specs.Prints.{Printable, AllPrintable}
use Rattle.literal_bytes.specs.Written.{written_over}
use Rattle.std.specs.Prelude.{Result, Ok, Err}
use Rattle.books.specs.declared.PrintRefusal.{PrintRefusal}
use Rattle.books.specs.declared.PrintRefusal.TheVariants.{Refused}
use Rattle.books.specs.declared.Book.{Book}
use Rattle.books.specs.Calls.{unprinted_as, PrintedAs, Sized, NamedBy}
use Rattle.books.proofs.Finding.{book-found, book_refused}

one_more : (a b : ℕ) → ltb (suc a) (suc b) ≡ ltb a b
one_more a b = by (ltb a b) refl
  where
    by : (t : Bool) → ltb a b ≡ t → ltb (suc a) (suc b) ≡ t
    by true e = lt-ltb (suc a) (suc b) (omega (arith, ltb-true a b e))
    by false e = le-ltb (suc a) (suc b) (omega (arith, ltb-false a b e))

-- the first token that fails, by how many pass
first_token_lem : (test : ℕ → Bool) (n at : ℕ) (ts : List ℕ) → first_token test n at ts ≡ cond (ltb (passing test ts) (length ts)) (refusal n (at + passing test ts)) none
unfolding first_token passing
first_token_lem test n at [] = refl
first_token_lem test n at (t ∷ ts) = by (test t) (first_token_lem test n (suc at) ts)
  where
    by : (b : Bool) → first_token test n (suc at) ts ≡ cond (ltb (passing test ts) (length ts)) (refusal n (suc at + passing test ts)) none
        → cond b (first_token test n (suc at) ts) (refusal n at)
        ≡ cond (ltb (cond b (suc (passing test ts)) 0) (suc (length ts))) (refusal n (at + cond b (suc (passing test ts)) 0)) none
    by true h = let z : suc at + passing test ts ≡ at + suc (passing test ts) = omega arith in rw (one_more (passing test ts) (length ts)) (rw z at h)
    by false h = let z : at + 0 ≡ at = omega arith in rw (lt-ltb 0 (suc (length ts)) (omega arith), z)

none_fails : (test : ℕ → Bool) (n : ℕ) (ts : List ℕ) → length ts ≤ passing test ts → first_token test n 0 ts ≡ none
none_fails test n ts h = first_token_lem test n 0 ts ∙ rw (le-ltb (passing test ts) (length ts) h)

some_fails : (test : ℕ → Bool) (n : ℕ) (ts : List ℕ) → passing test ts < length ts → first_token test n 0 ts ≡ refusal n (passing test ts)
some_fails test n ts h =
    let z : 0 + passing test ts ≡ passing test ts = omega arith in
    first_token_lem test n 0 ts ∙ rw (lt-ltb (passing test ts) (length ts) h, z)

passes_each : (test : ℕ → Bool) (ts : List ℕ) → length ts ≤ passing test ts → (i : ℕ) → i < length ts → test (get_or ts i 0) ≡ true
unfolding passing
passes_each test [] h i l = absurd (omega arith)
passes_each test (t ∷ ts) h i l = by (test t) refl h i l (passes_each test ts)
  where
    by : (b : Bool) → test t ≡ b → suc (length ts) ≤ cond b (suc (passing test ts)) 0 → (i : ℕ) → i < suc (length ts)
        → (length ts ≤ passing test ts → (i : ℕ) → i < length ts → test (get_or ts i 0) ≡ true) → test (get_or (t ∷ ts) i 0) ≡ true
    by true e h zero l rec = e
    by true e h (suc i) l rec = rec (omega arith) i (omega arith)
    by false e h i l rec = absurd (omega arith)

-- no row fails
each_sound : (test : ℕ → Bool) (f : ℕ → Refusal) (at n : ℕ) → first_failing test f at n ≡ Ok tt → (v : ℕ) → at ≤ v → v < at + n → test v ≡ true
unfolding first_failing
each_sound test f at zero e v h l = absurd (omega arith)
each_sound test f at (suc n) e v h l = by (test at) refl e (ℕ_discrete v at) (each_sound test f (suc at) n)
  where
    by : (b : Bool) → test at ≡ b → cond b (first_failing test f (suc at) n) (Err (f at)) ≡ Ok tt → Dec (v ≡ at)
        → (first_failing test f (suc at) n ≡ Ok tt → (v : ℕ) → suc at ≤ v → v < suc at + n → test v ≡ true) → test v ≡ true
    by true q e (yes z) rec = rw z q
    by true q e (no z) rec = rec e v (omega arith) (omega arith)
    by false q e d rec = let z : ◌≡◌ {A = ℕ} 0 1 = cc in absurd (omega arith)

-- the rows' line refuses by a row's number
row_refusal : (test : ℕ → Bool) (at n : ℕ) (r : Refusal) → first_failing test LiteralRow at n ≡ Err r → Refused r ≡ unprinted_as (number r) (place r)
unfolding first_failing
row_refusal test at zero r e = let z : ◌≡◌ {A = ℕ} 0 1 = cc in absurd (omega arith)
row_refusal test at (suc n) r e = by (test at) e (row_refusal test (suc at) n r)
  where
    by : (b : Bool) → cond b (first_failing test LiteralRow (suc at) n) (Err (LiteralRow at)) ≡ Err r
        → (first_failing test LiteralRow (suc at) n ≡ Err r → Refused r ≡ unprinted_as (number r) (place r)) → Refused r ≡ unprinted_as (number r) (place r)
    by true e rec = rec e
    by false e rec = let z : LiteralRow at ≡ r = cc in subst (λ (x : Refusal). Refused x ≡ unprinted_as (number x) (place x)) z refl

module _ (known : Known) (rows content tokens : List ℕ) where
  abbrev later : Found
  later = before (first_token (printable known rows) 6 0 tokens) (first_token (has_name known) 16 0 tokens)

  -- 3 and 4
  pub tables_refuse : {r : Refusal} → first_of (table_lines (lend [] rows content)) ≡ Err r
      → (printing known rows content tokens ≡ refused (number r) (place r)) × (Refused r ≡ unprinted_as (number r) (place r))
  unfolding printing first_of first_failing
  tables_refuse {r} e = by (length_sound rows) refl (literal_row_check (lend [] rows content)) refl e
    where
      by : (b : Bool) → length_sound rows ≡ b → (c : Check) → literal_row_check (lend [] rows content) ≡ c
          → first_of (unless b LiteralTable ∷ c ∷ []) ≡ Err r
          → (print_result (before (found (unless (length_sound rows) LiteralTable)) (before (found (literal_row_check (lend [] rows content))) (before (found
          (token_count_check tokens)) later))) (printed known rows content tokens)
          ≡ refused (number r) (place r)) × (Refused r ≡ unprinted_as (number r) (place r))
      by false l c q e = let z : LiteralTable ≡ r = cc in subst (λ (x : Refusal).
          (print_result (before (found (unless (length_sound rows) LiteralTable)) (before (found (literal_row_check (lend [] rows content))) (before (found
          (token_count_check tokens)) later))) (printed known rows content tokens)
          ≡ refused (number x) (place x)) × (Refused x ≡ unprinted_as (number x) (place x))) z (rw l, refl)
      by true l (Ok _) q e = let z : ◌≡◌ {A = ℕ} 0 1 = cc in absurd (omega arith)
      by true l (Err x) q e =
          let z : x ≡ r = cc in
          (rw (l, q, z), row_refusal (λ v. literal_sound content (row_at rows v)) 0 (row_count rows) r (q ∙ ap Err z))

  pub tables_sound : first_of (table_lines (lend [] rows content)) ≡ Ok tt
      → (literal_table_check (lend [] rows content) ≡ Ok tt) × (literal_row_check (lend [] rows content) ≡ Ok tt)
  unfolding first_of first_failing
  tables_sound e = by (length_sound rows) refl (literal_row_check (lend [] rows content)) refl e
    where
      by : (b : Bool) → length_sound rows ≡ b → (c : Check) → literal_row_check (lend [] rows content) ≡ c → first_of (unless b LiteralTable ∷ c ∷ []) ≡ Ok tt
          → (unless (length_sound rows) LiteralTable ≡ Ok tt) × (literal_row_check (lend [] rows content) ≡ Ok tt)
      by true l (Ok _) q e = (rw l, q)
      by true l (Err x) q e = let z : ◌≡◌ {A = ℕ} 0 1 = cc in absurd (omega arith)
      by false l c q e = let z : ◌≡◌ {A = ℕ} 0 1 = cc in absurd (omega arith)

  module _ (table-fine : literal_table_check (lend [] rows content) ≡ Ok tt) (rows-fine : literal_row_check (lend [] rows content) ≡ Ok tt) where
    -- 5
    pub count_refuses : {r : Refusal} → token_count_check tokens ≡ Err r
        → (printing known rows content tokens ≡ refused (number r) (place r)) × (Refused r ≡ unprinted_as (number r) (place r))
    unfolding printing
    count_refuses {r} e = (rw (table-fine, rows-fine, e), by (leb 1 (length tokens) && leb (length tokens) 256) e)
      where
        by : (b : Bool) → unless b WrongCount ≡ Err r → Refused r ≡ unprinted_as (number r) (place r)
        by true e = let z : ◌≡◌ {A = ℕ} 0 1 = cc in absurd (omega arith)
        by false e = let z : WrongCount ≡ r = cc in subst (λ (x : Refusal). Refused x ≡ unprinted_as (number x) (place x)) z refl

    module _ (count-fine : token_count_check tokens ≡ Ok tt) where
      -- 6
      pub token_refuses : passing (printable known rows) tokens < length tokens
          → printing known rows content tokens ≡ refused 6 (passing (printable known rows) tokens)
      unfolding printing
      token_refuses h = rw (table-fine, rows-fine, count-fine, some_fails (printable known rows) 6 tokens h)

      module _ (there : length tokens ≤ passing (printable known rows) tokens) where
        -- 16
        pub name_refuses : passing (has_name known) tokens < length tokens
            → printing known rows content tokens ≡ refused 16 (passing (has_name known) tokens)
        unfolding printing
        name_refuses h =
            rw (table-fine, rows-fine, count-fine, none_fails (printable known rows) 6 tokens there, some_fails (has_name known) 16 tokens h)

        pub prints : length tokens ≤ passing (has_name known) tokens → printing known rows content tokens ≡ text (printed known rows content tokens)
        unfolding printing
        prints h =
            rw (table-fine, rows-fine, count-fine, none_fails (printable known rows) 6 tokens there, none_fails (has_name known) 16 tokens h)

-- tokens that the printer may write
module _ {description : List ℕ} {items : ℕ} {places rows content tokens : List ℕ} (S : Sized description items places rows content tokens)
    (there : length tokens ≤ passing (printable (known_at description items places) rows) tokens) where
  abbrev known : Known
  known = known_at description items places

  pub some-tokens : (1 ≤ length tokens) × (length tokens ≤ 256)
  some-tokens = by (leb 1 (length tokens)) refl (leb (length tokens) 256) refl S.count_sound
    where
      by : (a : Bool) → leb 1 (length tokens) ≡ a → (b : Bool) → leb (length tokens) 256 ≡ b → unless (a && b) WrongCount ≡ Ok tt → (1 ≤ length tokens) × (length tokens ≤ 256)
      by true p true q e = (leb-true _ _ p, leb-true _ _ q)
      by true p false q e = let z : ◌≡◌ {A = ℕ} 0 1 = cc in absurd (omega arith)
      by false p b q e = let z : ◌≡◌ {A = ℕ} 0 1 = cc in absurd (omega arith)

  printable_at : (i : ℕ) → i < length tokens → Printable description items places rows content (get_or tokens i 0)
  printable_at i h =
      record {
        there = passes_each (printable known rows) tokens there i h;
        sound = λ v l. each_sound (λ v. literal_sound content (row_at rows v)) LiteralRow 0 (row_count rows) S.rows_sound v (omega arith) (omega arith);
        listed = S.listed.within;
      }

  pub all_printable : AllPrintable description items places rows content tokens
  all_printable = record { short = S.short; few = some-tokens.1; each = printable_at }

  -- the token of a name has a place
  pub names_there : AllThere items places tokens
  names_there i h =
      let t : ℕ = get_or tokens i 0 in
      let P = printable_at i h in
      record { item = item_row_lem description items places rows content t P; condition = condition_there description items places rows content t P }

-- by the numbers of names
pub missing_same : (description : List ℕ) (items : ℕ) (places rows tokens : List ℕ) → items ≤ length places
    → passing (may_print items (length rows / 5) (length places - items)) tokens ≡ passing (printable (known_at description items places) rows) tokens
missing_same description items places rows tokens h =
    ap₂ (λ (n m : ℕ). passing (may_print n (length rows / 5) m) tokens) (sym (items-length description items places h)) (sym (conditions_length description items places))

-- answers
pub refused_print : {P : Print} {n p : ℕ} {r : PrintRefusal} {before : List ℕ} → P ≡ refused n p → r ≡ unprinted_as n p → PrintedAs P before (Err r) before
refused_print e f = rw (e, f) record { answered = refl; written = refl }

module _ {P : Print} {t out : List ℕ} (e : P ≡ text t) {size : ℕ} (q : size ≡ length t) where
  pub no_room : length out < size → PrintedAs P out (Err (Refused (Short size))) out
  no_room h =
      let a = lt-leb (length t) (length out) (omega (arith, q)) in
      rw (e, q) record { answered = rw a; written = refl }

  pub all_room : {after : List ℕ} → size ≤ length out → after ≡ written_over t out → PrintedAs P out (Ok size) after
  all_room h w =
      let a = le-leb (length t) (length out) (omega (arith, q)) in
      rw (e, q) record { answered = rw a; written = w }

pub as_print : {P Q : Print} {out after : List ℕ} {answer : Result ℕ PrintRefusal} → P ≡ Q → PrintedAs P out answer after → PrintedAs Q out answer after
as_print e r = rw (← e) r

module _ {description lent-places lent_rows lent-bytes : List ℕ} (d : Result Book ℕ) {places table-rows table-bytes : List ℕ}
    (N : NamedBy description lent-places lent_rows lent-bytes d places table-rows table-bytes) (rows content tokens : List ℕ) where
  pub named_print : {b : Book} → d ≡ Ok b
      → printing (known_at description b.items (take b.places places)) rows content tokens ≡ print_condition description rows content tokens
  named_print {b} e =
      let F = book-found d N e in
      ap (λ (known : Known). printing known rows content tokens) F.known_are
      ∙ sym (ap (λ (o : Outcome). print_after description o rows content tokens) F.described)

  pub undescribed_print : {p : ℕ} → d ≡ Err p → print_condition description rows content tokens ≡ refused 14 p
  undescribed_print e = ap (λ (o : Outcome). print_after description o rows content tokens) (book_refused d N e)
