-- The literal that the reader of descriptions has of a word is the one that request e)'s definitions read from it.
use mathlib.Core.Path.{◌≡◌, refl, sym, ap, subst, ◌∙◌}
use mathlib.Core.Logic.{◌⊎◌, inl, inr}
use mathlib.Core.Bool.{Bool, true, false, cond, not, ◌&&◌, ◌||◌, or-false}
use mathlib.Core.Option
use mathlib.Core.Option.{Option, none, some}
use mathlib.Core.List.{List, [], ◌∷◌, ◌++◌, append-nil}
use Prim.Native.Nat.{ℕ, zero, suc, ◌+◌, ◌-◌, ◌≤◌, ◌<◌}
use native.Mathlib.Omega.{arith}
use borrow.Author.Tests.{eqb-true, leb-true}
use lib.Dec.{eqb, leb}
use lib.ListN.{length, get_or, take, drop, length-append}
use lib.Seq.{get_or-append-add, take-append_seam}
use Rattle.content.specs.Content as C
use Rattle.content.specs.WrongByte.{valid_content}
use Rattle.content.proofs.WrongByte.{valid_digits, valid_leading, valid_other}
use Rattle.tables.specs.Rows.{row_sound}
use Rattle.content.specs.declared.Row.{Row}
use Rattle.description.specs.Grammar.{is_digit, is_sign, all, same, Literal, literal, literal_row, digit_count, Digits, Quoted, Spells}
use Rattle.description.specs.Reader.{is_some, read_literal}
use Rattle.description.specs.Stages.{is_literal}
use Rattle.description.specs.Limits.{ruled, unfit, literal_side, above}
use Rattle.description.proofs.Bytes.{apart, and_both, and_join, is_some_lem, eqb_no, eqb_same, same_refl}
use Rattle.description.proofs.Literals.{literal-read}
use Rattle.values.specs.Comparison.{side, comparison}
use Rattle.compare.specs.Order.{is_greater}
use Rattle.values.specs.Truth.{Fit}
use Rattle.spelling.specs.Words.{is_quote}
use Rattle.spelling.proofs.Accepted.{small_size}
use Rattle.spelling.proofs.Laying.{of_literal_kind}
use Rattle.spelling.specs.Literals as S
use Rattle.spelling.specs.Literals.{is_point, without_point, after_point, number_of, text_of, is_number, is_text, fits, quoted, doubled, row_of_literal}
use Rattle.literal_words.specs.Found.{number_found, text_found}
use Rattle.literal_bytes.specs.Written.{literal_by, written_over}
use Rattle.literal_words.proofs.Holding.{text_again}
use Rattle.literal_pairs.specs.Spelling.{literal_of, row_found, held_row, Written}
use Rattle.std.specs.Prelude.{None, Option as Perhaps, Some}

-- Digits have no point.
digit_point : (b : ℕ) → is_digit b ≡ true → is_point b ≡ false
digit_point b h = eqb_no b 0x2e (λ e. apart h (rw e))

digits_whole : (ds : List ℕ) → all is_digit ds ≡ true → (without_point ds ≡ ds) × (after_point ds ≡ [])
unfolding all without_point after_point
digits_whole [] h = (refl, refl)
digits_whole (b ∷ ds) h =
    let k = and_both (is_digit b) (all is_digit ds) h in
    let i = digits_whole ds k.1 in
    (rw (digit_point b k.0) (ap (λ (z : List ℕ). b ∷ z) i.0), rw (digit_point b k.0) i.1)

digits-pointed : (us vs : List ℕ) → all is_digit us ≡ true → (without_point (us ++ 0x2e ∷ vs) ≡ us ++ vs) × (after_point (us ++ 0x2e ∷ vs) ≡ vs)
unfolding all without_point after_point
digits-pointed [] vs h = (refl, refl)
digits-pointed (b ∷ us) vs h =
    let k = and_both (is_digit b) (all is_digit us) h in
    let i = digits-pointed us vs k.1 in
    (rw (digit_point b k.0) (ap (λ (z : List ℕ). b ∷ z) i.0), rw (digit_point b k.0) i.1)

pub all_digits : (ds : List ℕ) → all is_digit ds ≡ true → C.all C.is_digit ds ≡ true
unfolding all C.all
all_digits [] h = refl
all_digits (b ∷ ds) h = let k = and_both (is_digit b) (all is_digit ds) h in and_join (is_digit b) (C.all C.is_digit ds) k.0 (all_digits ds k.1)

all_both : (us vs : List ℕ) → all is_digit us ≡ true → all is_digit vs ≡ true → all is_digit (us ++ vs) ≡ true
unfolding all
all_both [] vs h k = k
all_both (b ∷ us) vs h k = let i = and_both (is_digit b) (all is_digit us) h in and_join (is_digit b) (all is_digit (us ++ vs)) i.0 (all_both us vs i.1 k)

last_digit : (ds : List ℕ) → all is_digit ds ≡ true → 0 < length ds → is_point (get_or ds (length ds - 1) 0) ≡ false
unfolding all
last_digit [] h l = absurd (omega arith)
last_digit (b ∷ []) h l = digit_point b (and_both (is_digit b) true h).0
last_digit (b ∷ c ∷ ds) h l = let z : length (b ∷ c ∷ ds) - 1 ≡ suc (length (c ∷ ds) - 1) = omega arith in rw z (last_digit (c ∷ ds) (and_both (is_digit b) (all is_digit (c ∷ ds)) h).1 (omega arith))

-- What the digits of a number are.
record Figures (w ds : List ℕ) (s : ℕ) : Type 0 where
  out : without_point w ≡ ds
  after : length (after_point w) ≡ s
  fine : all is_digit ds ≡ true
  some : 0 < length w
  last : is_point (get_or w (length w - 1) 0) ≡ false
  first : (is_digit (get_or w 0 0) ≡ true) ⊎ (get_or w 0 0 ≡ 0x2e)

figures : {w ds : List ℕ} {s : ℕ} → Digits w ds s → Figures w ds s
unfolding all
figures (Digits.whole {ds = ds} h l) =
    record { out = (digits_whole ds h).0; after = ap length (digits_whole ds h).1; fine = h; some = l; last = last_digit ds h l; first = inl (first ds h l) }
  where
    first : (ds : List ℕ) → all is_digit ds ≡ true → 0 < length ds → is_digit (get_or ds 0 0) ≡ true
    first [] h l = absurd (omega arith)
    first (b ∷ ds) h l = (and_both (is_digit b) (all is_digit ds) h).0
figures (Digits.pointed us vs h k l) =
    record {
      out = (digits-pointed us vs h).0;
      after = ap length (digits-pointed us vs h).1;
      fine = all_both us vs h k;
      some = omega (arith, length-append us (0x2e ∷ vs));
      last =
          let z : length (us ++ 0x2e ∷ vs) - 1 ≡ length us + suc (length vs - 1) = omega (arith, length-append us (0x2e ∷ vs)) in
          rw (z, get_or-append-add us (0x2e ∷ vs) (suc (length vs - 1)) 0) (last_digit vs k l);
      first = first us h;
    }
  where
    first : (us : List ℕ) → all is_digit us ≡ true → (is_digit (get_or (us ++ 0x2e ∷ vs) 0 0) ≡ true) ⊎ (get_or (us ++ 0x2e ∷ vs) 0 0 ≡ 0x2e)
    first [] h = inr refl
    first (b ∷ us) h = inl (and_both (is_digit b) (all is_digit us) h).0

-- A word that writes a number.
pub record Numbers (w : List ℕ) (x : Literal) : Type 0 where
  pub kinds : cond (is_sign (get_or w 0 0)) 5 3 ≡ x.kind
  pub out : without_point w ≡ x.bytes
  pub after : length (after_point w) ≡ x.scale
  pub content : (d : ℕ) → valid_content x.kind d x.bytes ≡ true
  pub last : is_point (C.last_byte w) ≡ false
  pub plain : ¬ (get_or w 0 0 ≡ 0x22)
  pub kind : ¬ (x.kind ≡ 2)

-- A word in quotes.
pub record Quotes (w : List ℕ) (x : Literal) : Type 0 where
  pub word : w ≡ quoted x.bytes
  pub kind : x.kind ≡ 2
  pub scale : x.scale ≡ 0

quoted_is : {w bs : List ℕ} → Quoted w bs → w ≡ doubled bs ++ 0x22 ∷ []
unfolding doubled
quoted_is Quoted.close = refl
quoted_is (Quoted.plain {b = b} h q) = rw h (ap (λ (z : List ℕ). b ∷ z) (quoted_is q))
quoted_is (Quoted.doubled q) = ap (λ (z : List ℕ). 0x22 ∷ 0x22 ∷ z) (quoted_is q)

not_sign : (b : ℕ) → (is_digit b ≡ true) ⊎ (b ≡ 0x2e) → is_sign b ≡ false
not_sign b (inl h) = rw (eqb_no b 0x2b (λ e. apart h (rw e)), eqb_no b 0x2d (λ e. apart h (rw e)))
not_sign b (inr h) = rw h

not_quote : (b : ℕ) → (is_digit b ≡ true) ⊎ (b ≡ 0x2e) → ¬ (b ≡ 0x22)
not_quote b (inl h) e = apart h (rw e)
not_quote b (inr h) e = let z : ◌≡◌ {A = ℕ} 0x22 0x2e = sym e ∙ h in omega arith

sign_point : (c : ℕ) → is_sign c ≡ true → is_point c ≡ false
sign_point c h = eqb_no c 0x2e (λ e. apart h (rw e))

sign_quote : (c : ℕ) → is_sign c ≡ true → ¬ (c ≡ 0x22)
sign_quote c h e = apart h (rw e)

pub told : {w : List ℕ} {x : Literal} → Spells w x → Numbers w x ⊎ Quotes w x
unfolding without_point after_point
told (Spells.unsigned {w = w} {ds = ds} {s = s} d) =
    let f = figures d in
    inl
    (record {
      kinds = rw (not_sign (get_or w 0 0) f.first);
      out = f.out;
      after = f.after;
      content = λ n. valid_digits n ds ∙ all_digits ds f.fine;
      last = f.last;
      plain = not_quote (get_or w 0 0) f.first;
      kind = λ e. omega arith;
    })
told (Spells.signed {c = c} {s = s} {w = w} {ds = ds} h d) =
    let f = figures d in
    let z : length (c ∷ w) - 1 ≡ suc (length w - 1) = omega (arith, f.some) in
    inl
    (record {
      kinds = rw h;
      out = rw (sign_point c h, f.out);
      after = rw (sign_point c h) f.after;
      content = λ n. valid_leading n (c ∷ ds) (omega arith) ∙ rw h (all_digits ds f.fine);
      last = rw z f.last;
      plain = sign_quote c h;
      kind = λ e. omega arith;
    })
told (Spells.quoted {w = w} {bs = bs} q) = inr (record { word = ap (λ (z : List ℕ). 0x22 ∷ z) (quoted_is q); kind = refl; scale = refl })

-- The literal of a word, and what it is.
module _ (w : List ℕ) (h : is_literal w ≡ true) where
  pub read_as : read_literal w ≡ some (literal_of w)
  read_as = by (read_literal w) refl h
    where
      by : (o : Option Literal) → read_literal w ≡ o → is_some o ≡ true → o ≡ some (Option.get_or o (literal 0 [] 0))
      by none e h = apart h refl
      by (some x) e h = refl

  pub told_of : Numbers w (literal_of w) ⊎ Quotes w (literal_of w)
  told_of = told (literal-read w (literal_of w) read_as)

number_found_lem : (w : List ℕ) (x : Literal) → Numbers w x → number_found w ≡ row_found x
unfolding is_number
number_found_lem w x n = rw (n.kinds, n.out, n.after, n.content (digit_count x.kind (length x.bytes)), n.last) (by (row_sound (ruled (literal_row 0 x))))
  where
    by : (t : Bool) → cond (t && true && true) (Some (ruled (literal_row 0 x))) None ≡ cond (not t) None (Some (ruled (literal_row 0 x)))
    by true = refl
    by false = refl

abbrev pub text_row : Perhaps ℕ → Perhaps Row
text_row (Some n) = Some (held_row n)
text_row None = None

valid_text : (d : ℕ) (bytes : List ℕ) → valid_content 2 d bytes ≡ true
valid_text d bytes = valid_other 2 d bytes (λ e. omega arith) (λ e. omega arith) (λ e. omega arith) (λ e. omega arith) (λ e. omega arith) refl

text_found_lem : (bs : List ℕ) → text_row (text_found (quoted bs)) ≡ row_found (literal 2 bs 0)
unfolding is_text
text_found_lem bs =
    rw (text_again bs, same_refl (quoted bs), valid_text 0 bs) (by (row_sound (held_row (length bs))))
  where
    by : (t : Bool) → text_row (cond (t && true) (Some (length bs)) None) ≡ cond (not t) None (Some (held_row (length bs)))
    by true = refl
    by false = refl

quotes_as : (w : List ℕ) (x : Literal) → Quotes w x → text_row (text_found w) ≡ row_found x
quotes_as w x q =
    let e : x ≡ literal 2 x.bytes 0 = literal_as x q.kind q.scale in
    rw q.word (text_found_lem x.bytes ∙ ap row_found (sym e))
  where
    literal_as : (x : Literal) → x.kind ≡ 2 → x.scale ≡ 0 → x ≡ literal 2 x.bytes 0
    literal_as x k s = let i : x ≡ literal x.kind x.bytes x.scale = refl in i ∙ rw (k, s)

module _ (w : List ℕ) (h : is_literal w ≡ true) where
  pub in_quotes : get_or w 0 0 ≡ 0x22 → text_row (text_found w) ≡ row_found (literal_of w)
  in_quotes e = by (told_of w h)
    where
      by : Numbers w (literal_of w) ⊎ Quotes w (literal_of w) → text_row (text_found w) ≡ row_found (literal_of w)
      by (inl n) = absurd (n.plain e)
      by (inr q) = quotes_as w (literal_of w) q

  pub no_quotes : ¬ (get_or w 0 0 ≡ 0x22) → number_found w ≡ row_found (literal_of w)
  no_quotes e = by (told_of w h)
    where
      by : Numbers w (literal_of w) ⊎ Quotes w (literal_of w) → number_found w ≡ row_found (literal_of w)
      by (inl n) = number_found_lem w (literal_of w) n
      by (inr q) = absurd (e (rw q.word))

-- a literal that is held has at most 256 bytes
pub held_small : (w : List ℕ) (n : ℕ) → text_found w ≡ Some n → n ≤ 256
unfolding is_text
held_small w n e =
    by (same w (quoted (text_of w).bytes)) (row_sound (held_row (length (text_of w).bytes))) (valid_content 2 0 (text_of w).bytes) refl e
  where
    small : (m : ℕ) → row_sound (held_row m) ≡ true → m ≤ 256
    small m h = leb-true m 256 (and_both (leb 1 m) (leb m 256) (and_both (leb 1 m && leb m 256) true (and_both (leb 1 m && leb m 256 && true) true (rw or-false at h)).0).0).1

    by : (a t v : Bool) → row_sound (held_row (length (text_of w).bytes)) ≡ t → cond (a && (t && v)) (Some (length (text_of w).bytes)) None ≡ Some n → n ≤ 256
    by true true true h e = let i : length (text_of w).bytes ≡ n = cc in rw i at (small (length (text_of w).bytes) h)
    by true true false h e = let z : ◌≡◌ {A = ℕ} 0 1 = cc in absurd (omega arith)
    by true false v h e = let z : ◌≡◌ {A = ℕ} 0 1 = cc in absurd (omega arith)
    by false t v h e = let z : ◌≡◌ {A = ℕ} 0 1 = cc in absurd (omega arith)

-- The bytes of a literal of this kind; one in quotes has both.
module _ (w : List ℕ) (h : is_literal w ≡ true) (k : ℕ) (e : k ≡ (literal_of w).kind) where
  pub literal_bytes_lem : (literal_by k w).bytes ≡ (literal_of w).bytes
  literal_bytes_lem = by (told_of w h)
    where
      by : Numbers w (literal_of w) ⊎ Quotes w (literal_of w) → (literal_by k w).bytes ≡ (literal_of w).bytes
      by (inl n) = rw (e, eqb_no (literal_of w).kind 2 n.kind) n.out
      by (inr q) =
          let f : k ≡ 2 = e ∙ q.kind in
          rw f (ap (λ (u : List ℕ). (text_of u).bytes) q.word ∙ text_again (literal_of w).bytes)

  pub literal_long : k ≡ 2 → 2 ≤ length w
  literal_long f = by (told_of w h)
    where
      by : Numbers w (literal_of w) ⊎ Quotes w (literal_of w) → 2 ≤ length w
      by (inl n) = absurd (n.kind (sym e ∙ f))
      by (inr q) = omega (arith, ap length q.word, length-append (doubled (literal_of w).bytes) (0x22 ∷ []))

-- What a written literal's row says: its bytes, how many there are, and that it is fit to be compared.
module _ (w : List ℕ) (r : Row) (t : Written w r) where
  abbrev value : Literal
  value = literal_of w

  pub written-bytes : (literal_by r.kind w).bytes ≡ value.bytes
  written-bytes = literal_bytes_lem w t.whole r.kind (ap (λ (q : Row). q.kind) t.row)

  pub written_size : r.size ≡ length value.bytes
  written_size = ap (λ (q : Row). q.size) t.row

  kinds_of_lem : of_literal_kind (record { kind = value.kind; scale = value.scale; bytes = value.bytes }) ≡ true
  kinds_of_lem = by (told_of w t.whole)
    where
      number : (s : Bool) → cond s 5 3 ≡ value.kind → of_literal_kind (record { kind = value.kind; scale = value.scale; bytes = value.bytes }) ≡ true
      number true e = rw (← e)
      number false e = rw (← e)

      by : Numbers w value ⊎ Quotes w value → of_literal_kind (record { kind = value.kind; scale = value.scale; bytes = value.bytes }) ≡ true
      by (inl n) = number (is_sign (get_or w 0 0)) n.kinds
      by (inr q) = rw q.kind

  pub written_small : length value.bytes ≤ 256
  written_small = small_size (record { kind = value.kind; scale = value.scale; bytes = value.bytes }) (rw t.row at t.sound) kinds_of_lem

  pub written_long : r.kind ≡ 2 → 2 ≤ length w
  written_long = literal_long w t.whole r.kind (ap (λ (q : Row). q.kind) t.row)

  pub written_fit : (bs : List ℕ) → bs ≡ value.bytes → Fit (side false r bs)
  written_fit bs e = record { sound = t.sound; sized = rw e (sym written_size) }

  -- its bytes, written over the start of a buffer
  pub written_over_lem : (before : List ℕ) {after : List ℕ} → after ≡ written_over (literal_by r.kind w).bytes before → (r.size ≤ length after) × (take r.size after ≡ value.bytes)
  written_over_lem before {after} e =
      let f : after ≡ value.bytes ++ drop (length value.bytes) before = e ∙ ap (λ (b : List ℕ). written_over b before) written-bytes in (
        omega (arith, written_size, ap length f, length-append value.bytes (drop (length value.bytes) before)),
        rw (written_size, f) (take-append_seam value.bytes (drop (length value.bytes) before)),
      )

  pub written-room : (to : ℕ) → 256 ≤ to → (r.kind ≡ 2 → 2 ≤ length w) × (length (literal_by r.kind w).bytes ≤ to)
  written-room to l = (written_long, omega (arith, ap length written-bytes, written_small))

-- Which of two comes later, by their bytes.
pub above_by : (v w : List ℕ) (q r : Row) → Written v q → Written w r → (a b : List ℕ) → a ≡ (literal_of v).bytes → b ≡ (literal_of w).bytes →
    is_greater (comparison (side false q a) (side false r b)) ≡ above (literal_of v) (literal_of w)
above_by v w q r s t a b e f = rw (s.row, t.row, e, f)
