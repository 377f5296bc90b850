-- Literals as a description writes them: within 01's limits where no limit bars them, and no longer than their words.
use mathlib.Core.Path.{◌≡◌, refl, sym, ap, ◌∙◌}
use mathlib.Core.Bool.{Bool, true, false, not, ◌&&◌, ◌||◌}
use mathlib.Core.List.{List, [], ◌∷◌, ◌++◌}
use Prim.Native.Nat.{ℕ, zero, suc, ◌+◌, ◌≤◌, ◌<◌}
use native.Mathlib.Omega.{arith}
use lib.ListN.{length, get_or, length-append}
use borrow.Author.Tests.{not-false}
use Rattle.content.specs.Content as C
use Rattle.content.specs.WrongByte.{valid_content}
use Rattle.content.proofs.WrongByte.{valid_digits, valid_leading, valid_other}
use Rattle.tables.specs.Rows.{row_sound}
use Rattle.tables.proofs.Tests.{both, and_both}
use Rattle.description.specs.Grammar.{all, is_digit, is_sign, Word, Parted, Digits, Quoted, Spells, Literal as Told, Value, single, range, literals}
use Rattle.description.specs.Grammar.{Values, Condition, Names, Entry, Entries, Row, literal_row, literals_of, literal_bytes}
use Rattle.description.specs.Limits.{ruled, unfit, comparable, barred_alone, unlike, above, any_barred}
use Rattle.description.proofs.Keeping.{or_no}
use Rattle.spelling.specs.Literals.{Literal, fits}
use Rattle.spelling.proofs.Laying.{of_literal_kind}

-- a literal of a description as one of a condition text
abbrev pub given : Told → Literal
given x = record { kind = x.kind; scale = x.scale; bytes = x.bytes }

all_digits : (ds : List ℕ) → all is_digit ds ≡ true → C.all C.is_digit ds ≡ true
unfolding all C.all
all_digits [] h = refl
all_digits (b ∷ ds) h = let k = both (is_digit b) (all is_digit ds) h in and_both (is_digit b) (C.all C.is_digit ds) k.0 (all_digits ds k.1)

all_join : (us vs : List ℕ) → all is_digit us ≡ true → all is_digit vs ≡ true → all is_digit (us ++ vs) ≡ true
unfolding all
all_join [] vs h k = k
all_join (b ∷ us) vs h k = let i = both (is_digit b) (all is_digit us) h in and_both (is_digit b) (all is_digit (us ++ vs)) i.0 (all_join us vs i.1 k)

figures : {w ds : List ℕ} {s : ℕ} → Digits w ds s → (C.all C.is_digit ds ≡ true) × (length ds ≤ length w)
figures (Digits.whole {ds = ds} h l) = (all_digits ds h, omega arith)
figures (Digits.pointed us vs h k l) = (all_digits (us ++ vs) (all_join us vs h k), omega (arith, length-append us vs, length-append us (0x2e ∷ vs)))

shorter : {w bs : List ℕ} → Quoted w bs → length bs ≤ length w
shorter Quoted.close = omega arith
shorter (Quoted.plain h q) = omega (arith, shorter q)
shorter (Quoted.doubled q) = omega (arith, shorter q)

-- a literal that a word spells
pub record Told-by (w : List ℕ) (x : Told) : Type 0 where
  pub content : (d : ℕ) → valid_content x.kind d x.bytes ≡ true
  pub kind : of_literal_kind (given x) ≡ true
  pub short : length x.bytes ≤ length w

pub told : {w : List ℕ} {x : Told} → Spells w x → Told-by w x
told (Spells.unsigned {ds = ds} d) =
    let f = figures d in record { content = λ n. valid_digits n ds ∙ f.0; kind = refl; short = f.1 }
told (Spells.signed {c = c} {ds = ds} h d) =
    let f = figures d in record { content = λ n. valid_leading n (c ∷ ds) (omega arith) ∙ rw h f.0; kind = refl; short = omega (arith, f.1) }
told (Spells.quoted {bs = bs} q) =
    record {
      content = λ n. valid_other 2 n bs (λ e. omega arith) (λ e. omega arith) (λ e. omega arith) (λ e. omega arith) (λ e. omega arith) refl;
      kind = refl;
      short = omega (arith, shorter q);
    }

pub record Fit (x : Told) : Type 0 where
  pub fits_it : fits (given x) ≡ true
  pub of_kind : of_literal_kind (given x) ≡ true

fit : {w : List ℕ} {x : Told} → Spells w x → unfit x ≡ false → Fit x
fit {x = x} s u =
    let t = told s in
    record { fits_it = and_both (row_sound (ruled (literal_row 0 x))) _ (not-false _ u) (t.content _); of_kind = t.kind }

abbrev pub AllFitting : List Told → Type 0
AllFitting [] = Unit {0}
AllFitting (x ∷ xs) = Fit x × AllFitting xs

fitting_join : (xs ys : List Told) → AllFitting xs → AllFitting ys → AllFitting (xs ++ ys)
fitting_join [] ys f g = g
fitting_join (x ∷ xs) ys f g = (f.0, fitting_join xs ys f.1 g)

-- a value that no limit bars
single_fit : {w : List ℕ} {x : Told} (r : Row) → Spells w x → barred_alone r x ≡ false → Fit x
single_fit {x = x} r s b = fit s (or_no (unfit x) (not (comparable r x)) b).0

range_fit : {v w : List ℕ} {x y : Told} (r : Row) → Spells v x → Spells w y → barred_alone r x || (barred_alone r y || (unlike x y || above x y)) ≡ false → Fit x × Fit y
range_fit {x = x} {y = y} r s t b =
    let p = or_no (barred_alone r x) (barred_alone r y || (unlike x y || above x y)) b in
    (single_fit r s p.0, single_fit r t (or_no (barred_alone r y) (unlike x y || above x y) p.1).0)

values_fit : {ws : List Word} {vs : List Value} (r : Row) → Values ws vs → any_barred r vs ≡ false → AllFitting (literals vs)
unfolding any_barred literals
values_fit r (Values.last_single {x = x} s) b = (single_fit r s (or_no (barred_alone r x) false b).0, tt)
values_fit r (Values.last_range {x = x} {y = y} s t) b =
    let f = range_fit r s t (or_no (barred_alone r x || (barred_alone r y || (unlike x y || above x y))) false b).0 in (f.0, (f.1, tt))
values_fit r (Values.more_single {x = x} {vs = vs} s v) b =
    let p = or_no (barred_alone r x) (any_barred r vs) b in (single_fit r s p.0, values_fit r v p.1)
values_fit r (Values.more_range {x = x} {y = y} {vs = vs} s t v) b =
    let p = or_no (barred_alone r x || (barred_alone r y || (unlike x y || above x y))) (any_barred r vs) b in
    let f = range_fit r s t p.0 in (f.0, (f.1, values_fit r v p.1))

-- the conditions of a description: none of their values is barred
pub record Free (c : Condition) : Type 0 where
  pub item_row_lem : Row
  pub free : any_barred item_row_lem c.values ≡ false

names_fit : {k : ℕ} {ws : List Word} {c : Condition} → Names k ws c → Free c → AllFitting (literals c.values)
names_fit (Names.names n v) f = values_fit f.item_row_lem v f.free

pub entries_fit : {k : ℕ} {ws : List Word} {es : List Entry} {cs : List Condition} → Entries k ws es cs
    → ((j : ℕ) (d : Condition) → j < length cs → Free (get_or cs j d)) → AllFitting (literals_of cs)
unfolding literals_of
entries_fit Entries.none f = tt
entries_fit (Entries.more e es) f = entries_fit es f
entries_fit (Entries.name {c = c} {cs = cs} h n es) f =
    fitting_join (literals c.values) (literals_of cs) (names_fit n (f 0 c (omega arith))) (entries_fit es (λ j d l. f (suc j) d (omega arith)))

-- the bytes of words
abbrev total : List Word → ℕ
total [] = 0
total (w ∷ ws) = length w.text + total ws

total_join : (vs ws : List Word) → total (vs ++ ws) ≡ total vs + total ws
total_join [] ws = omega arith
total_join (v ∷ vs) ws = omega (arith, total_join vs ws)

pub parted-total : {at : ℕ} {text : List ℕ} {ws : List Word} → Parted at text ws → total ws ≤ length text
parted-total Parted.end = omega arith
parted-total (Parted.blank b p) = omega (arith, parted-total p)
parted-total (Parted.word {b = b} {bs = bs} {rest = rest} a p) = omega (arith, parted-total p, length-append (b ∷ bs) rest)

bytes_join : (xs ys : List Told) → length (literal_bytes (xs ++ ys)) ≡ length (literal_bytes xs) + length (literal_bytes ys)
unfolding literal_bytes
bytes_join [] ys = omega arith
bytes_join (x ∷ xs) ys = omega (arith, length-append x.bytes (literal_bytes (xs ++ ys)), length-append x.bytes (literal_bytes xs), bytes_join xs ys)

values_short : {ws : List Word} {vs : List Value} → Values ws vs → length (literal_bytes (literals vs)) ≤ total ws
unfolding literals literal_bytes
values_short (Values.last_single {w = w} {x = x} s) = omega (arith, (told s).short, length-append w (0x2e ∷ []), length-append x.bytes [])
values_short (Values.last_range {w = w} {x = x} {y = y} s t) =
    omega (arith, (told s).short, (told t).short, length-append w (0x2e ∷ []), length-append x.bytes (y.bytes ++ []), length-append y.bytes [])
values_short (Values.more_single {x = x} {vs = vs} s v) = omega (arith, (told s).short, length-append x.bytes (literal_bytes (literals vs)), values_short v)
values_short (Values.more_range {x = x} {y = y} {vs = vs} s t v) =
    omega (arith, (told s).short, (told t).short, length-append x.bytes (y.bytes ++ literal_bytes (literals vs)), length-append y.bytes (literal_bytes (literals vs)), values_short v)

pub entries_short : {k : ℕ} {ws : List Word} {es : List Entry} {cs : List Condition} → Entries k ws es cs → length (literal_bytes (literals_of cs)) ≤ total ws
unfolding literals_of literal_bytes
entries_short Entries.none = omega arith
entries_short (Entries.more {vs = vs} {ws = ws} e es) = omega (arith, entries_short es, total_join vs ws)
entries_short (Entries.name {vs = vs} {ws = ws} {c = c} {cs = cs} h n es) =
    omega (arith, entries_short es, names_short n, total_join vs ws, bytes_join (literals c.values) (literals_of cs))
  where
    names_short : {k : ℕ} {ws : List Word} {c : Condition} → Names k ws c → length (literal_bytes (literals c.values)) ≤ total ws
    names_short (Names.names n v) = omega (arith, values_short v)
