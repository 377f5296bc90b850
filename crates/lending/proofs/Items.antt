-- The item rows of a description: lower limits are the grammar's, upper ones are kept since the text is not refused.
use mathlib.Core.Path.{◌≡◌, refl}
use mathlib.Core.Bool.{Bool, true, false, not, ◌||◌}
use mathlib.Core.List.{List, [], ◌∷◌, ◌++◌}
use Prim.Native.Nat.{ℕ, zero, suc, ◌+◌, ◌/◌, ◌≤◌, ◌<◌}
use native.Mathlib.Omega.{arith}
use lib.Dec.{leb}
use lib.ListN.{length, get_or}
use borrow.Author.Tests.{eq-eqb, le-leb, not-false}
use Rattle.tables.specs.Rows.{row_sound}
use Rattle.description.specs.Grammar.{Word, Nines, Picture, Shape, number, Content, group, item, content, packed, Side, Entry, Describes, Condition, Entries}
use Rattle.description.specs.Grammar.{Row, row, group_kind, any_signed, Item, elementary, grouped, Members, Records}
use Rattle.description.specs.Limits.{most, passes, ruled}
use Rattle.description.proofs.Keeping.{or_no}

-- What an entry may describe.
data Shaped : Content → Type 0 where
  gathers : Shaped group
  alphabetic : {n : ℕ} → Shaped (item 1 (suc n) 0 0)
  alphanumeric : {n : ℕ} → Shaped (item 2 (suc n) 0 0)
  digits : {s t : ℕ} → 0 < t → s ≤ t → Shaped (item 3 t s t)
  signed : {s t : ℕ} → 0 < t → s ≤ t → Shaped (item 4 t s t)
  leading : {s t : ℕ} → 0 < t → s ≤ t → Shaped (item 5 (t + 1) s t)
  trailing : {s t : ℕ} → 0 < t → s ≤ t → Shaped (item 6 (t + 1) s t)
  signed-packed : {s t : ℕ} → 0 < t → s ≤ t → Shaped (item 8 (t / 2 + 1) s t)
  unsigned_packed : {s t : ℕ} → 0 < t → s ≤ t → Shaped (item 9 (t / 2 + 1) s t)

nines : {w : List ℕ} {m n : ℕ} → Nines w m n → 0 < m + n
nines (Nines.whole r) = omega arith
nines (Nines.pointed r q h) = h

some-digits : {w : List ℕ} {b : Bool} {m n : ℕ} → Picture w (number b m n) → 0 < m + n
some-digits (Picture.unsigned x) = nines x
some-digits (Picture.signed x) = nines x

picture_shaped : {w : List ℕ} {s : Shape} → Picture w s → Shaped (content s)
picture_shaped (Picture.alphanumeric r) = alphanumeric
picture_shaped (Picture.alphabetic r) = alphabetic
picture_shaped (Picture.unsigned {m = m} {n = n} x) = digits {s = n} {t = m + n} (nines x) (omega arith)
picture_shaped (Picture.signed {m = m} {n = n} x) = signed {s = n} {t = m + n} (nines x) (omega arith)

packed_shaped : (b : Bool) (m n : ℕ) → 0 < m + n → Shaped (packed b m n)
packed_shaped true m n h = signed-packed {s = n} {t = m + n} h (omega arith)
packed_shaped false m n h = unsigned_packed {s = n} {t = m + n} h (omega arith)

side_shaped : {w : List ℕ} {k : ℕ} (m n : ℕ) → Side w k → 0 < m + n → Shaped (item k (m + n + 1) n (m + n))
side_shaped m n Side.leading h = leading {s = n} {t = m + n} h (omega arith)
side_shaped m n Side.trailing h = trailing {s = n} {t = m + n} h (omega arith)

shaped : {ws : List Word} {e : Entry} → Describes ws e → Shaped e.content
shaped (Describes.bare l c) = gathers
shaped (Describes.plain l c p) = picture_shaped p
shaped (Describes.separate {i = i} {j = j} l c p s) = side_shaped i j s (some-digits p)
shaped (Describes.comp {i = i} {j = j} {b = b} l c p) = packed_shaped b i j (some-digits p)

abbrev AllShaped : List Entry → Type 0
AllShaped [] = Unit {0}
AllShaped (e ∷ es) = Shaped e.content × AllShaped es

all_shaped : {k : ℕ} {ws : List Word} {es : List Entry} {cs : List Condition} → Entries k ws es cs → AllShaped es
all_shaped Entries.none = tt
all_shaped (Entries.more d es) = (shaped d, all_shaped es)
all_shaped (Entries.name h n es) = all_shaped es

shaped_left : (es fs : List Entry) → AllShaped (es ++ fs) → AllShaped es
shaped_left [] fs a = tt
shaped_left (e ∷ es) fs a = (a.0, shaped_left es fs a.1)

shaped_right : (es fs : List Entry) → AllShaped (es ++ fs) → AllShaped fs
shaped_right [] fs a = a
shaped_right (e ∷ es) fs a = shaped_right es fs a.1

-- Rows above their lower limits.
data Low : Row → Type 0 where
  lone : {k o n s t : ℕ} → Shaped (item k n s t) → Low (row k o n s t)
  held : {o n : ℕ} (b : Bool) → 0 < n → Low (row (group_kind b) o n 0 0)

abbrev AllLow : List Row → Type 0
AllLow [] = Unit {0}
AllLow (r ∷ rs) = Low r × AllLow rs

low_join : (rs ss : List Row) → AllLow rs → AllLow ss → AllLow (rs ++ ss)
low_join [] ss a b = b
low_join (r ∷ rs) ss a b = (a.0, low_join rs ss a.1 b)

some_bytes : {k n s t : ℕ} → Shaped (item k n s t) → 0 < n
some_bytes alphabetic = omega arith
some_bytes alphanumeric = omega arith
some_bytes (digits h l) = h
some_bytes (signed h l) = h
some_bytes (leading h l) = omega arith
some_bytes (trailing h l) = omega arith
some_bytes (signed-packed h l) = omega arith
some_bytes (unsigned_packed h l) = omega arith

abbrev Lows : List Entry → List Row → ℕ → Type 0
Lows es rs n = AllShaped es → (0 < n) × AllLow rs

item_low : {l o n : ℕ} {es : List Entry} {rs : List Row} → Item l o es rs n → Lows es rs n
item_low d =
    elim d as (λ l o es rs n x. Lows es rs n) (λ m o es rs n x. Lows es rs n) [
      | elementary {k = k} {n = n} {s = s} {t = t} ↦ (λ a. (some_bytes a.0, (lone a.0, tt)))
      | grouped {es = es} i j (d → r) ↦ (λ a. let q = r a.1 in (q.0, (held (any_signed es) q.0, q.1)))
      | Members.last (d → r) ↦ r
      | Members.more {n = n} {k = k} {es = es} {fs = fs} {rs = rs} {ss = ss} (d → r) (e → t) ↦ (λ a.
          let p = r (shaped_left es fs a) in
          let q = t (shaped_right es fs a) in
          (omega (arith, p.0), low_join rs ss p.1 q.1))
    ]

records_low : {o : ℕ} {es : List Entry} {rs : List Row} → Records o es rs → AllShaped es → AllLow rs
records_low Records.none a = tt
records_low (Records.one {es = es} {fs = fs} {rs = rs} {ss = ss} d r) a =
    low_join rs ss (item_low d (shaped_left es fs a)).1 (records_low r (shaped_right es fs a))
records_low (Records.alone r) a = (lone a.0, records_low r a.1)

low_at : (rs : List Row) (v : ℕ) (d : Row) → AllLow rs → v < length rs → Low (get_or rs v d)
low_at [] v d a l = absurd (omega arith)
low_at (r ∷ rs) zero d a l = a.0
low_at (r ∷ rs) (suc v) d a l = low_at rs v d a.1 (omega arith)

-- Upper limits.
record Under (r : Row) : Type 0 where
  size : leb r.size (most r.kind) ≡ true
  offset : leb r.offset 65535 ≡ true
  digits : leb r.digits 18 ≡ true

under : (r : Row) → passes r ≡ false → Under r
under r e =
    let p = or_no (not (leb r.size (most r.kind)) || not (leb r.offset 65535)) (not (leb r.digits 18)) e in
    let q = or_no (not (leb r.size (most r.kind))) (not (leb r.offset 65535)) p.0 in
    record { size = not-false _ q.0; offset = not-false _ q.1; digits = not-false _ p.1 }

sound_low : (r : Row) → Low r → passes r ≡ false → row_sound (ruled r) ≡ true
sound_low r (lone s) e = by s (under r e)
  where
    by : {k o n s t : ℕ} → Shaped (item k n s t) → Under (row k o n s t) → row_sound (ruled (row k o n s t)) ≡ true
    by (alphabetic {n}) u = rw (u.offset, u.size, le-leb 1 (suc n) (omega arith))
    by (alphanumeric {n}) u = rw (u.offset, u.size, le-leb 1 (suc n) (omega arith))
    by (digits {s} {t} h l) u = rw (u.offset, u.digits, le-leb 1 t h, le-leb s t l, eq-eqb t t refl)
    by (signed {s} {t} h l) u = rw (u.offset, u.digits, le-leb 1 t h, le-leb s t l, eq-eqb t t refl)
    by (leading {s} {t} h l) u = rw (u.offset, u.digits, le-leb 1 t h, le-leb s t l, eq-eqb (t + 1) (t + 1) refl)
    by (trailing {s} {t} h l) u = rw (u.offset, u.digits, le-leb 1 t h, le-leb s t l, eq-eqb (t + 1) (t + 1) refl)
    by (signed-packed {s} {t} h l) u = rw (u.offset, u.digits, le-leb 1 t h, le-leb s t l, eq-eqb (t / 2 + 1) (t / 2 + 1) refl)
    by (unsigned_packed {s} {t} h l) u = rw (u.offset, u.digits, le-leb 1 t h, le-leb s t l, eq-eqb (t / 2 + 1) (t / 2 + 1) refl)
sound_low r (held {o} {n} b h) e = by b (under r e)
  where
    by : (b : Bool) → Under (row (group_kind b) o n 0 0) → row_sound (ruled (row (group_kind b) o n 0 0)) ≡ true
    by true u = rw (u.offset, u.size, le-leb 1 n h)
    by false u = rw (u.offset, u.size, le-leb 1 n h)

-- each row of a description
pub rows_low : {k o : ℕ} {ws : List Word} {es : List Entry} {cs : List Condition} {rs : List Row} → Entries k ws es cs → Records o es rs →
    (v : ℕ) (d : Row) → v < length rs → passes (get_or rs v d) ≡ false → row_sound (ruled (get_or rs v d)) ≡ true
rows_low {rs = rs} es n v d l p = sound_low (get_or rs v d) (low_at rs v d (records_low n (all_shaped es)) l) p
