-- What the answer to a text means, for every text: faulty byte, limits and byte 4,096 together.
use mathlib.Core.Path.{◌≡◌, refl, sym, ap, subst}
use mathlib.Core.Bool.{Bool, true, false, cond}
use mathlib.Core.Option.{Option, none, some}
use mathlib.Core.List.{List}
use Prim.Native.Nat.{ℕ, ◌≤◌, ◌<◌}
use native.Mathlib.Omega.{arith}
use borrow.Author.Tests.{leb-true, leb-false}
use lib.Dec.{leb}
use lib.ListN.{length, take}
use Rattle.description.specs.Machine.{Place}
use Rattle.description.specs.Grammar.{Table, Valid}
use Rattle.description.specs.Reader.{Parts, Reading, read, faulty, read_text}
use Rattle.description.specs.Limits.{Mark, marks, least, found, Outcome, table, refusal, unless, judged, cut, read_within, describe}
use Rattle.description.proofs.Reading.{sound, place}
use Rattle.description.proofs.Past.{entries_before, entries_rising}
use Rattle.description.proofs.Limits.{In, Least, least_none, least-some, marks-below}

-- Refusal 14's place: the smallest of an entry over a limit, before the faulty byte; or that byte's, where none is over.
pub data Refused (d : Parts) (n p : ℕ) : Type 0 where
  limit : Least (marks d) p → p < n → Refused d n p
  fault : ((k : Mark) → In k (marks d) → k.over ≡ false) → p ≡ n → Refused d n p

pub refused : (text : List ℕ) (d : Parts) (n p : ℕ) → read_text text ≡ faulty d n → judged (faulty d n) ≡ refusal p → Refused d n p
refused text d n p e j = by (least (marks d)) refl j
  where
    by : (o : Option ℕ) → least (marks d) ≡ o → unless o (refusal n) ≡ refusal p → Refused d n p
    by none h j = Refused.fault (least_none (marks d) h) cc
    by (some q) h j =
        let i : q ≡ p = cc in
        let f : Least (marks d) p = least-some (marks d) p (rw i at h) in
        Refused.limit f (omega (arith, marks-below d n (entries_before text d n e) f.m f.inside, f.place))

-- What the answer to a text means. `d` are the complete entries before the faulty byte (specs/Reader.antt, `complete`).
pub data Verdict (text : List ℕ) : Outcome → Type 0 where
  -- the text is valid, not too long, and no entry is over a limit
  fine : {t : Table} → length text ≤ 4096 → Valid text t → ((k : Mark) → In k (marks (found t)) → k.over ≡ false) → Verdict text (table t)
  -- it is valid and not too long, and this is the smallest place over a limit
  limit : {t : Table} {p : ℕ} → length text ≤ 4096 → Valid text t → Least (marks (found t)) p → Verdict text (refusal p)
  -- it has a faulty byte
  fault : {d : Parts} {n p : ℕ} → length text ≤ 4096 → read_text text ≡ faulty d n → Place Valid text n → Refused d n p → Verdict text (refusal p)
  -- it is too long, and has a faulty byte in its first 4,096, or ends there and is not complete
  long_fault : {d : Parts} {n p : ℕ} → 4096 < length text → read_text (take 4096 text) ≡ faulty d n → Place Valid (take 4096 text) n → Refused d n p →
      Verdict text (refusal p)
  -- it is too long, and its first 4,096 bytes are valid: byte 4,096 is faulty
  long : {t : Table} {p : ℕ} → 4096 < length text → Valid (take 4096 text) t → Refused (found t) 4096 p → Verdict text (refusal p)

module _ (text : List ℕ) where
  short_verdict : length text ≤ 4096 → (r : Reading) → read_text text ≡ r → Verdict text (judged r)
  short_verdict l (read t) e = by (least (marks (found t))) refl
    where
      by : (o : Option ℕ) → least (marks (found t)) ≡ o → Verdict text (unless o (table t))
      by none h = Verdict.fine l (sound text t e) (least_none (marks (found t)) h)
      by (some p) h = Verdict.limit l (sound text t e) (least-some (marks (found t)) p h)
  short_verdict l (faulty d n) e = by (least (marks d)) refl
    where
      by : (o : Option ℕ) → least (marks d) ≡ o → Verdict text (unless o (refusal n))
      by none h = Verdict.fault {d = d} l e (place text d n e) (Refused.fault (least_none (marks d) h) refl)
      by (some p) h = Verdict.fault {d = d} l e (place text d n e) (refused text d n p e (rw h))

  long_verdict : 4096 < length text → (r : Reading) → read_text (take 4096 text) ≡ r → Verdict text (judged (cut r))
  long_verdict l (read t) e = by (least (marks (found t))) refl
    where
      before : (p : ℕ) → Least (marks (found t)) p → p < 4096
      before p f =
          omega (arith, marks-below (found t) (length (take 4096 text)) (entries_rising (take 4096 text) t e) f.m f.inside, f.place, lib.ListN.length-take 4096 text)

      by : (o : Option ℕ) → least (marks (found t)) ≡ o → Verdict text (unless o (refusal 4096))
      by none h = Verdict.long l (sound (take 4096 text) t e) (Refused.fault (least_none (marks (found t)) h) refl)
      by (some p) h = let f = least-some (marks (found t)) p h in Verdict.long l (sound (take 4096 text) t e) (Refused.limit f (before p f))
  long_verdict l (faulty d n) e = by (least (marks d)) refl
    where
      by : (o : Option ℕ) → least (marks d) ≡ o → Verdict text (unless o (refusal n))
      by none h = Verdict.long_fault {d = d} l e (place (take 4096 text) d n e) (Refused.fault (least_none (marks d) h) refl)
      by (some p) h = Verdict.long_fault {d = d} l e (place (take 4096 text) d n e) (refused (take 4096 text) d n p e (rw h))

  pub verdict : Verdict text (describe text)
  verdict = by (leb (length text) 4096) refl
    where
      by : (t : Bool) → leb (length text) 4096 ≡ t → Verdict text (judged (cond t (read_text text) (cut (read_text (take 4096 text)))))
      by true h = short_verdict (leb-true (length text) 4096 h) (read_text text) refl
      by false h = long_verdict (leb-false (length text) 4096 h) (read_text (take 4096 text)) refl
