-- A line grows by a part.
use mathlib.Core.Path.{◌≡◌, refl, sym, ap, ◌∙◌, subst}
use mathlib.Core.List.{List, [], ◌∷◌, ◌++◌, append-nil, append_assoc}
use Prim.Native.Nat.{ℕ, ◌-◌}
use native.Mathlib.Omega.{arith}
use lib.ListN.{length, replicate}
use Rattle.lines.specs.Put.{Puts, PutsNumber, PutsNumberColumn}
use Rattle.lines.specs.Parts.{Part, say, count, column, count_column, Shows, Line, none, more, PutsLine}
use Rattle.lines.proofs.Joining.{put_nothing, joined}

-- no line yet
pub begun : (out : List ℕ) (at : ℕ) → PutsLine out at [] at out
begun out at = record { shown = []; line = none; puts = put_nothing out at }

-- nothing is filled up to no width
unfilled : (spelled : List ℕ) → spelled ≡ spelled ++ replicate (0 - length spelled) 0x20
unfilled spelled = let z : 0 - length spelled ≡ 0 = omega arith in rw z (sym (append-nil spelled))

-- one line after another
followed : (p q : List Part) (a b : List ℕ) → Line p a → Line q b → Line (p ++ q) (a ++ b)
followed p _ a _ l none = subst (λ (x : List Part). Line x (a ++ [])) (sym (append-nil p)) (subst (Line p) (sym (append-nil a)) l)
followed p _ a _ l (more {parts} {part} {before} {shown} m s) =
    subst (λ (x : List Part). Line x (a ++ (before ++ shown))) (append_assoc p parts (part ∷ []))
    (subst (Line ((p ++ parts) ++ part ∷ [])) (append_assoc a before shown) (more (followed p parts a before l m) s))

module _ {out : List ℕ} {at end last : ℕ} {parts : List Part} {after final : List ℕ} (L : PutsLine out at parts end after) where
  pub with_text : {t : List ℕ} → Puts after end t last final → PutsLine out at (parts ++ say t ∷ []) last final
  with_text {t} P =
      record { shown = L.shown ++ t; line = more L.line (record { spelled = t; spells = refl; filled = unfilled t }); puts = joined L.puts P }

  pub with_number : {n : ℕ} → PutsNumber after end n last final → PutsLine out at (parts ++ count n ∷ []) last final
  with_number P =
      record {
        shown = L.shown ++ P.text;
        line = more L.line (record { spelled = P.text; spells = P.decimal; filled = unfilled P.text });
        puts = joined L.puts P.puts;
      }

  pub with_column : (t : List ℕ) (width : ℕ) → Puts after end (t ++ replicate (width - length t) 0x20) last final
      → PutsLine out at (parts ++ column width t ∷ []) last final
  with_column t width P =
      record {
        shown = L.shown ++ (t ++ replicate (width - length t) 0x20);
        line = more L.line (record { spelled = t; spells = refl; filled = refl });
        puts = joined L.puts P;
      }

  pub with_number-column : {n width : ℕ} → PutsNumberColumn after end n width last final → PutsLine out at (parts ++ count_column width n ∷ []) last final
  with_number-column {n} {width} P =
      record {
        shown = L.shown ++ (P.text ++ replicate (width - length P.text) 0x20);
        line = more L.line (record { spelled = P.text; spells = P.decimal; filled = refl });
        puts = joined L.puts P.puts;
      }

  pub with_line : {others : List Part} → PutsLine after end others last final → PutsLine out at (parts ++ others) last final
  with_line {others} P = record { shown = L.shown ++ P.shown; line = followed parts others L.shown P.shown L.line P.line; puts = joined L.puts P.puts }
