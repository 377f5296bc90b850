-- Refusals 7 and 8 by what is derived: `SevenAndEight` holds of every sequence of tokens.
use mathlib.Core.Path.{◌≡◌, refl, sym, ap, ◌∙◌}
use mathlib.Core.Bool.{Bool, true, false, cond}
use mathlib.Core.List.{List}
use Prim.Native.Nat.{ℕ, ◌≤◌}
use native.Mathlib.Omega.{arith}
use lib.Dec.{leb}
use borrow.Author.Tests.{le-leb, lt-leb}
use Rattle.tables.specs.declared.Refusal.{Refusal}
use Rattle.tables.specs.declared.Refusal.TheVariants.{Grammar}
use Rattle.tables.specs.Operands.{Lent}
use Rattle.tables.specs.Refusals.{number, place, first_of, Check}
use Rattle.tables.proofs.Lines.{line_refused}
use Rattle.grammar.specs.Grammar.{Tree, Derives, Place}
use Rattle.grammar.specs.Parser.{Reading, accepted, refused, read}
use Rattle.grammar.specs.Depth.{depth_check}
use Rattle.grammar.proofs.Reading.{sound, complete, place as grammar-place, one_place, not_derived}
use Rattle.grammar.proofs.Depth.{depth_eight}
use Rattle.rules.specs.Calls.{grammar_check, earlier, token_lines, grammar_line, grammar_lines, typing_check}
use Rattle.rules.specs.Demands.{Refuses, SevenAndEight, SevenAndEightGiven}
use Rattle.rules.proofs.Passing.{after_lines_lem}
use Rattle.rules.proofs.Answers.{refuses}
use Rattle.std.specs.Prelude.{Err, Ok}

module _ (tokens : List ℕ) where
  derived_line : (t : Tree) → Derives tokens t → grammar_line tokens ≡ depth_check tokens
  derived_line t h = rw (complete tokens t h)

  underived_line : ((t : Tree) → ¬ Derives tokens t) → (at : ℕ) → Place tokens at → grammar_line tokens ≡ earlier (Err (Grammar at)) (depth_check tokens)
  underived_line h at p = go (read tokens) refl
    where
      go : (r : Reading) → read tokens ≡ r → grammar_line tokens ≡ earlier (Err (Grammar at)) (depth_check tokens)
      go (accepted t) e = absurd (h t (sound tokens t e))
      go (refused n) e = rw (e, one_place tokens n at (grammar-place tokens n e) p)

  -- of 7 at a place and 8, the earlier
  seven_before : (at : ℕ) (depth : Check) → ((eight : Refusal) → depth ≡ Err eight → at ≤ place eight) →
      earlier (Err (Grammar at)) depth ≡ Err (Grammar at)
  seven_before at (Ok _) h = refl
  seven_before at (Err r) h = rw (le-leb at (place r) (h r refl))

  -- a 7 that is given is the parser's: 8 has another number
  seven_is : (n at : ℕ) (depth : Check) → ((r : Refusal) → depth ≡ Err r → number r ≡ 8) →
      earlier (Err (Grammar n)) depth ≡ Err (Grammar at) → n ≡ at
  seven_is n at (Ok _) eight e = let s : Grammar n ≡ Grammar at = cc in ap place s
  seven_is n at (Err r) eight e = pick (leb n (place r)) e
    where
      pick : (b : Bool) → cond {A = Check} b (Err (Grammar n)) (Err r) ≡ Err (Grammar at) → n ≡ at
      pick true h = let s : Grammar n ≡ Grammar at = cc in ap place s
      pick false h = let s : r ≡ Grammar at = cc in absurd (omega (arith, ap number s, eight r refl))

  placed-line : (at : ℕ) → grammar_line tokens ≡ Err (Grammar at) → ((t : Tree) → ¬ Derives tokens t) × Place tokens at
  placed-line at e = go (read tokens) refl
    where
      go : (r : Reading) → read tokens ≡ r → ((t : Tree) → ¬ Derives tokens t) × Place tokens at
      go (accepted t) h =
          let d : depth_check tokens ≡ Err (Grammar at) = rw h at e in
          let n : number (Grammar at) ≡ 8 = depth_eight tokens d in
          absurd (omega arith)
      go (refused n) h =
          let s : n ≡ at = seven_is n at (depth_check tokens) (λ r. depth_eight tokens {r = r}) (rw h at e) in
          (λ t. not_derived tokens n t h, rw (← s) (grammar-place tokens n h))

pub seven_and_eight : SevenAndEightGiven
seven_and_eight lent tokens =
    record {
      derived = derived_line tokens;
      seven_first = λ h at p first. underived_line tokens h at p ∙ seven_before tokens at (depth_check tokens) first;
      eight_first = λ h at p eight e first. underived_line tokens h at p ∙ rw (e, lt-leb at (place eight) first);
      placed = placed-line tokens;
      given = λ f refusal e. refuses lent tokens (after_lines_lem (token_lines lent tokens) (grammar_lines lent tokens) f ∙ line_refused _ e);
    }
