-- Which conditions refusals 1 to 9 let pass: those that the rules accept.
use mathlib.Core.Path.{◌≡◌, refl, sym, ap, ◌∙◌}
use mathlib.Core.Bool.{Bool, true, false, cond}
use mathlib.Core.List.{List, [], ◌∷◌, ◌++◌}
use Prim.Native.Nat.{ℕ, ◌+◌, ◌≤◌}
use native.Mathlib.Omega.{arith}
use borrow.Author.Tests.{leb-true, le-leb}
use lib.ListN.{length}
use lib.Dec.{leb}
use Rattle.tables.specs.declared.Refusal.{Refusal}
use Rattle.tables.specs.declared.Refusal.TheVariants.{TokenCount, Grammar, Typing}
use Rattle.tables.specs.Operands.{Lent}
use Rattle.tables.specs.Refusals.{number, place, unless, first_of, Check}
use Rattle.tables.specs.Tables.{token_count_check, token_check}
use Rattle.values.specs.Names.{lent_lines}
use Rattle.typing.specs.Typing.{typed}
use Rattle.tables.proofs.Tests.{both as both_true}
use Rattle.tables.proofs.Lines.{test_sound, line_sound, line_refused, lines_before, AllSound, lines_sound}
use Rattle.grammar.specs.Grammar.{Tree, simple, negated, bracketed, both, either, Derives, Place}
use Rattle.grammar.specs.Parser.{Reading, accepted, refused, read}
use Rattle.grammar.specs.Depth.{depth_check}
use Rattle.grammar.specs.Typed.{typing_from}
use Rattle.grammar.specs.Expanded.{expanded}
use Rattle.grammar.specs.Judging.{simple_count}
use Rattle.grammar.proofs.Reading.{sound, complete, one_place, place as grammar-place}
use Rattle.grammar.proofs.Expansion.{rederives}
use Rattle.grammar.proofs.Again.{expanded-some, expanded-tokens, expanded_depth}
use Rattle.rules.specs.Calls.{grammar_check, earlier, typing_check, token_lines, grammar_lines, condition_lines}
use Rattle.rules.specs.Demands.{WellTyped, Accepted}
use Rattle.std.specs.Prelude.{Err, Ok}

-- typing as refusal 9 checks it is typing as the demands say it
well_typed : (lent : Lent) (n : ℕ) (t : Tree) → typing_from lent n t ≡ Ok tt → WellTyped lent t
unfolding typing_from
well_typed lent n (simple a r b) e = test_sound (typed lent a r b) (Typing n) e
well_typed lent n (negated t) e = well_typed lent n t e
well_typed lent n (bracketed t) e = well_typed lent n t e
well_typed lent n (both t u) e =
    let l = lines_sound (typing_from lent n t ∷ typing_from lent (n + simple_count t) u ∷ []) e in
    (well_typed lent n t l.0, well_typed lent (n + simple_count t) u l.1.0)
well_typed lent n (either t u) e =
    let l = lines_sound (typing_from lent n t ∷ typing_from lent (n + simple_count t) u ∷ []) e in
    (well_typed lent n t l.0, well_typed lent (n + simple_count t) u l.1.0)

pub typing_passes : (lent : Lent) (n : ℕ) (t : Tree) → WellTyped lent t → typing_from lent n t ≡ Ok tt
unfolding typing_from first_of
typing_passes lent n (simple a r b) e = rw e
typing_passes lent n (negated t) e = typing_passes lent n t e
typing_passes lent n (bracketed t) e = typing_passes lent n t e
typing_passes lent n (both t u) e = rw (typing_passes lent n t e.0, typing_passes lent (n + simple_count t) u e.1)
typing_passes lent n (either t u) e = rw (typing_passes lent n t e.0, typing_passes lent (n + simple_count t) u e.1)

-- lines before others: where none of them applies, the others decide
pub after_lines_lem : (lines others : List Check) → first_of lines ≡ Ok tt → first_of (lines ++ others) ≡ first_of others
after_lines_lem lines others e = lines_before lines others ∙ line_sound others e

pub both_sound : (lines others : List Check) → first_of (lines ++ others) ≡ Ok tt → (first_of lines ≡ Ok tt) × (first_of others ≡ Ok tt)
both_sound lines others e =
    let l : first_of lines ≡ Ok tt = (lines_sound (first_of lines ∷ others) (sym (lines_before lines others) ∙ e)).0 in
    (l, sym (after_lines_lem lines others l) ∙ e)

-- None of the refusals 1 to 9 applies, and the tree is the condition's.
pub record Passes (lent : Lent) (tokens : List ℕ) (t : Tree) : Type 0 where
  pub token_lines_lem : first_of (token_lines lent tokens) ≡ Ok tt
  pub shallow : depth_check tokens ≡ Ok tt
  pub accepts : Accepted lent tokens t

-- a sequence that has no tree is refused, by 7 or by 8
earlier_refuses : (seven : Refusal) (eight : Check) → earlier (Err seven) eight ≡ Ok tt → ⊥
earlier_refuses seven (Ok _) e = let z : ◌≡◌ {A = ℕ} 0 1 = cc in omega arith
earlier_refuses seven (Err eight) e = go (leb (place seven) (place eight)) e
  where
    go : (first : Bool) → cond {A = Check} first (Err seven) (Err eight) ≡ Ok tt → ⊥
    go true e = let z : ◌≡◌ {A = ℕ} 0 1 = cc in omega arith
    go false e = let z : ◌≡◌ {A = ℕ} 0 1 = cc in omega arith

pub passed : (lent : Lent) (tokens : List ℕ) → first_of (condition_lines lent tokens) ≡ Ok tt → (t : Tree) × Passes lent tokens t
passed lent tokens e =
    let (f, g) = both_sound (token_lines lent tokens) (grammar_lines lent tokens) e in
    go f (read tokens) refl (lines_sound _ g)
  where
    go : first_of (token_lines lent tokens) ≡ Ok tt → (r : Reading) → read tokens ≡ r →
        AllSound (earlier (grammar_check r) (depth_check tokens) ∷ typing_check lent r ∷ []) → (t : Tree) × Passes lent tokens t
    go f (accepted t) q l =
        (t, record { token_lines_lem = f; shallow = l.0; accepts = record { derives = sound tokens t q; typed = well_typed lent 0 t l.1.0 } })
    go f (refused at) q l = absurd (earlier_refuses (Grammar at) (depth_check tokens) l.0)

module _ {lent : Lent} {tokens : List ℕ} {t : Tree} (p : Passes lent tokens t) where
  pub read_as : read tokens ≡ accepted t
  read_as = complete tokens t p.accepts.derives

  pub condition-passes : first_of (condition_lines lent tokens) ≡ Ok tt
  unfolding first_of
  condition-passes =
      after_lines_lem (token_lines lent tokens) (grammar_lines lent tokens) p.token_lines_lem
      ∙ rw (read_as, p.shallow, typing_passes lent 0 t p.accepts.typed)

  pub tables_pass : first_of (lent_lines lent) ≡ Ok tt
  tables_pass = (both_sound (lent_lines lent) (token_count_check tokens ∷ token_check lent tokens ∷ []) p.token_lines_lem).0

  tokens_pass : AllSound (token_count_check tokens ∷ token_check lent tokens ∷ [])
  tokens_pass = lines_sound _ (both_sound (lent_lines lent) (token_count_check tokens ∷ token_check lent tokens ∷ []) p.token_lines_lem).1

  pub few_tokens : length tokens ≤ 256
  few_tokens = leb-true _ _ (both_true (leb 1 (length tokens)) _ (test_sound _ TokenCount tokens_pass.0)).1

  pub tokens_exist : token_check lent tokens ≡ Ok tt
  tokens_exist = tokens_pass.1.0

  -- the expanded form, where it is not too long, passes again, with the same tree
  pub passes_again : length (expanded t) ≤ 256 → Passes lent (expanded t) t
  unfolding first_of
  passes_again l =
      let h = p.accepts.derives in
      record {
        token_lines_lem =
            after_lines_lem (lent_lines lent) (token_count_check (expanded t) ∷ token_check lent (expanded t) ∷ []) tables_pass
            ∙ rw (le-leb 1 (length (expanded t)) (expanded-some h), le-leb (length (expanded t)) 256 l, expanded-tokens lent h tokens_exist);
        shallow = expanded_depth lent h tokens_exist p.shallow;
        accepts = record { derives = rederives h; typed = p.accepts.typed };
      }

-- a line that is none, or one of the refusals 1 to 9
abbrev pub Nine : Check → Type 0
Nine (Ok _) = Unit {0}
Nine (Err refusal) = number refusal ≤ 9

first_nine : (one two : Check) → Nine one → Nine two → Nine (first_of (one ∷ two ∷ []))
unfolding first_of
first_nine (Ok _) (Ok _) p q = tt
first_nine (Ok _) (Err refusal) p q = q
first_nine (Err refusal) two p q = p

typing_nine : (lent : Lent) (n : ℕ) (t : Tree) → Nine (typing_from lent n t)
unfolding typing_from
typing_nine lent n (simple a r b) = go (typed lent a r b)
  where
    go : (test : Bool) → Nine (unless test (Typing n))
    go true = tt
    go false = omega arith
typing_nine lent n (negated t) = typing_nine lent n t
typing_nine lent n (bracketed t) = typing_nine lent n t
typing_nine lent n (both t u) = first_nine _ _ (typing_nine lent n t) (typing_nine lent (n + simple_count t) u)
typing_nine lent n (either t u) = first_nine _ _ (typing_nine lent n t) (typing_nine lent (n + simple_count t) u)

-- where refusals 1 to 6 and 8 do not apply, 7 and 9 are left
module _ (lent : Lent) (tokens : List ℕ) (f : first_of (token_lines lent tokens) ≡ Ok tt) (d : depth_check tokens ≡ Ok tt) where
  left_lines : {r : Reading} → read tokens ≡ r → first_of (condition_lines lent tokens) ≡ first_of (earlier (grammar_check r) (Ok tt) ∷ typing_check lent r ∷ [])
  left_lines e = after_lines_lem (token_lines lent tokens) (grammar_lines lent tokens) f ∙ rw (e, d)

  pub condition_nine : Nine (first_of (condition_lines lent tokens))
  condition_nine = rw (left_lines refl) (go (read tokens))
    where
      go : (r : Reading) → Nine (first_of (earlier (grammar_check r) (Ok tt) ∷ typing_check lent r ∷ []))
      go (accepted t) = first_nine (Ok tt) (typing_from lent 0 t) tt (typing_nine lent 0 t)
      go (refused at) = first_nine (Err (Grammar at)) (Ok tt) (omega arith) tt

  pub underived_refused : ((t : Tree) → ¬ Derives tokens t) → (at : ℕ) → Place tokens at → first_of (condition_lines lent tokens) ≡ Err (Grammar at)
  underived_refused h at p = go (read tokens) refl
    where
      go : (r : Reading) → read tokens ≡ r → first_of (condition_lines lent tokens) ≡ Err (Grammar at)
      go (accepted t) e = absurd (h t (sound tokens t e))
      go (refused n) e = left_lines e ∙ line_refused _ (ap (λ k. Err (Grammar k)) (one_place tokens n at (grammar-place tokens n e) p))

  pub ill_typed_refused : (t : Tree) → Derives tokens t → (refusal : Refusal) → typing_from lent 0 t ≡ Err refusal →
      first_of (condition_lines lent tokens) ≡ Err refusal
  ill_typed_refused t h refusal e = left_lines (complete tokens t h) ∙ line_sound _ refl ∙ line_refused _ e
