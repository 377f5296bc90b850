use Prim.Native.Nat.{ℕ, ◌-◌}
use mathlib.Core.Path.{sym, ap, ◌∙◌}
use borrow.Author.Tests.{ne_eqb}
use Rattle.mending.specs.Mend.{attempt}
use Rattle.meters.proofs.Filling.{digits_5, digits_6}
use Rattle.meters.proofs.kinds.mend_digits.Goals as goal

pub returns-then-kind-eq-SIGN_LEADING : goal.returns-then-kind-eq-SIGN_LEADING
returns-then-kind-eq-SIGN_LEADING c =
    let a = c.args in
    let bytes = a.bytes.now in
    let p = c.requires in
    let at-if1 = c.if-kind-eq-SIGN_LEADING in
    let at-sign-of = c.sign_of in
    let at-lead = c.lead in
    (digits_5 bytes at-lead.new.bytes at-sign-of.result (p) at-sign-of.ensures at-lead.ensures) ∙ ap (λ (k : ℕ). attempt k bytes) (sym at-if1.true)

pub returns-then-kind-eq-SIGN_TRAILING : goal.returns-then-kind-eq-SIGN_TRAILING
returns-then-kind-eq-SIGN_TRAILING c =
    let a = c.args in
    let bytes = a.bytes.now in
    let p = c.requires in
    let at-if2 = c.if-kind-eq-SIGN_TRAILING in
    let at-sign-of2 = c.sign_of-then-kind-eq-SIGN_TRAILING in
    let at-lead2 = c.lead-then-kind-eq-SIGN_TRAILING in
    (digits_6 bytes at-lead2.new.bytes at-sign-of2.result (p) at-sign-of2.ensures at-lead2.ensures) ∙ ap (λ (k : ℕ). attempt k bytes) (sym at-if2.true)

pub returns : goal.returns
unfolding attempt
returns c = rw (ne_eqb _ _ c.if-kind-eq-SIGN_LEADING.false, ne_eqb _ _ c.if-kind-eq-SIGN_TRAILING.false) c.lead-2.ensures
