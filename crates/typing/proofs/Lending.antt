-- The shape of a simple condition does not depend on the literal bytes, and its typing neither on them nor on the names: the code that
-- checks them is lent none. Nor does typing ask whether the rules have the switch-off words.
use mathlib.Core.Path.{◌≡◌, refl, ap₂, sym, ◌∙◌}
use mathlib.Core.Bool.{Bool, true, false, ◌&&◌}
use mathlib.Core.List.{List, []}
use Prim.Native.Nat.{ℕ, ◌/◌}
use borrow.Author.Tests.{eqb-true}
use Rattle.typing.specs.declared.Test.{Test}
use Rattle.typing.specs.declared.Test.TheVariants.{Alone, Relation, Class, Sign, Unknown}
use Rattle.tables.specs.Operands.{Lent, lend, lend_names, under, operand_sound}
use Rattle.tables.specs.Tokens.{is_off}
use Rattle.tables.proofs.Tests.{both}
use Rattle.typing.specs.Tests.{test_of}
use Rattle.typing.specs.Shape.{shape_sound, operands_sound}
use Rattle.typing.specs.Typing.{test_typed, typed}

-- an off token is no operand
pub operand_rules : (off : Bool) (lent : Lent) (x : ℕ) → operand_sound (under off lent) x ≡ operand_sound (under false lent) x
operand_rules off lent x = go (is_off x) refl
  where
    go : (b : Bool) → is_off x ≡ b → operand_sound (under off lent) x ≡ operand_sound (under false lent) x
    go true e = rw (eqb-true (x / 65536) 3 e)
    go false e = rw e

module _ (off : Bool) (items literals bytes names : List ℕ) where
  abbrev lent : Lent
  lent = under off (lend_names items literals bytes names)

  pub shape_lent : (x : Test) (subject object : ℕ)
      → shape_sound lent x subject object ≡ shape_sound (under off (lend_names items literals [] names)) x subject object
  shape_lent x subject object =
      elim x [ Alone ↦ refl | Relation w n ↦ refl | Class w n ↦ refl | Sign w n ↦ refl | Unknown ↦ refl ]

  pub test_lent : (x : Test) (subject object : ℕ)
      → test_typed lent x subject object ≡ test_typed (lend items literals []) x subject object
  test_lent x subject object =
      elim x [ Alone ↦ refl | Relation w n ↦ refl | Class w n ↦ refl | Sign w n ↦ refl | Unknown ↦ refl ]

  pub typed-lent : (subject relation object : ℕ)
      → typed lent subject relation object ≡ typed (lend items literals []) subject relation object
  unfolding typed
  typed-lent subject relation object = test_lent (test_of relation) subject object

  -- a simple condition of sound shape has its operands within their tables
  pub shape_operands : (x : Test) (subject object : ℕ) → shape_sound lent x subject object ≡ true
      → operands_sound (lend items literals []) x subject object ≡ true
  shape_operands Alone subject object e = refl
  shape_operands (Relation w n) subject object e = ap₂ ◌&&◌ (sym (operand_rules off lent subject)) (sym (operand_rules off lent object)) ∙ e
  shape_operands (Class w n) subject object e = sym (operand_rules off lent subject) ∙ (both (operand_sound lent subject) _ e).0
  shape_operands (Sign w n) subject object e = sym (operand_rules off lent subject) ∙ (both (operand_sound lent subject) _ e).0
  shape_operands Unknown subject object e = refl
