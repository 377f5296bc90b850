-- The items that a sound simple condition names are rows of the item table.
use mathlib.Core.Path.{◌≡◌, refl}
use mathlib.Core.Bool.{Bool, true, false, cond}
use mathlib.Core.List.Memᴰ
use mathlib.Core.List.{List, [], ◌∷◌, Memᴰ}
use mathlib.Core.Logic.{⊎_elim, ◌⊎◌}
use Prim.Native.Nat.{ℕ, ◌/◌, ◌<◌, ◌≤◌}
use native.Mathlib.Omega.{arith}
use lib.Dec.{eqb}
use borrow.Author.Tests.{eqb-true, ltb-true}
use Rattle.tables.specs.Operands.{Lent, operand_sound, alone_sound}
use Rattle.tables.specs.Refusals.{first_of}
use Rattle.tables.specs.Rows.{row_count, name_count}
use Rattle.tables.specs.Names.{name_item}
use Rattle.tables.specs.Tokens.{is_item, is_name, index_of}
use Rattle.tables.proofs.Tests.{both}
use Rattle.tables.proofs.Bytes.{item_there}
use Rattle.typing.specs.declared.Test.{Test}
use Rattle.typing.specs.declared.Test.TheVariants.{Alone, Relation, Class, Sign, Unknown}
use Rattle.typing.specs.Tests.{test_of}
use Rattle.typing.specs.Shape.{shape_sound}
use Rattle.values.specs.Names.{lent_lines}
use Rattle.values.proofs.Names.{item_there as name-there}
use Rattle.rules.specs.Footprint.{items_among, rows_asked}
use Rattle.walker.specs.Marks.{AllBelow, Markable}
use Rattle.walker.proofs.Marking.{by_names}
use Rattle.std.specs.Prelude.{Ok}

module _ (lent : Lent) (tables : first_of (lent_lines lent) ≡ Ok tt) where
  -- a condition-name alone
  alone_there : (a : ℕ) → alone_sound lent a ≡ true → is_name a ≡ true → index_of a < name_count lent.names
  alone_there a s n = let k : a / 65536 ≡ 5 = eqb-true (a / 65536) 5 n in ltb-true _ _ (rw k at s)

  none : AllBelow (row_count lent.items) []
  none row m = absurd (Memᴰ.not-nil m)

  -- one operand more
  more : (x : ℕ) (operands : List ℕ) → operand_sound lent x ≡ true → AllBelow (row_count lent.items) (items_among operands) →
      AllBelow (row_count lent.items) (items_among (x ∷ operands))
  unfolding items_among
  more x operands s rest row = go (is_item x) refl
    where
      go : (b : Bool) → is_item x ≡ b → Memᴰ row (cond b (index_of x ∷ items_among operands) (items_among operands)) → row < row_count lent.items
      go true e m = ⊎_elim (λ h. let t = item_there lent x s (eqb-true _ 0 e) in omega arith) (rest row) (Memᴰ.cases_cons m)
      go false e m = rest row m

  none_among : AllBelow (row_count lent.items) (items_among [])
  unfolding items_among
  none_among = none

  pub below : (x : Test) (a b : ℕ) → shape_sound lent x a b ≡ true → AllBelow (row_count lent.items) (rows_asked lent x a b)
  below Alone a b s = go (is_name a) refl
    where
      go : (c : Bool) → is_name a ≡ c → AllBelow (row_count lent.items) (cond c (name_item lent.names (index_of a) ∷ []) [])
      go true e =
          λ row m.
          let t = name-there lent tables (index_of a) (alone_there a (both (alone_sound lent a) (eqb b 0) s).0 e) in
          let h = Memᴰ.eq_of_singleton m in omega arith
      go false e = none
  below (Relation word negated) a b s =
      let t = both (operand_sound lent a) (operand_sound lent b) s in more a (b ∷ []) t.0 (more b [] t.1 none_among)
  below (Class word negated) a b s = more a [] (both (operand_sound lent a) (eqb b 0) s).0 none_among
  below (Sign word negated) a b s = more a [] (both (operand_sound lent a) (eqb b 0) s).0 none_among
  below Unknown a b s = none

  pub markable : {marks : ℕ} → row_count lent.items ≤ marks → (subject relation object : ℕ) → shape_sound lent (test_of relation) subject object ≡ true →
      Markable lent.names marks subject relation object
  markable l a r b s =
      record {
        named = λ e n. alone_there a (both (alone_sound lent a) (eqb b 0) (rw e at s)).0 n;
        room = λ row m. let h = below (test_of r) a b s row (rw (by_names lent (test_of r) a b) at m) in omega arith;
      }
