-- What a sound row says of the part that it names.
use native.Mathlib.Omega.{arith}
use mathlib.Core.Path.{◌≡◌}
use mathlib.Core.List.{List}
use mathlib.Core.Bool.{true}
use Prim.Native.Nat.{ℕ}
use borrow.Author.Tests.{leb-true}
use Rattle.compare.specs.Fields.{NumberField}
use Rattle.content.specs.declared.Row.{Row}
use Rattle.tables.specs.Rows.{row_sound, is_numeric, lies_in, part}
use Rattle.tables.proofs.Bytes.{sound_part, digits_fit, packed-fits, display_kinds}

-- a numeric part holds a number
pub number_field : (r : Row) (content : List ℕ) → row_sound r ≡ true → lies_in r content ≡ true → is_numeric r ≡ true → NumberField r.kind (part r content)
number_field r content e l n =
    let s = sound_part r content e (leb-true _ _ l) in
    record {
      some = omega (arith, s.0, s.1);
      packed = λ p. packed-fits r (part r content) e p s.0;
      display = λ p. display_kinds r.kind n p;
      digits = digits_fit r (part r content) e n s.0;
    }
