-- Document 01, refusal 11: "tokens within their tables, a relation of the grammar, .. 0 where 0 is named".
use Rattle.std.specs.Prelude.{Bool, true, false, ◌&&◌, ℕ, eqb}
use Rattle.typing.specs.declared.Test.{Test}
use Rattle.typing.specs.declared.Test.TheVariants.{Alone, Relation, Class, Sign, Unknown}
use Rattle.tables.specs.Operands.{Lent, operand_sound, alone_sound}

-- "A switch has 0, 0 after its token; class and sign rows have object 0." Document 02, h), of a condition-name: "Its plan row is the token,
-- 0, 0 and targets."
abbrev pub shape_sound : Lent → Test → ℕ → ℕ → Bool
shape_sound lent Alone subject object = alone_sound lent subject && eqb object 0
shape_sound lent (Relation word negated) subject object = operand_sound lent subject && operand_sound lent object
shape_sound lent (Class word negated) subject object = operand_sound lent subject && eqb object 0
shape_sound lent (Sign word negated) subject object = operand_sound lent subject && eqb object 0
shape_sound lent Unknown subject object = false

-- the part of it that typing rests on: the operands are within their tables
abbrev pub operands_sound : Lent → Test → ℕ → ℕ → Bool
operands_sound lent Alone subject object = true
operands_sound lent (Relation word negated) subject object = operand_sound lent subject && operand_sound lent object
operands_sound lent (Class word negated) subject object = operand_sound lent subject
operands_sound lent (Sign word negated) subject object = operand_sound lent subject
operands_sound lent Unknown subject object = true
