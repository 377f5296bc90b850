-- Which rows are judged with their sides looked up once.
use Rattle.std.specs.Prelude.{Bool, true, false}
use Rattle.typing.specs.declared.Test.{Test}
use Rattle.typing.specs.declared.Test.TheVariants.{Alone, Relation, Class, Sign, Unknown}

-- relations and class tests
abbrev pub by_fields : Test → Bool
by_fields (Relation word negated) = true
by_fields (Class word negated) = true
by_fields Alone = false
by_fields (Sign word negated) = false
by_fields Unknown = false
