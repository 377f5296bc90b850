-- `plain` meets its contract.
use mathlib.Core.Path.{sym, ◌∙◌}
use mathlib.Core.Bool.{true}
use Prim.Native.Nat.{◌-◌}
use Rattle.naming.specs.Named.{known_at}
use Rattle.senses.proofs.Looking.{name_sense}
use Rattle.senses.proofs.meanings.plain.Goals as goal

pub returns-then-is_name : goal.returns-then-is_name
returns-then-is_name c = c.called.ensures ∙ name_sense (known_at c.args.description.now
    c.args.items c.args.places.now) c.args.word.now (sym c.is_name.ensures ∙ c.if-is_name.true)
