-- `called` meets its contract.
use native.Mathlib.Omega.{arith}
use Rattle.naming.specs.Named.{known_at}
use Rattle.naming.proofs.Finding.{every_name_lem, names-length}
use Rattle.senses.proofs.Looking.{name_bytes, condition_small}
use Rattle.senses.proofs.meanings.called.Goals as goal

pub row_named-requires : goal.row_named-requires
row_named-requires c = (
  name_bytes (known_at c.args.description.now c.args.items c.args.places.now) c.args.word.now c.requires.0,
  c.requires.1,
)

pub overflow_add-result : goal.overflow_add-result
overflow_add-result c = omega (
  arith,
  condition_small (known_at c.args.description.now
      c.args.items c.args.places.now) c.args.word.now c.requires.0
      c.row_named.result c.row_named.ensures (rw c.in-Some-Condition.field-0-is at c.in-Some-Condition.is) (rw (
        every_name_lem c.args.description.now c.args.items c.args.places.now,
        names-length c.args.description.now
            c.args.places.now,
      ) c.requires.1.few),
)
