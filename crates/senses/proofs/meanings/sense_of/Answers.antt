-- `sense_of` meets its contract.
use mathlib.Core.Path.{◌∙◌}
use Prim.Native.Nat.{◌-◌}
use native.Mathlib.Omega.{arith}
use Rattle.naming.specs.Named.{known_at}
use Rattle.senses.proofs.Looking.{text_is, text_not, text_small, text_sense, number_sense, plain_sense}
use Rattle.senses.proofs.meanings.sense_of.Goals as goal

pub text_row-requires : goal.text_row-requires
text_row-requires c = let t = text_is c.args.word.now c.read_text.result
    c.read_text.ensures c.in-Some.is in omega (
      arith,
      t.1,
      text_small c.args.word.now t.0,
    )

pub returns-in-Some : goal.returns-in-Some
returns-in-Some c = let t = text_is c.args.word.now c.read_text.result
    c.read_text.ensures c.in-Some.is in rw c.text_row.ensures (text_sense (known_at c.args.description.now c.args.items c.args.places.now) c.args.word.now t.0
    t.1)

pub returns-in-Some-read_number : goal.returns-in-Some-read_number
returns-in-Some-read_number c = number_sense (known_at c.args.description.now
    c.args.items c.args.places.now) c.args.word.now (text_not c.args.word.now c.read_text.result
    c.read_text.ensures c.in_default.is)
    c.read_number.result c.read_number.ensures c.in-Some-read_number.is

pub returns-in-None : goal.returns-in-None
returns-in-None c = c.plain.ensures ∙ plain_sense (known_at c.args.description.now
    c.args.items c.args.places.now) c.args.word.now (text_not c.args.word.now c.read_text.result
    c.read_text.ensures c.in_default.is)
    c.read_number.result c.read_number.ensures c.in-None.is
