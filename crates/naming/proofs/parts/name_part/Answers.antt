-- `name_part` meets its contract.
use mathlib.Core.Path.{sym, ap, ◌∙◌}
use Prim.Native.Nat.{◌-◌}
use lib.Seq.{length-take-le}
use Rattle.spelling.specs.Names.{leading}
use Rattle.naming.proofs.Finding.{part-within, part_is}
use Rattle.naming.proofs.parts.name_part.Goals as goal

pub slice_bounds-result-end : goal.slice_bounds-result-end
slice_bounds-result-end c = sym (length-take-le c.name_length-n.result c.rest_from-rest.result.now (part-within c.rest_from-rest.result.now c.name_length-n.result c.name_length-n.ensures))

pub returns : goal.returns
returns c = part_is c.rest_from-rest.result.now c.name_length-n.result c.name_length-n.ensures ∙ ap leading c.rest_from-rest.ensures
