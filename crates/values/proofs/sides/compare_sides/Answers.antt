-- Rests on what a fit side says in numbers, on the characters of the part that is compared, and on what the callees return.
use mathlib.Core.Path.{ap₂, ◌∙◌}
use Rattle.values.specs.Comparison.{side, comparison}
use Rattle.compare.specs.Compared.{character_order}
use Rattle.values.proofs.Reading.{some_bytes, some-compared, part-characters}
use Rattle.values.proofs.sides.compare_sides.Goals as goal

pub compared_part-requires : goal.compared_part-requires
compared_part-requires c = some_bytes c.requires.fit.0

pub compared_part-requires-2 : goal.compared_part-requires-2
compared_part-requires-2 c = some_bytes c.requires.fit.1

pub compare_characters-requires : goal.compare_characters-requires
compare_characters-requires c =
    let pre = c.requires.fit in (
      rw c.compared_part.ensures (some-compared pre.0 c.gives_digits-digits1.result),
      rw c.compared_part-2.ensures (some-compared pre.1 c.gives_digits-digits2.result),
    )

pub returns : goal.returns
unfolding comparison
returns c =
    let a = c.args in
    let s = side a.item1 a.row1 a.bytes1.now in
    let o = side a.item2 a.row2 a.bytes2.now in
    let left = part-characters s o c.gives_digits-digits1.ensures c.compared_part.ensures in
    let right = part-characters o s c.gives_digits-digits2.ensures c.compared_part-2.ensures in
    rw c.requires.row2_value (c.compare_characters.ensures ∙ ap₂ character_order left right)
