-- `number_content` meets its contract: a sign stands before the point, and the digits are those before and after it.
use mathlib.Core.Path.{ap, ap₂, ◌∙◌}
use mathlib.Core.Bool.{◌&&◌}
use native.Mathlib.Omega.{arith}
use Rattle.content.specs.Content.{all}
use Rattle.literal_words.proofs.Contents.{start_fits, content_here}
use Rattle.literal_words.proofs.numbers.number_content.Goals as goal

pub slice_bounds-all_digits-count : goal.slice_bounds-all_digits-count
slice_bounds-all_digits-count c =
    omega (
      arith,
      start_fits c.args.word.now c.args.p c.args.signed c.start_of-from.result
          c.requires.0 c.requires.1 c.start_of-from.ensures,
    )

pub slice_bounds-all_digits-start : goal.slice_bounds-all_digits-start
slice_bounds-all_digits-start c =
    omega (
      arith,
      start_fits c.args.word.now c.args.p c.args.signed c.start_of-from.result
          c.requires.0 c.requires.1 c.start_of-from.ensures,
    )

pub slice_bounds-all_digits-end : goal.slice_bounds-all_digits-end
slice_bounds-all_digits-end c =
    omega (
      arith,
      start_fits c.args.word.now c.args.p c.args.signed c.start_of-from.result
          c.requires.0 c.requires.1 c.start_of-from.ensures,
    )

pub returns : goal.returns
returns c digits =
    let a = c.args in
    ap₂ ◌&&◌ c.all_digits.ensures c.digits_after.ensures ∙ content_here a.word.now a.p a.signed c.start_of-from.result
    c.requires.0 c.requires.1 c.start_of-from.ensures digits
