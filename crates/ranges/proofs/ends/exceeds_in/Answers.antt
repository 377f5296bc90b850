-- `exceeds_in` meets its contract: from the laws of proofs/ and what its callees ensure. Assumes nothing.
-- `exceeds_in` meets its contract: from the laws of proofs/ and what its callees ensure. Assumes nothing.
use mathlib.Core.Path.{sym, ◌∙◌}
use lib.Seq.{length-take-le}
use Rattle.literal_rows.proofs.Words.{written-room, written_over_lem, written_fit, above_by}
use Rattle.ranges.proofs.ends.exceeds_in.Goals as goal

pub copy_literal-requires : goal.copy_literal-requires
copy_literal-requires c =
    written-room c.args.first.now c.args.low c.requires.written.0 _ c.requires.in_bounds.0

pub copy_literal-requires-2 : goal.copy_literal-requires-2
copy_literal-requires-2 c =
    written-room c.args.second.now c.args.high c.requires.written.1 _ c.requires.in_bounds.1

pub slice_bounds-is_above-end : goal.slice_bounds-is_above-end
slice_bounds-is_above-end c =
    (written_over_lem c.args.first.now c.args.low c.requires.written.0 _ c.copy_literal.ensures).0

pub slice_bounds-is_above-end-2 : goal.slice_bounds-is_above-end-2
slice_bounds-is_above-end-2 c =
    sym (length-take-le _ _ (written_over_lem c.args.first.now c.args.low c.requires.written.0 _ c.copy_literal.ensures).0)

pub slice_bounds-is_above-end-3 : goal.slice_bounds-is_above-end-3
slice_bounds-is_above-end-3 c =
    (written_over_lem c.args.second.now c.args.high c.requires.written.1 _ c.copy_literal-2.ensures).0

pub slice_bounds-is_above-end-4 : goal.slice_bounds-is_above-end-4
slice_bounds-is_above-end-4 c =
    sym (length-take-le _ _ (written_over_lem c.args.second.now c.args.high c.requires.written.1 _ c.copy_literal-2.ensures).0)

pub is_above-requires : goal.is_above-requires
is_above-requires c = (
  written_fit c.args.first.now c.args.low c.requires.written.0 _ (written_over_lem c.args.first.now c.args.low c.requires.written.0
      _ c.copy_literal.ensures).1,
  written_fit c.args.second.now c.args.high c.requires.written.1 _ (written_over_lem c.args.second.now c.args.high c.requires.written.1 _ c.copy_literal-2.ensures).1,
)

pub returns : goal.returns
returns c =
    c.is_above.ensures ∙ above_by c.args.first.now c.args.second.now c.args.low c.args.high c.requires.written.0
    c.requires.written.1 _ _ (written_over_lem c.args.first.now c.args.low c.requires.written.0 _ c.copy_literal.ensures).1 (written_over_lem
    c.args.second.now c.args.high c.requires.written.1 _ c.copy_literal-2.ensures).1
