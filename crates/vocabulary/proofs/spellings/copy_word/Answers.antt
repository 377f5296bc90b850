-- `copy_word` meets its contract.
use mathlib.Core.Path.{ap, ◌∙◌}
use mathlib.Core.List.{List}
use Prim.Native.Nat.{ℕ, ◌-◌}
use native.Mathlib.Omega.{arith}
use Rattle.literal_bytes.specs.Written.{written_over}
use Rattle.vocabulary.proofs.Cells.{fits, part_is, size_is}
use Rattle.vocabulary.proofs.spellings.copy_word.Goals as goal

pub copy_part-requires : goal.copy_part-requires
copy_part-requires c =
    let p = c.requires in
    let f = fits c.args.k p.0 c.start_of.result c.start_of-2.result c.start_of.ensures c.start_of-2.ensures
    in (
      f.0,
      f.1,
      omega (
        arith,
        size_is c.args.k p.0 c.start_of.result c.start_of-2.result c.start_of.ensures
            c.start_of-2.ensures,
        p.1,
      ),
    )

pub returns : goal.returns
returns c =
    c.copy_part.ensures ∙ ap (λ (v : List ℕ). written_over v c.args.out.now) (part_is c.args.k c.requires.0 c.start_of.result
    c.start_of-2.result c.start_of.ensures c.start_of-2.ensures)
