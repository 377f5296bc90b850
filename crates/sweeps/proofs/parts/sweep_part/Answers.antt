-- The walk, and then the numbers.
use mathlib.Core.Path.{◌≡◌, refl}
use mathlib.Core.List.{List}
use Prim.Native.Nat.{ℕ}
use lib.ListN.{length}
use native.Mathlib.Omega.{arith}
use Rattle.std.proofs.lemmas.Grind.{common_steps}
use Rattle.tables.specs.Operands.{Lent, lend_names}
use Rattle.blocks.specs.Blocks.{Walked}
use Rattle.sweeps.proofs.Blocks.{walkable, unwalked}
use Rattle.sweeps.proofs.parts.sweep_part.Goals as goal
use Rattle.sweeps.proofs.parts.sweep_part.Goals.{then-block-ge-FEW, else-block-ge-FEW}

pub walk_block-requires : goal.walk_block-requires
walk_block-requires c =
    let lent : (Lent) = (lend_names c.args.items.now c.args.literals.now c.args.bytes.now c.args.names.now) in
    record {
      walkable = walkable c.requires.part lent c.args.plan.now c.args.switches c.requires.sweepable;
      at_len = (refl, refl);
    }

pub answer_part-requires : goal.answer_part-requires
answer_part-requires c =
    let a = c.args in
    let lent = lend_names a.items.now a.literals.now a.bytes.now a.names.now in
    record {
      sweepable = c.requires.sweepable;
      part = c.requires.part;
      at_len = elim c.if-block-ge-FEW.branch [
        | then-block-ge-FEW w ↦ rw (w.at-is, w.counts-is) (w.walk_block.auto.at, w.walk_block.auto.counts, w.walk_block.ensures)
        | else-block-ge-FEW w ↦
            rw (w.at-is, w.counts-is)
            (refl, refl, unwalked lent a.plan.now a.records.now a.block.from a.block.size a.block.n a.switches c.requires.part.few)
      ];
    }
