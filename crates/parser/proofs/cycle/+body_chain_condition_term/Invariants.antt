-- The measure of a call is what its fuel has to exceed: 4 for each token left, and the level. A loop's invariant is `Continues`,
-- and its measure the tokens left.
use Prim.Native.Nat.{◌+◌, ◌*◌, ◌-◌}
use lib.ListN.{length}
use Rattle.grammar.specs.Parser.{parse_condition, parse_chain}
use Rattle.parser.proofs.Steps.{Continues}
use Rattle.parser.proofs.cycle.+body_chain_condition_term.Given as goal

abbrev pub decreases-body : goal.decreases-body
decreases-body l = 4 * (length l.tokens.now - l.at) + 0

abbrev pub decreases-chain : goal.decreases-chain
decreases-chain l = 4 * (length l.tokens.now - l.at) + 2

abbrev pub decreases-condition : goal.decreases-condition
decreases-condition l = 4 * (length l.tokens.now - l.at) + 3

abbrev pub decreases-term : goal.decreases-term
decreases-term l = 4 * (length l.tokens.now - l.at) + 1

abbrev pub invariant-chain-loop-part : goal.invariant-chain-loop-part
invariant-chain-loop-part l = Continues parse_chain 2 l.tokens l.initial.at l.initial.carry l.initial.row l.initial.rows l.at l.carry l.row l.rows

abbrev pub decreases-chain-loop-part : goal.decreases-chain-loop-part
decreases-chain-loop-part l = length l.tokens - l.at

abbrev pub invariant-condition-loop-part : goal.invariant-condition-loop-part
invariant-condition-loop-part l =
    Continues parse_condition 3 l.tokens l.initial.at l.initial.carry l.initial.row l.initial.rows l.at l.carry l.row l.rows

abbrev pub decreases-condition-loop-part : goal.decreases-condition-loop-part
decreases-condition-loop-part l = length l.tokens - l.at
