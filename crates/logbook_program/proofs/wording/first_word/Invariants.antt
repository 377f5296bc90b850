-- `first_word` meets its contract.
use Rattle.logbook_program.proofs.Naming.{Naming}
use Rattle.logbook_program.proofs.wording.first_word.Given as goal

abbrev pub invariant-loop-end : goal.invariant-loop-end
invariant-loop-end l = Naming l.rest l.end
