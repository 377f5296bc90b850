-- The status is the verdict's.
use Rattle.logbook_program.proofs.Ruling.{status_of_lem}
use Rattle.logbook_program.proofs.judge_record.judge_loaded.Goals as goal

pub returns-in-True-clause-value : goal.returns-in-True-clause-value
returns-in-True-clause-value c = status_of_lem c.run-answer.ensures.value c.in-True.is

pub returns-in-False-clause-value : goal.returns-in-False-clause-value
returns-in-False-clause-value c = status_of_lem c.run-answer.ensures.value c.in-False.is

pub returns-in-Refused-clause-value : goal.returns-in-Refused-clause-value
returns-in-Refused-clause-value c = status_of_lem c.run-answer.ensures.value c.in-Refused.is
