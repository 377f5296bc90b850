-- What `token_there` ensures, and the laws of a loop that seeks the first place that fails a test.
use lib.ListN.{length, get_or}
use Rattle.tables.specs.Tokens.{token_there}
use Rattle.tables.specs.declared.Refusal.TheVariants.{Token}
use Rattle.tables.proofs.Lines.{Passed}
use Rattle.token_checks.proofs.tokens.check_tokens.Given as goal

abbrev pub invariant-loop-i : goal.invariant-loop-i
invariant-loop-i l = Passed (λ k. token_there l.off l.item_rows l.literal_rows l.name_rows (get_or l.tokens k 0)) Token (length l.tokens) l.i
