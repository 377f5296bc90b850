-- `thru_at` meets its contract: from the laws of proofs/ and what its callees ensure. Assumes nothing.
use mathlib.Core.Path.{sym}
use Rattle.description.specs.Grammar.{bytes}
use Rattle.condition_names.proofs.Leads.{word-within}
use Rattle.condition_names.proofs.scan.thru_at.Goals as goal

pub high_at-requires : goal.high_at-requires
high_at-requires c = (word-within (bytes "THRU") c.args.text.now c.args.mid _ c.requires (sym c.in_ok-k.ensures)).1
