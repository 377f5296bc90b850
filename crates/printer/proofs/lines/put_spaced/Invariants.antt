-- `put_spaced` meets its contract. The loop's invariant: the first words are written.
use Rattle.naming.specs.Named.{known_at}
use Rattle.spelling.specs.Printing.{word_of}
use Rattle.printer.proofs.Lining.{Spaced}
use Rattle.printer.proofs.lines.put_spaced.Given as goal

abbrev pub invariant-loop-token : goal.invariant-loop-token
invariant-loop-token l = Spaced (word_of (known_at l.description l.items l.places) l.literals l.bytes) l.tokens l.initial.out l.n l.token-index l.out
