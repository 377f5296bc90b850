-- A quote, each byte, and a quote.
use Rattle.std.proofs.Common.{take}
use Rattle.lines.specs.Put.{Puts}
use Rattle.change_lines.specs.Contents.{bytes_shown}
use Rattle.change_lines.proofs.contents.put_content.Given as goal

abbrev pub invariant-loop-byte : goal.invariant-loop-byte
invariant-loop-byte l = Puts l.initial.out l.initial.end (bytes_shown (take l.byte-index l.bytes)) l.end l.out
