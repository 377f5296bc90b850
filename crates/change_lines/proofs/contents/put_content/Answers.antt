-- A quote, each byte, and a quote.
use Rattle.std.proofs.Common.{arith}
use Rattle.change_lines.proofs.Showing.{no_bytes, byte_more, content-done}
use Rattle.change_lines.proofs.contents.put_content.Goals as goal

pub loop-byte-init : goal.loop-byte-init
loop-byte-init c = no_bytes c.put-end.new.out c.put-end.result c.args.bytes.now

pub loop-byte-preserved : goal.loop-byte-preserved
loop-byte-preserved c = byte_more c.args.bytes.now c.loop-byte.byte-index c.loop-byte.invariant (omega arith) c.put_byte-end.ensures

pub returns : goal.returns
returns c = content-done c.args.bytes.now c.loop-byte.byte-index c.put-end.ensures c.loop-byte.invariant (omega arith) c.put.ensures
