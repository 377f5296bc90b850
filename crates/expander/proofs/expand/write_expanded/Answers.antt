-- What has been spelled stands at the start of the output.
use mathlib.Core.Path.{refl}
use mathlib.Core.List.{[], ◌++◌}
use Prim.Native.Nat.{◌+◌, ◌-◌, ◌≤◌, ◌<◌}
use native.Mathlib.Omega.{arith}
use lib.ListN.{length, length-drop}
use Rattle.std.proofs.lemmas.Grind.{common_steps}
use Rattle.grammar.specs.Expanded.{full_form}
use Rattle.expander.proofs.Progress.{Progress, start, upto, ended, halted, further}
use Rattle.tables.proofs.Front.{front_none, front_rest, front_part}
use Rattle.expander.proofs.expand.write_expanded.Goals as goal

pub loop-at-init : goal.loop-at-init
loop-at-init c = ([], start _ refl, front_none _)

pub returns-in_default : goal.returns-in_default
returns-in_default c =
    let p = c.loop-at.invariant.1 in let f = c.loop-at.invariant.2 in
    rw (halted p c.read_part.result c.read_part.ensures c.in_default.not-Ok) (record {
      value = p.size;
      out_after = f.holds;
    })

pub write_simple-written-requires : goal.write_simple-written-requires
write_simple-written-requires c =
    let l = c.loop-at in let r = c.in-Ok.single in
    let next = further l.invariant.1 c.loop-at-test.true c.read_part.ensures c.in-Ok.is in
    let room : l.written + length (full_form r.subject r.relation r.object) ≤ length c.args.out.now = omega (arith, upto next.0, c.requires) in
    (next.1, rw (front_rest l.invariant.2) (omega (arith, room, length-drop l.written c.args.out.now)))

pub loop-at-preserved : goal.loop-at-preserved
loop-at-preserved c =
    let l = c.loop-at in let r = c.in-Ok.single in let s = c.write_simple-written in
    let w = l.invariant.0 in let f = l.invariant.2 in
    let form = full_form r.subject r.relation r.object in
    let next = further l.invariant.1 c.loop-at-test.true c.read_part.ensures c.in-Ok.is in
    let room : l.written + length form ≤ length c.args.out.now = omega (arith, upto next.0, c.requires) in
    let e = s.ensures.value in
    (w ++ form, rw e next.0, front_part f form s.new.out s.result e (omega arith) s.ensures.out_after)

pub returns : goal.returns
returns c =
    let w = c.loop-at.invariant.0 in let p = c.loop-at.invariant.1 in let f = c.loop-at.invariant.2 in
    rw (ended p c.loop-at-test.false) (record {
      value = p.size;
      out_after = f.holds;
    })
