-- What has been converted stands at the start of the output.
use mathlib.Core.List.{[], ◌++◌}
use Prim.Native.Nat.{◌+◌, ◌-◌, ◌≤◌}
use native.Mathlib.Omega.{arith}
use lib.ListN.{length, get_or, length-drop, length-append}
use lib.Dec.{eqb}
use Rattle.tables.proofs.Front.{front_none, front_rest, front_part}
use Rattle.grammar.specs.Converted.{not_if}
use Rattle.conversion.specs.Steps.{step}
use Rattle.conversion.proofs.Progress.{Progress, start, upto, further, ended}
use Rattle.conversion.proofs.words.write_converted.Goals as goal

pub loop-token-init : goal.loop-token-init
loop-token-init c = ([], start _, front_none _)

pub write_step-written-requires : goal.write_step-written-requires
write_step-written-requires c =
    let next : (let l = c.loop-token in
    let x = get_or c.args.tokens.now l.token-index 0 in
    Progress c.args.tokens.now (l.invariant.0 ++ step l.waits x) (l.token-index + 1) (l.written + length (step l.waits x)) (eqb x 262146)) = (further c.loop-token.invariant.1 (omega arith)) in
    let room : (let l = c.loop-token in
    l.written + length (step l.waits (get_or c.args.tokens.now l.token-index 0)) ≤ length c.args.out.now) = (omega (arith, upto next, c.requires)) in
    let l = c.loop-token in
    rw (front_rest l.invariant.2) (omega (arith, room, length-drop l.written c.args.out.now))

pub loop-token-preserved : goal.loop-token-preserved
loop-token-preserved c =
    let next : (let l = c.loop-token in
    let x = get_or c.args.tokens.now l.token-index 0 in
    Progress c.args.tokens.now (l.invariant.0 ++ step l.waits x) (l.token-index + 1) (l.written + length (step l.waits x)) (eqb x 262146)) = (further c.loop-token.invariant.1 (omega arith)) in
    let room : (let l = c.loop-token in
    l.written + length (step l.waits (get_or c.args.tokens.now l.token-index 0)) ≤ length c.args.out.now) = (omega (arith, upto next, c.requires)) in
    let l = c.loop-token in
    let w = l.invariant.0 in let p = l.invariant.1 in let f = l.invariant.2 in
    let x = get_or c.args.tokens.now l.token-index 0 in
    let s = c.write_step-written in
    let e = s.ensures.value in let g = s.ensures.out_after in
    let h = room in
    (w ++ step l.waits x, rw e next, front_part f (step l.waits x) s.new.out s.result e (omega arith) g)

pub write_not-requires : goal.write_not-requires
write_not-requires c =
    let last_room : (let l = c.loop-token in l.written + length (not_if l.waits) ≤ length c.args.out.now) = (let w = c.loop-token.invariant.0 in let p = c.loop-token.invariant.1 in let f = c.loop-token.invariant.2 in
    let h = rw (ended p (omega arith)) at c.requires in
    omega (arith, h, p.size, length-append w (not_if c.loop-token.waits))) in
    let l = c.loop-token in
    rw (front_rest l.invariant.2) (omega (arith, last_room, length-drop l.written c.args.out.now))

pub returns : goal.returns
returns c =
    let last_room : (let l = c.loop-token in l.written + length (not_if l.waits) ≤ length c.args.out.now) = (let w = c.loop-token.invariant.0 in let p = c.loop-token.invariant.1 in let f = c.loop-token.invariant.2 in
    let h = rw (ended p (omega arith)) at c.requires in
    omega (arith, h, p.size, length-append w (not_if c.loop-token.waits))) in
    let l = c.loop-token in
    let w = l.invariant.0 in let p = l.invariant.1 in let f = l.invariant.2 in
    let s = c.write_not in
    let e = s.ensures.value in let g = s.ensures.out_after in
    let h = last_room in
    let whole = front_part f (not_if l.waits) s.new.out s.result e (omega arith) g in
    rw (ended p (omega arith)) record {
      value = whole.size;
      out_after = whole.holds;
    }
