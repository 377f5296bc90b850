-- The subject, the words of the relation and the object are written one after the other over the start of the output.
use mathlib.Core.Path.{refl, ap}
use mathlib.Core.List.{[], ◌∷◌}
use Prim.Native.Nat.{◌+◌, ◌-◌, ◌≤◌, ◌<◌}
use native.Mathlib.Omega.{arith}
use borrow.Rule.Slice.PartMut.{put_mid}
use lib.ListN.{length, set, length-set, length-drop, length-append}
use Rattle.grammar.specs.Expanded.{stated}
use Rattle.tables.proofs.Front.{Front, front_none, front_length, front_store, front_rest, front_part}
use Rattle.expander.proofs.Writing.{full-alone, full-object, full_no_object, full-least, full-some}
use Rattle.expander.proofs.expand.write_simple.Goals as goal

pub bounds-out-0 : goal.bounds-out-0
bounds-out-0 c =
    let begun : (let a = c.args in Front (a.subject ∷ []) a.out.now 1 (set a.out.now 0 a.subject)) = (let a = c.args in
    front_store (front_none a.out.now) a.subject (omega (arith, full-some a.subject a.relation a.object))) in
    omega (arith, begun.fits)

pub returns-then-relation-eq0 : goal.returns-then-relation-eq0
returns-then-relation-eq0 c =
    let begun : (let a = c.args in Front (a.subject ∷ []) a.out.now 1 (set a.out.now 0 a.subject)) = (let a = c.args in
    front_store (front_none a.out.now) a.subject (omega (arith, full-some a.subject a.relation a.object))) in
    let a = c.args in
    rw (full-alone a.subject a.relation a.object c.if-relation-eq0.true) (record {
      value = refl;
      out_after = begun.holds;
    })

pub slice_bounds-write_relation-count : goal.slice_bounds-write_relation-count
slice_bounds-write_relation-count c =
    let room : (let a = c.args in 1 + length (stated a.relation) ≤ length a.out.now) = (let a = c.args in omega (arith, full-least a.subject a.relation a.object c.if-relation-eq0.false)) in
    simp length-set (omega (arith, room))

pub slice_bounds-write_relation-start : goal.slice_bounds-write_relation-start
slice_bounds-write_relation-start c =
    let room : (let a = c.args in 1 + length (stated a.relation) ≤ length a.out.now) = (let a = c.args in omega (arith, full-least a.subject a.relation a.object c.if-relation-eq0.false)) in
    simp length-set (omega (arith, room))

pub write_relation-end-requires : goal.write_relation-end-requires
write_relation-end-requires c =
    let begun : (let a = c.args in Front (a.subject ∷ []) a.out.now 1 (set a.out.now 0 a.subject)) = (let a = c.args in
    front_store (front_none a.out.now) a.subject (omega (arith, full-some a.subject a.relation a.object))) in
    let room : (let a = c.args in 1 + length (stated a.relation) ≤ length a.out.now) = (let a = c.args in omega (arith, full-least a.subject a.relation a.object c.if-relation-eq0.false)) in
    rw (front_rest begun) (c.requires.0, omega (arith, room, length-drop 1 c.args.out.now))

pub bounds-out-end : goal.bounds-out-end
bounds-out-end c =
    let begun : (let a = c.args in Front (a.subject ∷ []) a.out.now 1 (set a.out.now 0 a.subject)) = (let a = c.args in
    front_store (front_none a.out.now) a.subject (omega (arith, full-some a.subject a.relation a.object))) in
    let room : (let a = c.args in 1 + length (stated a.relation) ≤ length a.out.now) = (let a = c.args in omega (arith, full-least a.subject a.relation a.object c.if-relation-eq0.false)) in
    let related : (let a = c.args in
    let w = c.write_relation-end in
    let now = set a.out.now 0 a.subject in
    Front (a.subject ∷ stated a.relation) a.out.now (1 + w.result) (put_mid 1 (length now - 1) now w.new.out)) = (let b = c in
    let a = b.args in
    let w = c.write_relation-end in
    let e = w.ensures.value in let g = w.ensures.out_after in
    front_part begun (stated a.relation) w.new.out w.result e (omega (arith, room)) g) in
    let object-room : (1 + c.write_relation-end.result < length c.args.out.now) = (let a = c.args in
    let e = ap length (full-object a.subject a.relation a.object c.if-relation-eq0.false c.if-relation-lt10.true) in
    omega (arith, related.size, c.requires.1, length-append (stated a.relation) (a.object ∷ []))) in
    rw (front_length related) object-room

pub returns-then-relation-lt10 : goal.returns-then-relation-lt10
returns-then-relation-lt10 c =
    let begun : (let a = c.args in Front (a.subject ∷ []) a.out.now 1 (set a.out.now 0 a.subject)) = (let a = c.args in
    front_store (front_none a.out.now) a.subject (omega (arith, full-some a.subject a.relation a.object))) in
    let room : (let a = c.args in 1 + length (stated a.relation) ≤ length a.out.now) = (let a = c.args in omega (arith, full-least a.subject a.relation a.object c.if-relation-eq0.false)) in
    let related : (let a = c.args in
    let w = c.write_relation-end in
    let now = set a.out.now 0 a.subject in
    Front (a.subject ∷ stated a.relation) a.out.now (1 + w.result) (put_mid 1 (length now - 1) now w.new.out)) = (let b = c in
    let a = b.args in
    let w = c.write_relation-end in
    let e = w.ensures.value in let g = w.ensures.out_after in
    front_part begun (stated a.relation) w.new.out w.result e (omega (arith, room)) g) in
    let object-room : (1 + c.write_relation-end.result < length c.args.out.now) = (let b = c in
    let a = b.args in
    let e = ap length (full-object a.subject a.relation a.object b.if-relation-eq0.false c.if-relation-lt10.true) in
    omega (arith, related.size, b.requires.1, length-append (stated a.relation) (a.object ∷ []))) in
    let a = c.args in
    let f = front_store related a.object object-room in
    rw (full-object a.subject a.relation a.object c.if-relation-eq0.false c.if-relation-lt10.true) (record {
      value = f.size;
      out_after = f.holds;
    })

pub returns : goal.returns
returns c =
    let begun : (let a = c.args in Front (a.subject ∷ []) a.out.now 1 (set a.out.now 0 a.subject)) = (let a = c.args in
    front_store (front_none a.out.now) a.subject (omega (arith, full-some a.subject a.relation a.object))) in
    let room : (let a = c.args in 1 + length (stated a.relation) ≤ length a.out.now) = (let a = c.args in omega (arith, full-least a.subject a.relation a.object c.if-relation-eq0.false)) in
    let related : (let a = c.args in
    let w = c.write_relation-end in
    let now = set a.out.now 0 a.subject in
    Front (a.subject ∷ stated a.relation) a.out.now (1 + w.result) (put_mid 1 (length now - 1) now w.new.out)) = (let b = c in
    let a = b.args in
    let w = c.write_relation-end in
    let e = w.ensures.value in let g = w.ensures.out_after in
    front_part begun (stated a.relation) w.new.out w.result e (omega (arith, room)) g) in
    let a = c.args in
    let f = related in
    rw (full_no_object a.subject a.relation a.object c.if-relation-eq0.false c.if-relation-lt10.false) (record {
      value = f.size;
      out_after = f.holds;
    })
