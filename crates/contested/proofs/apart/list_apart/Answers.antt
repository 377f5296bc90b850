use mathlib.Core.Bool.{true, false, ◌&&◌}
use lib.ListN.{set, length-set}
use Rattle.std.proofs.lemmas.Grind.{common_steps}
use Rattle.tables.specs.Rows.{part}
use Rattle.items.specs.Items.{is_elementary, listed}
use Rattle.merging.specs.Merge.{changed_apart}
use Prim.Native.Nat.{ℕ, ◌-◌, ◌+◌, ◌<◌}
use native.Mathlib.Omega.{arith}
use mathlib.Core.Path.{◌≡◌, refl, sym, ap, ◌∙◌}
use mathlib.Core.List.{List, ◌++◌}
use lib.ListN.{length, drop}
use Rattle.content.specs.declared.Row.{Row}
use Rattle.tables.specs.Rows.{row_at, row_count}
use Rattle.copies.proofs.Choosing.{rows_where}
use Rattle.merging.specs.Merge.{copies_of, apart_at}
use Rattle.copies.proofs.Choosing.{rows_hit, rows_miss, count_hit, rows_grow, list_put}
use Rattle.contested.proofs.apart.list_apart.Goals as goal
use Rattle.contested.proofs.apart.list_apart.Goals.{else-is_apart, then-is_apart}

pub loop-v-init : goal.loop-v-init
unfolding listed
loop-v-init c = (omega arith, refl, refl, refl)

pub bounds-list-count : goal.bounds-list-count
bounds-list-count c =
    let a = c.args in
    let turn = c.loop-v in
    let pre = c.requires in
    let copies = copies_of a.items.now a.old.now a.first.now a.second.now in
    let t : (apart_at copies) turn.v ≡ true = sym (c.is_apart.ensures
    ∙ ap (λ (r : Row). is_elementary r && changed_apart (part r a.old.now) (part r a.first.now) (part r a.second.now)) c.row_at.ensures) ∙ c.if-is_apart.true in
    omega (arith, pre.2, count_hit (apart_at copies) turn.v t, rows_grow (apart_at copies) (turn.v + 1) (row_count a.items.now) (omega arith))

pub loop-v-preserved : goal.loop-v-preserved
loop-v-preserved c =
    let a = c.args in
    let turn = c.loop-v in
    let pre = c.requires in
    let copies = copies_of a.items.now a.old.now a.first.now a.second.now in
    let same = c.is_apart.ensures ∙ ap (λ (r : Row). is_elementary r && changed_apart (part r a.old.now) (part r a.first.now) (part
    r a.second.now)) c.row_at.ensures in
    let rows = rows_where (apart_at copies) turn.v in
    elim c.if-is_apart.branch [
      | then-is_apart w ↦ let t : (apart_at copies) turn.v ≡ true = sym same ∙ w.if-is_apart.true in
          let long : length rows < length a.list.now = omega (
            arith,
            pre.2,
            count_hit (apart_at copies) turn.v t,
            rows_grow (apart_at copies) (turn.v
                + 1) (row_count a.items.now) (omega arith),
          ) in
          let grown = sym (count_hit (apart_at copies) turn.v t) in (
            omega arith,
            w.count-is ∙ ap (λ (n : ℕ). n + 1) turn.invariant.1 ∙ grown,
            ap length w.list-is ∙ length-set turn.list turn.count turn.v ∙ turn.invariant.2,
            w.list-is ∙ ap (λ (l : List ℕ). set l turn.count turn.v) turn.invariant.3 ∙ ap (λ (n : ℕ). set (rows ++ drop n a.list.now) n turn.v) turn.invariant.1
                ∙ list_put a.list.now rows turn.v long ∙ ap (λ (l : List ℕ). l ++ drop (length rows + 1) a.list.now) (sym (rows_hit (apart_at copies)
                turn.v t)) ∙ ap (λ (n : ℕ). rows_where (apart_at copies) (turn.v + 1) ++ drop n a.list.now) (sym (w.count-is ∙ ap (λ (n : ℕ). n + 1) turn.invariant.1)),
          )
      | else-is_apart w ↦ let t : (apart_at copies) turn.v ≡ false = sym same ∙ w.if-is_apart.false in
          let still = sym (rows_miss (apart_at copies) turn.v t) in (
            omega arith,
            w.count-is ∙ turn.invariant.1 ∙ ap length still,
            ap length w.list-is ∙ turn.invariant.2,
            w.list-is ∙ turn.invariant.3 ∙ ap (λ (l : List ℕ). l ++ drop turn.count
                a.list.now) still ∙ ap (λ (n : ℕ). rows_where (apart_at copies) (turn.v + 1) ++ drop n a.list.now) (sym w.count-is),
          )
    ]
