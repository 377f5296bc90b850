-- The laws of a loop that seeks the first place that fails a test.
use mathlib.Core.Path.{ap}
use Prim.Native.Nat.{ℕ, ◌-◌}
use native.Mathlib.Omega.{arith}
use mathlib.Core.Path.{◌≡◌, refl, sym, ◌∙◌}
use mathlib.Core.Bool.{false, not}
use mathlib.Core.List.{List, [], ◌∷◌}
use Rattle.std.proofs.lemmas.Grind.{common_steps}
use Rattle.tables.specs.declared.Refusal.TheVariants.{Name}
use Rattle.tables.specs.Operands.{lend}
use Rattle.tables.specs.Refusals.{unless, first_of, Check}
use Rattle.tables.specs.Names.{names_length_sound}
use Rattle.tables.proofs.Lines.{test_passed, test_failed, passed_more, failed_at, passed_all, line_sound, line_refused, line_last}
use Rattle.values.specs.Names.{name_sound}
use Rattle.values.proofs.Names.{literal_fit}
use Rattle.name_tables.proofs.check_name_rows.Goals as goal

-- the line on the table's length does not apply
past : (names : List ℕ) {line : Check} → not (names_length_sound names) ≡ false → line ≡ first_of (unless (names_length_sound names) (Name 0) ∷ line ∷ [])
past names e = sym (line_sound _ (test_passed {b = names_length_sound names} (Name 0) refl e) ∙ line_last _)

pub returns-then-not-names : goal.returns-then-not-names
returns-then-not-names c = grind (arith, common_steps, test_failed, line_refused)

pub name_sound-requires : goal.name_sound-requires
name_sound-requires c =
    let a = c.args in
    (record { fits = literal_fit (lend a.items.now a.literals.now a.bytes.now) c.requires }, omega arith)

pub returns-then-not-name_sound : goal.returns-then-not-name_sound
returns-then-not-name_sound c =
    failed_at c.loop-v.invariant c.loop-v-test.true c.name_sound.ensures (ap not c.if-not-name_sound.true) ∙ past
    c.args.names.now (ap not c.if-not-names.false)

pub loop-v-preserved : goal.loop-v-preserved
loop-v-preserved c = passed_more c.loop-v.invariant c.loop-v-test.true c.name_sound.ensures (ap not c.if-not-name_sound.false)

pub returns : goal.returns
returns c = passed_all c.loop-v.invariant c.loop-v-test.false ∙ past c.args.names.now (ap not c.if-not-names.false)
