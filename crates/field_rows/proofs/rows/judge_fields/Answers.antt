-- By what the row tests.
use mathlib.Core.Path.{sym, ◌∙◌, ◌≡◌, refl}
use native.Mathlib.Omega.{arith}
use Rattle.std.proofs.lemmas.Bool.{true≢false}
use Rattle.std.proofs.lemmas.Grind.{common_steps}
use Rattle.typing.specs.declared.Test.TheVariants.{Class}
use Rattle.typing.specs.Tests.{test_of}
use Rattle.values.proofs.Reading.{read-class}
use Rattle.block_truths.proofs.Firsts.{first_readable}
use Rattle.block_truths.proofs.Passing.{retold_at, judged}
use Rattle.record_fields.proofs.Fitting.{right_for}
use Rattle.field_rows.proofs.Fitting.{item_fits, class_is}
use Rattle.field_rows.proofs.rows.judge_fields.Goals as goal

pub row_of-row-requires : goal.row_of-row-requires
row_of-row-requires c =
    let class_test : (test_of c.args.condition.relation ≡ Class c.in-Class.word c.in-Class.negated) = (sym c.test_of-test.ensures ∙ c.in-Class.is) in
    (read-class (first_readable c.requires.0) (class_test)).within.there

pub classify_each-requires : goal.classify_each-requires
classify_each-requires c =
    let class_test : (test_of c.args.condition.relation ≡ Class c.in-Class.word c.in-Class.negated) = (sym c.test_of-test.ensures ∙ c.in-Class.is) in
    let t = class_test in record {
      laid = (c.requires.0.laid, c.requires.1, c.requires.2);
      by_index = (λ k l. item_fits t c.row_of-row.ensures (c.requires.0.readable k l));
    }

pub returns-in-Class : goal.returns-in-Class
returns-in-Class c =
    let class_test : (test_of c.args.condition.relation ≡ Class c.in-Class.word c.in-Class.negated) = (sym c.test_of-test.ensures ∙ c.in-Class.is) in
    let t = class_test in
    record {
      judges_at = λ _. retold_at c.classify_each.ensures
          (λ k l v. right_for (class_is t c.row_of-row.ensures (c.requires.0.readable k l) c.args.switches));
      truths_unchanged = λ e. absurd (true≢false e);
      value = rw t;
    }
