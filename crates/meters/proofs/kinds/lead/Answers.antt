use mathlib.Core.Path.{◌≡◌}
use mathlib.Core.Bool.{true, false}
use Rattle.content.specs.Content.{all}
use Rattle.content.specs.Letters.{is_space}
use Rattle.mending.specs.Mend.{leading}
use Rattle.meters.proofs.kinds.lead.Goals as goal

pub returns-then-not-blank : goal.returns-then-not-blank
unfolding leading
returns-then-not-blank c =
    let e : all is_space c.args.bytes.now ≡ false = cc in
    rw e c.fill.ensures

pub returns-else-not-blank : goal.returns-else-not-blank
unfolding leading
returns-else-not-blank c =
    let e : all is_space c.args.bytes.now ≡ true = cc in
    rw e
