-- Rests on the mask of so many bytes, which leaves as many of 8 spaces.
use mathlib.Core.Path.{ap, ◌∙◌}
use Prim.Native.Nat.{ℕ, ◌-◌}
use lib.Bits.{bit_and}
use Rattle.text_words.proofs.TextLaws.{spaces_are, one_shifted}
use Rattle.text_words.proofs.texts.spaces.Goals as goal

pub returns : goal.returns
returns c =
    ap (λ (n : ℕ). bit_and 0x2020202020202020 (n - 1)) (one_shifted c.args.count c.requires) ∙ spaces_are c.args.count c.requires
