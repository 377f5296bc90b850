-- Each step leaves room for the next; what they come to are the laws of ValueLaws.
use Rattle.std.proofs.Common.{ℕ, ◌+◌, ◌*◌, ◌/◌, refl}
use lib.Bits.{bit_and}
use Rattle.eight_digits.proofs.ValueLaws.{value_is}
use Rattle.eight_digits.proofs.digits.digits_value.Goals as goal

-- what the steps come to
abbrev ones : ℕ → ℕ
ones word = bit_and word 0x0f0f0f0f0f0f0f0f

abbrev twos : ℕ → ℕ
twos word = bit_and (ones word + ones word / 256 * 10) 0x00ff00ff00ff00ff

abbrev fours : ℕ → ℕ
fours word = bit_and (twos word + twos word / 65536 * 100) 0x0000ffff0000ffff

pub returns : goal.returns
returns c = value_is c.args.word {x = ones c.args.word} {y = twos c.args.word} {z = fours c.args.word} refl refl refl
