-- Rests on the invariant that the word is that of the first bytes, as many as were passed, which leaves room for one more.
use mathlib.Core.Path.{◌≡◌, ap, ◌∙◌}
use mathlib.Core.List.{List}
use Prim.Native.Nat.{ℕ, ◌+◌, ◌-◌, ◌*◌, ◌<◌, ◌≤◌}
use native.Mathlib.Omega.{arith}
use lib.ListN.{length, get_or, take, drop}
use lib.Seq.{take_all}
use Rattle.std.proofs.lemmas.List.{take_rest, get_or-drop, length-drop}
use Rattle.byte_words.specs.Words.{digit_of, digit_word}
use Rattle.byte_words.proofs.WordLaws.{bytes_of, word_more, word_room}
use Rattle.byte_words.proofs.words.longer_word.Goals as goal

-- the byte at i of those from a place on
rest_at : (xs : List ℕ) (from i : ℕ) → get_or (take (length xs - from) (drop from xs)) i 0 ≡ get_or xs (from + i) 0
rest_at xs from i = rw (take_rest xs from) (get_or-drop from xs i 0)

rest_below : (xs : List ℕ) (from i : ℕ) → from ≤ length xs → i < length (take (length xs - from) (drop from xs)) → from + i < length xs
rest_below xs from i h l = omega (arith, l, ap length (take_rest xs from), length-drop from xs)

pub overflow_mul-word : goal.overflow_mul-word
overflow_mul-word c =
    let xs = c.args.bytes.now in
    let i = c.args.from + c.loop-b.b-index in
    let bytes = bytes_of xs (λ i. (c.type_inv.bytes i).fits) in
    let below = rest_below xs c.args.from c.loop-b.b-index c.requires.0 c.loop-b-test.true in
    omega (arith, c.loop-b.invariant, word_room bytes i below c.requires.1)

pub overflow_add-word : goal.overflow_add-word
overflow_add-word c =
    let xs = c.args.bytes.now in
    let i = c.args.from + c.loop-b.b-index in
    let bytes = bytes_of xs (λ i. (c.type_inv.bytes i).fits) in
    let below = rest_below xs c.args.from c.loop-b.b-index c.requires.0 c.loop-b-test.true in
    omega (arith, c.loop-b.invariant, word_room bytes i below c.requires.1, c.digit_of.ensures.1)

pub loop-b-preserved : goal.loop-b-preserved
loop-b-preserved c =
    let xs = c.args.bytes.now in
    let from = c.args.from in
    let i = c.loop-b.b-index in
    let below = rest_below xs from i c.requires.0 c.loop-b-test.true in
    let e : c.digit_of.result ≡ digit_of (get_or xs (from + i) 0) = c.digit_of.ensures.0 ∙ ap digit_of (rest_at xs from i) in
    let next : from + (i + 1) ≡ from + i + 1 = omega arith in
    let more : digit_word (take (from + (i + 1)) xs) ≡ digit_word (take (from + i) xs) * 256 + digit_of (get_or xs (from + i) 0) =
    ap (λ (n : ℕ). digit_word (take n xs)) next ∙ word_more xs (from + i) below in
    omega (arith, e, more, c.loop-b.invariant)

pub returns : goal.returns
returns c =
    let xs = c.args.bytes.now in
    let from = c.args.from in
    let e : take (from + c.loop-b.b-index) xs ≡ xs = take_all _ xs (omega (arith, ap length (take_rest xs from), length-drop from xs)) in
    c.loop-b.invariant ∙ ap digit_word e
