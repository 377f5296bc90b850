-- Rests on `|` of a number shifted past another, byte by byte.
use mathlib.Core.Path.{sym, ap, ◌∙◌}
use Prim.Native.Nat.{ℕ, ◌+◌, ◌*◌, ◌^◌}
use native.Mathlib.Omega.{arith}
use native.Mathlib.Nat.{zero-add}
use lib.Pow.{shl_exact}
use Rattle.byte_words.specs.Words.{word_from}
use Rattle.byte_words.proofs.WordLaws.{join_more, join_last}
use Rattle.byte_words.proofs.words.join.Goals as goal

pub returns : goal.returns
unfolding word_from
returns c =
    let x = c.args in
    let fit = c.ranges in
    join_last _ x.h
    (join_more _ x.g 8
    (join_more _ x.f 16
    (join_more _ x.e 24
    (join_more _ x.d 32
    (join_more _ x.c 40
    (join_more (0 * 256 + x.a) x.b 48 (shl_exact 8 56 64 fit.a.fits (omega arith) ∙ sym (ap (λ (n : ℕ). n * 2 ^ 56) (zero-add x.a)))
    fit.b.fits (omega arith))
    fit.c.fits (omega arith))
    fit.d.fits (omega arith))
    fit.e.fits (omega arith))
    fit.f.fits (omega arith))
    fit.g.fits (omega arith))
    fit.h.fits
