-- The pieces of the text are passed one at a time.
use mathlib.Core.Path.{sym, ap, ◌∙◌}
use mathlib.Core.List.{List}
use Prim.Native.Nat.{ℕ, ◌-◌}
use Rattle.spelling.specs.Names.{Known}
use Rattle.naming.specs.Named.{known_at}
use Rattle.splitter.proofs.Walking.{found-next, found_end}
use Rattle.lexer.specs.Gathers.{left as left_of}
use Rattle.lexer.proofs.Meeting.{meets}
use Rattle.positions.specs.Positions.{text_end, place_in}
use Rattle.positions.proofs.Stepping.{this_piece, next_piece, no_piece, past_all}
use Rattle.positions.proofs.starts.token_place.Goals as goal

pub returns-then-left-eq0 : goal.returns-then-left-eq0
returns-then-left-eq0 c =
    let l = c.loop-past in
    let known : Known = known_at c.args.description.now c.args.items c.args.places.now in
    let text : List ℕ = c.args.text.now in
    let f = found-next c.next_word.result c.in-Some.word c.next_word.ensures c.in-Some.is in
    let e = ap (λ (k : ℕ). place_in (text_end text) k (left_of known text l.past)) c.if-left-eq0.true in
    sym (this_piece known text (text_end text) l.past c.in-Some.word.at c.in-Some.word.end f.3) ∙ sym e ∙ l.invariant.1

pub loop-past-preserved : goal.loop-past-preserved
loop-past-preserved c =
    let l = c.loop-past in
    let known : Known = known_at c.args.description.now c.args.items c.args.places.now in
    let text : List ℕ = c.args.text.now in
    let f = found-next c.next_word.result c.in-Some.word c.next_word.ensures c.in-Some.is in
    let m = meets known text l.past c.in-Some.word.at c.in-Some.word.end c.piece_at-piece.result f.0 f.1 f.3
    c.piece_at-piece.ensures in
    (c.piece_at-piece.ensures.within, next_piece known text (text_end text) l.past l.left c.if-left-eq0.false m ∙ l.invariant.1)

pub returns-in_default : goal.returns-in_default
returns-in_default c =
    let l = c.loop-past in
    let text : List ℕ = c.args.text.now in
    let e = found_end c.next_word.result c.next_word.ensures c.in_default.is in
    c.text_end.ensures ∙ sym (no_piece (known_at c.args.description.now c.args.items c.args.places.now) text (text_end text) l.past l.left e) ∙ l.invariant.1

pub returns : goal.returns
returns c =
    let l = c.loop-past in
    let known : Known = known_at c.args.description.now c.args.items c.args.places.now in
    let text : List ℕ = c.args.text.now in
    c.text_end-2.ensures ∙ sym (past_all known text (text_end text) l.past l.left c.loop-past-test.false) ∙ l.invariant.1
