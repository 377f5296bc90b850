-- `step` meets its contract.
use Rattle.naming.specs.Named.{known_at}
use Rattle.splitter.proofs.Walking.{found-next}
use Rattle.lexer.proofs.Meeting.{meets}
use Rattle.lexer.proofs.Ending.{no_step}
use Rattle.lexer.proofs.gathering.step.Goals as goal

pub add-requires : goal.add-requires
add-requires c = let f = (found-next c.next_word.result
    c.in-Some.word
    c.next_word.ensures c.in-Some.is) in record {
      ready = c.requires.1;
      meets = meets (known_at c.args.description.now
          c.args.items c.args.places.now) c.args.text.now
          c.args.held.past
          c.in-Some.word.at c.in-Some.word.end
          c.piece_at-piece.result f.0 f.1 f.3 c.piece_at-piece.ensures;
    }

pub returns-in_default : goal.returns-in_default
returns-in_default c = no_step c.next_word.result c.next_word.ensures c.in_default.is
