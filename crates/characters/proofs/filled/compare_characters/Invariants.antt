-- Rests on the invariant that the two filled sides compare as what is left of them from i on.
use Rattle.content.specs.Content.{unsigned_last}
use Rattle.characters.proofs.CharacterLaws.{Agree}
use Rattle.characters.proofs.filled.compare_characters.Given as goal

abbrev pub invariant-loop-i : goal.invariant-loop-i
invariant-loop-i l = Agree l.n (unsigned_last l.left_signed l.left) (unsigned_last l.right_signed l.right) l.i
