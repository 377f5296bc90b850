-- Why a token's place is that of a piece. The proof is in proofs/Tokens.antt.
use Rattle.std.specs.Prelude.{◌≡◌, List, ℕ, length}
use Rattle.spelling.specs.Names.{Book}
use Rattle.spelling.specs.Reading.{placed, read, reading}

-- a text that is read has as many tokens as pieces: each piece adds the one of its own number
abbrev pub TokenForEachPiece : Type 0
TokenForEachPiece =
    (b : Book) (text tokens rows content : List ℕ) → reading b text ≡ read tokens rows content → length tokens ≡ length (placed b.known text)
