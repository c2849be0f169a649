-- What is written piece by piece.
use Rattle.std.specs.Prelude.{ℕ, List}
use Rattle.std.specs.Fmt.{decimal}
use Rattle.q_outside.specs.declared.pieces.Piece.{Piece}
use Rattle.q_outside.specs.declared.pieces.Piece.TheVariants as piece

abbrev pub piece_text : Piece → List ℕ
piece_text (piece.Number n) = decimal n
piece_text (piece.Words words) = words.now
