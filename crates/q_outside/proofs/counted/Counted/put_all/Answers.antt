-- Counted::put_all: writes pieces, one behind the other.
use Rattle.std.proofs.Common.{◌≡◌, ◌+◌, [], ◌∷◌, ◌++◌, rules, take, get_or}
use Rattle.std.proofs.lemmas.List.{take_more}
use Rattle.q_outside.specs.Pieces.{piece_text}
use Rattle.q_outside.specs.declared.pieces.Piece.TheVariants.{Number}
use Rattle.q_outside.proofs.Writing.{behind, on_err, one_more_written}
use Rattle.q_outside.proofs.counted.Counted.put_all.Goals as goal

pub returns-in_err-put_piece-clause-failed : goal.returns-in_err-put_piece-clause-failed
returns-in_err-put_piece-clause-failed g c = on_err _ c.from_residual.result (behind _ _ _ _ c.loop-piece.invariant.0 c.in_err-put_piece.ensures.failed)

pub loop-piece-preserved : goal.loop-piece-preserved
loop-piece-preserved g c =
    let pieces = c.args.pieces.now in
    let i = c.loop-piece.piece-index in
    let one = get_or pieces i (Number 0) in
    let more : take (i + 1) pieces ≡ take i pieces ++ one ∷ [] = search (rules, take_more) in
    let written = one_more_written piece_text _ _ _ (take i pieces) (take (i + 1) pieces) one more c.loop-piece.invariant.0 in
    (written c.in_ok-put_piece.ensures.written, search rules, search rules, search rules)
