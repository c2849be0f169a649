-- Board::lay: an empty board, and the seat that makes the others.
use Rattle.std.proofs.Common.{rules}
use Rattle.q_board.proofs.Opening.{opens}
use Rattle.q_board.proofs.board.Board.lay.Goals as goal

pub new-requires : goal.new-requires
new-requires c = opens c.args.lanes _ _ (search rules) (search rules)
