use Rattle.std.proofs.Common.{◌≡◌, ◌≤◌, [], vec_len, vec_capacity}
use Rattle.q_board.specs.Rule.{maker as making}
use Rattle.q_board.specs.AskerModel.{opened_askers}
use Rattle.q_board.specs.BoardId.{board_id}
use Rattle.q_board.proofs.board.Board.seat_askers.Given as goal

abbrev pub invariant-loop-number : goal.invariant-loop-number
invariant-loop-number l = record {
  board : l.maker.table_id ≡ board_id l.self;
  maker : l.maker.me ≡ (making l.self.lanes l.number, []);
  seats : l.seats.items ≡ opened_askers (board_id l.self) l.number;
  count : vec_len l.seats ≡ l.number;
  room : l.askers ≤ vec_capacity l.seats;
}
