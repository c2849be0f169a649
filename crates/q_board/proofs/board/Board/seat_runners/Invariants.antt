use Rattle.std.proofs.Common.{◌≡◌, ◌≤◌, ◌+◌, [], vec_len, vec_capacity}
use Rattle.q_board.specs.Rule.{maker as making}
use Rattle.q_board.specs.RunnerModel.{opened_runners}
use Rattle.q_board.specs.BoardId.{board_id}
use Rattle.q_board.proofs.board.Board.seat_runners.Given as goal

abbrev pub invariant-loop-made : goal.invariant-loop-made
invariant-loop-made l = record {
  board : l.maker.table_id ≡ board_id l.self;
  maker : l.maker.me ≡ (making l.self.lanes (l.askers + l.made), []);
  seats : l.seats.items ≡ opened_runners (board_id l.self) l.self.lanes l.askers l.made;
  count : vec_len l.seats ≡ l.made;
  room : l.runners ≤ vec_capacity l.seats;
}
