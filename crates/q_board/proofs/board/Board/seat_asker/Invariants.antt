use Rattle.std.proofs.Common.{◌≡◌, ◌≤◌, ◌*◌, deque_len, deque_capacity}
use Rattle.q_board.specs.Places.{bare}
use Rattle.q_board.specs.Plays.{new_asking}
use Rattle.q_board.specs.BoardId.{board_id}
use Rattle.q_board.specs.declared.view.Holder.TheVariants.{Asker}
use Rattle.q_board.proofs.Rows.{down}
use Rattle.q_board.proofs.board.Board.seat_asker.Given as goal

abbrev pub invariant-loop-place : goal.invariant-loop-place
invariant-loop-place l = record {
  board : l.seat.table_id ≡ board_id l.self;
  me : l.seat.me ≡ (Asker (record (new_asking l.number) { opened = l.place }), bare (8 * l.number) l.free.items);
  free : l.free.items ≡ down l.place;
  count : deque_len l.free ≡ l.place;
  room : 8 ≤ deque_capacity l.free;
}
