-- Board::open: opens a board, with a seat for each asker and each runner.
use Rattle.q_board.specs.BoardId.{board_id}
use Rattle.q_board.proofs.Opening.{all_askers, all_runners}
use Rattle.q_board.proofs.board.Board.open.Goals as goal

pub returns-clause-boards : goal.returns-clause-boards
returns-clause-boards c = let b = c.in_ok-board.board in let z = board_id b in let a = c.in_ok-asker_seats in let r = c.in_ok-runner_seats in
    (all_askers z c.args.askers a.asker_seats.items a.ensures.seats, all_runners z b.lanes c.args.askers c.args.runners r.runner_seats.items r.ensures.seats)
