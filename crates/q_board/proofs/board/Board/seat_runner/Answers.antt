-- Board::seat_runner: the next runner, after so many seats.
use Rattle.std.proofs.Common.{rules, ◌∙◌, sym, ap, arith, ℕ, [], deque_len, deque_capacity}
use Rattle.atomic_table.specs.Seated.{TableId}
use Rattle.q_board.proofs.RunnerCalls.{opened}
use Rattle.q_board.specs.Plays.{Sat, first_runner}
use Rattle.q_board.specs.Rule.{maker}
use Rattle.q_board.proofs.Opening.{runner_split}
use Rattle.q_board.proofs.board.Board.seat_runner.Goals as goal

pub split_seat-seat-requires : goal.split_seat-seat-requires
split_seat-seat-requires c =
    let b = c.args.self.now in let sized₀ = b.sized.0 in let next = c.requires.next in let m = c.args.maker.now in
    let is = ap (λ (x : Sat). x.0) c.requires.next.0 ∙ ap (λ (k : ℕ). maker k c.args.made) (sym b.sized.2) in
    (c.requires.board, omega arith, runner_split b.table.shared.key c.args.made m.id m.me.0 is)

pub invariant_of-result : goal.invariant_of-result
invariant_of-result c =
    let b = c.args.self.now in let sized₀ = b.sized.0 in let next = c.requires.next in let s = c.split_seat-seat in let q = c.in_ok-claims in
    let board = ap (λ (x : TableId). x.words) (s.ensures.3 ∙ c.requires.board) in
    opened s.result.table_id b.lanes c.args.made (deque_len q.claims) (deque_capacity q.claims) s.result.me q.claims.items
    (s.ensures.4 ∙ ap (λ (x : Sat). (first_runner x.0, [])) next.0) (search rules) (search rules) (search rules) (omega arith) next.2 next.1
