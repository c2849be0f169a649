-- Board::seat_asker: the next asker takes its row.
use Rattle.std.proofs.Common.{◌+◌, ◌*◌, ◌∙◌, sym, ap, arith, refl, ℕ}
use Rattle.q_board.specs.Plays.{Sat, new_asking, took_home}
use Rattle.q_board.specs.Rule.{maker}
use Rattle.q_board.proofs.Moves.{asks}
use Rattle.q_board.proofs.Opening.{asker_split}
use Rattle.q_board.proofs.AskerSteps.{takes_home}
use Rattle.q_board.proofs.board.Board.seat_asker.Goals as goal

pub split_seat-seat-requires : goal.split_seat-seat-requires
split_seat-seat-requires c =
    let b = c.args.self.now in let sized₀ = b.sized.0 in let sized₂ = b.sized.2 in let room = c.requires.next.1 in let m = c.args.maker.now in
    let is = ap (λ (x : Sat). x.0) c.requires.next.0 ∙ ap (λ (k : ℕ). maker k c.args.number) (sym b.sized.2) in
    (c.requires.board, omega arith, asker_split b.table.shared.key c.args.number m.id m.me.0 is (omega arith))

pub load-requires : goal.load-requires
load-requires c =
    let b = c.args.self.now in let l = c.loop-place in let sized₀ = b.sized.0 in let room = c.requires.next.1 in let n = c.args.number in
    asks took_home b l.seat (8 * n + l.place) (λ x. x) (λ x. x) l.invariant.board (omega arith) l.invariant.me refl refl
    (takes_home b.table.shared.key l.seat.id (record (new_asking n) { opened = l.place }) l.place (omega arith) _ refl)
