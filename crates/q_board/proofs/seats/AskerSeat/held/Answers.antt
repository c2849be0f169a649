-- AskerSeat::held: the slot at a place of the row, where a job is open there.
use Rattle.std.proofs.Common.{◌≡◌, ◌<◌, sym, ap, arith, subst, Some, None}
use Rattle.q_board.specs.Calls.{is_at}
use Rattle.q_session.specs.declared.job.Job.{Job}
use Rattle.q_board.specs.AskerModel.{AskerModel}
use Rattle.q_board.specs.Places.{times}
use Rattle.q_board.proofs.Rows.{any_yes, any_no, lacks_at, lacks_not}
use Rattle.q_board.proofs.seats.AskerSeat.held.Goals as goal

pub returns-then-contains : goal.returns-then-contains
returns-then-contains c = let p = c.args.place in let free = c.self.inside.free.items in
    let stands : 0 < times p free = any_yes p free (sym c.if-contains.ensures.value) in
    let t = c.self.invariant.5 p in
    subst (λ (x : AskerModel). is_at x.row p None) c.self.view_is (lacks_at _ p (omega arith))

pub returns : goal.returns
returns c = let p = c.args.place in let free = c.self.inside.free.items in
    let stands : times p free ≡ 0 = any_no p free (sym c.if-contains.ensures.value) in
    let t = c.self.invariant.5 p in let long = c.self.invariant.3 in let number = c.self.invariant.1 in
    let seen = ap (λ (x : AskerModel). x.number) c.self.view_is in
    (omega arith, subst (λ (x : AskerModel). (j : Job) × is_at x.row p (Some j)) c.self.view_is (lacks_not _ p (omega (arith, c.requires)) (omega arith)))
