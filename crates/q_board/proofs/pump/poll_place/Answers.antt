-- poll_place: looks at the slot at a place of the row, if it is open, and posts its result.
use Rattle.std.proofs.Common.{true, false, sym}
use Rattle.q_board.proofs.Turning.{polls_received}
use Rattle.q_board.proofs.pump.poll_place.Goals as goal

pub returns-in-Ok-post-clause-polled : goal.returns-in-Ok-post-clause-polled
returns-in-Ok-post-clause-polled c = let d = c.in-Some-poll in
    polls_received c.args.seat.now c.poll.new.seat c.args.book.now c.post.new.self c.args.place c.in-Some.slot.index true d.done
    c.in-Some.ensures.0 d.ensures.looked d.ensures.count c.in-Ok-post.ensures

pub returns-clause-polled : goal.returns-clause-polled
returns-clause-polled c = let d = c.in-Some-poll in let e = c.in-Err-post in let b = c.args.book.now in
    polls_received c.args.seat.now c.poll.new.seat b c.post.new.self c.args.place c.in-Some.slot.index false d.done
    c.in-Some.ensures.0 d.ensures.looked d.ensures.count
    (e.field-0, e.ensures.1, c.posts_are_noted.ensures.refused b d.done.job d.done.ran e.field-0 (sym c.in-Ok.ensures) e.ensures.1, e.ensures.0)
