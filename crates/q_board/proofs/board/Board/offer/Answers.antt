-- Board::offer: puts a job into a free slot of the seat's row.
use Rattle.std.proofs.Common.{ap, arith}
use Rattle.q_board.specs.AskerModel.{AskerModel}
use Rattle.q_board.specs.Places.{jobs}
use Rattle.q_board.proofs.AskerCalls.{Offered, is_near, offer_asks, offer_keeps, offer_told}
use Rattle.q_board.proofs.board.Board.offer.Goals.{After-put}
use Rattle.q_board.proofs.board.Board.offer.Goals as goal

-- the seat with the job in its slot
offered : (c : After-put)
    → Offered c.seat.inside (record c.seat.inside { seat = c.put.new.seat; free = c.pop_front.new.self }) c.args.seat.now c.in-Some.place c.args.job
offered c = let p = c.in-Some.ensures in
    record { apt = c.seat.invariant; is = c.seat.view_is; popped = (p.items, p.cases, p.capacity); put = (c.put.ensures.board, c.put.ensures.there) }

pub store-requires : goal.store-requires
store-requires c = offer_asks (offered ((goal.at.store-requires c).After-put)) c.args.self.now c.word.result c.requires c.word.ensures.word

pub invariant_of-seat-2 : goal.invariant_of-seat-2
invariant_of-seat-2 c = offer_keeps (offered ((goal.at.invariant_of-seat-2 c).After-put)) c.store.new.seat c.store.ensures

pub returns-clause-offered : goal.returns-clause-offered
returns-clause-offered c = offer_told (offered ((goal.at.returns-clause-offered c).After-put)) c.store.new.seat c.store.ensures

pub returns-clause-count : goal.returns-clause-count
returns-clause-count c =
    let new = offer_keeps (offered ((goal.at.returns-clause-count c).After-put)) c.store.new.seat c.store.ensures in
    omega (arith, c.seat.invariant.4, new.4, c.in-Some.ensures.cases, ap (λ (x : AskerModel). jobs x.row) c.seat.view_is)

pub returns-clause-own : goal.returns-clause-own
returns-clause-own c =
    let near = is_near (offered ((goal.at.returns-clause-own c).After-put)) in let same = ap (λ (x : AskerModel). x.number) c.seat.view_is in
    (omega (arith, near, c.seat.invariant.1, same), omega (arith, near, c.seat.invariant.1, same))
