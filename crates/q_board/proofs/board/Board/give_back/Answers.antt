-- Board::give_back: ends a claim of the seat, and makes its slot ready with the same job.
use Rattle.q_board.specs.declared.cell.Content.TheVariants as cell
use Rattle.q_board.proofs.RunnerCalls.{Seated, Filled, fill_asks, give_asks, give_keeps, give_told}
use Rattle.q_board.proofs.board.Board.give_back.Goals.{After-fill}
use Rattle.q_board.proofs.board.Board.give_back.Goals as goal

-- the seat, and the seat with the job in the slot
seated : (c : goal.After-fill-arg-2-1) → Seated c.args.self.now c.seat.inside c.args.seat.now
seated c = record { apt = c.seat.invariant; is = c.seat.view_is; board = c.requires.board }

filled : (c : After-fill)
    → Filled c.seat.inside (record c.seat.inside { seat = c.fill.new.seat; claims = c.fill.new.claims }) c.args.claim.slot (cell.Offered c.args.claim.job)
filled c = record { same = c.fill.ensures.same.0; there = c.fill.ensures.there; claims = c.fill.ensures.claims; room = c.fill.ensures.room }

pub fill-requires : goal.fill-requires
fill-requires c = fill_asks (seated c) c.args.claim.slot c.requires.own

pub store-requires : goal.store-requires
store-requires c = let f = (goal.at.store-requires c).After-fill in
    give_asks (seated f.before) c.args.claim.slot c.requires.own (filled f) c.word.result c.word.ensures.word

pub invariant_of-seat : goal.invariant_of-seat
invariant_of-seat c = let f = (goal.at.invariant_of-seat c).After-fill in
    give_keeps (seated f.before) c.args.claim.slot c.requires.own (filled f) c.store.new.seat c.store.ensures

pub returns-clause-back : goal.returns-clause-back
returns-clause-back c = let f = (goal.at.returns-clause-back c).After-fill in
    give_told (seated f.before) c.args.claim.slot c.requires.own (filled f) c.store.new.seat c.store.ensures
