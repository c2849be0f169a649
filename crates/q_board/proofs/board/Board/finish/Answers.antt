-- Board::finish: ends a claim of the seat with the right answer of its job, which then waits for the asker.
use Rattle.q_board.specs.declared.cell.Content.TheVariants as cell
use Rattle.q_board.proofs.RunnerCalls.{Seated, Filled, fill_asks, finish_asks, finish_keeps, finish_told}
use Rattle.q_board.proofs.board.Board.finish.Goals.{After-fill}
use Rattle.q_board.proofs.board.Board.finish.Goals as goal

-- the seat, and the seat with the result in the slot
seated : (c : goal.After-fill-arg-2-1) → Seated c.args.self.now c.seat.inside c.args.seat.now
seated c = record { apt = c.seat.invariant; is = c.seat.view_is; board = c.requires.board }

filled : (c : After-fill)
    → Filled c.seat.inside (record c.seat.inside { seat = c.fill.new.seat; claims = c.fill.new.claims }) c.args.claim.slot (cell.Finished c.of-done.result)
filled c = record { same = c.fill.ensures.same.0; there = c.fill.ensures.there; claims = c.fill.ensures.claims; room = c.fill.ensures.room }

pub fill-requires : goal.fill-requires
fill-requires c = fill_asks (seated c) c.args.claim.slot c.requires.own

pub store-requires : goal.store-requires
store-requires c = let f = (goal.at.store-requires c).After-fill in
    finish_asks (seated f.before) c.args.claim.slot c.requires.own (filled f) c.word.result c.of-done.ensures.job c.word.ensures.word

pub invariant_of-seat : goal.invariant_of-seat
invariant_of-seat c = let f = (goal.at.invariant_of-seat c).After-fill in
    finish_keeps (seated f.before) c.args.claim.slot c.requires.own (filled f) c.store.new.seat c.store.ensures

pub returns-clause-finished : goal.returns-clause-finished
returns-clause-finished c = let f = (goal.at.returns-clause-finished c).After-fill in let done = c.of-done.ensures in
    finish_told (seated f.before) c.args.claim.slot c.requires.own (filled f) c.store.new.seat c.store.ensures c.args.ran done.job done.ran
