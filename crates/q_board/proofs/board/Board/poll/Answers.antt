-- Board::poll: looks once at a slot of the seat's own.
use Rattle.std.proofs.Common.{◌≡◌, ◌∙◌, sym, ap, arith}
use Rattle.q_board.specs.AskerModel.{AskerModel}
use Rattle.q_board.specs.Places.{jobs}
use Rattle.q_board.proofs.AskerCalls.{Polled, look_asks, look_keeps, look_shown, look_told, take_asks, take_has, take_room, take_keeps}
use Rattle.q_board.proofs.board.Board.poll.Goals.{After-load}
use Rattle.q_board.proofs.board.Board.poll.Goals as goal

-- the seat before its look, and after
before : (c : goal.After-load-arg-1) → Polled c.args.self.now c.seat.inside c.args.slot.index
before c =
    let number = ap (λ (x : AskerModel). x.number) c.seat.view_is in let inv₁ = c.seat.invariant.1 in
    record {
      apt = c.seat.invariant;
      board = ap (λ (x : AskerModel). x.table) c.seat.view_is ∙ c.requires.board;
      own = (omega (arith, c.requires.own.0), omega (arith, c.requires.own.1));
    }

after : (c : After-load) → Polled c.args.self.now (record c.seat.inside { seat = c.load.new.seat }) c.args.slot.index
after c = look_keeps (before c.before) c.load.new.seat c.load.result c.load.ensures

pub load-requires : goal.load-requires
load-requires c = look_asks (before c)

pub returns-then-load-finished-clause-looked : goal.returns-then-load-finished-clause-looked
returns-then-load-finished-clause-looked c =
    let l = (goal.at.returns-then-load-finished-clause-looked c).After-load in
    let miss = λ (h : c.load.result ≡ 2). c.if-load-finished.true (h ∙ sym c.word-finished.ensures.word) in
    look_told (before l.before) c.load.new.seat c.load.result c.load.ensures miss c.args.seat.now c.seat.view_is

pub compare_exchange-requires : goal.compare_exchange-requires
compare_exchange-requires c =
    let l = (goal.at.compare_exchange-requires c).After-load in
    let shown = look_shown (before l.before) c.load.new.seat c.load.result c.load.ensures (c.if-load-finished.false ∙ c.word-finished.ensures.word) in
    take_asks (after l) c.word-finished.result c.word-empty.result shown c.word-finished.ensures.word c.word-empty.ensures.word

pub exchange-taken-requires : goal.exchange-taken-requires
exchange-taken-requires c =
    let p = after ((goal.at.exchange-taken-requires c).After-load) in
    (c.compare_exchange.ensures.0 ∙ p.board, take_has p c.compare_exchange.new.seat c.compare_exchange.result c.compare_exchange.ensures)

pub push_front_reserved-requires : goal.push_front_reserved-requires
push_front_reserved-requires c =
    take_room (after ((goal.at.push_front_reserved-requires c).After-load)) c.compare_exchange.new.seat c.compare_exchange.result c.compare_exchange.ensures

pub invariant_of-seat-2 : goal.invariant_of-seat-2
invariant_of-seat-2 c =
    let p = after ((goal.at.invariant_of-seat-2 c).After-load) in
    let x = c.exchange-taken in let q = c.push_front_reserved in
    take_keeps p c.compare_exchange.new.seat c.compare_exchange.result c.compare_exchange.ensures
    (record c.seat.inside { seat = x.new.seat; free = q.new.self }) x.result x.ensures q.ensures.len q.ensures.capacity q.ensures.items

pub returns-clause-count : goal.returns-clause-count
returns-clause-count c =
    let p = after ((goal.at.returns-clause-count c).After-load) in
    let x = c.exchange-taken in let q = c.push_front_reserved in
    let new = take_keeps p c.compare_exchange.new.seat c.compare_exchange.result c.compare_exchange.ensures
    (record c.seat.inside { seat = x.new.seat; free = q.new.self }) x.result x.ensures q.ensures.len q.ensures.capacity q.ensures.items in
    omega (arith, c.seat.invariant.4, new.4, q.ensures.len, ap (λ (x : AskerModel). jobs x.row) c.seat.view_is)
