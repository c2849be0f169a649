-- Board::try_take: tries once to claim the job of a slot: there is a claim exactly where the slot was found ready.
use Rattle.std.proofs.Common.{◌∙◌, sym}
use Rattle.q_board.proofs.RunnerCalls.{Seated, on_board, try_asks, miss_told, hit_has, hit_room, hit_keeps, hit_holds}
use Rattle.q_board.proofs.board.Board.try_take.Goals.{After-compare_exchange}
use Rattle.q_board.proofs.board.Board.try_take.Goals as goal

-- the seat before the try
seated : (c : goal.After-compare_exchange-arg-1) → Seated c.args.self.now c.seat.inside c.args.seat.now
seated c = record { apt = c.seat.invariant; is = c.seat.view_is; board = c.requires.board }

pub compare_exchange-requires : goal.compare_exchange-requires
compare_exchange-requires c =
    try_asks (seated c) c.args.slot.index c.requires.own c.word-ready.result c.word-claimed.result c.word-ready.ensures.word c.word-claimed.ensures.word

pub returns-then-compare_exchange-ready-clause-tried : goal.returns-then-compare_exchange-ready-clause-tried
returns-then-compare_exchange-ready-clause-tried c =
    let t = seated (goal.at.returns-then-compare_exchange-ready-clause-tried c).After-compare_exchange.before in
    let e = c.compare_exchange in
    miss_told t c.args.slot.index c.requires.own e.new.seat e.result e.ensures (λ h. c.if-compare_exchange-ready.true (h ∙ sym c.word-ready.ensures.word))

pub exchange-taken-requires : goal.exchange-taken-requires
exchange-taken-requires c =
    let t = seated (goal.at.exchange-taken-requires c).After-compare_exchange.before in let e = c.compare_exchange in
    let hit = c.if-compare_exchange-ready.false ∙ c.word-ready.ensures.word in
    (e.ensures.0 ∙ on_board t, hit_has t c.args.slot.index c.requires.own e.new.seat e.result e.ensures hit)

pub push_front_reserved-requires : goal.push_front_reserved-requires
push_front_reserved-requires c =
    let t = seated (goal.at.push_front_reserved-requires c).After-compare_exchange.before in let e = c.compare_exchange in
    hit_room t c.args.slot.index c.requires.own e.new.seat e.result e.ensures (c.if-compare_exchange-ready.false ∙ c.word-ready.ensures.word)

pub invariant_of-seat-2 : goal.invariant_of-seat-2
invariant_of-seat-2 c =
    let t = seated (goal.at.invariant_of-seat-2 c).After-compare_exchange.before in
    let e = c.compare_exchange in let x = c.exchange-taken in let q = c.push_front_reserved in
    hit_keeps t c.args.slot.index c.requires.own e.new.seat e.result e.ensures (c.if-compare_exchange-ready.false ∙ c.word-ready.ensures.word)
    (record c.seat.inside { seat = x.new.seat; claims = q.new.self }) x.result x.ensures q.ensures.len q.ensures.capacity q.ensures.items

pub returns-clause-held : goal.returns-clause-held
returns-clause-held c =
    let t = seated (goal.at.returns-clause-held c).After-compare_exchange.before in let e = c.compare_exchange in let x = c.exchange-taken in
    hit_holds t c.args.slot.index c.requires.own e.new.seat e.result e.ensures (c.if-compare_exchange-ready.false ∙ c.word-ready.ensures.word)
    (record c.seat.inside { seat = x.new.seat }) x.result x.ensures c.in-Offered.job c.in-Offered.is
