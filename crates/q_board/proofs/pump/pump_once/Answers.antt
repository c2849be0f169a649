-- pump_once: looks once at each slot that is open, in turn, and posts each result that waits there.
use Rattle.q_board.proofs.Pumping.{pumps, stops_offering, stops_receiving}
use Rattle.q_board.proofs.pump.pump_once.Goals as goal

pub returns-in-Err : goal.returns-in-Err
returns-in-Err c = stops_receiving c.in-Err.ensures

pub returns-in-Ok-offer_all : goal.returns-in-Ok-offer_all
returns-in-Ok-offer_all c = pumps c.room-room.ensures.row c.in-Ok.ensures c.in-Ok-offer_all.ensures

pub returns-in-Err-offer_all : goal.returns-in-Err-offer_all
returns-in-Err-offer_all c = stops_offering c.room-room.ensures.row c.in-Ok.ensures c.in-Err-offer_all.ensures
