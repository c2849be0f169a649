-- print_pair: prints the least node where a store and a collect meet, or that there is none.
use Rattle.q_told.proofs.Pairing.{one_pair}
use Rattle.q_told.proofs.meetings.print_pair.Goals as goal

pub returns : goal.returns
returns c = one_pair c.print_meeting.result c.args.store.now c.args.collect.now c.meets.result _ _ c.meets.ensures c.print_meeting.ensures
