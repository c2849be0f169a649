-- entries_are_events: a law of every history: an entry that the book of a node can take next, where what it wants
-- was sent, is an event of the cluster.
use Rattle.q_gather.proofs.Entries.{next_event, next_makes, enter_makes}
use Rattle.q_gather.proofs.laws.entries_are_events.Goals as goal

pub returns : goal.returns
returns c = record { event = next_event; makes = next_makes; enters = enter_makes }
