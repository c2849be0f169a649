-- gathered: gathers the books into one cluster, and answers what they tell.
use Rattle.q_command.proofs.gathered_teller.gathered.Goals as goal

pub returns-in-Ok-clause-told : goal.returns-in-Ok-clause-told
returns-in-Ok-clause-told c = (c.in_ok-cluster.cluster, c.in-Ok.ensures c.in_ok-cluster.ensures.gathers)
