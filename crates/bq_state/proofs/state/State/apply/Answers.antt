-- State::apply: the state becomes that after an instruction; where that breaks a rule, the state stays and the
-- first such rule is answered.
use Rattle.bq_state.proofs.state.State.apply.Goals as goal

pub returns-in-Branch-clause-made : goal.returns-in-Branch-clause-made
returns-in-Branch-clause-made c = rw c.in-Branch.is (c.branch-self.ensures c.in-Branch.width c.in-Branch.relation c.in-Branch.offset)
