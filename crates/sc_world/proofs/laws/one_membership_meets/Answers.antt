-- one_membership_meets: a law: where the acknowledgers of one operation and the repliers of another are quorums of
-- one membership, `meets` answers an id.
use Rattle.sc_world.proofs.Meeting.{meets}
use Rattle.sc_world.proofs.laws.one_membership_meets.Goals as goal

pub returns : goal.returns
returns c = meets
