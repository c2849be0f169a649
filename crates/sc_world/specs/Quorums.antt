-- Phases that wait for more than half of one membership.
use Rattle.std.specs.Prelude.{◌≡◌, ℕ, ◌*◌, ◌<◌, ◌≤◌, Some}
use Rattle.std.specs.FinSet as set
use Rattle.sc_members.specs.Ids.{Ids, Has}
use Rattle.sc_operations.specs.declared.session.Phase.{Phase}
use Rattle.sc_node.specs.Sessions.{query_of, back_of, phase_in}
use Rattle.sc_world.specs.declared.op.Op.{Op}

-- The phase ended: it counted as many senders as it waited for, one at least. All are of these members, of whom it
-- waited for this fraction or more.
pub record IsQuorum (num den : ℕ) (members : Ids) (p : Phase) : Type 0 where
  pub waited : 1 ≤ p.threshold
  pub reached : p.threshold ≤ set.len p.counted
  pub among : (id : ℕ) → Has p.counted id → Has members id
  pub share : num * set.len members ≤ p.threshold * den

-- The phase in which one operation is acknowledged, and that in which another is replied to, are quorums of one
-- membership, by a fraction above a half.
pub record IsQuorumPair (num den : ℕ) (members : Ids) (a b : Op) : Type 0 where
  pub half : den < 2 * num
  pub back : Phase
  pub acked : phase_in (back_of a.session) ≡ Some back
  pub acks : IsQuorum num den members back
  pub query : Phase
  pub replied : query_of b.session ≡ Some query
  pub replies : IsQuorum num den members query
