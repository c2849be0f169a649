-- Why two quorums of one membership share a member.
use Rattle.std.proofs.Common.{◌≡◌, ℕ, ◌+◌, ◌*◌, ◌<◌, ◌≤◌, true, Option, Some, None, is_some, refl, ap, subst, arith}
use Rattle.std.proofs.Math.Nat.{mul-le-mul_right}
use Rattle.std.specs.FinSet as set
use Rattle.sc_members.specs.Ids.{Ids, IsLeastCommon}
use Rattle.sc_node.specs.Sessions.{counted_in, ackers, repliers}
use Rattle.sc_operations.specs.declared.session.Phase.{Phase}
use Rattle.sc_world.specs.declared.op.Op.{Op}
use Rattle.sc_world.specs.Operations.{IsMeeting}
use Rattle.sc_world.specs.Quorums.{IsQuorum, IsQuorumPair}
use Rattle.sc_world.proofs.Overlaps.{apart_are_few}

-- more than half and more than half are more than all
too-many : (num den all first second : ℕ) → den < 2 * num → 1 ≤ first → first + second ≤ all → num * all ≤ first * den → num * all ≤ second * den → ⊥
too-many num den all first second half some few a b =
    let above : (den + 1) * all ≤ 2 * num * all = mul-le-mul_right all (omega (arith, half)) in
    let below : (first + second) * den ≤ all * den = mul-le-mul_right den few in
    absurd (omega (arith, above, below, a, b, some, few))

meeting : (num den : ℕ) (members : Ids) (p q : Phase) (least : Option ℕ) → den < 2 * num → IsQuorum num den members p → IsQuorum num den members q
    → IsLeastCommon p.counted q.counted least → is_some least ≡ true
meeting num den members p q (Some id) half a b l = refl
meeting num den members p q None half a b l =
    absurd (too-many num den (set.len members) (set.len p.counted) (set.len q.counted) half (omega (arith, a.waited, a.reached))
    (apart_are_few p.counted q.counted members a.among b.among l.none)
    (omega (arith, a.share, mul-le-mul_right den a.reached)) (omega (arith, b.share, mul-le-mul_right den b.reached)))

pub meets : (num den : ℕ) (members : Ids) (a b : Op) (least : Option ℕ) → IsQuorumPair num den members a b → IsMeeting a b least → is_some least ≡ true
meets num den members a b least pair meeting_of =
    let acked : ackers a.session ≡ pair.back.counted = ap counted_in pair.acked in
    let replied : repliers b.session ≡ pair.query.counted = ap counted_in pair.replied in
    meeting num den members pair.back pair.query least pair.half pair.acks pair.replies
    (subst (λ (t : Ids). IsLeastCommon pair.back.counted t least) replied (subst (λ (s : Ids). IsLeastCommon s (repliers b.session) least) acked meeting_of))
