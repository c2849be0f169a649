-- State::join_with: the state becomes the least that covers it and another.
use Rattle.std.proofs.Common.{◌∙◌, ap, sym, length}
use Rattle.bq_state.specs.Kinds.{state_of}
use Rattle.bq_state.proofs.Covering.{join_covers, joined_count}
use Rattle.bq_state.proofs.state.State.join_with.Goals as goal

pub invariant_of-self : goal.invariant_of-self
invariant_of-self c =
    let self = state_of c.self.inside.kinds c.self.inside.lengths in
    let other = state_of c.other.inside.kinds c.other.inside.lengths in
    ap length c.join_kinds.ensures ∙ joined_count self other (c.self.invariant ∙ sym c.other.invariant) ∙ c.self.invariant

pub returns-clause-row : goal.returns-clause-row
returns-clause-row c =
    let kinds = ap (λ xs. state_of xs c.join-self-inside.result) c.join_kinds.ensures in
    rw (← c.self.view_is, ← c.other.view_is) (kinds ∙ ap (state_of _) c.join-self-inside.ensures)

pub returns-clause-covers : goal.returns-clause-covers
returns-clause-covers c = rw (returns-clause-row c) (join_covers c.args.self.now c.args.other.now)
