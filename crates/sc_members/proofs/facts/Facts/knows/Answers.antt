-- Facts::knows: whether the others say nothing new.
use Rattle.std.proofs.Common.{◌≡◌, true, sym, ◌∙◌, true≢false}
use Rattle.std.specs.FinSet as set
use Rattle.sc_members.proofs.FactsLemmas.{knows_all}
use Rattle.sc_members.proofs.facts.Facts.knows.Goals as goal
use Rattle.sc_members.proofs.facts.Facts.knows.Goals.{then-is_subset, else-is_subset}

pub returns-then-is_subset-2-clause-known : goal.returns-then-is_subset-2-clause-known
returns-then-is_subset-2-clause-known c =
    let tested : (set.is_subset c.other.inside.entered c.self.inside.entered ≡ true) × (set.is_subset c.other.inside.joined c.self.inside.joined ≡ true) =
    elim c.if-is_subset.branch [
      | then-is_subset w ↦ (sym c.is_subset.ensures ∙ w.if-is_subset.true, sym w.is_subset-then-is_subset.ensures ∙ sym w.value-is ∙ c.if-is_subset-2.true)
      | else-is_subset w ↦ absurd (true≢false (sym c.if-is_subset-2.true ∙ w.value-is ∙ w.if-is_subset.false))
    ] in
    let left = c.is_subset-then-is_subset-2.ensures in
    knows_all _ c.args.self.now c.args.other.now _ _ c.self.view_is c.other.view_is (λ yes. (tested.0, tested.1, sym left ∙ yes)) (λ all. left ∙ all.2)

pub returns-else-is_subset-2-clause-known : goal.returns-else-is_subset-2-clause-known
returns-else-is_subset-2-clause-known c =
    knows_all _ c.args.self.now c.args.other.now _ _ c.self.view_is c.other.view_is (λ yes. absurd (true≢false (sym yes ∙ c.if-is_subset-2.false)))
    (λ all. elim c.if-is_subset.branch [
      | then-is_subset w ↦ w.value-is ∙ w.is_subset-then-is_subset.ensures ∙ all.1
      | else-is_subset w ↦ absurd (true≢false (sym all.0 ∙ sym c.is_subset.ensures ∙ w.if-is_subset.false))
    ])
