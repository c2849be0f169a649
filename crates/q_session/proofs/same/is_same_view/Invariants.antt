use Rattle.std.proofs.Common.{◌≡◌}
use Rattle.std.specs.Cmp.Lexicographic.{pointwise}
use Rattle.q_session.specs.Same.{is_same_entry, is_same_view}
use Rattle.q_session.proofs.same.is_same_view.Given as goal

abbrev pub invariant-loop-id : goal.invariant-loop-id
invariant-loop-id l = pointwise is_same_entry l.id-iterator l.others ≡ is_same_view l.view l.other
