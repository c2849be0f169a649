-- worked_asking: to whom a question goes, and at which looks.
use lib.Count.{ones, ones_in}
use Rattle.std.proofs.Common.{◌≡◌, ◌∙◌, true, false, sym, ap, refl}
use Rattle.std.specs.FinSet as set
use Rattle.sc_operations.specs.declared.session.Phase.{Phase}
use Rattle.q_kept.proofs.worked.worked_asking.Goals as goal

-- nothing is for a node that the phase has counted
pub returns-clause-not_counted : goal.returns-clause-not_counted
returns-clause-not_counted _ = λ n p is counted h.
    let same : p ≡ h.1 = cc (sym is ∙ h.2) in
    let both : true ≡ false = sym counted ∙ ap (λ (q : Phase). set.contains q.counted 3) same ∙ h.3 in
    absurd (cc)

pub returns-clause-due : goal.returns-clause-due
unfolding ones ones_in
returns-clause-due c = λ v m e. (e, e, e, e)

pub returns-clause-not_due : goal.returns-clause-not_due
unfolding ones ones_in
returns-clause-not_due c = λ v m. (refl, refl, refl, refl, refl)
