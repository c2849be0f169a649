-- What tables of new books hold, and why a node of a new id is not refused.
use Rattle.std.proofs.Common.{rules, ◌≡◌, ◌∙◌, Option, Err, subst, sym}
use Rattle.std.specs.FinMap as fin
use Rattle.q_book.specs.State.{BookState}
use Rattle.q_history.specs.Clusters.{entered}
use Rattle.reasons.specs.declared.Reason.TheVariants.{NoSuchJob}
use Rattle.q_cluster.proofs.worked.worked.Goals as goal

pub returns-clause-book_of_a_founder : goal.returns-clause-book_of_a_founder
returns-clause-book_of_a_founder c = search (rules, fin.gets)

pub returns-clause-book_of_one_that_enters : goal.returns-clause-book_of_one_that_enters
returns-clause-book_of_one_that_enters c = search (rules, fin.gets)

pub returns-clause-forgotten : goal.returns-clause-forgotten
returns-clause-forgotten c = λ old new e q view ran desk query answered none stay.
    let later = stay 7 0 e q view ran desk query answered in
    let there = sym none ∙ later.1 in
    absurd (cc)

pub returns-clause-taken : goal.returns-clause-taken
returns-clause-taken c = λ old new none t.
    let said = t.1 (λ e. cc) (record { acc = 0; steps = 0 }) in
    let accepted = subst (λ (o : Option BookState). entered old 7 o ≡ Err NoSuchJob) none said in
    cc
