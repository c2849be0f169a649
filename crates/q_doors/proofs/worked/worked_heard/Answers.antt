-- worked_heard: what the definitions say of datagrams that are heard or are not, and of a place that is no address.
use Rattle.std.proofs.Common.{◌≡◌, ◌≤◌, ℕ, List, Some, get_or, ap, refl, arith}
use Rattle.spelling.specs.Numbers.{first_number}
use Rattle.q_doors.proofs.worked.worked_heard.Goals as goal

pub returns-clause-elsewhere : goal.returns-clause-elsewhere
unfolding first_number
returns-clause-elsewhere c = λ a b differ h. let at : Some a ≡ Some b = h.place in differ (cc)

pub returns-clause-other_run : goal.returns-clause-other_run
returns-clause-other_run c = λ nodes from message h.
    let eighth : 1 ≡ 0 = ap (λ (l : List ℕ). get_or l 7 0) h.frame in
    omega (arith, eighth)

pub returns-clause-moved : goal.returns-clause-moved
unfolding first_number
returns-clause-moved c = λ a. (omega arith, omega arith, record { frame = refl; long = omega arith; place = refl })

pub returns-clause-not_moved : goal.returns-clause-not_moved
returns-clause-not_moved c = λ nodes from h.
    let first : 66 ≡ 7 = ap (λ (l : List ℕ). get_or l 8 0) h.2.frame in
    omega (arith, first)

pub returns-clause-full : goal.returns-clause-full
returns-clause-full c = λ nodes from new h. omega (arith, h.0)

pub returns-clause-no_mailbox : goal.returns-clause-no_mailbox
unfolding first_number
returns-clause-no_mailbox c = λ h. let last : 260 ≤ 259 = h.1 in omega (arith, last)
