-- worked_offered: which jobs a node that comes back offers again.
use Rattle.std.proofs.Common.{◌≡◌, ◌∙◌, arith, List, [], ◌∷◌, ◌++◌, length, ap}
use Rattle.q_session.specs.declared.job.Job.{Job}
use Rattle.q_held.proofs.worked.worked_offered.Goals as goal

-- one of two is the first
first_of : (j k : Job) (offered left : List Job) → j ∷ k ∷ [] ≡ offered ++ left → length offered ≡ 1 → offered ≡ j ∷ []
first_of j k [] left e n = absurd (omega arith)
first_of j k (x ∷ []) left e n = cc
first_of j k (x ∷ y ∷ zs) left e n = absurd (omega arith)

pub returns-clause-first : goal.returns-clause-first
returns-clause-first _ = λ a b j k had has f.
    let one : length f.offered ≡ 1 = omega (arith, had, has, f.balance) in
    f.is ∙ ap (λ (l : List Job). a.offered ++ l) (first_of j k f.offered f.left f.parts one)
