-- What the exit of a `?` says.
use Rattle.std.proofs.Common.{◌≡◌, Result, Ok, Err, IfErr, IsErrAnd, OnErr}
use Rattle.q_replay.specs.declared.read.ReadFault.{ReadFault}
use Rattle.q_replay.specs.declared.read.ReadFault.TheVariants.{Form}

pub on_err : {A E P : Type 0} (r : Result A E) → P → OnErr r P
on_err (Ok a) p = tt
on_err (Err e) p = p

-- whatever the fault is
pub no_form : {A P : Type 0} (r : Result A ReadFault) → P → IfErr r (λ e. e ≡ Form → P)
no_form (Ok a) p = tt
no_form (Err e) p = λ is. p

-- where it is one of form
pub passed : {A : Type 0} {Q : ReadFault → Type 0} (P : Type 0) (r : Result A ReadFault) → IsErrAnd r Q
    → ((e : ReadFault) → Q e → e ≡ Form → P) → IfErr r (λ d. d ≡ Form → P)
passed P (Ok a) told says = tt
passed P (Err e) told says = says e told
