-- What is so of the words that the system gives, or of why it gives none.
use Rattle.std.proofs.Common.{◌≡◌, List, Result, Ok, Err, IfOk, IfErr, subst}

-- what is so of the words that were taken is so of those that were given
pub of_given : {A E X : Type 0} (P : List X → Type 0) (items : A → List X) (given : Result A E) (taken : List X) → IfOk given (λ a. taken ≡ items a)
    → P taken → IfOk given (λ a. P (items a))
of_given P items (Ok a) taken h p = subst P h p
of_given P items (Err e) taken h p = tt

-- what is so of every value
pub at_ok : {A E : Type 0} (P Q : A → Type 0) (given : Result A E) → ((a : A) → P a → Q a) → IfOk given P → IfOk given Q
at_ok P Q (Ok a) f h = f a h
at_ok P Q (Err e) f h = tt

pub at_err : {A E : Type 0} (P Q : E → Type 0) (given : Result A E) → ((e : E) → P e → Q e) → IfErr given P → IfErr given Q
at_err P Q (Ok a) f h = tt
at_err P Q (Err e) f h = f e h
