-- What a call that may refuse does, and how it is said by tests and parts.
use Rattle.std.specs.Prelude.{◌≡◌, ◌≢◌, Bool, List, [], ◌∷◌, Result, Ok, Err, if◌then◌else◌}

-- The call answers what is said and leaves the state that is said, or refuses with the fault that is said; or
-- memory was refused. After a refusal the state is as it was.
abbrev pub Steps : {S A E : Type 0} → E → Result (A × S) E → S → S → Result A E → Type 0
Steps memory said old new (Ok a) = said ≡ Ok (a, new)
Steps memory said old new (Err e) = (new ≡ old) × (e ≢ memory → said ≡ Err e)

-- The call answers what is said and leaves the state that is said, or refuses with the fault that is said, and then the
-- state is as it was.
abbrev pub Does : {S A E : Type 0} → Result (A × S) E → S → S → Result A E → Type 0
Does said old new (Ok a) = said ≡ Ok (a, new)
Does said old new (Err e) = (new ≡ old) × (said ≡ Err e)

-- The call gives what is said, or refuses with the fault that is said; or memory was refused.
abbrev pub Gives : {A E : Type 0} → E → Result A E → Result A E → Type 0
Gives memory said (Ok a) = said ≡ Ok a
Gives memory said (Err e) = e ≢ memory → said ≡ Err e

-- ---- how a call is said by its parts

-- A call's tests, in their order, each with the fault of a call for which it does not hold.
abbrev pub Tests : Type 0 → Type 0
Tests E = List (Bool × E)

-- The first test that does not hold names the fault; where all hold, the rest follows.
abbrev pub tested : {A E : Type 0} → Tests E → Result A E → Result A E
tested [] rest = rest
tested (t ∷ ts) rest = if t.0 then tested ts rest else Err t.1

-- The same call with another answer.
abbrev pub mapped : {S A B E : Type 0} → (A → B) → Result (A × S) E → Result (B × S) E
mapped f (Ok a) = Ok (f a.0, a.1)
mapped f (Err e) = Err e

-- A part is done, and then the rest, which has the part's answer and state. A fault of the part is one of the call.
abbrev pub and_then : {S A B E : Type 0} → Result (A × S) E → (A → S → Result B E) → Result B E
and_then (Ok a) rest = rest a.0 a.1
and_then (Err e) rest = Err e
