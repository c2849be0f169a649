-- What an accepted call was: each test held, and each part was accepted; and what another answer makes of a call.
use Rattle.std.proofs.Common.{◌≡◌, Bool, true, false, cond, [], ◌∷◌, refl, sym, ap, ◌∙◌, Result, Ok, Err}
use Rattle.forms.specs.Calls.{Tests, tested, mapped, and_then}

pub same_answer : {A E : Type 0} (x y : A) → (let r : Result A E = Ok x in r) ≡ Ok y → x ≡ y
same_answer x y h = cc

pub same_fault : {A E : Type 0} (x y : E) → (let r : Result A E = Err x in r) ≡ Err y → x ≡ y
same_fault x y h = cc

pub no_refusal : {A E : Type 0} (e : E) (y : A) → (let r : Result A E = Err e in r) ≡ Ok y → ⊥
no_refusal e y h = absurd (cc)

-- what comes before a refusal
pub passed : {A E : Type 0} (b : Bool) (e : E) (r : Result A E) (y : A) → cond b r (Err e) ≡ Ok y → (b ≡ true) × (r ≡ Ok y)
passed true e r y h = (refl, h)
passed false e r y h = absurd (no_refusal e y h)

-- what comes after a refusal
pub spared : {A E : Type 0} (b : Bool) (e : E) (r : Result A E) (y : A) → cond b (Err e) r ≡ Ok y → (b ≡ false) × (r ≡ Ok y)
spared true e r y h = absurd (no_refusal e y h)
spared false e r y h = (refl, h)

-- ---- tests

-- each test holds
abbrev pub AllHold : {E : Type 0} → Tests E → Type 0
AllHold [] = Unit {0}
AllHold (t ∷ ts) = (t.0 ≡ true) × AllHold ts

-- an accepted call passed its tests
pub tested-ok : {A E : Type 0} (ts : Tests E) (r : Result A E) (y : A) → tested ts r ≡ Ok y → AllHold ts × (r ≡ Ok y)
tested-ok [] r y h = (tt, h)
tested-ok (t ∷ ts) r y h =
    let first = passed t.0 t.1 (tested ts r) y h in
    let rest = tested-ok ts r y first.1 in
    ((first.0, rest.0), rest.1)

-- where the tests hold, the rest follows
pub tested_pass : {A E : Type 0} (ts : Tests E) (r : Result A E) → AllHold ts → tested ts r ≡ r
tested_pass [] r h = refl
tested_pass (t ∷ ts) r h = ap (λ (b : Bool). cond b (tested ts r) (Err t.1)) h.0 ∙ tested_pass ts r h.1

-- tests that were passed are passed whatever follows
pub passes : {A B E : Type 0} (ts : Tests E) (value x : A) (rest : Result B E) → (let r : Result A E = Ok x in r) ≡ tested ts (Ok value)
    → (x ≡ value) × AllHold ts × (tested ts rest ≡ rest)
passes ts value x rest h =
    let ok = tested-ok ts (Ok value) x (sym h) in
    (same_answer x value (sym ok.1), ok.0, tested_pass ts rest ok.0)

-- ---- parts

-- an accepted call's part was accepted, and so was the rest
pub and_then-ok : {S A B E : Type 0} (r : Result (A × S) E) (rest : A → S → Result B E) (y : B) → and_then r rest ≡ Ok y
    → (a : A × S) × (r ≡ Ok a) × (rest a.0 a.1 ≡ Ok y)
and_then-ok (Ok a) rest y h = (a, refl, h)
and_then-ok (Err e) rest y h = absurd (no_refusal e y h)

-- an accepted call with another answer was accepted
pub mapped-ok : {S A B E : Type 0} (f : A → B) (r : Result (A × S) E) (y : B × S) → mapped f r ≡ Ok y → (a : A × S) × (r ≡ Ok a) × ((f a.0, a.1) ≡ y)
mapped-ok f (Ok a) y h = (a, refl, same_answer _ _ h)
mapped-ok f (Err e) y h = absurd (no_refusal e y h)

-- ---- what is done with another answer

module _ {S A B E : Type 0} (f : A → B) (said : Result (A × S) E) (old new : S) where
  pub answers_with : (a : A) → said ≡ Ok (a, new) → mapped f said ≡ Ok (f a, new)
  answers_with a h = ap (mapped f) h

  pub refuses_with : (e : E) → said ≡ Err e → mapped f said ≡ Err e
  refuses_with e h = ap (mapped f) h
