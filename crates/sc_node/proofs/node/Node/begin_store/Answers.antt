-- Node::begin_store: begins to store a value under this node's next number.
use Rattle.std.proofs.Common.{◌≡◌, ◌∙◌, ◌++◌, Bool, true, false, cond, [], ◌∷◌, sym, ap, refl, subst, Result, Ok, Err}
use Rattle.std.proofs.lemmas.Result.{err_from_is_err_and}
use Rattle.forms.specs.Calls.{Steps, Tests, tested}
use Rattle.forms.proofs.Calls.{no_refusal, same_fault}
use Rattle.reasons.specs.declared.Reason.{Reason}
use Rattle.reasons.specs.declared.Reason.TheVariants as reasons
use Rattle.sc_node.specs.declared.answer.Begun.{Begun}
use Rattle.sc_node.specs.Nodes.{fitting, opening, store_begun, stored_view}
use Rattle.sc_node.proofs.node.Node.begin_store.Goals as goal

-- a test that does not hold refuses whatever follows
refuses_at : {A B E : Type 0} (b : Bool) (e f : E) (r : Result A E) (s : Result B E) → (r ≡ Err e → s ≡ Err e)
    → (let x : Result A E = Err e in x) ≡ cond b r (Err f) → cond b s (Err f) ≡ Err e
refuses_at true e f r s later h = later (sym h)
refuses_at {A} {B} {E} false e f r s later h = ap (λ (x : E). let y : Result B E = Err x in y) (sym (same_fault e f h))

-- tests that refuse a call refuse each that makes them first
refuses : {A B E : Type 0} (ts us : Tests E) (value : A) (e : E) (rest : Result B E) → (let r : Result A E = Err e in r) ≡ tested ts (Ok value)
    → tested (ts ++ us) rest ≡ Err e
refuses [] us value e rest h = absurd (no_refusal e value h)
refuses (t ∷ ts) us value e rest h = refuses_at t.0 e t.1 (tested ts (Ok value)) (tested (ts ++ us) rest) (λ k. refuses ts us value e rest (sym k)) h

pub returns-in_err-check_beginning : goal.returns-in_err-check_beginning
returns-in_err-check_beginning c =
    let node = c.args.self.now in
    let why = err_from_is_err_and c.from_residual.result c.from_residual.ensures.1 in
    let said = ap (λ (f : Reason). let r : Result (Unit {0}) Reason = Err f in r) why.2 ∙ c.in_err-check_beginning.ensures.value in
    subst (λ (r : Result Begun Reason). Steps reasons.OutOfMemory (store_begun node c.args.value.now) node node r) (sym why.1)
    (refl, λ loud. refuses (opening node) (fitting (stored_view node c.args.value.now)) tt why.0 _ said)
