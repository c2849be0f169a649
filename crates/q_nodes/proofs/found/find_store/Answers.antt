-- find_store: what a line tells that was answered with this tag.
use Rattle.std.proofs.Common.{ℕ, List, sym, subst}
use Rattle.sc_world.specs.declared.op.Op.{Op}
use Rattle.q_script.specs.declared.call_line.CallLine.{CallLine}
use Rattle.q_nodes.specs.Books.{BeginsStore}
use Rattle.q_nodes.specs.Lines.{ComesTo, Has, IsStoreOf, IsTold}
use Rattle.q_nodes.specs.declared.outcome.Outcome.TheVariants as outcome
use Rattle.q_nodes.specs.declared.report.Report.TheVariants as report
use Rattle.q_nodes.proofs.Finding.{stored_there, store_lost}
use Rattle.q_nodes.proofs.found.find_store.Goals as goal

pub returns-in-Some : goal.returns-in-Some
returns-in-Some c = λ nodes came.
    let op = c.in-Some.op.now in
    let store = subst (λ (bytes : List ℕ). IsStoreOf c.args.cluster.now c.in-Store.node c.args.tag bytes op) c.as_slice.ensures.value c.in-Some.ensures in
    let told = report.Stored c.args.tag c.is_some.result in
    subst (λ (l : CallLine). ComesTo nodes l (outcome.Stored c.args.tag) → IsTold nodes c.args.cluster.now l told) (sym c.in-Store.is)
    (λ so. (stored_there nodes c.in-Store.node c.args.tag (BeginsStore c.in-Store.node c.in-Store.value.items) so, (op, store, c.is_some.ensures))) came

pub returns-in-None : goal.returns-in-None
returns-in-None c = λ nodes came.
    let cluster = c.args.cluster.now in
    let none = subst (λ (bytes : List ℕ). (o : Op) → IsStoreOf cluster c.in-Store.node c.args.tag bytes o → ⊥) c.as_slice.ensures.value c.in-None.ensures in
    subst (λ (l : CallLine). Has cluster l (outcome.Stored c.args.tag) → ⊥) (sym c.in-Store.is)
    (store_lost cluster c.in-Store.node c.args.tag c.in-Store.value none)
