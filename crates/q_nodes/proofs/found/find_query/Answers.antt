-- find_query: what a line tells that was answered with the query of this number.
use Rattle.std.proofs.Common.{ℕ, sym, subst}
use Rattle.q_session.specs.declared.query.Query.{Query}
use Rattle.q_script.specs.declared.call_line.CallLine.{CallLine}
use Rattle.q_nodes.specs.Lines.{Has, IsQueryOf}
use Rattle.q_nodes.specs.declared.outcome.Outcome.TheVariants as outcome
use Rattle.q_nodes.proofs.Finding.{query_lost}
use Rattle.q_nodes.proofs.found.find_query.Goals as goal

pub returns-in-None : goal.returns-in-None
returns-in-None c = λ nodes came.
    let cluster = c.args.cluster.now in
    let none = subst (λ (p : ℕ). (q : Query) → IsQueryOf cluster c.in-Ask.node c.args.query p c.in-Ask.start q → ⊥) c.of_number.ensures c.in-None.ensures in
    subst (λ (l : CallLine). Has cluster l (outcome.Asked c.args.query) → ⊥) (sym c.in-Ask.is)
    (query_lost cluster c.in-Ask.node c.in-Ask.program c.in-Ask.start c.args.query none)
