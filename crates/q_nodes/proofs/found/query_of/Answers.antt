-- query_of: the phase of the query of this number at the node, if it asks for this program from this start.
use Rattle.std.proofs.Common.{◌≡◌, ◌∙◌, refl, sym, ap}
use Rattle.std.proofs.lemmas.Bool.{eqb-true, eqb-false}
use Rattle.q_desk.specs.State.{DeskState}
use Rattle.q_nodes.proofs.Finding.{stands_at, query_is, other_program, other_start}
use Rattle.q_nodes.proofs.found.query_of.Goals.{else-eq-via-then-eq+else-asked-start, else-eq-via-else-eq}
use Rattle.q_nodes.proofs.found.query_of.Goals as goal

pub returns-then-asked-start : goal.returns-then-asked-start
returns-then-asked-start c =
    let read = c.in-Some-get.ensures.lookup in
    let queries = c.queries.ensures.queries ∙ ap (λ (d : DeskState). d.queries) c.desk.ensures.desk in
    let stands = stands_at c.args.cluster.now c.args.node c.args.query c.in-Some.ensures queries read.3.0 read.1 in
    let names : c.in-Some-get.asked.now.program ≡ c.args.program = eqb-true _ _ (sym c.if-eq.ensures) in
    (c.in-Some-get.asked.now, query_is stands names c.if-asked-start.true, refl)

pub returns-else-eq : goal.returns-else-eq
returns-else-eq c =
    let read = c.in-Some-get.ensures.lookup in
    let queries = c.queries.ensures.queries ∙ ap (λ (d : DeskState). d.queries) c.desk.ensures.desk in
    let stands = stands_at c.args.cluster.now c.args.node c.args.query c.in-Some.ensures queries read.3.0 read.1 in
    elim c.else-eq.branch [
      | else-eq-via-then-eq+else-asked-start w ↦ other_start stands w.if-asked-start.false
      | else-eq-via-else-eq w ↦ other_program stands (eqb-false _ _ (sym w.if-eq.ensures))
    ]
