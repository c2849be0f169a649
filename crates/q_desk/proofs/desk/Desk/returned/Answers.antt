-- Desk::returned: the collect with this tag returned a view, whose records have the desk's lengths: the query that
-- waits for it is ready.
use Rattle.std.proofs.Common.{List, sym, subst, ◌∙◌, rules}
use Rattle.q_session.specs.declared.query.Query.{Query}
use Rattle.q_session.specs.Records.{HasRecordsWithin}
use Rattle.q_desk.specs.State.{DeskState}
use Rattle.q_desk.specs.contracts.desk.Desk as desk
use Rattle.q_desk.specs.Keeping.{IsDesk}
use Rattle.q_desk.proofs.Keeps.{desk-ready}
use Rattle.q_desk.proofs.Running.{run-returned}
use Rattle.q_desk.proofs.desk.Desk.returned.Goals as goal

pub invariant_of-self : goal.invariant_of-self
invariant_of-self c =
    let s : DeskState = desk.the_view c.self.inside in
    let number = c.in_ok-number.number in
    let fits = subst (λ (d : DeskState). HasRecordsWithin d.lengths c.args.view) (sym c.self.view_is) c.requires in
    let as_many = run-returned s.queries c.set_phase.new.queries.items c.args.tag number c.args.view (search rules) c.set_phase.ensures in (
      subst (λ (queries : List Query). IsDesk (record s { queries = queries })) (sym c.set_phase.ensures)
          (desk-ready s number c.args.view c.self.invariant.0 fits),
      record { counted = c.self.invariant.1.counted ∙ sym as_many; fits = c.self.invariant.1.fits },
    )
