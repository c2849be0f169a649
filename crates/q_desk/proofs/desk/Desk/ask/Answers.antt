-- Desk::ask: the node begins to collect, and a query begins that waits for that collect.
use Rattle.std.proofs.Common.{◌≡◌, ◌++◌, ◌∷◌, [], List, rules, subst, refl, sym, ap, ◌∙◌}
use Rattle.q_session.specs.declared.query.Query.{Query}
use Rattle.q_desk.specs.declared.journal.Call.TheVariants as call
use Rattle.q_desk.specs.declared.journal.Entry.TheVariants as entry
use Rattle.q_desk.specs.contracts.desk.Desk as desk
use Rattle.q_desk.specs.Keeping.{IsDesk}
use Rattle.q_desk.specs.Desks.{begun, how_many_run}
use Rattle.q_desk.proofs.Keeps.{desk-appended, desk-begun}
use Rattle.q_desk.proofs.Running.{run-begun}
use Rattle.q_desk.proofs.desk.Desk.ask.Goals as goal

pub invariant_of-self-2 : goal.invariant_of-self-2
invariant_of-self-2 c =
    let s = desk.the_view c.self.inside in
    let q = begun c.in_ok-begun.begun.tag c.args.program c.args.start in
    let kept = desk-begun s q c.self.invariant.0 (search rules) (search rules) refl in
    let pushed : s.queries ++ q ∷ [] ≡ c.push_reserved.new.self.items = search rules in (
      subst (λ (queries : List Query). IsDesk (record s { queries = queries; journal = c.append.new.entries.items })) pushed
          (desk-appended _ (entry.Call (call.Ask c.args.program c.args.start)) _ (record { room = search rules; is = search rules }) kept),
      record { counted = c.self.invariant.1.counted ∙ sym (run-begun s.queries q refl) ∙ ap how_many_run pushed; fits = search rules },
    )
