-- Cluster::enter: a node of a new id enters.
use Rattle.std.proofs.Common.{◌≡◌, ◌∙◌, refl, sym, ap, Option, None, is_some}
use Rattle.std.specs.FinMap as fin
use Rattle.sc_members.specs.Members.{Config}
use Rattle.sc_world.specs.State.{Past}
use Rattle.sc_world.proofs.Tables.{is_some-copied}
use Rattle.sc_world.proofs.Inverts.{same_answer}
use Rattle.q_table.proofs.Ids.{none-from}
use Rattle.q_book.specs.State.{BookState}
use Rattle.q_book.specs.Books as book
use Rattle.q_history.specs.declared.event.ClusterEvent.TheVariants as event
use Rattle.q_cluster.specs.Acts.{cluster_of}
use Rattle.q_cluster.specs.contracts.cluster.Cluster as cluster
use Rattle.q_cluster.proofs.Histories.{GoesTo}
use Rattle.q_cluster.proofs.Calls.{enters_note, recorded_is}
use Rattle.q_cluster.proofs.Coming.{enter_used, enter_goes}
use Rattle.q_cluster.proofs.cluster.Cluster.enter.Goals as goal

pub returns-then-is_some : goal.returns-then-is_some
returns-then-is_some c = (
  refl,
  λ loud ran. enter_used (cluster.the_view c.self.inside) c.args.id c.args.self.now c.self.view_is
      (sym c.if-is_some.true ∙ c.is_some.ensures ∙ is_some-copied c.get.result ∙ ap (λ (o : Option BookState). is_some o) c.get.ensures),
)

module _ (c : goal.After-told) where
  absent : fin.get c.self.inside.books c.args.id ≡ None
  absent =
      none-from (fin.get c.self.inside.books c.args.id)
      (sym (c.is_some.ensures ∙ is_some-copied c.get.result ∙ ap (λ (o : Option BookState). is_some o) c.get.ensures) ∙ c.if-is_some.false)

  made : book.entered c.self.inside.version c.self.inside.ledger.past.config c.args.id ≡ (c.in_ok-book.book, c.in_ok-book.outs)
  made =
      ap (λ (k : Config). book.entered c.self.inside.version k c.args.id) (sym (c.config.ensures ∙ ap (λ (p : Past). p.config) c.in_ok-reserve.ensures.past))
      ∙ same_answer (book.entered c.self.inside.version c.config.result c.args.id) (c.in_ok-book.book, c.in_ok-book.outs) c.in_ok-book.ensures

  goes : GoesTo c.args.self.now (event.Enter c.args.id) c.told.result
      (cluster_of c.self.inside.version c.insert.new.self c.record_call-sent.new.ledger.past c.self.inside.jobs.items)
  goes =
      enter_goes (cluster.the_view c.self.inside) c.args.id c.self.invariant c.self.view_is absent made c.in_ok-insert.ensures.ok
      (recorded_is (cluster.the_view c.self.inside) c.args.id c.in_ok-reserve.ensures.past (enters_note c.args.id c.in_ok-book.outs)
      c.record_call-sent.ensures.past c.record_call-sent.ensures.sent c.told.ensures c.in_ok-book.book)

pub invariant_of-self-2 : goal.invariant_of-self-2
invariant_of-self-2 c = (goes c).goes

pub returns : goal.returns
returns c = (goes c).says
