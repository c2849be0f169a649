-- learn: learns an entry in a list that is sorted by ids.
use Rattle.std.proofs.Common.{Option, sym, ap, ◌∙◌}
use Rattle.std.specs.FinMap as fin
use Rattle.sc_view.specs.declared.view.Stored.{Stored}
use Rattle.sc_view.specs.Views.{is_newer}
use Rattle.forms.proofs.Maps.{get_found}
use Rattle.sc_view.proofs.ViewLemmas.{learned, not_learned}
use Rattle.sc_view.proofs.sorted.learn.Goals as goal

pub returns-in_ok-insert-clause-ok : goal.returns-in_ok-insert-clause-ok
returns-in_ok-insert-clause-ok c =
    let found = get_found c.args.entries.now.entries c.args.id ∙ sym (c.copied.ensures ∙ c.get.ensures.value) in
    learned c.args.entries.now.entries c.insert.new.self.entries c.args.id c.args.stored
    (ap (λ (o : Option Stored). is_newer o c.args.stored) found ∙ sym c.is_newer.ensures ∙ c.if-is_newer.true)
    c.in_ok-insert.ensures.updates.0

pub returns-else-is_newer-clause-ok : goal.returns-else-is_newer-clause-ok
returns-else-is_newer-clause-ok c =
    let found = get_found c.args.entries.now.entries c.args.id ∙ sym (c.copied.ensures ∙ c.get.ensures.value) in
    not_learned (fin.from_entries c.args.entries.now.entries) c.args.id c.args.stored
    (ap (λ (o : Option Stored). is_newer o c.args.stored) found ∙ sym c.is_newer.ensures ∙ c.if-is_newer.false)
