-- find: the value at an id, of entries in rising order.
use Rattle.std.proofs.Common.{◌≤◌, Some, length, sym, ap, subst, ◌∙◌}
use Rattle.sc_chunk.proofs.EntryLemmas.{find_found, find_other, find_past}
use Rattle.sc_chunk.proofs.chunk.find.Goals as goal

pub returns-then-at-entries : goal.returns-then-at-entries
returns-then-at-entries g c =
    sym (find_past c.args.id c.args.entries.now (subst (λ n. length c.args.entries.now ≤ n) c.before-at.ensures.value c.if-at-entries.true))

pub returns-then-entry-id : goal.returns-then-entry-id
returns-then-entry-id g c =
    find_other c.args.id c.args.entries.now c.before-at.result c.index-entries-at.result c.before-at.ensures.value c.if-at-entries.false c.requires
    (λ same. c.if-entry-id.true (ap (λ e. e.0) c.index-entries-at.is ∙ same))

pub returns : goal.returns
returns g c =
    ap (λ e. Some e.1) c.index-entries-at.is
    ∙ find_found c.args.id c.args.entries.now c.before-at.result c.index-entries-at.result c.before-at.ensures.value c.if-at-entries.false c.requires
    (ap (λ e. e.0) (sym c.index-entries-at.is) ∙ c.if-entry-id.false)
