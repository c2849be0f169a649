-- seek: the number at an id.
use Rattle.std.proofs.Common.{◌++◌, sym, ap, subst, ◌∙◌}
use Rattle.std.specs.Ordering.{nat_cmp}
use Rattle.std.specs.Option.{option_map}
use Rattle.std.specs.FinMap.Entries.{find}
use Rattle.sc_view.specs.Rows.{joined, Rises}
use Rattle.sc_view.proofs.EntryLemmas.{Entries, find_over_head}
use Rattle.sc_view.proofs.row.seek.Goals as goal

pub returns-then-id-entry-clause-value : goal.returns-then-id-entry-clause-value
returns-then-id-entry-clause-value c =
    let later : Entries = joined c.loop-entry.rest.chunks.now in
    let rises = subst (λ (es : Entries). Rises (es ++ later)) c.in-Some.ensures.cases.0 c.loop-entry.invariant.rises in
    let none = find_over_head c.args.id c.in-Some.entry.now (c.in-Some.entries.now ++ later) rises c.if-id-entry.true in
    let read = ap (λ (es : Entries). find nat_cmp c.args.id (es ++ later)) c.in-Some.ensures.cases.0 in
    sym (ap (λ o. option_map (λ e. e.number) o) (sym c.loop-entry.invariant.found ∙ read ∙ none))
