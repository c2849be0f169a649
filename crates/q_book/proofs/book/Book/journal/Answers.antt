-- Book::journal: the journal: each call that was accepted and changed something, in turn.
use Rattle.std.proofs.Common.{List, All, sym, subst}
use Rattle.q_desk.specs.declared.journal.Entry.{Entry}
use Rattle.q_book.specs.State.{BookState}
use Rattle.q_book.specs.Replays.{IsReplay, EntryFits}
use Rattle.q_book.specs.contracts.book.Book as book
use Rattle.q_book.proofs.Values.{journal_fits}
use Rattle.q_book.proofs.book.Book.journal.Goals as goal

pub returns-clause-replay : goal.returns-clause-replay
returns-clause-replay c = subst (λ (x : BookState). IsReplay x) c.self.view_is c.self.invariant.replay

pub returns-clause-values : goal.returns-clause-values
returns-clause-values c =
    let b : BookState = book.the_view c.self.inside in
    subst (λ (x : BookState). All (EntryFits x.version) c.journal.result.now) c.self.view_is
    (subst (λ (es : List Entry). All (EntryFits b.version) es) (sym c.journal.ensures) (journal_fits b c.self.invariant.replay))
