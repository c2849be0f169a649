-- worked: what a book did that left.
use Rattle.std.proofs.Common.{List, ap, sym}
use Rattle.sc_msg.specs.declared.message.Message.{Message}
use Rattle.q_book.specs.State.{BookState}
use Rattle.q_book.proofs.Parts.{left-ok}
use Rattle.q_node.proofs.worked_console.worked.Goals as goal

pub returns-clause-left : goal.returns-clause-left
returns-clause-left c = λ node h.
    let parts = left-ok h.0 (h.5.0, h.1) h.5.1 in
    (h.0, h.1, h.4, sym (ap (λ (z : List Message × BookState). z.1.desk.journal) parts.2))
