-- tell: what the lines tell of the cluster into which the books gather, or of each node's own book.
use Rattle.std.proofs.Common.{List, sym, subst}
use Rattle.std.specs.List.{AllZip}
use Rattle.q_nodes.specs.Found.{IsSought}
use Rattle.q_nodes.specs.Lines.{IsTold}
use Rattle.q_nodes.specs.declared.report.Report.{Report}
use Rattle.q_nodes.proofs.Gathering.{whole_told}
use Rattle.q_nodes.proofs.telling.tell.Goals as goal

pub returns-in-Told : goal.returns-in-Told
returns-in-Told c =
    let (cluster, of, told) = subst (IsSought c.args.script.now c.args.books.now) c.in-Told.is c.in_ok-reports.ensures in
    whole_told c.args.script.now c.args.books.now cluster c.as_slice.result.now of
    (subst (λ (rs : List Report). AllZip (IsTold c.args.script.now.nodes cluster) c.args.script.now.lines.items rs) (sym c.as_slice.ensures.value) told)
    c.of.result c.of.ensures.text c.of.ensures.tally c.of.ensures.refusal
