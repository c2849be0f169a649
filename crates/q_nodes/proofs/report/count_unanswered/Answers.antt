-- count_unanswered: how many lines did not come to their end.
use Rattle.std.proofs.Common.{rules, tests}
use Rattle.std.proofs.lemmas.Iterator.{YieldsList-from_slice}
use Rattle.std.proofs.lemmas.Iterator.Consumers.{YieldsList-from_filter, count_from_yields_List}
use Rattle.q_nodes.specs.Lines.{is_unanswered}
use Rattle.q_nodes.proofs.report.count_unanswered.Goals as goal

pub returns : goal.returns
returns c =
    count_from_yields_List c.filter.result _ c.count.ensures.ran
    (YieldsList-from_filter _ is_unanswered (YieldsList-from_slice c.args.reports.now cc) c.filter.ensures.closure (λ x r q k. search (rules, tests)))
