-- look_up: looks up in the cluster of the books what the calls came to.
use Rattle.std.proofs.Common.{ℕ, List, Option, Vec, Global, subst, option_map}
use Rattle.q_history.specs.Headline.{ClusterState}
use Rattle.q_script.specs.declared.call_line.CallLine.{CallLine}
use Rattle.q_nodes.specs.Found.{FindsAll}
use Rattle.q_nodes.specs.declared.report.Report.{Report}
use Rattle.q_nodes.proofs.Gathering.{not_founded, not_there}
use Rattle.q_nodes.proofs.Truth.{cluster_of_books}
use Rattle.q_nodes.proofs.telling.look_up.Goals as goal

-- what is found of the calls of lines, where these are the reports
abbrev Found : ℕ → ClusterState → Option (Vec Report Global) → List CallLine → Type 0
Found nodes cluster reports lines = FindsAll nodes cluster lines (option_map (λ (v : Vec Report Global). v.items) reports)

pub returns-then-not-is_founded_by : goal.returns-then-not-is_founded_by
returns-then-not-is_founded_by c = λ books gathers.
    not_founded c.args.script.now books c.args.cluster.now c.bad_founders.result gathers c.bad_founders.ensures c.if-not-is_founded_by.ensures

pub returns-in-Some : goal.returns-in-Some
returns-in-Some c = λ books gathers.
    let found = subst (Found c.args.script.now.nodes c.args.cluster.now c.in_ok-reports.field-0) c.as_slice.ensures.value c.in_ok-reports.ensures in
    let told = subst (λ reports. Found c.args.script.now.nodes c.args.cluster.now reports c.args.script.now.lines.items) c.in-Some.is found in
    (c.args.cluster.now, cluster_of_books c.args.script.now c.args.cluster.now books gathers c.if-not-is_founded_by.ensures, told)

pub returns-in-None : goal.returns-in-None
returns-in-None c = λ books gathers.
    let found = subst (Found c.args.script.now.nodes c.args.cluster.now c.in_ok-reports.field-0) c.as_slice.ensures.value c.in_ok-reports.ensures in
    let lacks = subst (λ reports. Found c.args.script.now.nodes c.args.cluster.now reports c.args.script.now.lines.items) c.in-None.is found in
    not_there c.args.script.now books c.args.cluster.now c.bad_founders-in-None.result gathers c.bad_founders-in-None.ensures lacks
