-- read_lines: what the lines of a text spell.
use Rattle.std.proofs.Common.{[], subst, sym}
use Rattle.q_script.specs.File.{AreNodes, IsListFault}
use Rattle.q_script.proofs.Lines.{one_line, more_lines, passed_on}
use Rattle.q_script.proofs.Lists.{no_nodes, first_fault, fault_later, list_is}
use Rattle.q_script.proofs.file.read_lines.Goals as goal

pub returns-in_err-heading-clause-fault : goal.returns-in_err-heading-clause-fault
returns-in_err-heading-clause-fault c =
    passed_on (IsListFault c.args.text.now) c.from_residual.result c.in_err-heading.field-0.0 c.from_residual.ensures.1
    (first_fault c.args.text.now (one_line c.args.text.now c.without_last_feed-body.ensures c.in_default.ensures) c.in_err-heading.ensures)

pub returns-in_err-heading-2-clause-fault : goal.returns-in_err-heading-2-clause-fault
returns-in_err-heading-2-clause-fault c =
    let lines = more_lines c.args.text.now c.in-Some.first.now c.in-Some.rest.now c.without_last_feed-body.ensures c.in-Some.ensures in
    passed_on (IsListFault c.args.text.now) c.from_residual-in_err-heading-2.result c.in_err-heading-2.field-0.0 c.from_residual-in_err-heading-2.ensures.1
    (first_fault c.args.text.now lines c.in_err-heading-2.ensures)

pub returns-in_err-nodes-clause-fault : goal.returns-in_err-nodes-clause-fault
returns-in_err-nodes-clause-fault c =
    let lines = more_lines c.args.text.now c.in-Some.first.now c.in-Some.rest.now c.without_last_feed-body.ensures c.in-Some.ensures in
    let heading = c.in_ok-heading-2 in
    passed_on (IsListFault c.args.text.now) c.from_residual-in_err-nodes.result c.in_err-nodes.field-0.0 c.from_residual-in_err-nodes.ensures.1
    (fault_later c.args.text.now c.in-Some.rest.now heading.heading c.in_err-nodes.field-0.0 lines heading.ensures c.in_err-nodes.ensures.fault)

pub returns-in_default-clause-read : goal.returns-in_default-clause-read
returns-in_default-clause-read c =
    let line = one_line c.args.text.now c.without_last_feed-body.ensures c.in_default.ensures in
    list_is line c.in_ok-heading.ensures (subst (AreNodes []) (sym c.new.ensures.items) no_nodes)

pub returns-clause-read : goal.returns-clause-read
returns-clause-read c =
    let lines = more_lines c.args.text.now c.in-Some.first.now c.in-Some.rest.now c.without_last_feed-body.ensures c.in-Some.ensures in
    list_is lines c.in_ok-heading-2.ensures c.in_ok-nodes.ensures.read
