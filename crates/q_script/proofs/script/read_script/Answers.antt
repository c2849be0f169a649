-- read_script: the founding that a text spells on its first line, and the lines behind it.
use Rattle.std.proofs.Common.{[], subst, sym}
use Rattle.std.specs.List.{AllZip}
use Rattle.q_script.specs.Script.{IsFaultOf}
use Rattle.q_script.proofs.Lines.{one_line, more_lines, passed_on}
use Rattle.q_script.proofs.Scripts.{first_fault, fault_later, script_is}
use Rattle.q_script.proofs.script.read_script.Goals as goal

pub returns-in_err-founding-clause-fault : goal.returns-in_err-founding-clause-fault
returns-in_err-founding-clause-fault g c =
    let line = one_line c.args.source.now c.without_last_feed-body.ensures c.in_default.ensures in
    passed_on (IsFaultOf g.L.Line.spells c.args.source.now) c.from_residual.result c.in_err-founding.field-0.0 c.from_residual.ensures.1
    (first_fault g.L.Line.spells c.args.source.now line c.in_err-founding.ensures)

pub returns-in_err-founding-2-clause-fault : goal.returns-in_err-founding-2-clause-fault
returns-in_err-founding-2-clause-fault g c =
    let lines = more_lines c.args.source.now c.in-Some.first.now c.in-Some.rest.now c.without_last_feed-body.ensures c.in-Some.ensures in
    let passed = c.from_residual-in_err-founding-2 in
    passed_on (IsFaultOf g.L.Line.spells c.args.source.now) passed.result c.in_err-founding-2.field-0.0 passed.ensures.1
    (first_fault g.L.Line.spells c.args.source.now lines c.in_err-founding-2.ensures)

pub returns-in_err-lines-clause-fault : goal.returns-in_err-lines-clause-fault
returns-in_err-lines-clause-fault g c =
    let lines = more_lines c.args.source.now c.in-Some.first.now c.in-Some.rest.now c.without_last_feed-body.ensures c.in-Some.ensures in
    let founding = c.in_ok-founding-2 in
    let e = c.in_err-lines in
    passed_on (IsFaultOf g.L.Line.spells c.args.source.now) c.from_residual-in_err-lines.result e.field-0.0 c.from_residual-in_err-lines.ensures.1
    (fault_later g.L.Line.spells c.args.source.now c.in-Some.rest.now founding.founding e.field-0.0 lines founding.ensures e.ensures.fault)

pub returns-in_default-clause-read : goal.returns-in_default-clause-read
returns-in_default-clause-read g c =
    let line = one_line c.args.source.now c.without_last_feed-body.ensures c.in_default.ensures in
    script_is line c.in_ok-founding.ensures (subst (AllZip g.L.Line.spells []) (sym c.new.ensures.items) tt)

pub returns-clause-read : goal.returns-clause-read
returns-clause-read g c =
    let lines = more_lines c.args.source.now c.in-Some.first.now c.in-Some.rest.now c.without_last_feed-body.ensures c.in-Some.ensures in
    script_is lines c.in_ok-founding-2.ensures c.in_ok-lines.ensures.read
