-- RecordLine::read: what a line spells.
use Rattle.q_script.proofs.Learning.{no_id, no_number, no_value_behind}
use Rattle.q_script.proofs.records.RecordLine.read.Goals as goal

pub returns-in_err-id : goal.returns-in_err-id
returns-in_err-id c = rw c.from_residual.ensures (no_id c.args.text.now c.in_err-id.ensures)

pub returns-in_err-number : goal.returns-in_err-number
returns-in_err-number c =
    let id = c.in_ok-id in
    rw c.from_residual-in_err-number.ensures (no_number c.args.text.now (id.id, id.rest.now) id.ensures c.in_err-number.ensures)

pub returns-in_err-value : goal.returns-in_err-value
returns-in_err-value c =
    let id = c.in_ok-id in
    let number = c.in_ok-number in
    rw c.from_residual-in_err-value.ensures
    (no_value_behind c.args.text.now (id.id, id.rest.now) (number.number, number.rest.now) id.ensures number.ensures c.in_err-value.ensures)
