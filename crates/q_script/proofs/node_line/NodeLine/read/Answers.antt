-- NodeLine::read: what a line as `founder 1 10.88.0.1:7000` or `node 4 10.88.0.4:7000` spells.
use Rattle.std.proofs.Common.{◌≡◌, sym, ◌∙◌}
use Rattle.std.specs.Net.Socket.{socket_port}
use Rattle.q_script.proofs.Nodes.{no_word, other_word, no_id, no_address, no_port, not_parsed, parsed}
use Rattle.q_script.proofs.node_line.NodeLine.read.Goals as goal

pub returns-in_err-word : goal.returns-in_err-word
returns-in_err-word c = rw c.from_residual.ensures (no_word c.args.text.now c.in_err-word.ensures)

pub returns-in_err-is_founder : goal.returns-in_err-is_founder
returns-in_err-is_founder c =
    rw c.from_residual-in_err-is_founder.ensures
    (other_word c.args.text.now c.in_ok-word.word.now c.in_ok-word.rest.now c.in_ok-word.ensures c.in_err-is_founder.ensures)

pub returns-in_err-id : goal.returns-in_err-id
returns-in_err-id c =
    rw c.from_residual-in_err-id.ensures
    (no_id c.args.text.now c.in_ok-word.word.now c.in_ok-word.rest.now c.in_ok-word.ensures c.in_err-id.ensures)

pub returns-in_err-address : goal.returns-in_err-address
returns-in_err-address c =
    let id = c.in_ok-id in
    let none = not_parsed id.address.now c.parse.result c.parse.ensures.value c.in_err-address.ensures.value in
    rw c.from_residual-in_err-address.ensures
    (no_address c.args.text.now c.in_ok-word.word.now c.in_ok-word.rest.now (id.id, id.address.now) c.in_ok-word.ensures id.ensures none)

pub returns-then-port-eq0 : goal.returns-then-port-eq0
returns-then-port-eq0 c =
    let id = c.in_ok-id in
    let x = c.in_ok-address.address in
    let spelled = parsed id.address.now c.parse.result x c.parse.ensures.value c.in_ok-address.ensures.value in
    let zero : socket_port x ≡ 0 = sym c.port.ensures ∙ c.if-port-eq0.true in
    no_port c.args.text.now c.in_ok-word.word.now c.in_ok-word.rest.now (id.id, id.address.now) x c.in_ok-word.ensures id.ensures spelled zero
