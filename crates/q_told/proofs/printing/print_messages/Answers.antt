-- print_messages: prints the messages that an accepted event sent, in the order of their numbers.
use Rattle.std.proofs.Common.{rules, ◌≡◌, ◌∙◌, ◌+◌, ◌-◌, ◌++◌, min, length, string_bytes, ap, sym, append_assoc}
use Rattle.q_told.specs.Printing.{message_line, message_lines}
use Rattle.q_told.proofs.Lines.{more_lines, enough_lines}
use Rattle.q_told.proofs.printing.print_messages.Goals as goal

pub loop-offset-preserved : goal.loop-offset-preserved
loop-offset-preserved c =
    let sent = c.args.cluster.now.past.sent in
    let first = c.args.sent.first in
    let offset = c.loop-offset.offset in
    c.in_ok-print_message.ensures
    ∙ ap (λ x. x ++ message_line sent (first + offset)) c.loop-offset.invariant
    ∙ append_assoc (string_bytes c.args.lines.now) (message_lines sent first offset) (message_line sent (first + offset))
    ∙ ap (λ x. string_bytes c.args.lines.now ++ x) (sym (more_lines sent first offset))

pub returns : goal.returns
returns c =
    let sent = c.args.cluster.now.past.sent in
    let first = c.args.sent.first in
    let there : c.saturating_sub-there.result ≡ length sent - first = search rules in
    let all : c.loop-offset.offset ≡ min c.args.sent.count c.saturating_sub-there.result = search rules in
    c.loop-offset.invariant
    ∙ ap (λ x. string_bytes c.args.lines.now ++ x) (enough_lines sent first c.args.sent.count c.saturating_sub-there.result c.loop-offset.offset there all)
