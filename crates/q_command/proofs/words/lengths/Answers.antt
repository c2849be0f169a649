-- lengths: the lengths of records that were given, if they are some.
use Rattle.std.proofs.Common.{rules, ◌≡◌, Some}
use Rattle.clap.specs.Words.{found_of, rows_of}
use Rattle.q_command.proofs.Commands.{lengths_read, were_given}
use Rattle.q_command.proofs.words.lengths.Goals as goal

pub returns : goal.returns
returns c =
    let rows = rows_of (found_of c.args.found.now) in
    let least : c.number.result ≡ Some c.in_ok-least.least = search rules in
    let most : c.number-2.result ≡ Some c.in_ok-most.most = search rules in
    let given = were_given rows c.operand_text.result.now c.operand_text-2.result.now c.number.result c.number-2.result c.in_ok-least.least c.in_ok-most.most
    c.operand_text.ensures c.operand_text-2.ensures c.number.ensures c.number-2.ensures least most in
    lengths_read rows c.in_ok-least.least c.in_ok-most.most c.bounds.result given c.bounds.ensures
