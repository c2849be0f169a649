-- read_words: reads the words of the command line, of which the first is the program's name.
use Rattle.std.proofs.Common.{rules, ◌∙◌, map, is_some, ap, sym, true≢false}
use Rattle.clap.specs.Words.{App, found_of, rows_of}
use Rattle.clap.proofs.CallerLemmas.{subcommand_required}
use Rattle.q_command.proofs.Commands.{failed_so, known_command, no_fault, read_so, was_met}
use Rattle.q_command.proofs.words.read_words.Goals as goal

pub wanted_of-requires : goal.wanted_of-requires
wanted_of-requires g c =
    let words = map g.S.AsStr.text c.args.words.now in
    let rows = rows_of (found_of c.in-Some.found.now) in
    known_command words (c.in-Some.name.now, rows)
    (was_met c.in_ok-matches.matches words c.in_ok-program.ensures.0 c.in_ok-matches.ensures.matches (search rules) (search rules))

pub returns : goal.returns
returns g c =
    let words = map g.S.AsStr.text c.args.words.now in
    let rows = rows_of (found_of c.in-Some.found.now) in
    read_so words c.wanted_of.result (c.in-Some.name.now, rows) (no_fault words c.in_ok-program.ensures.0 c.in_ok-matches.ensures.kinds)
    (was_met c.in_ok-matches.matches words c.in_ok-program.ensures.0 c.in_ok-matches.ensures.matches (search rules) (search rules)) c.wanted_of.ensures

pub returns-in_err-matches : goal.returns-in_err-matches
returns-in_err-matches g c =
    failed_so (map g.S.AsStr.text c.args.words.now) c.in_err-matches.field-0.0 c.from_residual-in_err-matches.result
    c.in_ok-program.ensures.0 c.in_err-matches.ensures.kinds (search rules)

pub unreachable-requires : goal.unreachable-requires
unreachable-requires g c =
    let needs = subcommand_required c.in_ok-program.field-0 c.in_ok-matches.matches c.in_ok-matches.ensures.parsed c.in_ok-program.ensures.1
    (ap (λ (a : App). a.top.subcommand_required) c.in_ok-program.ensures.0) in
    true≢false (sym needs ∙ sym c.subcommand.ensures.variant ∙ ap is_some c.in-None.is)
