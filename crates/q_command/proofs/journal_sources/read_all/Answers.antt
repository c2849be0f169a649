-- read_all: reads the files with these names in turn, up to the first that is refused.
use Rattle.std.proofs.Common.{ℕ, ◌+◌, List, [], drop, get_or, Bor}
use Rattle.q_command.proofs.Reading.{no_sources, more_sources, file_refused, one_name, around, texts_of}
use Rattle.q_command.proofs.journal_sources.read_all.Goals as goal

pub loop-name-init : goal.loop-name-init
loop-name-init g c = no_sources c.new-lines.ensures.bytes c.new-books.ensures.items

pub loop-name-preserved : goal.loop-name-preserved
loop-name-preserved g c =
    let d : Bor (List ℕ) = record { ref_ptr = (0, 0); now = [] } in
    let s = c.in-Ok.ensures.read in
    let names = one_name c.args.names.now c.loop-name.name-index d c.loop-name-test.true in
    more_sources c.loop-name.invariant s.1 s.2 s.3 s.4 names c.in_ok-push_book-in-Ok.ensures

pub returns-in-Err-clause-refused : goal.returns-in-Err-clause-refused
returns-in-Err-clause-refused g c =
    let d : Bor (List ℕ) = record { ref_ptr = (0, 0); now = [] } in
    let names = c.args.names.now in
    let i = c.loop-name.name-index in
    file_refused c.loop-name.invariant (get_or names i d).now (texts_of (drop (i + 1) names)) (around names i d c.loop-name-test.true) c.in-Err.ensures.refused
