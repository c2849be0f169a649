-- find: what the bytes are to the node that would begin with this book
use Rattle.std.proofs.Common.{◌∙◌}
use Rattle.q_replay.specs.Journal.{head_of}
use Rattle.q_journal.proofs.Finding.{foreign, headless, resumed}
use Rattle.q_journal.proofs.start.find.Goals as goal

pub returns-then-is_headless : goal.returns-then-is_headless
returns-then-is_headless c =
    let is = c.as_slice-head.ensures.value ∙ c.in_ok-spelled.ensures.bytes in
    let short = c.if-is_headless.ensures in
    headless (head_of c.args.own.now) _ _ is short.0 short.1

pub returns-then-not-begins_with : goal.returns-then-not-begins_with
returns-then-not-begins_with c =
    let is = c.as_slice-head.ensures.value ∙ c.in_ok-spelled.ensures.bytes in
    foreign (head_of c.args.own.now) _ _ _ is c.if-is_headless.ensures c.if-not-begins_with.ensures c.foreign.ensures

pub returns : goal.returns
returns c =
    let is = c.as_slice-head.ensures.value ∙ c.in_ok-spelled.ensures.bytes in
    let j = c.in_ok-journal.journal in
    resumed c.one_head.ensures (head_of c.args.own.now) _ _ j.book j.kept is c.in_ok-spelled.ensures.legal c.if-not-begins_with.ensures
    c.in_ok-journal.ensures.begins c.in_ok-journal.ensures.within
