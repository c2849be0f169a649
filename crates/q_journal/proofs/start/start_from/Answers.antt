-- start_from: what a start makes of the file of a journal
use Rattle.std.proofs.Common.{option_copied}
use Rattle.q_replay.specs.Journal.{head_of}
use Rattle.q_journal.proofs.Leaving.{comes_back, has_journal, holds_same, not_taken, refused, taken, unread}
use Rattle.q_journal.proofs.start.start_from.Goals as goal

pub returns-in_err-bytes-clause-starts : goal.returns-in_err-bytes-clause-starts
returns-in_err-bytes-clause-starts g c =
    unread (head_of c.args.own.now) (option_copied c.args.note) c.args.boot.now c.args.asked _ _ c.read_whole.ensures.kept
    c.in_err-bytes.field-0.0 _ c.from_residual.ensures.1

pub returns-in_err-find-clause-starts : goal.returns-in_err-find-clause-starts
returns-in_err-find-clause-starts g c =
    let holds = holds_same _ _ _ c.in_ok-bytes.ensures.bytes c.deref.ensures.value in
    not_taken (head_of c.args.own.now) (option_copied c.args.note) c.args.boot.now c.args.asked _ _ c.read_whole.ensures.kept
    c.deref.result.now c.in_err-find.field-0.0 _ holds c.in_err-find.ensures c.from_residual-in_err-find.ensures.1

pub returns-clause-own : goal.returns-clause-own
returns-clause-own g c = (taken (head_of c.args.own.now) c.deref.result.now _ _ c.in_ok-find.ensures c.in-Some.is).own

pub returns-clause-journal : goal.returns-clause-journal
returns-clause-journal g c =
    let r = c.in-Some.resumed in
    let there = taken (head_of c.args.own.now) c.deref.result.now _ r c.in_ok-find.ensures c.in-Some.is in
    let holds = holds_same _ _ _ c.in_ok-bytes.ensures.bytes c.deref.ensures.value in
    has_journal _ _ _ _ _ _ _ _ holds c.read_whole.ensures.kept there c.in_ok-settle-in-Some.ensures.1

pub returns-in_err-settle-in-Some-clause-starts : goal.returns-in_err-settle-in-Some-clause-starts
returns-in_err-settle-in-Some-clause-starts g c =
    let r = c.in-Some.resumed in
    let there = taken (head_of c.args.own.now) c.deref.result.now _ r c.in_ok-find.ensures c.in-Some.is in
    let holds = holds_same _ _ _ c.in_ok-bytes.ensures.bytes c.deref.ensures.value in
    refused (head_of c.args.own.now) (option_copied c.args.note) c.args.boot.now c.args.asked _ _ _ c.deref.result.now holds
    c.read_whole.ensures.kept r there c.in_err-settle-in-Some.field-0.0 _ c.in_err-settle-in-Some.ensures
    c.from_residual-in_err-settle-in-Some.ensures.1

pub returns-clause-starts : goal.returns-clause-starts
returns-clause-starts g c =
    let r = c.in-Some.resumed in
    let there = taken (head_of c.args.own.now) c.deref.result.now _ r c.in_ok-find.ensures c.in-Some.is in
    let holds = holds_same _ _ _ c.in_ok-bytes.ensures.bytes c.deref.ensures.value in
    comes_back (head_of c.args.own.now) (option_copied c.args.note) c.args.boot.now c.args.asked _ _ _ c.deref.result.now holds
    c.read_whole.ensures.kept r there c.in_ok-settle-in-Some.field-0 c.in_ok-settle-in-Some.ensures
