-- print_pairs_by: prints these pairs, by the order in which the stores and then the collects began.
use Rattle.std.proofs.Common.{rules, ◌≡◌, ◌+◌, ◌++◌, [], ◌∷◌, take, string_bytes}
use Rattle.std.proofs.lemmas.List.{take_more}
use Rattle.q_told.specs.Meetings.{is_told}
use Rattle.q_told.proofs.Pairing.{no_pairs, one_more_store}
use Rattle.q_told.proofs.meetings.print_pairs_by.Goals as goal

pub loop-store-init : goal.loop-store-init
loop-store-init c = no_pairs (string_bytes c.args.lines.now)

pub loop-store-preserved : goal.loop-store-preserved
loop-store-preserved c =
    let ops = c.args.ops.now in
    let i = c.loop-store.store-index in
    let more : take (i + 1) ops ≡ take i ops ++ c.store-item.result ∷ [] = search (rules, take_more) in
    one_more_store (is_told c.args.pairs) ops (take i ops) (take (i + 1) ops) c.store-item.result (string_bytes c.args.lines.now) _
    (string_bytes c.print_pairs_with.new.lines) more c.loop-store.invariant c.in_ok-print_pairs_with.ensures
