-- print_pairs_with: prints these pairs of a store.
use Rattle.std.proofs.Common.{rules, ◌≡◌, ◌+◌, ◌++◌, [], ◌∷◌, take, string_bytes}
use Rattle.std.proofs.lemmas.List.{take_more}
use Rattle.q_told.specs.Meetings.{is_told}
use Rattle.q_told.proofs.Pairing.{no_pairs, paired, unpaired}
use Rattle.q_told.proofs.meetings.print_pairs_with.Goals as goal
use Rattle.q_told.proofs.meetings.print_pairs_with.Goals.{then-is_told+in_ok-print_pair, else-is_told}

pub loop-collect-init : goal.loop-collect-init
loop-collect-init c = no_pairs (string_bytes c.args.lines.now)

pub loop-collect-preserved : goal.loop-collect-preserved
loop-collect-preserved c =
    let store = c.args.store.now in
    let ops = c.args.ops.now in
    let i = c.loop-collect.collect-index in
    let more : take (i + 1) ops ≡ take i ops ++ c.collect-item.result ∷ [] = search (rules, take_more) in
    let before = string_bytes c.args.lines.now in
    let now = string_bytes c.loop-collect.lines in
    elim c.if-is_told.branch [
      | then-is_told+in_ok-print_pair w ↦
          rw w.lines-is
          (paired (is_told c.args.pairs) store (take i ops) (take (i + 1) ops) c.collect-item.result before now (string_bytes w.print_pair.new.lines)
          more (search rules) c.loop-collect.invariant w.in_ok-print_pair.ensures)
      | else-is_told w ↦
          rw w.lines-is
          (unpaired (is_told c.args.pairs) store (take i ops) (take (i + 1) ops) c.collect-item.result before now more (search rules) c.loop-collect.invariant)
    ]
