-- push_state: puts the bytes of a state behind what is there.
use Rattle.std.proofs.Common.{◌≡◌, ◌≤◌, length, ap, ◌∙◌, arith, ◌++◌, append_assoc}
use Rattle.bq_check.specs.Spelling.{kind_bytes, kinds_bytes, lengths_bytes}
use Rattle.bq_check.proofs.Written.{written_all}
use Rattle.bq_check.proofs.writing.push_state.Goals as goal

pub returns : goal.returns
returns c =
    let form = c.args.form in
    let before = c.args.out.now.items in
    let items = c.kinds-kind-items.result.now in
    let is = c.kinds-kind-items.ensures.kinds in
    let few : length items ≤ c.loop-kind.kind-index = omega (arith, ap length is, c.kinds-kind-items.ensures.count, c.loop-kind-test.false) in
    let head : c.push_lengths.new.out.items ≡ before ++ lengths_bytes form c.lengths.result = c.in_ok-push_lengths.ensures in
    written_all kind_bytes c.push_lengths.new.out.items items c.loop-kind.kind-index c.loop-kind.out.items c.loop-kind.invariant few
    ∙ ap (λ l. l ++ kinds_bytes items) head
    ∙ append_assoc before (lengths_bytes form c.lengths.result) (kinds_bytes items)
    ∙ ap (λ l. before ++ (lengths_bytes form l ++ kinds_bytes items)) c.lengths.ensures
    ∙ ap (λ ks. before ++ (lengths_bytes form c.args.state.now.lengths ++ kinds_bytes ks)) is
