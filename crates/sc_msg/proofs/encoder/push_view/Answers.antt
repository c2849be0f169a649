-- push_view: puts the bytes of a view behind what is there.
use Rattle.std.proofs.Common.{ℕ, List, ◌++◌, ap, ◌∙◌, append_assoc}
use Rattle.std.specs.FinMap as fin
use Rattle.sc_view.specs.declared.view.Stored.{Stored}
use Rattle.sc_view.proofs.LengthLemmas.{Within, entries_within}
use Rattle.spelling.specs.Numbers.{number_bytes}
use Rattle.sc_msg.specs.Values.{value_lengths}
use Rattle.sc_msg.specs.Entries.{stored_bytes}
use Rattle.sc_msg.proofs.Writing.{written_more, written_all, all_at}
use Rattle.sc_msg.proofs.encoder.push_view.Goals as goal

pub loop-id-preserved : goal.loop-id-preserved
loop-id-preserved c =
    let new = c.loop-id.out.items in
    let id = c.in-Some.id in
    let behind = stored_bytes c.args.version c.in-Some.stored.now in
    let put = ap (λ (l : List ℕ). l ++ behind) c.in_ok-put_u64.ensures.written ∙ append_assoc new (number_bytes 8 id) behind in
    let stored = c.in_ok-push_stored.ensures in
    written_more c.loop-id.invariant c.in-Some.ensures.steps (c.in_ok-put_u64.ensures.fits, stored.legal) (stored.spelled ∙ put)

pub returns-clause-spelled : goal.returns-clause-spelled
returns-clause-spelled c = (written_all c.loop-id.invariant c.in-None.ensures.steps.0 (fin.len-entries c.args.view.now)).1

pub push_stored-requires : goal.push_stored-requires
push_stored-requires c =
    let so_far = c.loop-id.invariant in
    let l = value_lengths c.args.version in
    let split = so_far.split ∙ ap (λ (l : List (ℕ × Stored)). so_far.done ++ l) c.in-Some.ensures.steps in
    all_at (Within l) so_far.done c.next.new.self split (entries_within l c.args.view.now c.requires)
