-- push_ids: puts the bytes of a set of ids behind what is there.
use Rattle.std.proofs.Common.{ℕ, List, ◌++◌, sym, ap, subst, ◌∙◌}
use Rattle.std.proofs.lemmas.List.{append-nil}
use Rattle.std.specs.FinSet as set
use Rattle.sc_members.specs.Ids.{rising}
use Rattle.spelling.specs.Numbers.{number_bytes}
use Rattle.sc_msg.specs.Entries.{ids_layout}
use Rattle.sc_msg.proofs.Sound.{len-rising}
use Rattle.sc_msg.proofs.Writing.{WrittenTo, written_none, written_more, written_all}
use Rattle.sc_msg.proofs.encoder.push_ids.Goals as goal

pub loop-id-init : goal.loop-id-init
loop-id-init c =
    let s = c.args.ids.now in
    let given = c.into_iter-id-iterator.ensures.into_iter_gives ∙ c.iter-id-items.ensures in
    let counted = c.in_ok-push_count.ensures ∙ ap (λ (n : ℕ). c.args.out.now.items ++ number_bytes 2 n) c.len.ensures.count in
    subst (λ (rest : List ℕ). WrittenTo ids_layout (set.len s) (rising s) c.args.out.now.items c.push_count.new.out.items rest) (sym given)
    (written_none counted)

pub loop-id-preserved : goal.loop-id-preserved
loop-id-preserved c =
    let put = c.in_ok-put_u64.ensures in
    let entry = put.written ∙ ap (λ (l : List ℕ). c.loop-id.out.items ++ l) (sym (append-nil (number_bytes 8 c.in-Some.id))) in
    written_more c.loop-id.invariant c.in-Some.ensures.steps (put.fits, tt) entry

pub returns-clause-legal : goal.returns-clause-legal
returns-clause-legal c =
    record { few = c.requires; fit = (written_all c.loop-id.invariant c.in-None.ensures.steps.0 (len-rising c.args.ids.now)).0 }

pub returns-clause-spelled : goal.returns-clause-spelled
returns-clause-spelled c = (written_all c.loop-id.invariant c.in-None.ensures.steps.0 (len-rising c.args.ids.now)).1
