-- One more record run goes on a fold, at every placement.
use Rattle.std.proofs.Common.{◌≤◌, ℕ, length, map, slice_get, ap, refl, sym, subst, ◌∙◌, arith, length-append}
use Rattle.std.proofs.lemmas.List.{length-map, map-append}
use Rattle.std.proofs.lemmas.Map.Iter.{iter_turn, iter_end}
use Rattle.std.specs.FinMap.{len-entries}
use Rattle.bq_meaning.specs.Runs.{RecordRun}
use Rattle.bq_meaning.specs.Answers.{FoldsTo, zero_frame}
use Rattle.bq_range.specs.Interval.{IsIn}
use Rattle.sc_view.proofs.EntryLemmas.{Entries}
use Rattle.q_session.proofs.Records.{shown, room, one_more, lengths_at, record_length}
use Rattle.q_session.specs.Records.{record_bytes}
use Rattle.q_session.proofs.fold.fold_checked.Goals as goal

pub loop-id-init : goal.loop-id-init
loop-id-init c = record { folds = λ p _. (c.begun-ran.ensures.acc, c.begun-ran.ensures.steps, refl); within = omega (arith, c.begun-ran.ensures.steps) }

pub run_certified-ended-requires : goal.run_certified-ended-requires
run_certified-ended-requires c =
    let turn = iter_turn shown c.records-id-items.result c.loop-id.yielded _ c.loop-id.id-iterator c.next.new.self _
    c.into_iter-id-iterator.ensures.into_iter_gives c.loop-id.yielded_by _ c.in-Some-2.is c.next.ensures.steps in
    let there = ap (λ (entries : Entries). slice_get entries (length c.loop-id.yielded)) (sym c.records-id-items.ensures.all) ∙ turn.1 in
    let long = record_length (c.in-Some-2.id, c.in-Some-2.stored.now) ∙ sym (ap length c.write_record-length.ensures.first) in
    subst (λ (n : ℕ). IsIn n c.args.certified.now.lengths) long (lengths_at _ c.requires there)

pub overflow_add-ran : goal.overflow_add-ran
overflow_add-ran c =
    let turn = iter_turn shown c.records-id-items.result c.loop-id.yielded _ c.loop-id.id-iterator c.next.new.self _
    c.into_iter-id-iterator.ensures.into_iter_gives c.loop-id.yielded_by _ c.in-Some-2.is c.next.ensures.steps in
    let longest : c.args.certified.now.longest ≤ 4096 = omega (arith, c.longest-longest.ensures.value, c.longest-longest.ensures.within) in
    room c.loop-id.invariant.within c.run_certified-ended.ensures.within longest (omega (arith, turn.0, c.records-id-items.ensures.few))

pub loop-id-preserved : goal.loop-id-preserved
loop-id-preserved c =
    let text = c.args.certified.now.text in
    let before = map record_bytes (map shown c.loop-id.yielded) in
    let ran = c.loop-id.ran in
    let frame = c.loop-id.frame in
    let ended = c.run_certified-ended.result in
    let left = c.run_certified-ended.new.frame in
    record {
      folds = λ p is.
          let alike = c.run_certified-ended.ensures.alike p is in
          let run = subst (λ bytes. RecordRun p text ran.acc bytes frame ended.steps ended.acc left) c.write_record-length.ensures.first alike in
          rw (map-append, map-append)
          (c.appended.ensures p text before _ c.args.start zero_frame ran.acc ran.steps frame ended.steps ended.acc left (c.loop-id.invariant.folds p is) run);
      within = one_more (length c.loop-id.yielded) (length-append c.loop-id.yielded _) c.loop-id.invariant.within c.run_certified-ended.ensures.within;
    }

pub returns : goal.returns
returns c =
    let text = c.args.certified.now.text in
    let ran = c.loop-id.ran in
    let all = iter_end shown c.records-id-items.result c.loop-id.yielded _ c.loop-id.id-iterator c.next.new.self _
    c.into_iter-id-iterator.ensures.into_iter_gives c.loop-id.yielded_by c.in-None.is c.next.ensures.steps in
    let whole = all.0 ∙ c.records-id-items.ensures.all in
    record {
      right = record {
        certified = c.is_certified.ensures;
        meant = λ p is.
            let folds = c.loop-id.invariant.folds p is in
            (c.loop-id.frame, subst (λ xs. FoldsTo p text (map record_bytes xs) c.args.start zero_frame ran.acc ran.steps c.loop-id.frame) whole folds);
        within = rw (len-entries, ← whole, length-map) c.loop-id.invariant.within;
      };
    }
