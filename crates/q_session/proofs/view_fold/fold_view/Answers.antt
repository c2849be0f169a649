-- fold_view: one chunk more goes on a fold, at every placement.
use Rattle.std.proofs.Common.{◌*◌, ◌≤◌, length, map, ap, sym, subst, ◌∙◌, arith, take}
use Rattle.std.proofs.lemmas.List.{map-append}
use Rattle.std.proofs.lemmas.List.Elements.{All-from_recursion}
use Rattle.std.proofs.lemmas.Option.{slice_get_within}
use Rattle.std.specs.List.{AllByRecursion}
use Rattle.std.specs.FinMap.{len-entries}
use Rattle.bq_meaning.specs.Answers.{FoldsTo, zero_frame}
use Rattle.sc_view.specs.Views.{joined}
use Rattle.sc_view.proofs.EntryLemmas.{Entries}
use Rattle.q_session.proofs.Chunks.{next_chunk, all_chunks, in_chunk, more_steps, room}
use Rattle.q_session.proofs.Records.{HasLength, have_lengths}
use Rattle.q_session.specs.Records.{record_bytes}
use Rattle.q_session.proofs.view_fold.fold_view.Goals as goal

pub fold_entries-ran-requires-clause-lengths : goal.fold_entries-ran-requires-clause-lengths
fold_entries-ran-requires-clause-lengths c =
    let lengths = c.args.certified.now.lengths in
    let Has = HasLength lengths in
    let each = subst (AllByRecursion Has) (sym c.chunks-chunks.ensures.all) (have_lengths lengths c.args.view.now c.requires) in
    let here = in_chunk Has c.chunks-chunks.result c.loop-entries.k c.in-Some.entries.now each (sym c.in-Some.ensures) in
    All-from_recursion Has c.in-Some.entries.now here

pub fold_entries-ran-requires-clause-room : goal.fold_entries-ran-requires-clause-room
fold_entries-ran-requires-clause-room c =
    let longest : c.args.certified.now.longest ≤ 4096 = omega (arith, c.longest-longest.ensures.value, c.longest-longest.ensures.within) in
    let made = c.chunks-chunks.ensures in
    room c.chunks-chunks.result c.loop-entries.k made.small made.few longest (sym c.in-Some.ensures) c.loop-entries.invariant.within

pub overflow_add-k : goal.overflow_add-k
overflow_add-k c =
    let there = slice_get_within c.chunks-chunks.result c.loop-entries.k c.in-Some.entries.now (sym c.in-Some.ensures) in
    omega (arith, there, c.chunks-chunks.ensures.few)

pub loop-entries-smaller : goal.loop-entries-smaller
loop-entries-smaller c =
    omega (arith, slice_get_within c.chunks-chunks.result c.loop-entries.k c.in-Some.entries.now (sym c.in-Some.ensures))

pub loop-entries-preserved : goal.loop-entries-preserved
loop-entries-preserved c =
    let text = c.args.certified.now.text in
    let longest = c.args.certified.now.longest in
    let before : Entries = joined (take c.loop-entries.k c.chunks-chunks.result) in
    let entries : Entries = c.in-Some.entries.now in
    let ran = c.fold_entries-ran.result in
    let left = take 512 c.fold_entries-ran.new.block in
    let next = next_chunk c.chunks-chunks.result c.loop-entries.k entries (sym c.in-Some.ensures) in
    let more = more_steps c.loop-entries.ran.steps longest before entries c.loop-entries.invariant.within in
    let records = ap (λ (es : Entries). map record_bytes es) next ∙ map-append record_bytes before entries in
    record {
      folds = λ p is.
          subst (λ all. FoldsTo p text all c.args.start zero_frame ran.acc ran.steps left) (sym records)
          (c.fold_entries-ran.ensures.goes_on p (map record_bytes before) c.args.start zero_frame is (c.loop-entries.invariant.folds p is));
      within = subst (λ (es : Entries). ran.steps ≤ longest * length es) (sym next) (omega (arith, more, c.fold_entries-ran.ensures.within));
    }

pub returns : goal.returns
returns c =
    let chunks = c.chunks-chunks.result in
    let text = c.args.certified.now.text in
    let ran = c.loop-entries.ran in
    let left = take 512 c.loop-entries.block in
    let whole = ap joined (all_chunks chunks c.loop-entries.k (sym c.in_default.ensures)) ∙ c.chunks-chunks.ensures.all in
    record {
      certified = c.is_certified.ensures;
      meant = λ p is.
          let folds = c.loop-entries.invariant.folds p is in
          (left, subst (λ (es : Entries). FoldsTo p text (map record_bytes es) c.args.start zero_frame ran.acc ran.steps left) whole folds);
      within = rw (len-entries, ← whole) c.loop-entries.invariant.within;
    }
