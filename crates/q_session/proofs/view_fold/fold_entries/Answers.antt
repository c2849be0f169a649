-- fold_entries: what has been run goes on over the entries of one chunk.
use Rattle.std.proofs.Common.{◌+◌, ℕ, List, [], ◌∷◌, All, map, sym, subst, take}
use Rattle.std.proofs.lemmas.List.Elements.{All-head, All-tail}
use Rattle.bq_meaning.specs.Runs.{RecordRun}
use Rattle.bq_meaning.specs.declared.run.Ended.{Ended}
use Rattle.bq_range.specs.Interval.{IsIn}
use Rattle.sc_view.proofs.EntryLemmas.{Entries}
use Rattle.q_session.specs.Folds.{GoesOn}
use Rattle.q_session.specs.Records.{record_bytes}
use Rattle.q_session.proofs.Chunks.{goes_both, one_fewer}
use Rattle.q_session.proofs.Records.{HasLength}
use Rattle.q_session.proofs.view_fold.fold_entries.Goals as goal

pub run_placed-ended-requires : goal.run_placed-ended-requires
run_placed-ended-requires c =
    let lengths = c.args.certified.now.lengths in
    let left = subst (All (HasLength lengths)) c.in-Some.ensures.cases.0 c.loop-first.invariant.lengths in
    subst (λ (n : ℕ). IsIn n lengths) (sym c.place-length.ensures.length) (All-head (HasLength lengths) c.in-Some.first.now c.in-Some.others.now left)

pub loop-first-preserved : goal.loop-first-preserved
loop-first-preserved c =
    let lengths = c.args.certified.now.lengths in
    let text = c.args.certified.now.text in
    let ran : Ended = c.loop-first.ran in
    let ended : Ended = c.run_placed-ended.result in
    let next : Ended = record { acc = ended.acc; steps = ran.steps + ended.steps } in
    let frame = take 512 c.loop-first.block in
    let begun : List ℕ = take 512 c.place-length.new.block in
    let left = take 512 c.run_placed-ended.new.block in
    let bytes : List ℕ = record_bytes c.in-Some.first.now in
    let others = map record_bytes c.in-Some.others.now in
    let one : GoesOn text (bytes ∷ []) ran frame next left =
    λ p before start zeros is folds.
    let Runs : List ℕ → List ℕ → Type 0 = λ bytes frame. RecordRun p text ran.acc bytes frame ended.steps ended.acc left in
    let run = subst (λ (bytes : List ℕ). Runs bytes begun) c.place-length.ensures.«record» (c.run_placed-ended.ensures.run p is) in
    let run_on = subst (Runs bytes) c.place-length.ensures.frame run in
    c.appended.ensures p text before bytes start zeros ran.acc ran.steps frame ended.steps ended.acc left folds run_on in
    let within_all = subst (All (HasLength lengths)) c.in-Some.ensures.cases.0 c.loop-first.invariant.lengths in
    record {
      lengths = All-tail (HasLength lengths) c.in-Some.first.now c.in-Some.others.now within_all;
      onward = λ to after goes.
          let both = goes_both text (bytes ∷ []) others ran next to frame left after one goes in
          c.loop-first.invariant.onward to after
          (subst (λ (es : Entries). GoesOn text (map record_bytes es) ran frame to after) (sym c.in-Some.ensures.cases.0) both);
      within = one_fewer ran.steps _ (sym c.in-Some.ensures.cases.1) c.loop-first.invariant.within c.run_placed-ended.ensures.within;
    }
