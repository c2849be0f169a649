-- computed: what `run` prints of a program over the records that a text lists.
use Rattle.std.proofs.Common.{rules, ℕ, List, subst}
use Rattle.bq_range.specs.Interval.{Interval}
use Rattle.q_script.specs.Records.{IsView}
use Rattle.q_session.specs.Records.{HasRecordsWithin}
use Rattle.q_command.proofs.perform.computed.Goals as goal

pub run_fold-ran-requires : goal.run_fold-ran-requires
run_fold-ran-requires c = subst (λ (l : Interval). HasRecordsWithin l c.in_ok-view.view) c.lengths.ensures.value (record { at = c.in_ok-view.ensures.lengths })

pub returns-clause-computed : goal.returns-clause-computed
returns-clause-computed c =
    let read = subst (λ (l : Interval). IsView l c.in_ok-listed.listed.now c.in_ok-view.view) c.lengths.ensures.value c.in_ok-view.ensures.read in
    λ held source program. record {
      text = c.args.certified.now.text;
      view = c.in_ok-view.view;
      acc = c.run_fold-ran.result.acc;
      steps = c.run_fold-ran.result.steps;
      program = program;
      utf8 = c.in_ok-listed.ensures.same.1;
      is_view = subst (λ (t : List ℕ). IsView c.args.certified.now.lengths t c.in_ok-view.view) c.in_ok-listed.ensures.same.0 read;
      right = c.run_fold-ran.ensures.meant;
      told = search rules;
    }
