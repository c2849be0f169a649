-- certify: what `check_within` answers.
use Rattle.bq_check.proofs.Once.{opened_passes}
use Rattle.bq_check.proofs.checker.certify.Goals as goal

pub invariant_of-result : goal.invariant_of-result
invariant_of-result c = record {
  certified = record {
    legal = c.in_ok-longest.ensures.legal;
    lengths = c.least-least.ensures.lengths;
    passes = opened_passes c.args.bounds c.args.text c.args.notes c.in_ok-longest.ensures.opened c.in_ok-check_units.ensures.fine;
    longest = c.in_ok-longest.ensures.longest;
  };
  lowered = c.in-Ok.ensures;
}

pub returns-in-Ok-clause-passes : goal.returns-in-Ok-clause-passes
returns-in-Ok-clause-passes c = record {
  legal = c.in_ok-longest.ensures.legal;
  lengths = c.least-least.ensures.lengths;
  passes = opened_passes c.args.bounds c.args.text c.args.notes c.in_ok-longest.ensures.opened c.in_ok-check_units.ensures.fine;
  longest = c.in_ok-longest.ensures.longest;
}
