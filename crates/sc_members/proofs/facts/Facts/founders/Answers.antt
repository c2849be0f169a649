-- Facts::founders: these ids have entered and joined, and nobody left.
use Rattle.sc_members.proofs.FactsLemmas.{founders_few}
use Rattle.sc_members.proofs.facts.Facts.founders.Goals as goal

pub invariant_of-result : goal.invariant_of-result
invariant_of-result c = rw (c.in_ok-from_slice.ensures, c.in_ok-from_slice-2.ensures, c.new.ensures) (founders_few c.args.ids.now c.requires)
