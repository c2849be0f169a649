-- Facts::new: nobody entered, joined or left.
use Rattle.sc_members.proofs.FactsLemmas.{no_facts_few}
use Rattle.sc_members.proofs.facts.Facts.new.Goals as goal

pub invariant_of-result : goal.invariant_of-result
invariant_of-result c = rw (c.new.ensures, c.new-2.ensures, c.new-3.ensures) no_facts_few
