-- Certified::is_certified: a law of every certificate: its text is legal, its notes pass for records of its
-- lengths, and its longest path is that of the text.
use Rattle.std.proofs.Common.{subst}
use Rattle.bq_check.specs.Certified.{IsCertified}
use Rattle.bq_check.proofs.certified.Certified.is_certified.Goals as goal

pub returns : goal.returns
returns c = subst IsCertified c.self.view_is c.self.invariant.certified
