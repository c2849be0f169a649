-- accounted: between any two steps each asker's jobs are all accounted for, and each claim is with its runner.
use Rattle.q_board.proofs.Accounting.{accounts, holds_own, adds}
use Rattle.q_board.proofs.law.accounted.Goals as goal

pub returns : goal.returns
returns c = record { askers = accounts; adds = adds; runners = holds_own }
