-- No operation is open where none began.
use Rattle.std.proofs.Common.{rules}
use Rattle.std.specs.FinMap as fin
use Rattle.q_book.proofs.worked.worked.Goals as goal

pub returns-clause-asked : goal.returns-clause-asked
returns-clause-asked c = search (rules, fin.gets)

pub returns-clause-stored : goal.returns-clause-stored
returns-clause-stored c = search (rules, fin.gets)

pub returns-clause-stored_any : goal.returns-clause-stored_any
returns-clause-stored_any c = search (rules, fin.gets)

pub returns-clause-open : goal.returns-clause-open
returns-clause-open c = search (rules, fin.gets)

pub returns-clause-not_open : goal.returns-clause-not_open
returns-clause-not_open c = search (rules, fin.gets)
