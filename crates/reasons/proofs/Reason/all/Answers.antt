-- Reason::all: each reason, in the order of numbers.
use Rattle.std.proofs.Common.{refl, map}
use Rattle.reasons.specs.Table.{number}
use Rattle.reasons.specs.declared.TheConstants as consts
use Rattle.reasons.proofs.Listed.{each_listed}
use Rattle.reasons.proofs.Rising.{rising}
use Rattle.reasons.proofs.Reason.all.Goals as goal

pub returns-clause-each : goal.returns-clause-each
returns-clause-each c = each_listed

pub returns-clause-rising : goal.returns-clause-rising
returns-clause-rising c = rising (map number consts.REASONS) refl
