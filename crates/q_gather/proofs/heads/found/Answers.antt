-- found: the cluster of the founders on whom the books agree, before any event.
use Rattle.q_gather.proofs.Agreeing.{nobody_agrees, agree_headed, agree_there, agree_on, starts}
use Rattle.q_gather.proofs.heads.found.Goals as goal

pub returns-in_default-clause-err : goal.returns-in_default-clause-err
returns-in_default-clause-err c = nobody_agrees c.args.books.now c.in_default.ensures

pub returns-then-not-are_headed-clause-err : goal.returns-then-not-are_headed-clause-err
returns-then-not-are_headed-clause-err c = λ a. c.if-not-are_headed.ensures (agree_headed c.in-Some.ensures a)

pub returns-then-not-are_there-clause-err : goal.returns-then-not-are_there-clause-err
returns-then-not-are_there-clause-err c = λ a. c.if-not-are_there.ensures (agree_there c.in-Some.ensures a)

pub returns-clause-ok : goal.returns-clause-ok
returns-clause-ok c = (
  c.in-Some.head.version,
  c.in-Some.head.config,
  c.in-Some.head.founders.now,
  agree_on c.in-Ok.ensures c.if-not-are_headed.ensures c.if-not-are_there.ensures,
  starts c.in-Some.head.version c.in-Some.head.config c.in-Some.head.founders.now c.in-Ok.cluster c.in-Ok.ensures,
)
