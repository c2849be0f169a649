-- learn: puts an id among others, where no other set has them.
use Rattle.std.proofs.Common.{refl}
use Rattle.sc_members.proofs.Sets.{one_more}
use Rattle.sc_members.proofs.ids.learn.Goals as goal

pub returns-in_ok-insert-in-Some-clause-ok : goal.returns-in_ok-insert-in-Some-clause-ok
returns-in_ok-insert-in-Some-clause-ok c =
    rw (← c.in-Some.ensures.value) (one_more c.in-Some.ids.now.keys c.insert.new.self.keys c.args.id _ refl c.in_ok-insert-in-Some.ensures.updates.0)
