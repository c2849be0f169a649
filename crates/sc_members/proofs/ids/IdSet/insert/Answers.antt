-- IdSet::insert: puts the id into the set.
use Rattle.std.proofs.Common.{sym, ◌∙◌}
use Rattle.sc_members.proofs.Sets.{insert_known}
use Rattle.sc_members.proofs.ids.IdSet.insert.Goals as goal

pub returns-then-contains-clause-ok : goal.returns-then-contains-clause-ok
returns-then-contains-clause-ok c = sym (insert_known c.args.self.now c.args.id (sym c.contains.ensures ∙ c.if-contains.true))
