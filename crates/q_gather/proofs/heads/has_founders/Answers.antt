-- has_founders: whether the book is that of one of these founders, who knows all of them; or that of no founder, of
-- a node that entered.
use Rattle.std.proofs.Common.{◌∙◌, true, false, sym}
use Rattle.q_gather.proofs.Agreeing.{founders_listed}
use Rattle.q_gather.proofs.heads.has_founders.Goals as goal

pub returns-then-contains : goal.returns-then-contains
returns-then-contains c =
    founders_listed c.args.book.now c.args.founders.now true c.is_founder.result c.id.ensures (sym c.if-contains.true ∙ c.contains.ensures.value)
    c.is_founder.ensures

pub returns-else-contains : goal.returns-else-contains
returns-else-contains c =
    founders_listed c.args.book.now c.args.founders.now false c.is_entered.result c.id.ensures (sym c.if-contains.false ∙ c.contains.ensures.value)
    c.is_entered.ensures
