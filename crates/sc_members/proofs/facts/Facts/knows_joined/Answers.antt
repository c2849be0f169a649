-- Facts::knows_joined: whether it is known that the node has joined.
use Rattle.std.proofs.Common.{sym, ◌∙◌, true≢false}
use Rattle.sc_members.proofs.FactsLemmas.{knows_joined}
use Rattle.sc_members.proofs.facts.Facts.knows_joined.Goals as goal

pub returns-then-contains-clause-known : goal.returns-then-contains-clause-known
returns-then-contains-clause-known c =
    let joined = c.contains-then-contains.ensures in
    knows_joined c.args.id _ c.args.self.now _ c.self.view_is (λ yes. (sym c.contains.ensures ∙ c.if-contains.true, sym joined ∙ yes)) (λ both. joined ∙ both.1)

pub returns-else-contains-clause-known : goal.returns-else-contains-clause-known
returns-else-contains-clause-known c =
    knows_joined c.args.id _ c.args.self.now _ c.self.view_is (λ yes. absurd (true≢false (sym yes ∙ c.if-contains.false)))
    (λ both. absurd (true≢false (sym both.0 ∙ sym c.contains.ensures ∙ c.if-contains.false)))
