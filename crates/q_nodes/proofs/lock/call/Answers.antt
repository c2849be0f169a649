-- call: makes a call of the book of the node.
use Rattle.std.proofs.Common.{ℕ, refl, ap}
use Rattle.q_nodes.specs.declared.outcome.Outcome.TheVariants as outcome
use Rattle.q_nodes.proofs.lock.call.Goals as goal

pub returns-in-Ok : goal.returns-in-Ok
returns-in-Ok c =
    rw c.in-Register.is (c.args.held.now.book, c.register.new.self, c.in-Ok.id, c.if-not-is_of.ensures, c.in-Ok.ensures, refl)

pub returns-in-Err : goal.returns-in-Err
returns-in-Err c =
    rw c.in-Register.is (c.args.held.now.book, c.in-Err.fault, c.if-not-is_of.ensures, c.from.ensures, c.in-Err.ensures.1)

pub returns-in-Ok-store : goal.returns-in-Ok-store
returns-in-Ok-store c =
    let begun = c.in-Ok-store.ensures.stored in
    let told = ap (λ (tag : ℕ). outcome.Stored tag) begun.2 in
    rw c.in-Store.is (c.args.held.now.book, c.store.new.self.book, begun.0, c.if-not-is_of.ensures, begun.1, told)

pub returns-in-Err-store : goal.returns-in-Err-store
returns-in-Err-store c =
    let why = c.in-Err-store.ensures.stored.1 in
    rw c.in-Store.is (c.args.held.now.book, c.in-Err-store.fault, c.if-not-is_of.ensures, c.from-in-Err-store.ensures, why)

pub returns-in-Ok-ask : goal.returns-in-Ok-ask
returns-in-Ok-ask c =
    let begun = c.in-Ok-ask.ensures.asked in
    let told = ap (λ (query : ℕ). outcome.Asked query) begun.2 in
    rw c.in-Ask.is (c.args.held.now.book, c.ask.new.self.book, begun.0, c.if-not-is_of.ensures, begun.1, told)

pub returns-in-Err-ask : goal.returns-in-Err-ask
returns-in-Err-ask c =
    let why = c.in-Err-ask.ensures.asked.1 in
    rw c.in-Ask.is (c.args.held.now.book, c.in-Err-ask.fault, c.if-not-is_of.ensures, c.from-in-Err-ask.ensures, why)
