-- after_events: the bytes after a head and so many events, where these stand first.
use Rattle.std.proofs.Common.{rules, ◌≡◌, ℕ, subst}
use Rattle.q_beginning.specs.Beginning.{IsAfter}
use Rattle.q_beginning.proofs.Splitting.{after_more, after_one}
use Rattle.q_beginning.proofs.beginnings.after_events.Goals as goal

pub loop-preserved : goal.loop-preserved
loop-preserved c =
    let e = c.in_ok-rest.ensures in
    after_more c.in_ok-version.version c.args.bytes.now c.loop.counter c.loop.rest.now e.0 c.in_ok-rest.rest.now c.loop.invariant e.1 e.2

pub returns-clause-rest : goal.returns-clause-rest
returns-clause-rest c =
    let all : c.loop.counter ≡ c.args.count = search rules in
    let last = subst (λ (n : ℕ). IsAfter c.in_ok-version.version c.args.bytes.now n c.loop.rest.now) all c.loop.invariant in
    λ version rest b. after_one c.one_head.ensures c.one_event.ensures last b
