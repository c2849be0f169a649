use Rattle.std.proofs.Common.{◌≡◌, []}
use Rattle.q_kept.specs.Giving.{Adds, outbox}
use Rattle.q_kept.proofs.giving.give_waiting.Given as goal

-- so much was given, and nothing else changed
abbrev pub invariant-loop : goal.invariant-loop
invariant-loop l = let old = l.initial.held in let now = l.held in
    Adds l.version (outbox old.waiting.items l.initial.questions.items old.unsent) [] (outbox now.waiting.items l.questions.items now.unsent) l.letters.items
    × (now.book ≡ old.book) × (now.asker ≡ old.asker) × (now.lost ≡ old.lost)
