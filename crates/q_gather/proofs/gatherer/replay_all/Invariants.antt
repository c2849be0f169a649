use Rattle.std.proofs.Common.{List, ℕ, take, map, Bor}
use Rattle.q_gather.specs.Gather.{AreReplayed}
use Rattle.q_gather.proofs.gatherer.replay_all.Given as goal

abbrev pub invariant-loop-place : goal.invariant-loop-place
invariant-loop-place l = AreReplayed (take l.place (map (λ (bytes : Bor (List ℕ)). bytes.now) l.journals)) l.books.items
