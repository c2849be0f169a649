use Rattle.std.proofs.Common.{◌≡◌, None}
use Rattle.q_gather.specs.Numbers.{AreNumbers}
use Rattle.q_gather.specs.Gathering.{AreIdle, IsNextWithin}
use Rattle.q_gather.proofs.rounds.Rounds.next_within.Given as goal

abbrev pub invariant-loop-place : goal.invariant-loop-place
invariant-loop-place l = record {
  sent : l.self.sent ≡ l.fn.self.sent;
  idle : AreNumbers l.gathering.cluster.past.sent l.gathering.numbers → AreIdle l.gathering.cluster l.books l.fn.self.waiting.keys
      → AreIdle l.gathering.cluster l.books l.self.waiting.keys;
  none : AreNumbers l.gathering.cluster.past.sent l.gathering.numbers → AreIdle l.gathering.cluster l.books l.fn.self.waiting.keys
      → IsNextWithin l.gathering.cluster l.books l.first l.place None;
}
