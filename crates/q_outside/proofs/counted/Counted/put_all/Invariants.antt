use Rattle.std.proofs.Common.{◌≡◌, ◌<◌, ◌≤◌, take}
use Rattle.std.specs.List.{flat_map}
use Rattle.std.specs.Io.KnownBytes.{Appends}
use Rattle.q_outside.specs.Pieces.{piece_text}
use Rattle.q_outside.proofs.counted.Counted.put_all.Given as goal

-- the pieces so far were written, no write failed, and a call that is to fail is not reached yet
abbrev pub invariant-loop-piece : goal.invariant-loop-piece
invariant-loop-piece g l =
    Appends (g.W.Write.contents l.initial.self.inner) (g.W.Write.contents l.self.inner) (flat_map piece_text (take l.piece-index l.pieces))
    × (l.self.failures ≡ l.initial.self.failures)
    × (l.self.failing ≤ l.initial.self.failing)
    × (0 < l.initial.self.failing → 0 < l.self.failing)
