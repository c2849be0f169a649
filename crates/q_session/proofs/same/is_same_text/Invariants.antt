use Rattle.std.proofs.Common.{◌≡◌, ◌<◌, ℕ, None, get_or}
use Rattle.bq_insn.specs.Slots.{slots}
use Rattle.q_session.proofs.same.is_same_text.Given as goal

abbrev pub invariant-loop-unit : goal.invariant-loop-unit
invariant-loop-unit l = (k : ℕ) → k < l.unit → get_or (slots l.text) k None ≡ get_or (slots l.other) k None
