-- Bytes::program: a text behind its length, and notes, in the form of that version.
use Rattle.std.proofs.Common.{◌≡◌, ◌++◌, length, ap, ◌∙◌, arith}
use Rattle.std.proofs.lemmas.Result.{on_ok_weaker}
use Rattle.q_replay.proofs.Sizes.{text_small}
use Rattle.q_replay.proofs.Writes.{program_written}
use Rattle.q_replay.proofs.writer.Bytes.program.Goals as goal

pub overflow_cast-len : goal.overflow_cast-len
overflow_cast-len c =
    omega (arith, ap length c.in_ok-spelling.ensures.spelled, text_small c.args.text.now c.in_ok-spelling.ensures.text)

pub returns-clause-spelled : goal.returns-clause-spelled
returns-clause-spelled c =
    on_ok_weaker c.append-2.result
    (λ (last : c.append-2.new.self ≡ c.append.new.self ++ c.deref-2.result.now). program_written c.args.version c.args.self.now c.args.text.now c.args.notes.now
    (c.deref.ensures.value ∙ c.in_ok-spelling.ensures.spelled) (c.deref-2.ensures.value ∙ c.in_ok-notes.ensures.spelled)
    c.in_ok-word.ensures.spelled (omega arith) c.in_ok-append.ensures last)
    c.append-2.ensures
