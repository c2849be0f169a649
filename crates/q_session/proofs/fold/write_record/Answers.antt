-- write_record: the bytes of an entry, which are put first; how many they are is answered.
use Rattle.std.proofs.Common.{◌∙◌, ◌+◌, ◌-◌, length, sym, ap}
use Rattle.std.specs.Int.{w64, to_le_bytes}
use borrow.Rule.Slice.PartMut.{post_of}
use Rattle.bq_word.proofs.Bytes.{eight_bytes}
use Rattle.q_session.proofs.Records.{written}
use Rattle.q_session.specs.Records.{record_bytes}
use Rattle.q_session.proofs.fold.write_record.Goals as goal

pub returns-clause-first : goal.returns-clause-first
returns-clause-first c =
    let stored = c.args.stored.now in
    let count = length c.bytes-value.result.now in
    let number = c.copy_from_slice.ensures.after ∙ c.to_le_bytes.ensures ∙ eight_bytes c.args.id in
    let next = c.copy_from_slice-2.ensures.after ∙ c.to_le_bytes-2.ensures in
    let sequence = next ∙ ap (to_le_bytes w64) c.number.ensures.number ∙ eight_bytes stored.number in
    let value = c.copy_from_slice-3.ensures.after in
    written (16 + count - 16) count c.copy_from_slice.new.self c.copy_from_slice-2.new.self c.copy_from_slice-3.new.self (post_of 0 8 c.args.bytes.now)
    c.args.id stored.number (ap length (sym value)) number sequence
    ∙ ap (λ v. record_bytes (c.args.id, record stored { value = v })) (value ∙ c.bytes-value.ensures.exact ∙ c.value.ensures)
