-- place: the bytes of an entry are put behind the frame; how many they are is answered.
use Rattle.std.proofs.Common.{◌≡◌, ◌∙◌, ◌++◌, ap, length, take, subst}
use Rattle.bq_word.specs.Word.{le_bytes}
use Rattle.q_session.proofs.view_fold.place.Goals as goal

pub returns-clause-record : goal.returns-clause-record
returns-clause-record c =
    let v = c.args.stored.now.value in
    let room = c.room.result.now in
    let same = c.bytes-count.ensures.exact ∙ c.value-value.ensures in
    let front : take (length v) room ≡ v = subst (λ l. take (length l) room ≡ l) c.value-value.ensures c.room.ensures.front in
    c.set_entry.ensures.«record» ∙ ap (λ n. le_bytes 8 c.args.id ++ (le_bytes 8 n ++ take (length c.bytes-count.result.now) room)) c.number.ensures.number
    ∙ ap (λ l. le_bytes 8 c.args.id ++ (le_bytes 8 c.args.stored.now.number ++ l)) (ap (λ l. take (length l) room) same ∙ front)
