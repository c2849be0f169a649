-- What is behind, and what is told.
use Rattle.std.proofs.Common.{◌≡◌, ◌==◌, ◌&&◌, ◌||◌, ℕ, Bool, true, false, not, List, length, None, ap}
use Rattle.sc_msg.specs.declared.message.Message.{Message}
use Rattle.q_desk.specs.declared.journal.Entry.{Entry}
use Rattle.q_kept.specs.Giving.{Outbox}
use Rattle.q_node.specs.State.{OwnState}
use Rattle.q_node.specs.Calls.{IsGiven, is_behind, is_told}

-- by what waits, how much is written and the journal
pub behind_by : (o : OwnState) (waiting : List Message) (written : ℕ) (journal : List Entry) → o.waiting ≡ waiting → o.recorder.written ≡ written
    → o.book.desk.journal ≡ journal → is_behind o ≡ (not (length waiting == 0) || not (written == length journal))
behind_by o waiting written journal waits count entries = λ i. not (length (waits i) == 0) || not (count i == length (entries i))

pub told_by : (o : OwnState) (broken : Bool) (written : ℕ) (journal : List Entry) → o.recorder.broken ≡ broken → o.recorder.written ≡ written
    → o.book.desk.journal ≡ journal → is_told o ≡ (not broken && (written == length journal))
told_by o broken written journal sound count entries = λ i. not (sound i) && (count i == length (entries i))

pub untold_by : (o : OwnState) → o.recorder.broken ≡ true → is_told o ≡ false
untold_by o broken = ap (λ (b : Bool). not b && (o.recorder.written == length o.book.desk.journal)) broken

pub wait_on : (old new : OwnState) → IsGiven old None new → new.waiting ≡ old.waiting
wait_on old new h = ap (λ (x : Outbox). x.waiting) h.same
