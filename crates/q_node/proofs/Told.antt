-- What is said of a leave, of an operation that has ended, and at the end.
use Rattle.std.proofs.Common.{◌≡◌, ◌∙◌, inl, inr, ℕ, Bool, true, false, List, [], ◌∷◌, length, Option, Result, Ok, Err, is_some, refl, sym, ap, subst, arith}
use Rattle.std.specs.Prelude.{◌⊎◌, ◌↔◌, IsTrue, if◌then◌else◌}
use Rattle.reasons.specs.declared.Reason.TheVariants as reasons
use Rattle.sc_msg.specs.declared.message.Message.{Message}
use Rattle.q_desk.specs.declared.journal.Entry.{Entry}
use Rattle.q_book.specs.State.{BookState}
use Rattle.q_book.specs.Books.{left}
use Rattle.reasons.specs.declared.Reason.{Reason}
use Rattle.q_held.specs.LiveNodes.{Leaves}
use Rattle.q_kept.specs.State.{RecorderState}
use Rattle.q_kept.specs.declared.fault.Unrecorded.{Unrecorded}
use Rattle.q_kept.specs.declared.letter.Letter.{Letter}
use Rattle.q_doors.specs.Books.{HasEndedIn}
use Rattle.q_book.specs.Replays.{IsBookOf}
use Rattle.q_node.specs.Console.{IsSaidToLeave}
use Rattle.q_node.specs.declared.console.Said.{Said}
use Rattle.q_node.specs.declared.console.Said.TheVariants as said
use Rattle.q_node.specs.State.{OwnState}
use Rattle.q_node.specs.Calls.{Finishes, HasEndedWritten, LeavesAndSettles, is_told, said_to_leave}

-- ---- a leave

why_by : (b : Bool)
    → ((if b then reasons.FileFailed else reasons.OutOfMemory) ≡ reasons.FileFailed)
    ⊎ ((if b then reasons.FileFailed else reasons.OutOfMemory) ≡ reasons.OutOfMemory)
why_by true = inl refl
why_by false = inr refl

said_by : (node : ℕ) (b c : BookState) (had has : List Message) (r : Result (Unit {0}) Reason) (written : Bool) (recorder : RecorderState) → IsBookOf node b
    → Leaves b had r c has → IsSaidToLeave node (said_to_leave r written recorder)
said_by node b c had has (Err f) written recorder own h = inl (b, c, had, has, f, own, h, refl)
said_by node b c had has (Ok u) true recorder own h = (b, c, had, has, own, h)
said_by node b c had has (Ok u) false recorder own h = inr (why_by recorder.broken)

-- what is said is what some book of the node gives
pub says_left : (node : ℕ) (old : OwnState) (told : Said) (letters : Option (List Letter)) (new : OwnState) → IsBookOf node old.book
    → LeavesAndSettles old told letters new → IsSaidToLeave node told
says_left node old told letters new own l =
    subst (IsSaidToLeave node) (sym l.says)
    (said_by node old.book l.settled.book old.waiting l.settled.waiting l.left (is_some letters) new.recorder own l.settled.happened.0)

undone_by : (b c : BookState) (had has : List Message) (r : Result (Unit {0}) Reason) (written : Bool) (recorder : RecorderState) (f : Reason) → left b ≡ Err f
    → Leaves b had r c has → said.Done ≡ said_to_leave r written recorder → ⊥
undone_by b c had has (Ok u) written recorder f refused h s = let x = sym refused ∙ h.1 in absurd cc
undone_by b c had has (Err g) written recorder f refused h s = absurd cc

-- what the book refuses is not done
pub undone : (old : OwnState) (letters : Option (List Letter)) (new : OwnState) (f : Reason) → left old.book ≡ Err f
    → LeavesAndSettles old said.Done letters new → ⊥
undone old letters new f refused l =
    undone_by old.book l.settled.book old.waiting l.settled.waiting l.left (is_some letters) new.recorder f refused l.settled.happened.0 l.says

-- ---- an operation that has ended

-- nothing has ended where that is not written
pub untold : (o : OwnState) (tag : ℕ) (b : Bool) → b ≡ false → b ≡ is_told o → IsTrue false ↔ HasEndedWritten o tag
untold o tag b fails is = (λ so. absurd cc, λ h. let x = sym fails ∙ is ∙ h.told in absurd cc)

-- it is as the book has it where that is written
pub told : (o : OwnState) (b : BookState) (tag : ℕ) (t r : Bool) → t ≡ true → t ≡ is_told o → b ≡ o.book → IsTrue r ↔ HasEndedIn b tag
    → IsTrue r ↔ HasEndedWritten o tag
told o b tag t r holds is same h = (
  λ so. record { told = sym is ∙ holds; ended = subst (λ (x : BookState). HasEndedIn x tag) same (h.0 so) },
  λ has. h.1 (subst (λ (x : BookState). HasEndedIn x tag) (sym same) has.ended),
)

-- ---- the end

pub finishes_at : (r s : RecorderState) (b c : BookState) (events : Result ℕ Unrecorded) (new : RecorderState) → r ≡ s → b ≡ c
    → Finishes r b events new → Finishes s c events new
finishes_at r s b c events new recorders books h =
    subst (λ (x : BookState). Finishes s x events new) books (subst (λ (x : RecorderState). Finishes x b events new) recorders h)

-- the events of a longer journal are not one
pub not_one : (b : BookState) (e d : Entry) → b.desk.journal ≡ e ∷ d ∷ [] → 1 ≡ length b.desk.journal → ⊥
not_one b e d is one = let x = one ∙ ap (length {A = Entry}) is in omega (arith, x)
