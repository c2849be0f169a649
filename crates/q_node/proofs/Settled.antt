-- What settles, and from which state.
use Rattle.std.proofs.Common.{◌≡◌, ℕ, Bool, true, List, Option, Some, None, is_some, refl, subst}
use Rattle.std.specs.Prelude.{IfNone, IfSome, IsNone, option_map}
use Rattle.sc_msg.specs.declared.message.Message.{Message}
use Rattle.q_board.specs.AskerModel.{AskerModel}
use Rattle.q_book.specs.State.{BookState}
use Rattle.q_held.specs.LiveNodes.{both_unsent}
use Rattle.q_held.specs.declared.losses.LossCounts.{LossCounts}
use Rattle.q_held.specs.declared.losses.Unsent.{Unsent}
use Rattle.q_net.specs.declared.replies.Reply.{Reply}
use Rattle.q_net.specs.declared.request.Request.{Request}
use Rattle.q_kept.specs.Recording.{Grows, IsRecorded}
use Rattle.q_kept.specs.Settling.{GivesNone, GivesWritten, Pumps}
use Rattle.q_kept.specs.declared.letter.Letter.{Letter}
use Rattle.q_node.specs.declared.console.Said.{Said}
use Rattle.q_node.specs.State.{OwnState, outbox_of}
use Rattle.q_node.specs.Calls.{HearsAndSettles, LeavesAndSettles, RepliedSo, Settles, SettlesAfter}

-- what settling says of its letters, which are held somehow
pub settles : {V : Type 0} (items : V → List Letter) (old new : OwnState) (o : Option V) → Pumps old.asker old.book new.asker new.book
    → IfSome o (λ (v : V). GivesWritten old.recorder old.book new.book (outbox_of old) (items v) new.recorder (outbox_of new))
    → IfNone o (GivesNone old.recorder new.book (outbox_of old) new.recorder (outbox_of new))
    → (old.recorder.broken ≡ true → IsNone o × (new.recorder ≡ old.recorder))
    → Grows old.book new.book
    → ((first : Option (List ℕ)) → IsRecorded first old.book old.recorder → IsRecorded first new.book new.recorder)
    → new.lost ≡ old.lost → Settles old (option_map items o) new
settles items old new None pumped written unwritten mute grows recorded lost =
    record { pumped = pumped; given = unwritten; mute = mute; grows = grows; recorded = recorded; lost = lost }
settles items old new (Some v) pumped written unwritten mute grows recorded lost =
    record { pumped = pumped; given = written; mute = mute; grows = grows; recorded = recorded; lost = lost }

-- something is there whether or not it is looked at otherwise
pub some_mapped : {A B : Type 0} (f : A → B) (o : Option A) → is_some o ≡ is_some (option_map f o)
some_mapped f None = refl
some_mapped f (Some x) = refl

-- ---- from an equal state

pub settles_at : (x y : OwnState) (letters : Option (List Letter)) (new : OwnState) → x ≡ y → Settles x letters new → Settles y letters new
settles_at x y letters new e = subst (λ (o : OwnState). Settles o letters new) e

-- of what is not sent and the seat, which are as they were
pub settles_from : {x new : OwnState} {letters : Option (List Letter)} {unsent : Unsent} {seat : AskerModel} → Settles x letters new → x.unsent ≡ unsent
    → x.asker ≡ seat → Settles (record x { unsent = unsent; asker = seat }) letters new
settles_from {x} {new} {letters} settled same seats =
    subst (λ (o : OwnState). Settles o letters new) (λ i. record x { unsent = same i; asker = seats i }) settled

pub hears_at : (bytes : List ℕ) (x y : OwnState) (has_ended : Bool) (letters : Option (List Letter)) (new : OwnState) → x ≡ y
    → HearsAndSettles bytes x has_ended letters new → HearsAndSettles bytes y has_ended letters new
hears_at bytes x y has_ended letters new e = subst (λ (o : OwnState). HearsAndSettles bytes o has_ended letters new) e

pub replies_at : {x y : OwnState} (r : Request) (said : Reply) (letters : Option (List Letter)) (new : OwnState) → x ≡ y
    → SettlesAfter (RepliedSo r said x) x letters new → SettlesAfter (RepliedSo r said y) y letters new
replies_at r said letters new e = subst (λ (o : OwnState). SettlesAfter (RepliedSo r said o) o letters new) e

pub leaves_at : (x y : OwnState) (told : Said) (letters : Option (List Letter)) (new : OwnState) → x ≡ y → LeavesAndSettles x told letters new
    → LeavesAndSettles y told letters new
leaves_at x y told letters new e = subst (λ (o : OwnState). LeavesAndSettles o told letters new) e

-- ---- what was not sent is counted

pub counts : (x : OwnState) (book : BookState) (waiting : List Message) (lost : LossCounts) (unsent more : Unsent) (asker : AskerModel) → book ≡ x.book
    → waiting ≡ x.waiting → lost ≡ x.lost → unsent ≡ both_unsent x.unsent more → asker ≡ x.asker
    → record x { book = book; waiting = waiting; lost = lost; unsent = unsent; asker = asker } ≡ record x { unsent = both_unsent x.unsent more }
counts x book waiting lost unsent more asker books waits losses counted seat =
    λ i. record x { book = books i; waiting = waits i; lost = losses i; unsent = counted i; asker = seat i }

pub counts_at : (x y new : OwnState) (more : Unsent) → x ≡ y → new ≡ record x { unsent = both_unsent x.unsent more }
    → new ≡ record y { unsent = both_unsent y.unsent more }
counts_at x y new more e = subst (λ (o : OwnState). new ≡ record o { unsent = both_unsent o.unsent more }) e
