-- What posts and hand-outs add to a book's journal, and why a post is refused.
use Rattle.std.specs.Prelude.{◌≡◌, ◌++◌, [], ◌∷◌, ◌⊎◌, Some, None, Ok, Err}
use Rattle.q_session.specs.declared.ran.Ran.{Ran}
use Rattle.q_session.specs.declared.job.Job.{Job}
use Rattle.reasons.specs.declared.Reason.TheVariants as reasons
use Rattle.q_desk.specs.declared.journal.Call.TheVariants as call
use Rattle.q_desk.specs.declared.journal.Entry.TheVariants as entry
use Rattle.reasons.specs.declared.Reason.{Reason}
use Rattle.q_book.specs.State.{BookState}
use Rattle.q_book.specs.Books.{handed_out, posted, room_for_post}

-- 55 or 56: the result is not that of a query that runs, or its query is answered
abbrev pub IsResultFault : Reason → Type 0
IsResultFault e = (e ≡ reasons.Stranger) ⊎ (e ≡ reasons.AlreadyAnswered)

abbrev pub PostsAreNoted : Type 0
PostsAreNoted =
    (b : BookState) (j : Job) (ran : Ran) (c : BookState) → posted b j ran ≡ Ok (tt, c)
    → c.desk.journal ≡ b.desk.journal ++ entry.Post j.query ran ∷ []

abbrev pub RoomLeavesResultFaults : Type 0
RoomLeavesResultFaults = (b : BookState) (j : Job) (ran : Ran) (e : Reason) → room_for_post b ≡ Ok tt → posted b j ran ≡ Err e → IsResultFault e

abbrev pub HandOutsAreNoted : Type 0
HandOutsAreNoted = (b : BookState) (j : Job) (c : BookState) → handed_out b ≡ Ok (Some j, c) → c.desk.journal ≡ b.desk.journal ++ entry.Call call.HandOut ∷ []

abbrev pub NoneChangesNothing : Type 0
NoneChangesNothing = (b c : BookState) → handed_out b ≡ Ok (None, c) → c ≡ b
