-- What posts and hand-outs add to a book's journal, and why a post is refused.
use Rattle.std.proofs.Common.{◌≡◌, Bool, true, false, inl, inr, Option, Some, None, Result, Ok, Err, refl, sym, ◌∙◌, subst, if◌then◌else◌, slice_get, ◌==◌}
use Rattle.forms.proofs.Calls.{tested-ok, tested_pass}
use Rattle.q_session.specs.declared.ran.Ran.{Ran}
use Rattle.q_session.specs.declared.job.Job.{Job}
use Rattle.q_session.specs.declared.query.Phase.{Phase}
use Rattle.q_session.specs.declared.query.Phase.TheVariants.{Collecting, Ready, Running, Answered}
use Rattle.q_session.specs.declared.query.Query.{Query}
use Rattle.q_desk.specs.State.{DeskState}
use Rattle.q_desk.specs.Desks as desk
use Rattle.reasons.specs.declared.Reason.{Reason}
use Rattle.reasons.specs.declared.Reason.TheVariants as reasons
use Rattle.q_book.specs.State.{BookState}
use Rattle.q_book.specs.Books.{present, posting, with_desk, by_desk}
use Rattle.q_book.specs.Noted.{IsResultFault, PostsAreNoted, RoomLeavesResultFaults, HandOutsAreNoted, NoneChangesNothing}
use Rattle.q_book.proofs.Followed.{handed-accepted, none-handed, posted-accepted}

abbrev Desked : Type 0 → Type 0
Desked A = Result (A × DeskState) Reason

-- ---- an accepted call of the desk

pub posts_noted : PostsAreNoted
posts_noted b j ran c h = (posted-accepted b j ran c h).adds

pub hand_outs_noted : HandOutsAreNoted
hand_outs_noted b j c h = (handed-accepted b j c h).adds

pub none_changes : NoneChangesNothing
none_changes b c h = sym (none-handed b c h)

-- ---- a refused post

fault-of : (g f : Reason) (h : (let r : Desked (Unit {0}) = Err g in r) ≡ Err f) → g ≡ f
fault-of g f h = cc

stranger : (f : Reason) → (let r : Desked (Unit {0}) = Err reasons.Stranger in r) ≡ Err f → IsResultFault f
stranger f h = inl (sym (fault-of reasons.Stranger f h))

test-fault : (same roomy : Bool) (x : DeskState) (f : Reason) → roomy ≡ true
    → (let r : Desked (Unit {0}) = if same then (if roomy then Ok (tt, x) else Err reasons.BookFull) else Err reasons.Stranger in r) ≡ Err f → IsResultFault f
test-fault true true x f room h = absurd (cc)
test-fault true false x f room h = absurd (cc)
test-fault false roomy x f room h = stranger f h

phase-fault : (s : DeskState) (j : Job) (ran : Ran) (q : Query) (p : Phase) (f : Reason) → desk.has_room s ≡ true → desk.posted_to s j ran q p ≡ Err f
    → IsResultFault f
phase-fault s j ran q (Running view) f room h = test-fault (desk.is_job_of s.programs j q view) (desk.has_room s) _ f room h
phase-fault s j ran q (Answered view old) f room h = inr (sym (fault-of reasons.AlreadyAnswered f h))
phase-fault s j ran q Collecting f room h = stranger f h
phase-fault s j ran q (Ready view) f room h = stranger f h

query-fault : (s : DeskState) (j : Job) (ran : Ran) (o : Option Query) (f : Reason) → desk.has_room s ≡ true → desk.posted_at s j ran o ≡ Err f
    → IsResultFault f
query-fault s j ran (Some q) f room h = phase-fault s j ran q q.phase f room h
query-fault s j ran None f room h = stranger f h

own-fault : (own : Bool) (s : DeskState) (j : Job) (ran : Ran) (o : Option Query) (f : Reason) → desk.has_room s ≡ true
    → (if own then desk.posted_at s j ran o else Err reasons.Stranger) ≡ Err f → IsResultFault f
own-fault true s j ran o f room h = query-fault s j ran o f room h
own-fault false s j ran o f room h = stranger f h

desk-fault : (b : BookState) (r : Desked (Unit {0})) (e : Reason) → ((f : Reason) → r ≡ Err f → IsResultFault f) → by_desk (with_desk b) r ≡ Err e
    → IsResultFault e
desk-fault b (Ok x) e faults h = absurd (cc)
desk-fault b (Err f) e faults h = let same : f ≡ e = cc in subst IsResultFault same (faults f refl)

pub room_leaves : RoomLeavesResultFaults
room_leaves b j ran e room h =
    let none : Result (Unit {0}) Reason = Ok tt in
    let hold = (tested-ok (posting b) none tt room).0 in
    let r : Desked (Unit {0}) = desk.posted b.desk b.id j ran in
    desk-fault b r e (λ f. own-fault (j.node == b.id) b.desk j ran (slice_get b.desk.queries j.query) f hold.1.0)
    (sym (tested_pass (present b) (by_desk (with_desk b) r) (hold.0, tt)) ∙ h)
