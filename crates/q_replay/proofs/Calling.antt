-- What taking an event comes to.
use Rattle.std.proofs.Common.{◌≡◌, ◌≢◌, ℕ, ◌+◌, ◌≤◌, List, [], ◌∷◌, ◌++◌, length, length-append, add-one, Some, refl, sym, ap, ◌∙◌, subst}
use Rattle.std.proofs.Common.{flat_map, Result, Ok, Err, IsErrAnd, IfErr, arith}
use Rattle.std.proofs.lemmas.Bool.{not_from_false}
use Rattle.forms.proofs.Calls.{tested_pass}
use Rattle.spelling.specs.Codes.{BeginsNone}
use Rattle.sc_msg.specs.declared.version.Version.{Version}
use Rattle.q_session.specs.Right.{IsRight}
use Rattle.q_session.specs.Done.{Finished, IsFinished}
use Rattle.q_session.specs.declared.ran.Ran.{Ran}
use Rattle.q_session.specs.declared.job.Job.{Job}
use Rattle.q_desk.specs.Desks as desk
use Rattle.q_desk.specs.declared.journal.Call.{Call}
use Rattle.q_desk.specs.declared.journal.Entry.TheVariants as entry
use Rattle.sc_msg.specs.declared.message.Message.{Message}
use Rattle.q_book.specs.State.{BookState}
use Rattle.q_book.specs.Books as book
use Rattle.reasons.specs.declared.Reason.TheVariants.{OutOfMemory as memory}
use Rattle.q_book.specs.Replays.{Follows}
use Rattle.q_book.specs.Called.{called, IsNoted}
use Rattle.q_book.specs.declared.answer.Delivery.{Delivery}
use Rattle.q_book.specs.declared.reply.Reply.{Reply}
use Rattle.reasons.specs.declared.Reason.{Reason}
use Rattle.q_replay.specs.Spelling.{head_bytes, event_bytes, IsWritten}
use Rattle.q_replay.specs.declared.raw_entry.RawEntry.{RawEntry}
use Rattle.q_replay.specs.declared.raw_entry.RawEntry.TheVariants as written
use Rattle.q_desk.specs.Desks.{running_job}
use Rattle.q_replay.specs.Journal.{written_of, IsEntry}
use Rattle.q_replay.specs.Head.{Head}
use Rattle.q_replay.specs.Replayed.{IsAnswering, Takes, Leads, IsFault, begun}
use Rattle.q_replay.specs.Taking.{of_book, Beginning, Taking}
use Rattle.q_replay.specs.declared.fault.ReplayFault.TheVariants as fault
use Rattle.q_replay.specs.declared.refusal.Refusal.{Refusal}
use Rattle.q_replay.specs.declared.refusal.Refusal.TheVariants.{Mismatch, OutOfMemory}
use Rattle.q_replay.proofs.Lists.{same_Some, no_refusal}
use Rattle.q_replay.proofs.Posting.{job_runs, own_posts}
use Rattle.q_book.proofs.Followed.{is_posted, posted-accepted}
use Rattle.q_replay.proofs.Entries.{OneLongest, OneAnswer, right_one, takes_as}
use Rattle.q_replay.proofs.Leading.{leads_next}

-- ---- calls that are refused

no_memory : (f : Reason) → of_book f ≡ Mismatch → f ≢ memory
no_memory f h q = let x : OutOfMemory ≡ Mismatch = sym (ap of_book q) ∙ h in absurd (cc)

refused_by : (old new : BookState) (w : RawEntry) (f : Reason) (x : Refusal) → of_book f ≡ x → (f ≢ memory → (c : BookState) → Takes old w c → ⊥)
    → Taking old w new (Err x)
refused_by old new w f Mismatch h nowhere = nowhere (no_memory f h)
refused_by old new w f OutOfMemory h nowhere = tt

-- a call that the book refuses leads nowhere
pub refused : (old new : BookState) (w : RawEntry) (f : Reason) (r : Result (Unit {0}) Refusal) → IsErrAnd r (λ x. x ≡ of_book f)
    → (f ≢ memory → (c : BookState) → Takes old w c → ⊥) → Taking old w new r
refused old new w f (Ok u) is nowhere = absurd is
refused old new w f (Err x) is nowhere = refused_by old new w f x (sym is) nowhere

-- ---- heads whose book is refused

pub unbegun : (h : Head) (f : Reason) (r : Result BookState Refusal) → IsErrAnd r (λ x. x ≡ of_book f) → (f ≢ memory → begun h h.founders ≡ Err f)
    → Beginning h r
unbegun h f (Ok b) is told = absurd is
unbegun h f (Err Mismatch) is told = λ b k. absurd (no_refusal f b (sym (told (no_memory f (sym is))) ∙ k.book))
unbegun h f (Err OutOfMemory) is told = tt

-- ---- answers

-- what the job of the query that runs comes to is what a right answer of it is
pub answer_same : OneAnswer → (b : BookState) (k : ℕ) (f : Finished) (other : Ran) → IsFinished f → running_job b.desk b.id k ≡ Some f.job
    → IsAnswering b (entry.Post k other) → f.ran ≡ other
answer_same one b k f other right runs a =
    let same : a.0 ≡ f.job = same_Some a.0 f.job (sym a.1 ∙ runs) in
    right_one one f.job f.ran other right (subst (λ (x : Job). IsRight x.certified x.view x.start other) same a.2)

-- where some job's answer is recorded, so is that of the query's own job
pub own_post : (b c : BookState) (k : ℕ) (j : Job) (r : Ran) → running_job b.desk b.id k ≡ Some j → Follows b (entry.Post k r) c
    → (d : BookState) × (book.posted b j r ≡ Ok (tt, d))
own_post b c k j r runs f =
    let p = (is_posted b f.0 r c f.3).1 in
    let there = (posted-accepted b f.0 r c f.3).there in
    let o = own_posts b.desk b.id k j r (job_runs b.desk b.id k j runs) p.room in
    let d : BookState = record b { desk = o.0 } in (
      d,
      tested_pass (book.present b) (book.by_desk (book.with_desk b) (desk.posted b.desk b.id j r)) (not_from_false b.node.gone there, tt)
          ∙ ap (book.by_desk (book.with_desk b)) o.1,
    )

-- ---- calls of entries

-- the call leads to this book, and an entry tells of it
abbrev pub IsTold : BookState → Result (Reply × BookState) Reason → Type 0
IsTold c (Ok y) = (y.1 ≡ c) × IsNoted y.0
IsTold c (Err f) = ⊥

told_is : (r : Result (Reply × BookState) Reason) (c : BookState) → IsTold c r → (a : Reply) × (r ≡ Ok (a, c)) × IsNoted a
told_is (Ok y) c t = (y.0, (λ i. Ok (y.0, t.0 i)), t.1)
told_is (Err f) c t = absurd t

module _ (one : OneLongest) (b : BookState) where
  module _ (k : Call) (legal : IsEntry b.version (entry.Call k)) where
    pub made : (c : BookState) → IsTold c (called b k) → Takes b (written_of (entry.Call k)) c
    made c t = record { called = entry.Call k; legal = legal; is = refl; answers = tt; follows = told_is (called b k) c t }

    -- a call that no entry tells of leads nowhere
    pub unmade : ((d : BookState) → IsTold d (called b k) → ⊥) → (c : BookState) → Takes b (written_of (entry.Call k)) c → ⊥
    unmade none c t =
        let f = (takes_as one b _ c (entry.Call k) legal refl t).0 in
        none c (subst (IsTold c) (sym f.1) (refl, f.2))

  module _ (m : Message) (legal : IsWritten b.version (written.Deliver m)) where
    pub delivered : (a : Delivery) (c : BookState) → book.delivered b m ≡ Ok (a, c) → Takes b (written.Deliver m) c
    delivered a c h = record { called = entry.Deliver m; legal = (legal, tt); is = refl; answers = tt; follows = (a, h) }

    pub undelivered : (f : Reason) → book.delivered b m ≡ Err f → (c : BookState) → Takes b (written.Deliver m) c → ⊥
    undelivered f h c t = absurd (no_refusal f _ (sym h ∙ (takes_as one b _ c (entry.Deliver m) (legal, tt) refl t).0.1))

  -- the result of the query's own job
  module _ (j : Job) (ran : Ran) (legal : IsWritten b.version (written.Post j.query ran.acc ran.steps)) (runs : running_job b.desk b.id j.query ≡ Some j) where
    pub posted : (c : BookState) → IsRight j.certified j.view j.start ran → book.posted b j ran ≡ Ok (tt, c)
        → Takes b (written.Post j.query ran.acc ran.steps) c
    posted c right h = record { called = entry.Post j.query ran; legal = (legal, tt); is = refl; answers = (j, runs, right); follows = (j, refl, right, h) }

    pub unposted : (f : Reason) → book.posted b j ran ≡ Err f → (c : BookState) → Takes b (written.Post j.query ran.acc ran.steps) c → ⊥
    unposted f h c t = absurd (no_refusal f _ (sym h ∙ (own_post b c j.query j ran runs (takes_as one b _ c (entry.Post j.query ran) (legal, tt) refl t).0).1))

-- an answer that is not right is that of no event
unanswered : OneLongest → (b : BookState) (k : ℕ) (r : Ran) → IsWritten b.version (written.Post k r.acc r.steps)
    → (IsAnswering b (entry.Post k r) → ⊥) → (c : BookState) → Takes b (written.Post k r.acc r.steps) c → ⊥
unanswered one b k r legal none c t = none (takes_as one b _ c (entry.Post k r) (legal, tt) refl t).1

-- the job of a query is not run, or its answer is another
pub unrun : OneLongest → (b : BookState) (k : ℕ) (r : Ran) (e : Refusal) (x : Result (Unit {0}) Refusal) → IsErrAnd x (λ y. y ≡ e)
    → IsWritten b.version (written.Post k r.acc r.steps) → (e ≡ Mismatch → IsAnswering b (entry.Post k r) → ⊥) → Taking b (written.Post k r.acc r.steps) b x
unrun one b k r e (Ok u) is legal none = absurd is
unrun one b k r e (Err Mismatch) is legal none = unanswered one b k r legal (none (sym is))
unrun one b k r e (Err OutOfMemory) is legal none = tt

-- ---- the next event of the bytes

-- so many events lead to a book, and the next is read in its version
module _ {bytes : List ℕ} {n : ℕ} {b : BookState} {version : Version} {rest : List ℕ} (l : Leads bytes n b rest) (own : version ≡ b.version) where
  pub next_leads : {c : BookState} {w : RawEntry} {more : List ℕ} → IsWritten version w → rest ≡ event_bytes version w ++ more → Takes b w c
      → Leads bytes (n + 1) c more
  next_leads {c} {w} {more} legal parts t =
      subst (λ (k : ℕ). Leads bytes k c more) (sym (add-one n))
      (leads_next bytes n b c w rest more l (subst (λ (x : Version). IsWritten x w) own legal) (parts ∙ ap (λ (x : Version). event_bytes x w ++ more) own) t)

  pub next_form : rest ≢ [] → BeginsNone (event_bytes version) (IsWritten version) rest → IsFault bytes (fault.Form (n + 1))
  next_form more none =
      subst (λ (k : ℕ). IsFault bytes (fault.Form k)) (sym (add-one n))
      (record { book = b; rest = rest; leads = l; more = more; none = subst (λ (x : Version). BeginsNone (event_bytes x) (IsWritten x) rest) own none })

  pub next_mismatch : (w : RawEntry) (more : List ℕ) → IsWritten version w → rest ≡ event_bytes version w ++ more
      → ((c : BookState) → Takes b w c → ⊥) → IsFault bytes (fault.Mismatch (n + 1))
  next_mismatch w more legal parts refused =
      subst (λ (k : ℕ). IsFault bytes (fault.Mismatch k)) (sym (add-one n)) (record {
        book = b;
        rest = rest;
        leads = l;
        event = w;
        legal = subst (λ (x : Version). IsWritten x w) own legal;
        more = more;
        parts = parts ∙ ap (λ (x : Version). event_bytes x w ++ more) own;
        refused = refused;
      })

-- each event takes a byte and more
events_long : (version : Version) (ws : List RawEntry) → length ws ≤ length (flat_map (event_bytes version) ws)
events_long version [] = omega arith
events_long version (w ∷ ws) =
    let rest = events_long version ws in
    let others : List ℕ = flat_map (event_bytes version) ws in
    let some : length (event_bytes version w ++ others) ≡ length (event_bytes version w) + length others = length-append (event_bytes version w) others in
    omega arith

pub leads_room : {bytes : List ℕ} {n : ℕ} {b : BookState} {rest : List ℕ} → Leads bytes n b rest → n + length rest ≤ length bytes
leads_room {bytes} {n} {b} {rest} l =
    let spelled : List ℕ = flat_map (event_bytes l.head.version) l.events in
    let first = length-append (head_bytes l.head) (spelled ++ rest) in
    omega (arith, events_long l.head.version l.events, l.many, ap length l.parts, first, length-append spelled rest)

-- a fault that is passed on
pub passed_on : {A B : Type 0} (P : B → Type 0) (f : B) (r : Result A B) → IsErrAnd r (λ x. x ≡ f) → P f → IfErr r P
passed_on P f (Ok a) is h = absurd is
passed_on P f (Err x) is h = subst P (sym is) h
