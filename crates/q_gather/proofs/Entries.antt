-- An entry that a node's book can take next is an event that its cluster accepts.
use Rattle.std.proofs.Common.{◌≡◌, ℕ, ◌==◌, true, List, [], ◌∷◌, ◌++◌, length, Option, Some, None, refl, sym, ap, ◌∙◌, subst, slice_get, Result, Ok}
use Rattle.std.specs.Prelude.{IfSome}
use Rattle.std.proofs.lemmas.Bool.{eq-eqb, and_from}
use Rattle.std.proofs.lemmas.List.{append-nil}
use Rattle.std.proofs.lemmas.Option.{slice_get_read}
use Rattle.forms.specs.Calls.{tested}
use Rattle.forms.proofs.Calls.{tested_pass}
use Rattle.sc_view.specs.Views.{ViewMap}
use Rattle.sc_msg.specs.declared.message.Message.{Message}
use Rattle.sc_world.specs.declared.event.WorldEvent.TheVariants as world_event
use Rattle.sc_world.specs.Ledgers.{recorded}
use Rattle.bq_meaning.proofs.Folding as folding
use Rattle.bq_check.specs.Certificate.{Certificate}
use Rattle.q_session.specs.Records.{view_records}
use Rattle.q_session.specs.Right.{IsRight}
use Rattle.q_session.specs.declared.ran.Ran.{Ran}
use Rattle.q_session.specs.declared.job.Job.{Job}
use Rattle.q_session.specs.declared.query.Phase.{Phase}
use Rattle.q_session.specs.declared.query.Phase.TheVariants.{Running, Answered}
use Rattle.q_session.specs.declared.query.Query.{Query}
use Rattle.q_desk.specs.State.{DeskState}
use Rattle.q_desk.specs.Desks as desk
use Rattle.q_desk.specs.Answers.{AnswersAreRight, IsAnswered}
use Rattle.q_desk.specs.declared.journal.Entry.{Entry}
use Rattle.q_desk.specs.declared.journal.Entry.TheVariants as entry
use Rattle.reasons.specs.declared.Reason.{Reason}
use Rattle.reasons.specs.declared.Reason.TheVariants as reasons
use Rattle.q_book.specs.State.{BookState}
use Rattle.q_book.specs.Books as book
use Rattle.q_book.specs.Called.{called, reply_job}
use Rattle.q_book.specs.Replays.{Follows}
use Rattle.q_history.specs.declared.event.ClusterEvent.{ClusterEvent}
use Rattle.q_history.specs.declared.event.ClusterEvent.TheVariants as event
use Rattle.q_history.specs.declared.event.ClusterStep.{ClusterStep}
use Rattle.q_history.specs.Headline.{ClusterState}
use Rattle.q_history.specs.Clusters.{lift, stepped, live_at, at as at_node, with_job, replies, enters, entered, delivers, delivered_as, posts, posted, finished}
use Rattle.q_history.specs.Calls.{Answers, AnswersTo, IsHistory}
use Rattle.q_history.proofs.Lists.{same_Some}
use Rattle.q_desk.proofs.Accepted.{Keeps, keeps_itself, answered as with_answer, IsPosted}
use Rattle.bq_insn.specs.Slots.{spelling}
use Rattle.q_table.specs.Programs as table
use Rattle.q_desk.proofs.Own.{job_by, same_bytes, same_number, own_fits}
use Rattle.q_book.proofs.Followed.{deed, told, follows-accepted, is_posted}
use Rattle.q_history.proofs.Accepted.{WasSent, event_for, outcome, ledger, ledger_sent, did_act}
use Rattle.q_history.proofs.World.{at_live}
use Rattle.q_history.proofs.Called.{With, sent_nothing, replied_is}
use Rattle.q_history.proofs.Histories.{history_kept}
use Rattle.q_cluster.specs.Acts.{book_at}
use Rattle.q_gather.specs.Merging.{CanGo}
use Rattle.q_book.specs.Sends.{sends}
use Rattle.q_gather.specs.Traces.{step_of}
use Rattle.q_gather.specs.Turns.{IsJobFor, IsEventOf, IsNext, IsTurn, Makes}
use Rattle.q_gather.proofs.Lists.{get-same}
use Rattle.q_gather.proofs.Turning.{next_up, call_says, put_turn, makes}
use Rattle.q_gather.proofs.HistoryJobs.{RunsOver, IsOut}
use Rattle.q_gather.proofs.EveryJob.{history_jobs}

-- an answer that nobody asks for
nothing : Ran
nothing = record { acc = 0; steps = 0 }

-- ---- an answer

-- a job of the query passes
module _ {programs : List Certificate} {queries : List Query} {j : Job} {q : Query} {view : ViewMap} (o : IsOut programs queries j)
    (at : slice_get queries j.query ≡ Some q) (phase : q.phase ≡ Running view) where
  its_query : o.query ≡ q
  its_query = same_Some o.query q (sym o.at ∙ at)

  its_view : view ≡ j.view
  its_view = subst (λ (p : Phase). RunsOver p j.view) (ap (λ (x : Query). x.phase) its_query ∙ phase) o.runs

  its_program : q.program ≡ j.program
  its_program = ap (λ (x : Query). x.program) (sym its_query) ∙ o.program

  its_start : q.start ≡ j.start
  its_start = ap (λ (x : Query). x.start) (sym its_query) ∙ o.start

  its_certificate : slice_get programs q.program ≡ Some j.certified
  its_certificate = ap (slice_get programs) its_program ∙ o.certified

  its_job : job_by j.node j.query q view j.certified ≡ j
  its_job i = record { node = j.node; query = j.query; program = its_program i; start = its_start i; certified = j.certified; view = its_view i }

  same_program : desk.is_same_program j.certified (Some j.certified) ≡ true
  same_program = and_from (table.is_same_text j.certified.text j.certified.text) _ (same_bytes (spelling j.certified.text)) (same_number j.certified.longest)

  job_passes : desk.is_job_of programs j q view ≡ true
  job_passes =
      subst (λ (x : Job). desk.is_job_of programs x q view ≡ true) its_job
      (own_fits programs j.node j.query q view j.certified its_certificate same_program)

abbrev pub Posted : Type 0
Posted = Result (Unit {0} × DeskState) Reason

-- what is posted for a query that runs
abbrev answers : DeskState → ViewMap → Ran → ℕ → Posted
answers d view ran k = tested (desk.room d) (Ok (tt, with_answer d k view ran))

-- two jobs of one query
module _ (d : DeskState) (node : ℕ) (i j : Job) (ran : Ran) (q : Query) (view : ViewMap) (same : j.query ≡ i.query)
    (at : slice_get d.queries i.query ≡ Some q) (phase : q.phase ≡ Running view) where
  posted_as : (x : Job) → (x.node == node) ≡ true → slice_get d.queries x.query ≡ Some q → desk.is_job_of d.programs x q view ≡ true
      → desk.posted d node x ran ≡ answers d view ran x.query
  posted_as x own here fits =
      tested_pass ((x.node == node, reasons.Stranger) ∷ []) (desk.posted_at d x ran (slice_get d.queries x.query)) (own, tt)
      ∙ ap (desk.posted_at d x ran) here ∙ ap (desk.posted_to d x ran q) phase
      ∙ tested_pass ((desk.is_job_of d.programs x q view, reasons.Stranger) ∷ []) (answers d view ran x.query) (fits, tt)

  pub same_post : (i.node == node) ≡ true → (j.node == node) ≡ true → desk.is_job_of d.programs i q view ≡ true
      → desk.is_job_of d.programs j q view ≡ true → desk.posted d node j ran ≡ desk.posted d node i ran
  same_post mine yours one two =
      posted_as j yours (ap (slice_get d.queries) same ∙ at) two ∙ ap (answers d view ran) same ∙ sym (posted_as i mine at one)

-- the answers of a desk that comes of this one are right
pub record IsRightLater (d : DeskState) : Type 0 where
  pub later : DeskState
  pub keeps : Keeps d later
  pub right : AnswersAreRight later

-- the answer that a book recorded is right of the job that the cluster has for its query
module _ (c : ClusterState) (b d : BookState) (ran : Ran) (i j : Job) (up : live_at c j.node ≡ Some b) (own : b.id ≡ j.node) (same : j.query ≡ i.query)
    (h : book.posted b i ran ≡ Ok (tt, d)) (o : IsOut b.desk.programs b.desk.queries j) (right : IsRightLater d.desk) where
  was_posted : ((i.node == b.id) ≡ true) × IsPosted b.desk i ran d.desk
  was_posted = is_posted b i ran d h

  by : IsPosted b.desk i ran d.desk
  by = was_posted.1

  here : slice_get b.desk.queries j.query ≡ Some by.query
  here = ap (slice_get b.desk.queries) same ∙ by.at

  recorded_there : slice_get d.desk.queries i.query ≡ Some (record by.query { phase = Answered by.view ran })
  recorded_there =
      ap (λ (x : DeskState). slice_get x.queries i.query) (sym by.is)
      ∙ ap (λ (x : Option Query). slice_get (desk.in_phase b.desk.queries i.query (Answered by.view ran) x) i.query) by.at
      ∙ get-same b.desk.queries i.query by.query (record by.query { phase = Answered by.view ran }) by.at

  answered : IsAnswered right.later (record by.query { phase = Answered by.view ran }) by.view ran
  answered =
      let q : Query = record by.query { phase = Answered by.view ran } in
      right.right i.query q by.view ran (right.keeps.answers i.query q by.view ran recorded_there refl) refl

  programs : d.desk.programs ≡ b.desk.programs
  programs = ap (λ (x : DeskState). x.programs) (sym by.is)

  certificate : answered.program ≡ j.certified
  certificate =
      same_Some answered.program j.certified
      (sym answered.named
      ∙ right.keeps.programs by.query.program j.certified
      (ap (λ (x : List Certificate). slice_get x by.query.program) programs ∙ its_certificate o here by.phase))

  right_of_it : Answers j ran
  right_of_it =
      subst (λ (x : Certificate). IsRight x j.view j.start ran) certificate
      (subst (λ (x : ViewMap). IsRight answered.program x j.start ran) (its_view o here by.phase)
      (subst (λ (x : ℕ). IsRight answered.program by.view x ran) (its_start o here by.phase) answered.right))

  -- and a right answer is unique
  one_answer : (r : Ran) → Answers j r → ran ≡ r
  one_answer r other =
      let k = folding.same_answer j.certified.text (view_records j.view) j.start ran.acc ran.steps r.acc r.steps right_of_it.meant other.meant in
      λ t. record { acc = k.0 t; steps = k.1 t }

  posts_too : book.posted b j ran ≡ Ok (tt, d)
  posts_too =
      ap (λ (x : Posted). tested (book.present b) (book.by_desk (book.with_desk b) x))
      (same_post b.desk b.id i j ran by.query by.view same by.at by.phase was_posted.0 (eq-eqb j.node b.id (sym own))
      by.fits (job_passes o here by.phase))
      ∙ h

  finish_makes : (number : ℕ) → slice_get c.jobs number ≡ Some j → Makes c (event.Finish number) j.node d []
  finish_makes number at =
      makes c (event.Finish number) j.node d [] ran (posts c j ran tt d) (subst (λ (x : Option Job). IfSome x (λ k. Answers k ran)) (sym at) right_of_it)
      (λ r other. ap (finished c r) at
      ∙ ap (λ (x : Ran). at_node c j.node (posted c j x)) (sym (one_answer r (subst (λ (x : Option Job). IfSome x (λ k. Answers k r)) at other)))
      ∙ call_says c j.node b d up (posts c j ran) (λ x. book.posted x j ran) tt posts_too)
      (put_turn c c.past c.jobs j.node d [] (sym (append-nil c.past.sent)))

-- ---- every entry

module _ (c : ClusterState) (h : IsHistory c) (id : ℕ) (b d : BookState) (up : live_at c id ≡ Some b) where
  stands : book_at c id ≡ Some b
  stands = at_live c id b up

  post_makes : (query : ℕ) (ran : Ran) (i : Job) (number : ℕ) → IsRightLater d.desk → i.query ≡ query → book.posted b i ran ≡ Ok (tt, d)
      → IsJobFor c.jobs id query number → Makes c (event.Finish number) id d []
  post_makes query ran i number right of posts it =
      subst (λ (x : ℕ). Makes c (event.Finish number) x d []) it.by
      (finish_makes c b d ran i it.job (ap (live_at c) it.by ∙ up) (((history_kept c h).headed id b stands).id ∙ sym it.by) (it.of ∙ sym of) posts
      ((history_jobs c h id b stands).each number it.job it.at it.by) right number it.at)

  -- the ledger has what the node did at the entry, and there are these jobs
  entry_turn : (e : Entry) (f : Follows b e d) (s : WasSent c.past.sent (deed b e d f)) (jobs : List Job)
      → (let r = outcome (told b e d f) d.node in IsTurn c id d (sends b e) (With c (ledger c.past id (event_for id c.past.sent (deed b e d f) s) r) jobs id d))
  entry_turn e f s jobs =
      let a = follows-accepted b e d f in
      let r = outcome (told b e d f) d.node in
      let o = event_for id c.past.sent (deed b e d f) s in
      put_turn c (ledger c.past id o r) jobs id d (sends b e)
      (ledger_sent c.past id o b.node r (did_act id c.past.sent b (deed b e d f) s (told b e d f) d.node a.node) ∙ (λ k. c.past.sent ++ a.sent k))

  -- the event by which the node takes the entry, which runs no job
  entry_goes : {A : Type 0} (e : Entry) (next : A → BookState → ClusterStep × ClusterState) (call : BookState → Result (A × BookState) Reason) (a : A)
      → call b ≡ Ok (a, d) → (x ev : ClusterEvent) → ev ≡ x → AnswersTo c x nothing → ((r : Ran) → stepped r c x ≡ at_node c id (λ y. lift next (call y)))
      → IsTurn c id d (sends b e) (next a d).1 → Makes c ev id d (sends b e)
  entry_goes e next call a h x ev is right says turn =
      subst (λ (y : ClusterEvent). Makes c y id d (sends b e)) (sym is)
      (makes c x id d (sends b e) nothing (next a d) right (λ r _. says r ∙ call_says c id b d up next call a h) turn)

  pub entry_makes : (e : Entry) (ev : ClusterEvent) → IsRightLater d.desk → Follows b e d → IsEventOf c id e ev → Makes c ev id d (sends b e)
  entry_makes (entry.Call k) ev right f is =
      entry_goes (entry.Call k) (replies c id) (λ x. called x k) f.0 f.1 (event.Call id k) ev is tt (λ r. refl)
      (subst (IsTurn c id d (sends b (entry.Call k))) (replied_is c id f.0 d)
      (entry_turn (entry.Call k) f (sent_nothing c.past.sent f.0) (with_job c.jobs (reply_job f.0))))
  entry_makes (entry.Deliver m) ev right f is =
      entry_goes (entry.Deliver m) (delivers c is.0 id) (λ x. book.delivered x m) f.0 f.1 (event.Deliver is.0 id) ev is.2 tt
      (λ r. ap (λ (o : Option Message). at_node c id (λ x. delivered_as c is.0 id x o)) is.1) (entry_turn (entry.Deliver m) f (is.0, is.1) c.jobs)
  entry_makes (entry.Post query ran) ev right f is =
      subst (λ (x : ClusterEvent). Makes c x id d []) (sym is.2) (post_makes query ran f.0 is.0 right f.1 f.3 is.1)

  -- where what an entry wants was sent, there is such an event
  pub entry_event : (e : Entry) → Follows b e d → CanGo c.past.sent (step_of b e) → (ev : ClusterEvent) × IsEventOf c id e ev
  entry_event (entry.Call k) f can = (event.Call id k, refl)
  entry_event (entry.Deliver m) f can = (event.Deliver can.0 id, (can.0, slice_get_read c.past.sent (length c.past.sent) can.0 m refl can.1 (sym can.2), refl))
  entry_event (entry.Post query ran) f can =
      let a = (is_posted b f.0 ran d f.3).1 in
      let had = (history_jobs c h id b stands).all f.0.query a.query a.view a.at a.phase in
      (event.Finish had.number, (had.number, subst (λ (k : ℕ). IsJobFor c.jobs id k had.number) f.1 had.is, refl))

-- ---- as laws

pub next_event : (c : ClusterState) (id : ℕ) (b d : BookState) (e : Entry) → IsHistory c → IsNext c id b e d → CanGo c.past.sent (step_of b e)
    → (ev : ClusterEvent) × IsEventOf c id e ev
next_event c id b d e h n can = entry_event c h id b d (next_up c id b d e n) e n.takes can

pub next_makes : (c : ClusterState) (id : ℕ) (b d : BookState) (e : Entry) (ev : ClusterEvent) → IsHistory c → IsNext c id b e d
    → AnswersAreRight d.desk → IsEventOf c id e ev → Makes c ev id d (sends b e)
next_makes c id b d e ev h n right is =
    entry_makes c h id b d (next_up c id b d e n) e ev (record { later = d.desk; keeps = keeps_itself d.desk; right = right }) n.takes is

-- a node that was never there enters
pub enter_turn : (c : ClusterState) (id : ℕ) → (let e = book.entered c.version c.past.config id in IsTurn c id e.0 e.1 (enters c id e).1)
enter_turn c id =
    let e = book.entered c.version c.past.config id in
    put_turn c (recorded c.past (world_event.Enter id) id e.1 None None) c.jobs id e.0 e.1 refl

pub enter_makes : (c : ClusterState) (id : ℕ) → book_at c id ≡ None
    → Makes c (event.Enter id) id (book.entered c.version c.past.config id).0 (book.entered c.version c.past.config id).1
enter_makes c id absent =
    let e = book.entered c.version c.past.config id in
    makes c (event.Enter id) id e.0 e.1 nothing (enters c id e) tt (λ r _. ap (entered c id) absent) (enter_turn c id)
