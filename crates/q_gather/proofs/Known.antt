-- The program of each query that was answered is known; so the answers that a beginning records are right where those
-- of the whole book are.
use Rattle.std.proofs.Common.{◌≡◌, ℕ, ◌==◌, true, List, [], ◌∷◌, Option, Some, sym, ap, ◌∙◌, subst, inl, inr, slice_get}
use Rattle.sc_view.specs.Views.{ViewMap}
use Rattle.sc_world.proofs.Steps.{and_right}
use Rattle.bq_check.specs.Certificate.{Certificate}
use Rattle.q_session.specs.declared.ran.Ran.{Ran}
use Rattle.q_session.specs.declared.query.Phase.{Phase}
use Rattle.q_session.specs.declared.query.Phase.TheVariants.{Collecting, Ready, Running, Answered}
use Rattle.q_session.specs.declared.query.Query.{Query}
use Rattle.q_session.specs.declared.job.Job.{Job}
use Rattle.q_desk.specs.State.{DeskState}
use Rattle.q_desk.specs.Desks as desk
use Rattle.q_desk.specs.Answers.{AnswersAreRight}
use Rattle.q_desk.specs.declared.journal.Entry.{Entry}
use Rattle.q_desk.proofs.Accepted.{same_Some, none-some, Keeps}
use Rattle.q_desk.proofs.Changes.{Told, GoesOver, readied, handed, recorded, Change, IsNew, fresh, moved, change_queries}
use Rattle.q_desk.proofs.Own.{some_program}
use Rattle.q_book.specs.State.{BookState}
use Rattle.q_book.specs.Replays.{Follows, Replays, IsReplay}
use Rattle.q_book.specs.Sends.{handed as handed_by}
use Rattle.q_book.proofs.Followed.{told, follows-accepted}

-- the desk has the program that the query names
abbrev pub HasProgram : DeskState → Query → Type 0
HasProgram d q = (program : Certificate) × (slice_get d.programs q.program ≡ Some program)

-- so it has that of each query that was answered
abbrev pub AreKnown : DeskState → Type 0
AreKnown d = (k : ℕ) (q : Query) (view : ViewMap) (ran : Ran) → slice_get d.queries k ≡ Some q → q.phase ≡ Answered view ran → HasProgram d q

-- ---- an accepted call

-- the program of a query to which a job belongs
job_program : (programs : List Certificate) (j : Job) (q : Query) (view : ViewMap) → desk.is_job_of programs j q view ≡ true
    → (program : Certificate) × (slice_get programs q.program ≡ Some program)
job_program programs j q view h =
    some_program j.certified (slice_get programs q.program)
    (and_right (desk.is_same_view j.view view) _ (and_right (j.start == q.start) _ (and_right (j.program == q.program) _ h)))

module _ (d e : DeskState) (node : ℕ) (t : Told) (known : AreKnown d) where
  known_goes : (k : ℕ) (q : Query) (p : Phase) (o : Option Job) → GoesOver d node k q p t o → (view : ViewMap) (ran : Ran) → p ≡ Answered view ran
      → HasProgram d q
  known_goes k q p o (readied v r to none) view ran answered = let no : Ready v ≡ Answered view ran = sym to ∙ answered in absurd (cc)
  known_goes k q p o (handed j r of to some) view ran answered = let no : Running j.view ≡ Answered view ran = sym to ∙ answered in absurd (cc)
  known_goes k q p o (recorded j v x told is fits to none) view ran answered = job_program d.programs j q v fits

  known_new : (q : Query) (o : Option Job) → IsNew d node t o q → (view : ViewMap) (ran : Ran) → q.phase ≡ Answered view ran → HasProgram d q
  known_new q o (fresh b) view ran is = let no : Collecting ≡ Answered view ran = sym b.phase ∙ is in absurd (cc)
  known_new q o (moved k old p at goes same) view ran is =
      let had = known_goes k old p o goes view ran (ap (λ (x : Query). x.phase) same ∙ is) in
      (had.0, ap (λ (x : Query). slice_get d.programs x.program) (sym same) ∙ had.1)

  -- programs stay, and so what is known of the queries that were there
  known_by : (o : Option Job) → ((i : ℕ) (p : Certificate) → slice_get d.programs i ≡ Some p → slice_get e.programs i ≡ Some p) → Change d node t e o
      → AreKnown e
  known_by o more change k q view ran at is = elim (change_queries d node t e o change k q at) [
    | inl old ↦ let a = known k q view ran old is in (a.0, more q.program a.0 a.1)
    | inr new ↦ let a = known_new q o new view ran is in (a.0, more q.program a.0 a.1)
  ]

pub follows_known : (b c : BookState) → AreKnown b.desk → (e : Entry) → Follows b e c → AreKnown c.desk
follows_known b c known e f =
    let a = follows-accepted b e c f in
    known_by b.desk c.desk b.id (told b e c f) known (handed_by b e) a.keeps.programs a.change

replays_known : (es : List Entry) (b c : BookState) → Replays b es c → AreKnown b.desk → AreKnown c.desk
replays_known [] b c r known = subst (λ (x : BookState). AreKnown x.desk) (sym r) known
replays_known (e ∷ es) b c r known = replays_known es r.0 c r.2 (follows_known b r.0 known e r.1)

replay_known : (b : BookState) → IsReplay b → AreKnown b.desk
replay_known b r = replays_known b.desk.journal _ b r.replayed (λ k q view ran at is. absurd (none-some q at))

-- ---- right answers

pub right_part : (part whole : BookState) → IsReplay part → Keeps part.desk whole.desk → AnswersAreRight whole.desk → AnswersAreRight part.desk
right_part part whole r keeps right k q view ran at is =
    let a = right k q view ran (keeps.answers k q view ran at is) is in
    let had = replay_known part r k q view ran at is in
    let same : had.0 ≡ a.program = same_Some had.0 a.program (sym (keeps.programs q.program had.0 had.1) ∙ a.named) in
    record { program = a.program; named = had.1 ∙ ap (λ (x : Certificate). let o : Option Certificate = Some x in o) same; right = a.right }
