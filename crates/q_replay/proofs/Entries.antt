-- Which entry an event is, and what it makes of a book.
use Rattle.std.proofs.Common.{◌≡◌, ℕ, List, Some, refl, sym, ap, ◌∙◌, subst, slice_get}
use Rattle.bq_insn.specs.declared.insn.Insn.{Insn}
use Rattle.bq_flow.specs.Paths.{IsLongest}
use Rattle.bq_meaning.specs.Answers.{IsAnswer}
use Rattle.bq_check.specs.Certificate.{Certificate}
use Rattle.bq_check.specs.Certified.{IsCertified}
use Rattle.sc_msg.specs.declared.version.Version.{Version}
use Rattle.q_session.specs.Records.{view_records}
use Rattle.q_session.specs.Right.{IsRight}
use Rattle.q_session.specs.declared.ran.Ran.{Ran}
use Rattle.q_session.specs.declared.query.Phase.TheVariants.{Answered}
use Rattle.q_session.specs.declared.query.Query.{Query}
use Rattle.q_session.specs.declared.job.Job.{Job}
use Rattle.q_desk.specs.Answers.{AnswersAreRight}
use Rattle.q_desk.specs.declared.journal.Entry.{Entry}
use Rattle.q_desk.specs.declared.journal.Call.TheVariants as call
use Rattle.q_desk.specs.declared.journal.Entry.TheVariants as entry
use Rattle.q_book.specs.State.{BookState}
use Rattle.q_book.specs.Books.{record_lengths}
use Rattle.q_book.specs.Replays.{Follows}
use Rattle.q_replay.specs.declared.raw_entry.RawEntry.{RawEntry}
use Rattle.q_replay.specs.declared.raw_entry.RawEntry.TheVariants as written
use Rattle.q_desk.specs.Desks.{running_job}
use Rattle.q_replay.specs.Journal.{written_of, IsCertifiedEntry, IsEntry}
use Rattle.q_replay.specs.Replayed.{IsAnswering, Takes}
use Rattle.q_replay.proofs.Lists.{same_Some}
use Rattle.q_desk.proofs.Accepted.{Keeps}
use Rattle.q_desk.proofs.Own.{job_by}
use Rattle.q_replay.proofs.Posting.{posted_runs, posted_at_query}
use Rattle.q_book.proofs.Followed.{is_posted, follows-accepted, follows_one}
use Rattle.q_book.proofs.Values.{same_version}

-- laws of crates below
abbrev pub OneLongest : Type 0
OneLongest = (text : List Insn) (m n : ℕ) → IsLongest text m → IsLongest text n → m ≡ n

abbrev pub OneAnswer : Type 0
OneAnswer =
    (text : List Insn) (records : List (List ℕ)) (start answer steps other count : ℕ) → IsAnswer text records start answer steps
    → IsAnswer text records start other count → (answer ≡ other) × (steps ≡ count)

-- a right answer is the only one
pub right_one : OneAnswer → (j : Job) (ran other : Ran) → IsRight j.certified j.view j.start ran → IsRight j.certified j.view j.start other → ran ≡ other
right_one one j ran other a b =
    let same = one j.certified.text (view_records j.view) j.start ran.acc ran.steps other.acc other.steps a.meant b.meant in
    λ i. record { acc = same.0 i; steps = same.1 i }

-- ---- which entry it is

same_certificate : OneLongest → (version : Version) (c d : Certificate) → IsCertified c × (c.lengths ≡ record_lengths version)
    → IsCertified d × (d.lengths ≡ record_lengths version) → c.text ≡ d.text → c.notes ≡ d.notes → c ≡ d
same_certificate one version c d a b text notes =
    let longest = one c.text c.longest d.longest a.0.longest (subst (λ (t : List Insn). IsLongest t d.longest) (sym text) b.0.longest) in
    let lengths : c.lengths ≡ d.lengths = a.1 ∙ sym b.1 in
    λ i. record { text = text i; notes = notes i; lengths = lengths i; longest = longest i }

same_post : (query other : ℕ) (ran gone : Ran) → written.Post query ran.acc ran.steps ≡ written.Post other gone.acc gone.steps
    → entry.Post query ran ≡ entry.Post other gone
same_post query other ran gone h =
    let q : query ≡ other = cc in
    let acc : ran.acc ≡ gone.acc = cc in
    let steps : ran.steps ≡ gone.steps = cc in
    λ i. entry.Post (q i) (record { acc = acc i; steps = steps i })

pub entry_one : OneLongest → (version : Version) (e f : Entry) → IsCertifiedEntry version e → IsCertifiedEntry version f → written_of e ≡ written_of f → e ≡ f
entry_one one version (entry.Call call.Leave) (entry.Call call.Leave) a b h = refl
entry_one one version (entry.Call (call.Register c)) (entry.Call (call.Register d)) a b h =
    let text : c.text ≡ d.text = cc in
    let notes : c.notes ≡ d.notes = cc in
    ap (λ (x : Certificate). entry.Call (call.Register x)) (same_certificate one version c d a b text notes)
entry_one one version (entry.Call (call.Ask program start)) (entry.Call (call.Ask other begin)) a b h = cc
entry_one one version (entry.Call (call.Store value)) (entry.Call (call.Store other)) a b h = cc
entry_one one version (entry.Deliver m) (entry.Deliver n) a b h = cc
entry_one one version (entry.Call call.HandOut) (entry.Call call.HandOut) a b h = refl
entry_one one version (entry.Post query ran) (entry.Post other gone) a b h = same_post query other ran gone h
-- these two name one call, so that the last line sees each
entry_one one version (entry.Deliver m) (entry.Call call.Leave) a b h = absurd (cc)
entry_one one version (entry.Post query ran) (entry.Call call.Leave) a b h = absurd (cc)
entry_one one version e f a b h = absurd (cc)

-- ---- what an event makes of a book

module _ (one : OneLongest) where
  -- an event is taken as its one entry
  pub takes_as : (b : BookState) (w : RawEntry) (c : BookState) (e : Entry) → IsEntry b.version e → written_of e ≡ w → Takes b w c
      → Follows b e c × IsAnswering b e
  takes_as b w c e legal is t =
      subst (λ (x : Entry). Follows b x c × IsAnswering b x) (entry_one one b.version t.called e t.legal.1 legal.1 (t.is ∙ sym is)) (t.follows, t.answers)

  pub takes_one : (b : BookState) (w : RawEntry) (c d : BookState) → Takes b w c → Takes b w d → c ≡ d
  takes_one b w c d s t = follows_one b c d t.called (takes_as b w c t.called t.legal t.is s).0 t.follows

pub takes-version : (b : BookState) (w : RawEntry) (c : BookState) → Takes b w c → c.version ≡ b.version
takes-version b w c t = same_version b t.called c t.follows

-- ---- an answer that stays right was right

abbrev Answers : BookState → Ran → ℕ → Type 0
Answers b ran k = (j : Job) × (running_job b.desk b.id k ≡ Some j) × IsRight j.certified j.view j.start ran

pub answering : (s t b : BookState) (e : Entry) → Follows s e t → Keeps t.desk b.desk → AnswersAreRight b.desk → IsAnswering s e
answering s t b (entry.Post query ran) f later right =
    let j = f.0 in
    let p = (is_posted s j ran t f.3).1 in
    let q : Query = record p.query { phase = Answered p.view ran } in
    let run = posted_runs s.desk s.id j ran t.desk p in
    let a = right j.query q p.view ran (later.answers j.query q p.view ran (posted_at_query s.desk j ran t.desk p) refl) refl in
    let keeps = (follows-accepted s (entry.Post query ran) t f).keeps in
    let named : slice_get b.desk.programs p.query.program ≡ Some run.program =
    later.programs p.query.program run.program (keeps.programs p.query.program run.program run.named) in
    let same : a.program ≡ run.program = same_Some a.program run.program (sym a.named ∙ named) in
    let own : IsRight run.program p.view p.query.start ran = subst (λ (c : Certificate). IsRight c p.view p.query.start ran) same a.right in
    subst (Answers s ran) f.1 (job_by s.id j.query p.query p.view run.program, run.is, own)
answering s t b e f later right = tt
