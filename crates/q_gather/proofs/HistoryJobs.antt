-- The jobs of every history: each is that of a query which runs or was answered, and each query that runs has one.
use Rattle.std.proofs.Common.{◌≡◌, ℕ, List, [], ◌∷◌, ◌++◌, length, Option, Some, None, refl, sym, ap, ◌∙◌, subst, ◌⊎◌, inl, inr, slice_get, slice_set}
use Rattle.std.proofs.lemmas.Bool.{cases_eq}
use Rattle.forms.proofs.Appended.{slice_get_front, slice_get_last}
use Rattle.sc_view.specs.Views.{ViewMap}
use Rattle.bq_check.specs.Certificate.{Certificate}
use Rattle.q_session.specs.declared.query.Phase.{Phase}
use Rattle.q_session.specs.declared.query.Phase.TheVariants.{Collecting, Ready, Running, Answered}
use Rattle.q_session.specs.declared.query.Query.{Query}
use Rattle.q_session.specs.declared.job.Job.{Job}
use Rattle.q_desk.specs.State.{DeskState}
use Rattle.q_desk.proofs.Changes.{Told, Begins, GoesOver, readied, handed, recorded, Change, stays, grows, begins, rephased}
use Rattle.q_history.specs.Clusters.{with_job}
use Rattle.q_history.proofs.Lists.{same_Some, none-some, get_snoc, get_elsewhere}
use Rattle.q_history.proofs.Kept.{which_job}
use Rattle.q_gather.specs.Turns.{IsJobFor}
use Rattle.q_gather.proofs.Lists.{get-same, get_after}

-- ---- what is said of jobs

-- the query runs over this view, or ran over it
abbrev pub RunsOver : Phase → ViewMap → Type 0
RunsOver Collecting view = ⊥
RunsOver (Ready v) view = ⊥
RunsOver (Running v) view = v ≡ view
RunsOver (Answered v ran) view = v ≡ view

-- the job is that of its query, which runs or was answered
pub record IsOut (programs : List Certificate) (queries : List Query) (j : Job) : Type 0 where
  pub query : Query
  pub at : slice_get queries j.query ≡ Some query
  pub program : query.program ≡ j.program
  pub start : query.start ≡ j.start
  pub certified : slice_get programs j.program ≡ Some j.certified
  pub runs : RunsOver query.phase j.view

pub record HasJob (jobs : List Job) (id k : ℕ) : Type 0 where
  pub number : ℕ
  pub is : IsJobFor jobs id k number

-- the jobs of the cluster that are this node's are those of its desk
pub record AreJobsOf (jobs : List Job) (id : ℕ) (d : DeskState) : Type 0 where
  pub each : (number : ℕ) (j : Job) → slice_get jobs number ≡ Some j → j.node ≡ id → IsOut d.programs d.queries j
  pub all : (k : ℕ) (q : Query) (v : ViewMap) → slice_get d.queries k ≡ Some q → q.phase ≡ Running v → HasJob jobs id k

-- ---- queries that go on

-- a query that was there is there, and runs over what it ran over
record IsOn (queries : List Query) (k : ℕ) (q : Query) : Type 0 where
  query : Query
  at : slice_get queries k ≡ Some query
  program : query.program ≡ q.program
  start : query.start ≡ q.start
  runs : (v : ViewMap) → RunsOver q.phase v → RunsOver query.phase v

on_itself : (queries : List Query) (k : ℕ) (q : Query) → slice_get queries k ≡ Some q → IsOn queries k q
on_itself queries k q at = record { query = q; at = at; program = refl; start = refl; runs = λ v r. r }

-- Each query that was there is there. One that runs ran before, or the job that is handed out is its.
record AreOn (queries : List Query) (id : ℕ) (o : Option Job) (programs : List Certificate) (later : List Query) : Type 0 where
  stay : (k : ℕ) (q : Query) → slice_get queries k ≡ Some q → IsOn later k q
  run : (k : ℕ) (q : Query) (v : ViewMap) → slice_get later k ≡ Some q → q.phase ≡ Running v
      → (slice_get queries k ≡ Some q) ⊎ ((j : Job) × (o ≡ Some j) × (j.query ≡ k))
  out : (j : Job) → o ≡ Some j → (j.node ≡ id) × IsOut programs later j

module _ (d e : DeskState) (id : ℕ) (t : Told) where
  -- all are as they were
  still_on : AreOn d.queries id None e.programs d.queries
  still_on = record { stay = on_itself d.queries; run = λ k q v at runs. inl at; out = λ j some. absurd (none-some j some) }

  -- one begins
  begins_on : (q : Query) → Begins t q → AreOn d.queries id None e.programs (d.queries ++ q ∷ [])
  begins_on new b = record {
    stay = λ k q at. on_itself (d.queries ++ new ∷ []) k q (slice_get_front d.queries (new ∷ []) k q at);
    run = λ k q v at runs. elim (get_snoc d.queries new k q at) [
      | inl old ↦ inl old
      | inr same ↦ let no : Collecting ≡ Running v = sym b.phase ∙ ap (λ (x : Query). x.phase) same ∙ runs in absurd (cc)
    ];
    out = λ j some. absurd (none-some j some);
  }

  -- one is in another phase
  module _ (k : ℕ) (q : Query) (p : Phase) (o : Option Job) (at : slice_get d.queries k ≡ Some q) (programs : e.programs ≡ d.programs) where
    abbrev new : Query
    new = record q { phase = p }

    abbrev later : List Query
    later = slice_set d.queries k new

    goes_runs : GoesOver d id k q p t o → (v : ViewMap) → RunsOver q.phase v → RunsOver p v
    goes_runs (readied view h to none) v r = absurd (subst (λ (x : Phase). RunsOver x v) h.phase r)
    goes_runs (handed j h of to some) v r =
        let one : q ≡ h.query = same_Some q h.query (sym at ∙ ap (slice_get d.queries) (sym of) ∙ h.at) in
        absurd (subst (λ (x : Phase). RunsOver x v) (ap (λ (x : Query). x.phase) one ∙ h.phase) r)
    goes_runs (recorded j view ran told is fits to none) v r = subst (λ (x : Phase). RunsOver x v) (sym to) (subst (λ (x : Phase). RunsOver x v) is r)

    goes_run : GoesOver d id k q p t o → (v : ViewMap) → p ≡ Running v → (j : Job) × (o ≡ Some j) × (j.query ≡ k)
    goes_run (readied view h to none) v runs = let no : Ready view ≡ Running v = sym to ∙ runs in absurd (cc)
    goes_run (handed j h of to some) v runs = (j, some, of)
    goes_run (recorded j view ran told is fits to none) v runs = let no : Answered view ran ≡ Running v = sym to ∙ runs in absurd (cc)

    goes_out : GoesOver d id k q p t o → (j : Job) → o ≡ Some j → (j.node ≡ id) × IsOut e.programs later j
    goes_out (readied view h to none) j some = absurd (none-some j (sym none ∙ some))
    goes_out (recorded i view ran told is fits to none) j some = absurd (none-some j (sym none ∙ some))
    goes_out (handed i h of to its) j some =
        let one : h.query ≡ q = same_Some h.query q (sym h.at ∙ ap (slice_get d.queries) of ∙ at) in
        let out : IsOut e.programs later i = record {
          query = new;
          at = ap (slice_get later) of ∙ get-same d.queries k q new at;
          program = ap (λ (x : Query). x.program) (sym one) ∙ h.program;
          start = ap (λ (x : Query). x.start) (sym one) ∙ h.start;
          certified = ap (λ (x : List Certificate). slice_get x i.program) programs ∙ h.certified;
          runs = subst (λ (x : Phase). RunsOver x i.view) (sym to) refl;
        } in
        subst (λ (x : Job). (x.node ≡ id) × IsOut e.programs later x) (same_Some i j (sym its ∙ some)) (h.by, out)

    goes_stay : GoesOver d id k q p t o → (i : ℕ) (x : Query) → slice_get d.queries i ≡ Some x → IsOn later i x
    goes_stay goes i x here = elim (cases_eq i k) [
      | inl same ↦
          let one : q ≡ x = same_Some q x (sym at ∙ ap (slice_get d.queries) (sym same) ∙ here) in
          let stays : slice_get later i ≡ Some new = ap (slice_get later) same ∙ get-same d.queries k q new at in
          subst (IsOn later i) one (record { query = new; at = stays; program = refl; start = refl; runs = goes_runs goes })
      | inr away ↦ on_itself later i x (get_elsewhere d.queries k new i x away here)
    ]

    goes_on : GoesOver d id k q p t o → AreOn d.queries id o e.programs later
    goes_on goes = record {
      stay = goes_stay goes;
      run = λ i x v here runs. elim (get_after d.queries k new i x here) [
        | inl old ↦ inl old
        | inr b ↦ let j = goes_run goes v (ap (λ (y : Query). y.phase) b.1 ∙ runs) in inr (j.0, j.1, j.2 ∙ sym b.0)
      ];
      out = goes_out goes;
    }

  change_on : (o : Option Job) → Change d id t e o → AreOn d.queries id o e.programs e.queries
  change_on None (stays programs queries) = subst (AreOn d.queries id None e.programs) (sym queries) still_on
  change_on None (grows more queries) = subst (AreOn d.queries id None e.programs) (sym queries) still_on
  change_on None (begins q b programs queries) = subst (AreOn d.queries id None e.programs) (sym queries) (begins_on q b)
  change_on o (rephased k q p at goes programs queries) = subst (AreOn d.queries id o e.programs) (sym queries) (goes_on k q p o at programs goes)

-- ---- a job that is handed out is one more

module _ (jobs : List Job) where
  old_job : (o : Option Job) (id k : ℕ) → HasJob jobs id k → HasJob (with_job jobs o) id k
  old_job None id k h = h
  old_job (Some j) id k h =
      let at = slice_get_front jobs (j ∷ []) h.number h.is.job h.is.at in
      record { number = h.number; is = record { job = h.is.job; at = at; by = h.is.by; of = h.is.of } }

  new_job : (o : Option Job) (j : Job) → o ≡ Some j → HasJob (with_job jobs o) j.node j.query
  new_job None j some = absurd (none-some j some)
  new_job (Some i) j some =
      let same : i ≡ j = same_Some i j some in
      record { number = length jobs; is = record { job = i; at = slice_get_last jobs i; by = λ k. (same k).node; of = λ k. (same k).query } }

-- ---- an accepted call

module _ (jobs : List Job) {id : ℕ} {d e : DeskState} {t : Told} {o : Option Job} (change : Change d id t e o) where
  on : AreOn d.queries id o e.programs e.queries
  on = change_on d e id t o change

  -- the jobs of other nodes are as they were
  pub away_jobs : (q : ℕ) (x : DeskState) → (q ≡ id → ⊥) → AreJobsOf jobs q x → AreJobsOf (with_job jobs o) q x
  away_jobs q x away are = record {
    each = λ number j at by. elim (which_job jobs o number j at) [
      | inl old ↦ are.each number j old by
      | inr some ↦ absurd (away (sym by ∙ (on.out j some).0))
    ];
    all = λ k r v here runs. old_job jobs o q k (are.all k r v here runs);
  }

  module _ (more : (i : ℕ) (p : Certificate) → slice_get d.programs i ≡ Some p → slice_get e.programs i ≡ Some p) (are : AreJobsOf jobs id d) where
    still_out : (j : Job) → IsOut d.programs d.queries j → IsOut e.programs e.queries j
    still_out j x =
        let s = on.stay j.query x.query x.at in
        let there = more j.program j.certified x.certified in
        record { query = s.query; at = s.at; program = s.program ∙ x.program; start = s.start ∙ x.start; certified = there; runs = s.runs j.view x.runs }

    pub change_jobs : AreJobsOf (with_job jobs o) id e
    change_jobs = record {
      each = λ number j at by. elim (which_job jobs o number j at) [
        | inl old ↦ still_out j (are.each number j old by)
        | inr some ↦ (on.out j some).1
      ];
      all = λ k q v at runs. elim (on.run k q v at runs) [
        | inl old ↦ old_job jobs o id k (are.all k q v old runs)
        | inr h ↦ subst (λ (n : ℕ). HasJob (with_job jobs o) n k) (on.out h.0 h.1).0 (subst (HasJob (with_job jobs o) h.0.node) h.2 (new_job jobs o h.0 h.1))
      ];
    }
