-- What is true of every cluster that events lead to, and what one event owes.
use Rattle.std.proofs.Common.{◌≡◌, ℕ, Bool, true, false, ◌==◌, List, Option, Some, None, refl, sym, ap, ◌∙◌, subst, ◌⊎◌, inl, inr, slice_get}
use Rattle.std.proofs.lemmas.Bool.{eqb-true}
use Rattle.std.specs.Ordering.{nat_cmp}
use Rattle.std.specs.FinMap as fin
use Rattle.std.specs.FinSet as set
use Rattle.sc_view.specs.Views.{ViewMap}
use Rattle.sc_node.specs.State.{NodeState}
use Rattle.sc_world.specs.declared.op.Op.{Op}
use Rattle.sc_world.specs.State.{Past, world_of}
use Rattle.sc_world.specs.Records.{Among}
use Rattle.sc_world.specs.Operations.{returned}
use Rattle.sc_world.proofs.EveryHistory.{IsLawful}
use Rattle.sc_world.proofs.Steps.{and_left, and_right}
use Rattle.q_session.specs.Right.{IsRight}
use Rattle.q_session.specs.declared.ran.Ran.{Ran}
use Rattle.q_session.specs.declared.query.Phase.{Phase}
use Rattle.q_session.specs.declared.query.Phase.TheVariants.{Collecting, Ready, Running, Answered}
use Rattle.q_session.specs.declared.query.Query.{Query}
use Rattle.q_session.specs.declared.job.Job.{Job}
use Rattle.q_desk.specs.State.{DeskState}
use Rattle.q_desk.specs.Answers.{IsAnswered, AnswersAreRight}
use Rattle.q_desk.proofs.Accepted.{Keeps, keeps_itself, keeps_on}
use Rattle.q_desk.proofs.Changes.{Told, Begins, Returns, GoesOver, readied, handed, recorded, Change, IsNew, fresh, moved, change_queries}
use Rattle.q_desk.proofs.Views.{same-view}
use Rattle.q_desk.specs.Desks as desk
use Rattle.q_book.specs.State.{BookState}
use Rattle.q_history.specs.Headline.{BookMap, ClusterState}
use Rattle.q_history.specs.World.{nodes_of, world}
use Rattle.q_history.specs.Heads.{founders_for, IsHeaded}
use Rattle.q_history.specs.Calls.{Answers}
use Rattle.q_history.specs.Clusters.{with_job}
use Rattle.q_history.proofs.Lists.{same_Some, get_snoc}
use Rattle.q_history.proofs.Ops.{IsOnward, insert_get, insert_has, each_put}
use Rattle.q_history.proofs.World.{world_put}
use Rattle.q_history.proofs.Called.{past_in, With}

-- the view of a query is what its collect returned
abbrev pub HasView : Op → Phase → Type 0
HasView o Collecting = Unit {0}
HasView o (Ready view) = returned o ≡ Some view
HasView o (Running view) = returned o ≡ Some view
HasView o (Answered view ran) = returned o ≡ Some view

-- the record of a query's collect is there
pub record IsTied (ops : List Op) (id : ℕ) (q : Query) : Type 0 where
  pub op : Op
  pub among : Among op ops
  pub by : op.node ≡ id
  pub tagged : op.tag ≡ q.tag
  pub has : HasView op q.phase

-- the desk of a node
pub record IsDeskOf (ops : List Op) (id : ℕ) (d : DeskState) : Type 0 where
  pub tied : (k : ℕ) (q : Query) → slice_get d.queries k ≡ Some q → IsTied ops id q
  pub right : AnswersAreRight d

-- a job's program is at its node's desk
pub record IsKnown (books : BookMap) (j : Job) : Type 0 where
  pub book : BookState
  pub at : fin.get books j.node ≡ Some book
  pub certified : slice_get book.desk.programs j.program ≡ Some j.certified

abbrev pub IsAmong : List ℕ → ℕ → Type 0
IsAmong ids id = set.contains (set.from_list {R = nat_cmp} ids) id ≡ true

pub record IsKept (c : ClusterState) : Type 0 where
  pub world : IsLawful (world c)
  pub headed : (id : ℕ) (b : BookState) → fin.get c.books id ≡ Some b → IsHeaded c id b
  pub founders : (id : ℕ) → IsAmong c.past.founders id → (b : BookState) × (fin.get c.books id ≡ Some b)
  pub desks : (id : ℕ) (b : BookState) → fin.get c.books id ≡ Some b → IsDeskOf c.past.ops id b.desk
  pub jobs : (k : ℕ) (j : Job) → slice_get c.jobs k ≡ Some j → IsKnown c.books j

-- each desk stays, with its programs and its answers
abbrev pub Stays : BookMap → BookMap → Type 0
Stays old new = (id : ℕ) (b : BookState) → fin.get old id ≡ Some b → (e : BookState) × (fin.get new id ≡ Some e) × Keeps b.desk e.desk

-- what one event owes
pub record IsStep (c d : ClusterState) : Type 0 where
  pub kept : IsKept d
  pub stays : Stays c.books d.books
  pub version : d.version ≡ c.version
  pub config : d.past.config ≡ c.past.config
  pub founders : d.past.founders ≡ c.past.founders

pub stays_itself : (books : BookMap) → Stays books books
stays_itself books id b at = (b, at, keeps_itself b.desk)

pub stays_on : (a b c : BookMap) → Stays a b → Stays b c → Stays a c
stays_on a b c h k id d at =
    let x = h id d at in
    let y = k id x.0 x.1 in
    (y.0, y.1, keeps_on d.desk x.0.desk y.0.desk x.2 y.2)

pub known_on : (old new : BookMap) (j : Job) → Stays old new → IsKnown old j → IsKnown new j
known_on old new j stays k =
    let s = stays j.node k.book k.at in
    record { book = s.0; at = s.1; certified = s.2.programs j.program j.certified k.certified }

-- a book is headed alike in each cluster of the same founders
pub head_in : (c d : ClusterState) (id : ℕ) (b : BookState) → d.version ≡ c.version → d.past.config ≡ c.past.config
    → d.past.founders ≡ c.past.founders → IsHeaded c id b → IsHeaded d id b
head_in c d id b version config founders h =
    let listed = h.founders ∙ ap (founders_for id) (sym founders) in
    record { version = h.version ∙ sym version; id = h.id; config = h.config ∙ sym config; founders = listed }

-- what a call makes of a book keeps its head
pub head_with : (c : ClusterState) (id : ℕ) (b : BookState) (n : NodeState) (d : DeskState) → IsHeaded c id b → IsHeaded c id (record b { node = n; desk = d })
head_with c id b n d h = record { version = h.version; id = h.id; config = h.config; founders = h.founders }

view_on : (a b : Op) (p : Phase) → ((v : ViewMap) → returned a ≡ Some v → returned b ≡ Some v) → HasView a p → HasView b p
view_on a b Collecting on h = tt
view_on a b (Ready view) on h = on view h
view_on a b (Running view) on h = on view h
view_on a b (Answered view ran) on h = on view h

-- the right answer of a job whose program the desk has is right of the query that it is a job of
right_of_job : (d : DeskState) (j : Job) (q : Query) (view : ViewMap) (ran : Ran) → desk.is_job_of d.programs j q view ≡ true
    → slice_get d.programs j.program ≡ Some j.certified → IsRight j.certified j.view j.start ran → IsAnswered d q view ran
right_of_job d j q view ran fits named right =
    let rest = and_right (j.program == q.program) _ fits in
    let more = and_right (j.start == q.start) _ rest in
    let same = same-view j.view view (and_left (desk.is_same_view j.view view) _ more) in
    let start = eqb-true j.start q.start (and_left (j.start == q.start) _ rest) in
    record {
      program = j.certified;
      named = ap (slice_get d.programs) (sym (eqb-true j.program q.program (and_left (j.program == q.program) _ fits))) ∙ named;
      right =
          subst (λ (x : ViewMap). IsRight j.certified x q.start ran) same
          (subst (λ (x : ℕ). IsRight j.certified j.view x ran) start right);
    }

module _ (ops later : List Op) (onward : IsOnward ops later) (id : ℕ) where
  pub tied_on : (q : Query) → IsTied ops id q → IsTied later id q
  tied_on q t =
      let k = onward t.op t.among in
      record { op = k.op; among = k.among; by = k.by ∙ t.by; tagged = k.tagged ∙ t.tagged; has = view_on t.op k.op q.phase k.returned t.has }

  -- a query in another phase, with the view that it had
  rephased_tied : (q : Query) (from to p : Phase) → q.phase ≡ from → ((x : Op) → HasView x from → HasView x to) → p ≡ to → IsTied ops id q
      → IsTied later id (record q { phase = p })
  rephased_tied q from to p is has same t =
      subst (λ (x : Phase). IsTied later id (record q { phase = x })) (sym same) (tied_on (record q { phase = to })
      (record { op = t.op; among = t.among; by = t.by; tagged = t.tagged; has = has t.op (subst (HasView t.op) is t.has) }))

  pub desk_on : (d : DeskState) → IsDeskOf ops id d → IsDeskOf later id d
  desk_on d k = record { tied = λ i q at. tied_on q (k.tied i q at); right = k.right }

  -- what a call that tells this owes: the records of the operations that it names, and a right answer of a job whose
  -- program is the desk's
  pub record Owes (d : DeskState) (t : Told) : Type 0 where
    pub begun : (q : Query) → Begins t q → IsTied later id q
    pub returned : (q : Query) (view : ViewMap) → Returns t q view → IsTied later id (record q { phase = Ready view })
    pub answer : (j : Job) (ran : Ran) → t.answer ≡ Some (j, ran) → (slice_get d.programs j.program ≡ Some j.certified) × Answers j ran

  -- a desk after a call
  module _ (d e : DeskState) (node : ℕ) (t : Told) (o : Option Job) (k : IsDeskOf ops id d) (keeps : Keeps d e) (owes : Owes d t) where
    moved_tied : (n : ℕ) (q : Query) (p : Phase) → slice_get d.queries n ≡ Some q → GoesOver d node n q p t o → IsTied later id (record q { phase = p })
    moved_tied n q p at (readied view r to none) = subst (λ (x : Phase). IsTied later id (record q { phase = x })) (sym to) (owes.returned q view r)
    moved_tied n q p at (handed j r of to some) =
        let one : r.query ≡ q = same_Some r.query q (sym r.at ∙ ap (slice_get d.queries) of ∙ at) in
        rephased_tied q (Ready j.view) (Running j.view) p (sym (ap (λ (x : Query). x.phase) one) ∙ r.phase) (λ x h. h) to (k.tied n q at)
    moved_tied n q p at (recorded j view ran told runs fits to none) =
        rephased_tied q (Running view) (Answered view ran) p runs (λ x h. h) to (k.tied n q at)

    new_tied : (q : Query) → IsNew d node t o q → IsTied later id q
    new_tied q (fresh b) = owes.begun q b
    new_tied q (moved n old p at goes is) = subst (IsTied later id) is (moved_tied n old p at goes)

    moved_right : (n : ℕ) (q : Query) (p : Phase) → GoesOver d node n q p t o → (view : ViewMap) (ran : Ran) → p ≡ Answered view ran → IsAnswered e q view ran
    moved_right n q p (readied v r to none) view ran is = let no : Ready v ≡ Answered view ran = sym to ∙ is in absurd (cc)
    moved_right n q p (handed j r of to some) view ran is = let no : Running j.view ≡ Answered view ran = sym to ∙ is in absurd (cc)
    moved_right n q p (recorded j v x told runs fits to none) view ran is =
        let due = owes.answer j x told in
        let a = right_of_job d j q v x fits due.0 due.1 in
        let same : Answered v x ≡ Answered view ran = sym to ∙ is in
        let view_is : v ≡ view = cc in
        let ran_is : x ≡ ran = cc in
        subst (λ (z : ViewMap). IsAnswered e q z ran) view_is
        (subst (IsAnswered e q v) ran_is (record { program = a.program; named = keeps.programs q.program a.program a.named; right = a.right }))

    new_right : (q : Query) → IsNew d node t o q → (view : ViewMap) (ran : Ran) → q.phase ≡ Answered view ran → IsAnswered e q view ran
    new_right q (fresh b) view ran is = let no : Collecting ≡ Answered view ran = sym b.phase ∙ is in absurd (cc)
    new_right q (moved n old p at goes same) view ran is =
        let a = moved_right n old p goes view ran (ap (λ (x : Query). x.phase) same ∙ is) in
        subst (λ (x : Query). IsAnswered e x view ran) same (record { program = a.program; named = a.named; right = a.right })

    pub desk_changed : Change d node t e o → IsDeskOf later id e
    desk_changed change = record {
      tied = λ i q at. elim (change_queries d node t e o change i q at) [ inl old ↦ tied_on q (k.tied i q old) | inr new ↦ new_tied q new ];
      right = λ i q view ran at is. elim (change_queries d node t e o change i q at) [
        | inl old ↦
            let a = k.right i q view ran old is in
            record { program = a.program; named = keeps.programs q.program a.program a.named; right = a.right }
        | inr new ↦ new_right q new view ran is
      ];
    }

-- one book is put in, with what another kept, and the others are as they were
module _ (c : ClusterState) (kept : IsKept c) (p : Past) (id : ℕ) (b : BookState)
    (keeps : (y : BookState) → fin.get c.books id ≡ Some y → Keeps y.desk b.desk) where
  stays_by : (q : ℕ) (x : BookState) (here : Bool) → (q == id) ≡ here → fin.get c.books q ≡ Some x
      → (y : BookState) × (fin.get (fin.insert c.books id b) q ≡ Some y) × Keeps x.desk y.desk
  stays_by q x true is at = (b, insert_get c.books id b q true is, keeps x (ap (fin.get c.books) (sym (eqb-true q id is)) ∙ at))
  stays_by q x false is at = (x, insert_get c.books id b q false is ∙ at, keeps_itself x.desk)

  put_stays : Stays c.books (fin.insert c.books id b)
  put_stays q x at = stays_by q x (q == id) refl at

  pub put_known : (j : Job) → IsKnown c.books j → IsKnown (fin.insert c.books id b) j
  put_known j k = known_on c.books (fin.insert c.books id b) j put_stays k

  module _ (lawful : IsLawful (world_of (fin.insert (nodes_of c.books) id b.node) (past_in c p))) (onward : IsOnward c.past.ops p.ops)
      (head : IsHeaded c id b) (new : IsDeskOf p.ops id b.desk) where
    pub put : (jobs : List Job) → ((k : ℕ) (j : Job) → slice_get jobs k ≡ Some j → IsKnown (fin.insert c.books id b) j) → IsStep c (With c p jobs id b)
    put jobs known = record {
      kept = record {
        world = subst IsLawful (world_put c (past_in c p) jobs id b) lawful;
        headed = each_put c.books id b (IsHeaded (With c p jobs id b)) (head_in c (With c p jobs id b) id b refl refl refl head)
            (λ q x at. head_in c (With c p jobs id b) q x refl refl refl (kept.headed q x at));
        founders = λ q is. let k = kept.founders q is in insert_has c.books id b q k.0 (q == id) refl k.1;
        desks = each_put c.books id b (λ q x. IsDeskOf p.ops q x.desk) new (λ q x at. desk_on c.past.ops p.ops onward q x.desk (kept.desks q x at));
        jobs = known;
      };
      stays = put_stays;
      version = refl;
      config = refl;
      founders = refl;
    }

    -- where no job is handed out
    pub put_desk : IsStep c (With c p c.jobs id b)
    put_desk = put c.jobs (λ k j at. put_known j (kept.jobs k j at))

-- a job that is handed out is one more
pub which_job : (jobs : List Job) (o : Option Job) (number : ℕ) (j : Job) → slice_get (with_job jobs o) number ≡ Some j
    → (slice_get jobs number ≡ Some j) ⊎ (o ≡ Some j)
which_job jobs None number j at = inl at
which_job jobs (Some i) number j at = elim (get_snoc jobs i number j at) [
  | inl old ↦ inl old
  | inr same ↦ inr (ap (λ (x : Job). let o : Option Job = Some x in o) same)
]
