-- A job that is finished tells an answer that its cluster recorded.
use Rattle.std.proofs.Common.{◌≡◌, ℕ, List, Option, Some, None, refl, sym, ap, ◌∙◌, subst, slice_get, Result, Ok, Err}
use Rattle.std.specs.FinMap as fin
use Rattle.sc_view.specs.Views.{ViewMap}
use Rattle.sc_world.proofs.Finite.{get-insert_same}
use Rattle.sc_world.proofs.Inverts.{no_refusal, same_answer}
use Rattle.q_session.specs.declared.ran.Ran.{Ran}
use Rattle.q_session.specs.declared.query.Phase.TheVariants.{Answered}
use Rattle.q_session.specs.declared.query.Query.{Query}
use Rattle.q_session.specs.declared.job.Job.{Job}
use Rattle.q_desk.specs.State.{DeskState}
use Rattle.q_desk.specs.Desks as desks
use Rattle.q_desk.proofs.Accepted.{answered as with_answer, posted-ok}
use Rattle.q_desk.proofs.Lists.{get-same}
use Rattle.q_book.specs.State.{BookState}
use Rattle.q_book.specs.Books as book
use Rattle.reasons.specs.declared.Reason.{Reason}
use Rattle.q_book.proofs.Parts.{desk-ok}
use Rattle.q_history.specs.declared.event.ClusterStep.{ClusterStep}
use Rattle.q_history.specs.declared.event.EventAnswer.TheVariants as told
use Rattle.q_history.specs.Headline.{ClusterState}
use Rattle.q_history.specs.Clusters.{lift, posts, posted, finished}
use Rattle.q_history.proofs.Called.{at-ok}

-- an answer is told, and no message; and the cluster recorded it
pub record IsRecorded (stepped : ClusterStep) (c : ClusterState) : Type 0 where
  pub node : ℕ
  pub query : ℕ
  pub ran : Ran
  pub tells : stepped.told ≡ told.Finished (record { node = node; query = query; ran = ran })
  pub silent : stepped.sent.count ≡ 0
  pub book : BookState
  pub asked : Query
  pub view : ViewMap
  pub at : fin.get c.books node ≡ Some book
  pub number : slice_get book.desk.queries query ≡ Some asked
  pub answered : asked.phase ≡ Answered view ran

-- the query is there with its answer
now_answered : (queries : List Query) (k : ℕ) (old : Query) (view : ViewMap) (ran : Ran) → slice_get queries k ≡ Some old
    → slice_get (desks.with_phase queries k (Answered view ran)) k ≡ Some (record old { phase = Answered view ran })
now_answered queries k old view ran at =
    ap (λ (o : Option Query). slice_get (desks.in_phase queries k (Answered view ran) o) k) at
    ∙ get-same queries k old (record old { phase = Answered view ran }) at

-- its node's book recorded it
posted_recorded : (c : ClusterState) (ran : Ran) (j : Job) (x : BookState) (r : Result (Unit {0} × BookState) Reason) (y : ClusterStep × ClusterState)
    → book.posted x j ran ≡ r → lift (posts c j ran) r ≡ Ok y → IsRecorded y.0 y.1
posted_recorded c ran j x (Err e) y is h = absurd (no_refusal _ y h)
posted_recorded c ran j x (Ok a) y is h =
    let b = desk-ok x (desks.posted x.desk x.id j ran) a is in
    let p = (posted-ok x.desk j ran b.0 x.id b.1).1 in
    let same : with_answer x.desk j.query p.view ran ≡ a.1.desk = p.is ∙ ap (λ (z : Unit {0} × BookState). z.1.desk) b.2 in
    subst (λ (z : ClusterStep × ClusterState). IsRecorded z.0 z.1) (same_answer _ y h)
    (record {
      node = j.node;
      query = j.query;
      ran = ran;
      tells = refl;
      silent = refl;
      book = a.1;
      asked = record p.query { phase = Answered p.view ran };
      view = p.view;
      at = get-insert_same c.books j.node a.1;
      number = ap (λ (d : DeskState). slice_get d.queries j.query) (sym same) ∙ now_answered x.desk.queries j.query p.query p.view ran p.at;
      answered = refl;
    })

pub finish_recorded : (c : ClusterState) (ran : Ran) (o : Option Job) (y : ClusterStep × ClusterState) → finished c ran o ≡ Ok y → IsRecorded y.0 y.1
finish_recorded c ran None y h = absurd (no_refusal _ y h)
finish_recorded c ran (Some j) y h = let a = at-ok c j.node (posted c j ran) y h in posted_recorded c ran j a.book (book.posted a.book j ran) y refl a.gives
