-- Where the founders are known, books begin to be gathered; and where their steps merge, all of them are.
use Rattle.std.proofs.Common.{◌≡◌, ℕ, Bool, true, false, cond, List, [], ◌++◌, Option, Some, None, refl, sym, ap, ◌∙◌, subst, inr}
use Rattle.std.specs.Ordering.{nat_cmp}
use Rattle.std.specs.FinMap as fin
use Rattle.std.specs.FinSet as set
use Rattle.sc_members.specs.Members.{Config}
use Rattle.sc_msg.specs.declared.message.Message.{Message}
use Rattle.sc_msg.specs.declared.version.Version.{Version}
use Rattle.q_book.specs.State.{BookState}
use Rattle.q_book.specs.Books.{new_book}
use Rattle.q_book.specs.Replays.{IsFirst, IsReplay}
use Rattle.q_history.specs.Headline.{ClusterState}
use Rattle.q_history.specs.Clusters.{start}
use Rattle.q_history.specs.Calls.{IsHistory}
use Rattle.q_history.proofs.Kept.{IsAmong}
use Rattle.q_history.proofs.Founders.{founder_book, every_founder, founder_there}
use Rattle.q_history.proofs.EveryBook.{history_books}
use Rattle.q_cluster.specs.Acts.{book_at}
use Rattle.q_gather.specs.Merging.{Step, CanGo, Merges}
use Rattle.q_gather.specs.Merging.Merges.{Over, Takes}
use Rattle.q_gather.specs.Traces.{IsTraceFrom, entering, IsTrace}
use Rattle.q_gather.specs.Gathered.{AreDistinct, AreRight, AgreeOn, AreTraces, IsGathered, IsAt, IsUnderWay}
use Rattle.q_gather.specs.Gathered.IsAt.{Away, There}
use Rattle.q_gather.specs.Heads.{IsHeaded}
use Rattle.q_gather.proofs.BooksGather.{gathered}
use Rattle.q_gather.proofs.Turns.{step_goes}
use Rattle.q_gather.proofs.Tracing.{first_same}

module _ (version : Version) (config : Config) (ids : List ℕ) where
  abbrev c : ClusterState
  c = start version config ids

  is_listed : (i : ℕ) (b : BookState) → book_at c i ≡ Some b → IsAmong ids i
  is_listed i b at = (every_founder version config ids i b at).listed

  absent_by : (i : ℕ) (o : Option BookState) → book_at c i ≡ o → set.contains (set.from_list {R = nat_cmp} ids) i ≡ false → o ≡ None
  absent_by i None is away = refl
  absent_by i (Some b) is away = let both : true ≡ false = sym (is_listed i b is) ∙ away in absurd (cc)

  module _ (h : IsHistory c) (b : BookState) (head : IsHeaded b version config ids) (steps : List (Step Message)) (t : IsTrace b steps) where
    is_founder : IsAmong ids b.id → IsAt c b b.desk.journal steps
    is_founder listed =
        let founders : b.founders ≡ Some ids = head.2 ∙ (λ i. cond (listed i) (Some ids) None) in
        let x = founder_there version config ids ids fin.empty b.id (inr listed) in
        let is = (every_founder version config ids b.id x.0 x.1).is in
        let r : IsReplay (founder_book version config ids b.id) = subst IsReplay (sym is) (history_books c h b.id x.0 x.1).1 in
        let own : IsFirst b t.first (Some ids) = subst (IsFirst b t.first) founders t.begun in
        let one : r.first ≡ t.first = first_same (founder_book version config ids b.id) b refl (sym head.1) r.first t.first (Some ids) r.begun own in
        There (new_book b.version b.id b.config b.founders t.first)
        (x.1 ∙ (λ i. Some ((sym is ∙ r.replayed ∙ (λ k. new_book (sym head.0 k) b.id (sym head.1 k) (sym founders k) (one k))) i)))
        (subst (λ (x : List (Step Message)). IsTraceFrom (new_book b.version b.id b.config b.founders t.first) b.desk.journal x b)
        (sym (t.is ∙ ap (λ (o : Option (List ℕ)). entering b o ++ t.rest) founders)) t.trace)

    begins_by : (k : Bool) → set.contains (set.from_list {R = nat_cmp} ids) b.id ≡ k → IsAt c b b.desk.journal steps
    begins_by true is = is_founder is
    begins_by false away =
        Away (absent_by b.id (book_at c b.id) refl away) (head.2 ∙ (λ i. cond (away i) (Some ids) None)) refl t

  -- nothing is gathered yet
  pub begins : (books : List BookState) (lists : List (List (Step Message))) → AreDistinct books → AreRight books → AgreeOn books version config ids
      → AreTraces books lists → IsUnderWay books c lists
  begins books lists distinct right agree traces =
      let h : IsHistory c = ([], refl, agree.taken) in
      record {
        history = h;
        distinct = distinct;
        right = right;
        versions = agree.versions;
        same = λ k b here. (agree.heads k b here).0;
        at = λ k b here.
            let t = traces.each k b here in
            let own = agree.heads k b here in
            let test = set.contains (set.from_list {R = nat_cmp} ids) b.id in
            (t.0, t.1, b.desk.journal, begins_by h b (agree.versions k b here, own.0, own.1) t.0 t.2 test refl);
        all = λ id b here. agree.there id (is_listed id b here);
        nobody = refl;
        few = traces.few;
      }

-- where the steps that are left merge, all books are gathered
pub gathers : {given : List Message} {lists : List (List (Step Message))} → Merges Message given lists → (books : List BookState) (c : ClusterState)
    → c.past.sent ≡ given → IsUnderWay books c lists → (d : ClusterState) × IsGathered books d
gathers (Over {lists = lists} over) books c same u = (c, gathered books c lists u over)
gathers (Takes {given = given} {lists = lists} k s rest at can then) books c same u =
    let g = step_goes u k s rest at (subst (λ (x : List Message). CanGo x s) (sym same) can) in
    let later = g.1.later in
    gathers then books later (g.1.sent g.1.told later g.1.accepted ∙ ap (λ (x : List Message). x ++ s.gives) same) (g.1.goes g.1.told later g.1.accepted)
