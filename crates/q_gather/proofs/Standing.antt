-- Books that stand are gathered, or refused.
use Rattle.std.proofs.Common.{◌≡◌, ℕ, List, [], Result, Ok, Err, refl, sym, ◌∙◌, subst}
use Rattle.std.specs.Prelude.{IfOk, IfErr, IsErrAnd, MatchResult}
use Rattle.sc_members.specs.Members.{Config}
use Rattle.sc_msg.specs.declared.version.Version.{Version}
use Rattle.q_book.specs.State.{BookState}
use Rattle.q_history.specs.Headline.{ClusterState}
use Rattle.q_history.specs.Clusters.{start}
use Rattle.q_gather.specs.Numbers.{NumberList}
use Rattle.q_gather.specs.Gathered.{AreDistinct, AreRight, AgreeOn, IsGathered}
use Rattle.q_gather.proofs.Beginning.{begins}
use Rattle.q_gather.proofs.NumberFinding.{no_numbers}
use Rattle.q_gather.proofs.FrontsGather.{all_traced}
use Rattle.q_gather.specs.Gather.{Agree, Merge, GathersBooks, AreRefused}
use Rattle.q_gather.specs.Heads.{AreReplays, IsUnfounded}
use Rattle.q_gather.specs.Gathering.{IsGathering, IsMerged, IsStuck}
use Rattle.q_gather.specs.declared.fault.GatherFault.{GatherFault}
use Rattle.q_gather.specs.declared.fault.GatherFault.TheVariants.{Journal, IdUsed, BadFounders, NeverSent, OutOfMemory}

-- ---- the start

-- before any event
gathering_starts : (books : List BookState) → AreReplays books → AreDistinct books → (version : Version) (config : Config) (founders : List ℕ)
    → AgreeOn books version config founders → IsGathering books (start version config founders) []
gathering_starts books all distinct version config founders agree =
    let t = all_traced books (λ k b at. (all k b at).0) in
    let right : AreRight books = λ k b at. (all k b at).1 in
    record {
      lists = t.0;
      traces = t.1;
      left = t.0;
      under_way = begins version config founders books t.0 distinct right agree t.1;
      on = λ m. m;
      back = λ m. m;
      numbered = no_numbers;
    }

-- the founders on whom they agree are there
abbrev pub IsFounded : List BookState → ClusterState → Type 0
IsFounded books c = (version : Version) × (config : Config) × (founders : List ℕ) × AgreeOn books version config founders × (c ≡ start version config founders)

pub agreed : (books : List BookState) (c : ClusterState) → IsFounded books c → Agree books
agreed books c f = (f.0, f.1, f.2, f.3)

module _ (books : List BookState) {c d : ClusterState} (founded : IsFounded books c) where
  pub begins_gathering : {numbers : NumberList} → AreReplays books → AreDistinct books → d ≡ c → numbers ≡ [] → IsGathering books d numbers
  begins_gathering {numbers = numbers} all distinct same none =
      let begun : IsGathering books (start founded.0 founded.1 founded.2) [] = gathering_starts books all distinct founded.0 founded.1 founded.2 founded.3 in
      subst (λ (s : ClusterState). IsGathering books s numbers) (sym (same ∙ founded.4))
      (subst (λ (n : NumberList). IsGathering books (start founded.0 founded.1 founded.2) n) (sym none) begun)

-- ---- the end

pub gathers_books : (books : List BookState) {f c d : ClusterState} → IsFounded books f → AreDistinct books → IsMerged books c → d ≡ c → GathersBooks books d
gathers_books books {f = f} founded distinct m same = record {
  distinct = distinct;
  agree = agreed books f founded;
  merge = m.0;
  gathered = subst (λ (s : ClusterState). IsGathered books s) (sym same) m.1;
}

-- ---- refusals

-- why no cluster was founded is why books are not gathered
pub unfounded : (books : List BookState) → AreDistinct books → (e : GatherFault) → IsUnfounded books e → AreRefused books e
unfounded books distinct BadFounders none = (distinct, none)
unfounded books distinct OutOfMemory none = tt
unfounded books distinct e none = absurd none

-- and so is why some are left
pub stuck_on : (books : List BookState) {f : ClusterState} → IsFounded books f → AreDistinct books → (e : GatherFault) → IsStuck books e → AreRefused books e
stuck_on books {f = f} founded distinct NeverSent none = (distinct, agreed books f founded, none)
stuck_on books founded distinct OutOfMemory none = tt
stuck_on books founded distinct e none = absurd none

-- a refusal that a call passes on
pub passed : {A : Type 0} (P : GatherFault → Type 0) (e : GatherFault) (r : Result A GatherFault) → IsErrAnd r (λ x. x ≡ e) → P e → IfErr r P
passed P e (Ok a) is holds = tt
passed P e (Err x) is holds = subst P (sym is) holds

-- ---- one answer

-- books that merge are refused for want of memory alone
refused_memory : (books : List BookState) → AreDistinct books → Agree books → Merge books → (e : GatherFault) → AreRefused books e → e ≡ OutOfMemory
refused_memory books distinct agree merge (Journal place fault) f = absurd f
refused_memory books distinct agree merge IdUsed f = absurd (f distinct)
refused_memory books distinct agree merge BadFounders f = absurd (f.1 agree)
refused_memory books distinct agree merge NeverSent f = absurd (f.2 merge)
refused_memory books distinct agree merge OutOfMemory f = refl

pub gathers_all : (books : List BookState) (result : Result ClusterState GatherFault) → IfOk result (GathersBooks books) → IfErr result (AreRefused books)
    → AreDistinct books → Agree books → Merge books → MatchResult result (IsGathered books) (λ e. e ≡ OutOfMemory)
gathers_all books (Ok c) is refused distinct agree merge = is.gathered
gathers_all books (Err e) is refused distinct agree merge = refused_memory books distinct agree merge e refused
