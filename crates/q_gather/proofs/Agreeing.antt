-- Whether books are of different nodes, and agree on their heads.
use Rattle.std.proofs.Common.{◌≡◌, ◌<◌, ◌≤◌, ◌+◌, ℕ, Bool, true, false, cond, List, [], ◌∷◌, Some, None, Ok, sym, ap, ◌∙◌, subst, arith, inl, inr, ⊎_elim}
use Rattle.std.specs.Prelude.{MatchBool, nat_eq, length, take, slice_get}
use Rattle.std.specs.List.{list_any}
use Rattle.std.specs.Ordering.{nat_cmp}
use Rattle.std.specs.FinSet as set
use Rattle.std.proofs.lemmas.Bool.{cases_eq, cases_order}
use Rattle.std.proofs.lemmas.Option.{slice_get_within}
use Rattle.sc_members.specs.Members.{Config}
use Rattle.sc_msg.specs.declared.version.Version.{Version}
use Rattle.sc_node.specs.Nodes.{are_founders}
use Rattle.reasons.specs.declared.Reason.{Reason}
use Rattle.reasons.specs.declared.Reason.TheVariants as reasons
use Rattle.sc_world.proofs.Acting.{has_at}
use Rattle.forms.proofs.Calls.{same_answer, passed}
use Rattle.q_book.specs.State.{BookState}
use Rattle.q_history.specs.Headline.{ClusterState}
use Rattle.q_history.specs.Heads.{founders_for}
use Rattle.q_history.specs.Clusters.{start, started}
use Rattle.q_history.proofs.Lists.{same_Some, none-some}
use Rattle.q_history.proofs.Kept.{IsAmong}
use Rattle.q_gather.specs.Gathered.{HasBook, AreDistinct, AgreeOn}
use Rattle.q_gather.specs.Gather.{AreReplayed, Agree, IsRefused}
use Rattle.q_gather.specs.Heads.{AreHeaded, AreThere, HasHead}
use Rattle.q_gather.specs.declared.fault.GatherFault.TheVariants.{BadFounders}
use Rattle.q_gather.proofs.Finding.{get_take}

-- ---- ids

-- no book before a place is of the node of one before it
abbrev pub DistinctBelow : List BookState → ℕ → Type 0
DistinctBelow books n = (k : ℕ) (b : BookState) → k < n → slice_get books k ≡ Some b → HasBook (take k books) b.id → ⊥

pub distinct_next : (books : List BookState) (n : ℕ) (x : BookState) → slice_get books n ≡ Some x → (HasBook (take n books) x.id → ⊥)
    → DistinctBelow books n → DistinctBelow books (n + 1)
distinct_next books n x here none below k b less at has = elim (cases_eq k n) [
  | inl same ↦
      let one : b ≡ x = same_Some b x (sym at ∙ ap (slice_get books) same ∙ here) in
      none (subst (λ (i : ℕ). HasBook (take i books) x.id) same (subst (λ (y : BookState). HasBook (take k books) y.id) one has))
  | inr away ↦ below k b (omega (arith, less, away)) at has
]

pub distinct_all : (books : List BookState) (n : ℕ) → DistinctBelow books n → length books ≤ n → AreDistinct books
distinct_all books n below past i k a b at there same =
    ⊎_elim (λ one. one) (λ away. ⊎_elim (λ less. absurd (none i k a b less at there same)) (λ more. absurd (none k i b a more there at (sym same))) away)
    (cases_order i k)
  where
    none : (i k : ℕ) (a b : BookState) → i < k → slice_get books i ≡ Some a → slice_get books k ≡ Some b → a.id ≡ b.id → ⊥
    none i k a b less at there same =
        let within : k < length books = slice_get_within books k b there in
        below k b (omega (arith, within, past)) there (record { place = i; book = a; at = get_take books k i less ∙ at; of = same })

-- ---- one founder

some_by : (k : Bool) (ids founders : List ℕ) → cond k (Some founders) None ≡ Some ids → ids ≡ founders
some_by true ids founders h = sym (same_Some founders ids h)
some_by false ids founders h = absurd (none-some ids h)

-- where the books agree, it is on the head of each founder
module _ {books : List BookState} {version : Version} {config : Config} {ids : List ℕ} (h : HasHead books version config ids) (a : Agree books) where
  founders_same : ids ≡ a.2
  founders_same = some_by (set.contains (set.from_list {R = nat_cmp} a.2) h.book.id) ids a.2 (sym (a.3.heads h.place h.book h.at).1 ∙ h.founders_are)

  pub agree_headed : AreHeaded books version config ids
  agree_headed k b at =
      let own = a.3.heads k b at in
      let head = a.3.heads h.place h.book h.at in (
        a.3.versions k b at ∙ sym (a.3.versions h.place h.book h.at) ∙ h.version_is,
        own.0 ∙ sym head.0 ∙ h.config_is,
        own.1 ∙ ap (founders_for b.id) (sym founders_same),
      )

  pub agree_there : AreThere books ids
  agree_there id in' = a.3.there id (ap (λ (x : List ℕ). set.contains (set.from_list {R = nat_cmp} x) id) (sym founders_same) ∙ in')

-- where nobody is a founder, the books agree on nothing
pub nobody_agrees : (books : List BookState) → ((k : ℕ) (b : BookState) → slice_get books k ≡ Some b → b.founders ≡ None) → Agree books → ⊥
nobody_agrees books none (version, config, founders, a) = by_first founders a
  where
    by_first : (ids : List ℕ) → AgreeOn books version config ids → ⊥
    by_first [] agree = absurd (cc)
    by_first (x ∷ xs) agree =
        let listed : IsAmong (x ∷ xs) x = has_at (x ∷ xs) 0 0 (omega arith) in
        let has = agree.there x listed in
        let mine : IsAmong (x ∷ xs) has.book.id = subst (IsAmong (x ∷ xs)) (sym has.of) listed in
        let founders : has.book.founders ≡ Some (x ∷ xs) =
        (agree.heads has.place has.book has.at).1 ∙ (λ i. cond (mine i) (Some (x ∷ xs)) None) in
        none-some (x ∷ xs) (sym (none has.place has.book has.at) ∙ founders)

-- where the books agree, they have one version
pub versions_one : (books : List BookState) (i k : ℕ) (a b : BookState) → Agree books → slice_get books i ≡ Some a → slice_get books k ≡ Some b
    → a.version ≡ b.version
versions_one books i k a b agree at here = agree.3.versions i a at ∙ sym (agree.3.versions k b here)

pub versions_refused : (journals : List (List ℕ)) (books : List BookState) (i k : ℕ) (a b : BookState) → AreReplayed journals books → AreDistinct books
    → slice_get books i ≡ Some a → slice_get books k ≡ Some b → (a.version ≡ b.version → ⊥) → IsRefused journals BadFounders
versions_refused journals books i k a b r distinct at here other = (books, r, distinct, λ agree. other (versions_one books i k a b agree at here))

-- ---- the start

pub starts : (version : Version) (config : Config) (ids : List ℕ) (c : ClusterState) → started version config ids ≡ Ok c → c ≡ start version config ids
starts version config ids c h =
    same_answer {E = Reason} c (start version config ids) (sym (passed (are_founders ids) reasons.BadFounders (Ok (start version config ids)) c h).1)

pub agree_on : {books : List BookState} {version : Version} {config : Config} {ids : List ℕ} {c : ClusterState} → started version config ids ≡ Ok c
    → AreHeaded books version config ids → AreThere books ids → AgreeOn books version config ids
agree_on {version = version} {config = config} {ids = ids} {c = c} h heads there = record {
  taken = h ∙ (λ i. Ok (starts version config ids c h i));
  versions = λ k b at. (heads k b at).0;
  heads = λ k b at. let own = heads k b at in (own.1, own.2);
  there = there;
}

-- ---- who is listed

-- a node is listed among the founders, or it is not
pub founders_listed : {id : ℕ} (b : BookState) (ids : List ℕ) (k r : Bool) → id ≡ b.id → k ≡ list_any (λ y. nat_eq y id) ids
    → MatchBool r (b.founders ≡ cond k (Some ids) None) (b.founders ≡ cond k (Some ids) None → ⊥)
    → MatchBool r (b.founders ≡ founders_for b.id ids) (b.founders ≡ founders_for b.id ids → ⊥)
founders_listed {id} b ids k r same listed test =
    let is : k ≡ set.contains (set.from_list {R = nat_cmp} ids) b.id =
    listed ∙ sym (set.contains-from_list_nat ids id) ∙ ap (set.contains (set.from_list {R = nat_cmp} ids)) same in
    subst (λ (t : Bool). MatchBool r (b.founders ≡ cond t (Some ids) None) (b.founders ≡ cond t (Some ids) None → ⊥)) is test
