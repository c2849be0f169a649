-- Where the nodes of books are in a cluster, and that the books are gathered where no step is left.
use Rattle.std.proofs.Common.{◌≡◌, ℕ, List, [], ◌∷◌, ◌++◌, Some, sym, ap, ◌∙◌, subst, inl, inr, slice_get, slice_set}
use Rattle.std.proofs.lemmas.Bool.{cases_eq}
use Rattle.sc_msg.specs.declared.message.Message.{Message}
use Rattle.q_desk.specs.declared.journal.Entry.{Entry}
use Rattle.q_book.specs.State.{BookState}
use Rattle.q_history.specs.Headline.{ClusterState}
use Rattle.q_history.proofs.Lists.{same_Some, get_elsewhere}
use Rattle.q_cluster.specs.Acts.{book_at}
use Rattle.q_gather.specs.Merging.{Step, AreOver}
use Rattle.q_gather.specs.Traces.{IsTraceFrom, entering}
use Rattle.q_gather.specs.Gathered.{HasBook, IsGathered, IsAt, IsUnderWay}
use Rattle.q_gather.specs.Gathered.IsAt.{Away, There}
use Rattle.q_gather.proofs.Lists.{get-same, get_after}
use Rattle.q_gather.proofs.Merging.{over_at}
use Rattle.q_gather.proofs.Keeping.{Steps}

-- ---- one node

-- a node at which nothing happens stays where it is
pub at_stays : (c d : ClusterState) (whole : BookState) (left : List Entry) (steps : Steps) → book_at d whole.id ≡ book_at c whole.id
    → IsAt c whole left steps → IsAt d whole left steps
at_stays c d whole left steps same (Away absent none is t) = Away (same ∙ absent) none is t
at_stays c d whole left steps same (There b at t) = There b (same ∙ at) t

-- ---- all nodes

abbrev pub IsPlaced : ClusterState → List Steps → ℕ → BookState → Type 0
IsPlaced c lists k b = (steps : Steps) × (slice_get lists k ≡ Some steps) × (left : List Entry) × IsAt c b left steps

-- the steps that are left of one book are others
module _ (books : List BookState) (k : ℕ) (whole : BookState) (mine : slice_get books k ≡ Some whole) where
  module _ (c : ClusterState) (lists : List Steps) {old steps : Steps} {left : List Entry} (there : slice_get lists k ≡ Some old)
      (own : IsAt c whole left steps) (others : (i : ℕ) (b : BookState) → (i ≡ k → ⊥) → slice_get books i ≡ Some b → IsPlaced c lists i b) where
    pub placed_set : (i : ℕ) (b : BookState) → slice_get books i ≡ Some b → IsPlaced c (slice_set lists k steps) i b
    placed_set i b here = elim (cases_eq k i) [
      | inl place ↦
          let one : whole ≡ b = same_Some whole b (sym mine ∙ ap (slice_get books) place ∙ here) in
          let at = ap (slice_get (slice_set lists k steps)) (sym place) ∙ get-same lists k old steps there in
          (steps, at, left, subst (λ (x : BookState). IsAt c x left steps) one own)
      | inr away ↦
          let p = others i b (λ same. away (sym same)) here in
          (p.0, get_elsewhere lists k steps i p.0 (λ same. away (sym same)) p.1, p.2, p.3)
    ]

  pub few_set : (lists : List Steps) (steps : Steps)
      → ((i : ℕ) (x : Steps) → slice_get lists i ≡ Some x → (b : BookState) × (slice_get books i ≡ Some b)) → (i : ℕ) (x : Steps)
      → slice_get (slice_set lists k steps) i ≡ Some x → (b : BookState) × (slice_get books i ≡ Some b)
  few_set lists steps few i x here = elim (get_after lists k steps i x here) [
    | inl old ↦ few i x old
    | inr new ↦ (whole, ap (slice_get books) new.0 ∙ mine)
  ]

  -- a node has a book if it has one where it is another
  pub has_book : (id : ℕ) → ((id ≡ whole.id → ⊥) → HasBook books id) → HasBook books id
  has_book id other = elim (cases_eq id whole.id) [ inl same ↦ record { place = k; book = whole; at = mine; of = sym same } | inr away ↦ other away ]

-- ---- the end

pub no_first : {x : Step Message} {xs : Steps} → [] ≡ x ∷ xs → ⊥
no_first e = absurd (cc)

done_by : (c : ClusterState) (whole b : BookState) (left : List Entry) → book_at c whole.id ≡ Some b → IsTraceFrom b left [] whole
    → book_at c whole.id ≡ Some whole
done_by c whole b [] at t = at ∙ (λ i. Some (sym t.1 i))
done_by c whole b (e ∷ es) at t = absurd (no_first t.3)

-- a node of which no step is left has its book
pub done_at : (c : ClusterState) (whole : BookState) (left : List Entry) → IsAt c whole left [] → book_at c whole.id ≡ Some whole
done_at c whole left (Away absent none is t) = absurd (no_first (t.is ∙ (λ i. entering whole (none i) ++ t.rest)))
done_at c whole left (There b at t) = done_by c whole b left at t

-- where no step is left, the books are gathered
pub gathered : (books : List BookState) (c : ClusterState) (lists : List Steps) → IsUnderWay books c lists → AreOver lists → IsGathered books c
gathered books c lists u over = record {
  history = u.history;
  each = λ k b here. let p = u.at k b here in done_at c b p.2 (subst (IsAt c b p.2) (over_at lists k p.0 over p.1) p.3);
  all = u.all;
  nobody = u.nobody;
}
