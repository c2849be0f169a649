-- The places of operations, by their nodes and their tags.
use Rattle.std.proofs.Common.{◌≡◌, ℕ, ◌+◌, ◌<◌, ◌≤◌, Bool, true, false, cond, List, length, Option, Some, None, refl, sym, ap, ◌∙◌, subst, arith, inl, inr}
use Rattle.std.specs.Prelude.{◌&&◌, nat_eq, slice_get}
use Rattle.std.proofs.lemmas.Bool.{and_parts, eqb-true, eq-eqb, cases_lt, both_ways}
use Rattle.std.proofs.lemmas.Option.{slice_get_within}
use Rattle.sc_world.specs.Records.{Among, AreDistinct}
use Rattle.sc_world.specs.declared.op.Op.{Op}
use Rattle.q_history.proofs.Lists.{same_Some, none-some}
use Rattle.q_nodes.specs.Found.{AreFiled}
use Rattle.q_nodes.proofs.Turns.{place_of}

abbrev pub Key : Type 0
Key = ℕ × ℕ

abbrev pub same_key : Key → Key → Bool
same_key a b = nat_eq a.0 b.0 && nat_eq a.1 b.1

key_again : (k : Key) → same_key k k ≡ true
key_again k = rw (eq-eqb k.0 k.0 refl, eq-eqb k.1 k.1 refl)

-- those before a place are filed
abbrev pub AreFiledBelow : List Op → ℕ → (Key → Option ℕ) → Type 0
AreFiledBelow ops i find = (k : ℕ) (o : Op) → k < i → slice_get ops k ≡ Some o → find (o.node, o.tag) ≡ Some k

module _ (ops : List Op) (i : ℕ) (op : Op) (old new : Key → Option ℕ) (distinct : AreDistinct ops) (at : slice_get ops i ≡ Some op)
    (below : AreFiledBelow ops i old) (put : (q : Key) → new q ≡ cond (same_key (op.node, op.tag) q) (Some i) (old q)) where
  filed_one : (k : ℕ) (o : Op) → k < i + 1 → slice_get ops k ≡ Some o → (b : Bool) → same_key (op.node, op.tag) (o.node, o.tag) ≡ b
      → new (o.node, o.tag) ≡ Some k
  filed_one k o less there true same =
      let parts = and_parts (nat_eq op.node o.node) (nat_eq op.tag o.tag) same in
      let place : i ≡ k = distinct i k op o at there (eqb-true op.node o.node parts.0) (eqb-true op.tag o.tag parts.1) in
      put (o.node, o.tag) ∙ ap (λ b. cond b (Some i) (old (o.node, o.tag))) same ∙ ap Some place
  filed_one k o less there false other =
      let away : k ≡ i → ⊥ = λ e.
      let one : o ≡ op = same_Some o op (sym there ∙ ap (slice_get ops) e ∙ at) in
      both_ways _ other (subst (λ (x : Op). same_key (op.node, op.tag) (x.node, x.tag) ≡ true) (sym one) (key_again (op.node, op.tag))) in
      let before : k < i = elim (cases_lt k i) [
        | inl l ↦ l
        | inr past ↦ absurd (away (omega (arith, less, past)))
      ] in
      put (o.node, o.tag) ∙ ap (λ b. cond b (Some i) (old (o.node, o.tag))) other ∙ below k o before there

  pub filed_next : AreFiledBelow ops (i + 1) new
  filed_next k o less there = filed_one k o less there (same_key (op.node, op.tag) (o.node, o.tag)) refl

pub all_filed : (ops : List Op) (i : ℕ) (find : Key → Option ℕ) → length ops ≤ i → AreFiledBelow ops i find → AreFiled ops find
all_filed ops i find past below k o at =
    let within : k < length ops = slice_get_within ops k o at in
    below k o (omega (arith, within, past)) at

-- ---- what is found

module _ (ops : List Op) (find : Key → Option ℕ) (node tag : ℕ) (filed : AreFiled ops find) where
  -- where an operation of this node and tag stands
  at_place : (o : Op) → Among o ops → o.node ≡ node → o.tag ≡ tag → (k : ℕ) × (slice_get ops k ≡ Some o) × (find (node, tag) ≡ Some k)
  at_place o among by tagged =
      let there = place_of ops o among in
      let found = filed there.0 o there.1 in
      (there.0, there.1, subst (λ (n : ℕ). find (n, tag) ≡ Some there.0) by (subst (λ (t : ℕ). find (o.node, t) ≡ Some there.0) tagged found))

  pub not_filed : None ≡ find (node, tag) → (o : Op) → Among o ops → o.node ≡ node → o.tag ≡ tag → ⊥
  not_filed none o among by tagged = let there = at_place o among by tagged in none-some there.0 (none ∙ there.2)

  module _ {place : ℕ} (is : Some place ≡ find (node, tag)) where
    stands_there : (o : Op) → Among o ops → o.node ≡ node → o.tag ≡ tag → slice_get ops place ≡ Some o
    stands_there o among by tagged =
        let there = at_place o among by tagged in
        ap (slice_get ops) (same_Some place there.0 (is ∙ there.2)) ∙ there.1

    pub past_all : slice_get ops place ≡ None → (o : Op) → Among o ops → o.node ≡ node → o.tag ≡ tag → ⊥
    past_all none o among by tagged = none-some o (sym none ∙ stands_there o among by tagged)

    -- the operation at the place is each of this node and tag
    pub is_that : {op : Op} → slice_get ops place ≡ Some op → (o : Op) → Among o ops → o.node ≡ node → o.tag ≡ tag → o ≡ op
    is_that {op} at o among by tagged = same_Some o op (sym (stands_there o among by tagged) ∙ at)
