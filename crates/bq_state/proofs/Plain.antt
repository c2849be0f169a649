-- Where records have one length, states that know no register as that length stay so.
use Rattle.std.proofs.Common.{◌≡◌, ℕ, inl, inr, arith, subst, true, refl}
use Rattle.std.proofs.lemmas.Bool.{cases_Bool, eq-eqb}
use Rattle.std.specs.Prelude.{min, max, ◌==◌}
use Rattle.bq_range.specs.Interval.{Interval, single, join}
use Rattle.bq_state.specs.Kinds.{StateKinds, kind_of, with_kind, with_lengths, is_same, join_kinds, join_states, entry_state}
use Rattle.bq_state.specs.Plain.{IsPlainKind, IsPlain, StaysPlain}
use Rattle.bq_state.specs.declared.kind.Kind.{Kind}
use Rattle.bq_state.specs.declared.kind.Kind.TheVariants.{Number, Pointer, Length}
use Rattle.bq_state.proofs.Each.{each_entry, kind_set, set_each, each_joined}
use Rattle.bq_state.proofs.Keeps.{Comes, transfer_keeps, edges_keep}

module _ (n : ℕ) where
  comes_plain : (s : StateKinds) (k : Kind) → IsPlain n s → Comes s k → IsPlainKind k
  comes_plain s k h (inl p) = p
  comes_plain s k h (inr (r, is)) = subst IsPlainKind is (h.kinds r)

  puts : (s : StateKinds) (d : ℕ) (k : Kind) → IsPlain n s → Comes s k → IsPlain n (with_kind s d k)
  puts s d k h c = record {
    lengths = h.lengths;
    kinds = set_each (λ r. IsPlainKind) s d k (kind_set IsPlainKind s d k (comes_plain s k h c) tt) (λ r ne. h.kinds r);
  }

  narrows : (s : StateKinds) (r : ℕ) (l : Interval) → IsPlain n s → kind_of s r ≡ Length → IsPlain n (with_lengths s l)
  narrows s r l h is = absurd (subst IsPlainKind is (h.kinds r))

  join_plain : (l m : Interval) (a b : Kind) → IsPlainKind a → IsPlainKind b → IsPlainKind (join_kinds l m a b)
  join_plain l m (Number x) (Number y) h i = tt
  join_plain l m (Pointer r x) (Pointer q y) h i = elim (cases_Bool (is_same r q)) [ inl e ↦ rw e tt | inr e ↦ rw e tt ]
  join_plain l m Length b h i = absurd h
  join_plain l m a Length h i = absurd i
  join_plain l m a b h i = tt

  joins : (a b : StateKinds) → IsPlain n a → IsPlain n b → IsPlain n (join_states a b)
  joins a b h i = record {
    lengths = rw (h.lengths, i.lengths) one;
    kinds = each_joined IsPlainKind a.lengths b.lengths tt (join_plain a.lengths b.lengths) a.kinds b.kinds h.kinds i.kinds;
  }
    where
      one : join (single n) (single n) ≡ single n
      one = let low : min n n ≡ n = omega arith in let high : max n n ≡ n = omega arith in rw (low, high) refl

  entry : IsPlain n (entry_state (single n))
  entry = record { lengths = refl; kinds = each_entry IsPlainKind (single n) tt tt length_plain tt tt }
    where
      is_one : (n == n) ≡ true
      is_one = eq-eqb n n refl

      length_plain : IsPlainKind (kind_of (entry_state (single n)) 2)
      length_plain = rw is_one tt

  pub stays : StaysPlain n
  stays = record {
    entry = entry;
    joins = joins;
    transfers = λ i a b h e. transfer_keeps (IsPlain n) puts narrows i a b h e;
    leads = λ unit i a h. edges_keep (IsPlain n) puts narrows unit i a h;
  }
