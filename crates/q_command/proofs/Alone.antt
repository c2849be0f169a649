-- That the book of a lone founder, to whom nothing has happened, gathers.
use Rattle.std.specs.Prelude.{Bool, true, false, ◌||◌, ◌==◌, List, [], ◌∷◌, ◌++◌, Option, Some, None}
use Rattle.std.proofs.Common.{◌≡◌, ◌<◌, ℕ, zero, suc, cond, refl, sym, ap, ◌∙◌, subst, slice_get, arith}
use Rattle.std.specs.Ordering.{nat_cmp}
use Rattle.std.specs.FinSet as set
use Rattle.std.proofs.lemmas.Bool.{eqb-true}
use Rattle.std.proofs.lemmas.Option.{slice_get_within}
use Rattle.sc_msg.specs.declared.message.Message.{Message}
use Rattle.sc_world.proofs.Acting.{has_at}
use Rattle.q_desk.specs.declared.journal.Entry.{Entry}
use Rattle.q_book.specs.Books.{new_book}
use Rattle.q_book.specs.Replays.{IsReplay, Replays}
use Rattle.q_book.specs.State.{BookState}
use Rattle.q_history.proofs.Lists.{same_Some}
use Rattle.q_history.specs.Heads.{founders_for}
use Rattle.q_gather.specs.Gather.{Agree, AreRefused, Merge}
use Rattle.q_gather.specs.Gathered.{AgreeOn, AreDistinct}
use Rattle.q_gather.specs.Merging.{Step, AreOver}
use Rattle.q_gather.specs.Merging.Merges.{Over}
use Rattle.q_gather.specs.Traces.{IsTrace, IsTraceFrom, entering}
use Rattle.q_gather.specs.declared.fault.GatherFault.{GatherFault}
use Rattle.q_gather.specs.declared.fault.GatherFault.TheVariants.{Journal, IdUsed, BadFounders, NeverSent, OutOfMemory}

-- ---- one book

at_first : {X : Type 0} (x y : X) (k : ℕ) → slice_get (x ∷ []) k ≡ Some y → k ≡ 0
at_first x y k at = let less : k < 1 = slice_get_within (x ∷ []) k y at in omega (arith, less)

is_first : {X : Type 0} (x y : X) (k : ℕ) → slice_get (x ∷ []) k ≡ Some y → x ≡ y
is_first x y k at = same_Some x y (sym (ap (slice_get (x ∷ [])) (at_first x y k at)) ∙ at)

distinct : (b : BookState) → AreDistinct (b ∷ [])
distinct b i k x y at there same = at_first b x i at ∙ sym (at_first b y k there)

-- ---- one founder

own : (id other : ℕ) → set.contains (set.from_list {R = nat_cmp} (id ∷ [])) other ≡ true → id ≡ other
own id other listed = by (id == other) refl
  where
    by : (t : Bool) → (id == other) ≡ t → id ≡ other
    by true is = eqb-true id other is
    by false is =
        let none : false ≡ true = ap (λ (t : Bool). t || false) (sym is) ∙ sym (set.contains-from_list_nat (id ∷ []) other) ∙ listed in
        absurd (cc)

founder : (id : ℕ) → founders_for id (id ∷ []) ≡ Some (id ∷ [])
founder id = ap (λ (k : Bool). let o : Option (List ℕ) = cond k (Some (id ∷ [])) None in o) (has_at (id ∷ []) 0 0 (omega arith))

over : AreOver {M = Message} ([] ∷ [])
over zero d less = refl
over (suc k) d less = absurd (omega (arith, less))

module _ (b : BookState) (founders : b.founders ≡ Some (b.id ∷ [])) where
  agree_on : AgreeOn (b ∷ []) b.version b.config (b.id ∷ [])
  agree_on = record {
    taken = refl;
    versions = λ k x at. ap (λ (y : BookState). y.version) (sym (is_first b x k at));
    heads = λ k x at.
        subst (λ (y : BookState). (y.config ≡ b.config) × (y.founders ≡ founders_for y.id (b.id ∷ []))) (is_first b x k at)
        (refl, founders ∙ sym (founder b.id));
    there = λ id listed. record { place = 0; book = b; at = refl; of = own b.id id listed };
  }

  agree : Agree (b ∷ [])
  agree = (b.version, b.config, b.id ∷ [], agree_on)

  module _ (replay : IsReplay b) (none : b.desk.journal ≡ []) where
    trace : IsTrace b []
    trace =
        let start : BookState = new_book b.version b.id b.config b.founders replay.first in
        record {
          first = replay.first;
          begun = replay.begun;
          rest = [];
          trace = subst (λ (es : List Entry). IsTraceFrom start es [] b) (sym none) (refl, subst (λ es. Replays start es b) none replay.replayed);
          is = ap (λ (o : Option (List ℕ)). entering b o ++ []) (sym founders);
        }

    merge : Merge (b ∷ [])
    merge = record {
      lists = [] ∷ [];
      traces = record {
        each = λ k x at. ([], ap (slice_get ([] ∷ [])) (at_first b x k at), subst (λ (y : BookState). IsTrace y []) (is_first b x k at) trace);
        few = λ k steps at. (b, ap (slice_get (b ∷ [])) (at_first {X = List (Step Message)} [] steps k at));
      };
      merges = Over over;
    }

    -- nothing but want of memory refuses it
    pub alone : (fault : GatherFault) → AreRefused (b ∷ []) fault → fault ≡ OutOfMemory
    alone (Journal place fault) h = absurd h
    alone IdUsed h = absurd (h (distinct b))
    alone BadFounders h = absurd (h.1 agree)
    alone NeverSent h = absurd (h.2 merge)
    alone OutOfMemory h = refl
