-- A table of operations, as the entries of a tree.
use Rattle.std.proofs.Common.{◌≡◌, ℕ, Bool, true, false, cond, List, Option, Some, None, Result, Ok, Err, OnErr, refl, sym, ap, ◌∙◌}
use Rattle.std.proofs.lemmas.Bool.{eqb-true}
use Rattle.std.specs.Ordering.{nat_cmp}
use Rattle.std.specs.Cmp.{nat_cmp_total, eq_by_cmp_equiv, unsigned_tied}
use Rattle.std.specs.FinMap as fin
use Rattle.std.specs.BTreeMap.{is_at}
use Rattle.forms.proofs.Maps.{found, get_found, one_written}
use Rattle.sc_operations.specs.declared.session.Session.{Session}
use Rattle.sc_operations.specs.declared.progress.Advance.{Advance}
use Rattle.sc_operations.specs.declared.progress.Advance.TheVariants as advance
use Rattle.sc_operations.specs.declared.progress.Progress.{Progress}
use Rattle.sc_operations.specs.Sessions.{advanced_by, ends, ended_at, session_moved, sessions_after}

abbrev Table : Type 0
Table = fin.FinMap nat_cmp Session

module _ {X : Type 0} where
  -- the same entries make the same map
  pub none_written : (es fs : List (ℕ × X)) → ((q : ℕ) → found fs q ≡ found es q) → fin.from_entries {R = nat_cmp} fs ≡ fin.from_entries es
  none_written es fs h = fin.same_map nat_cmp_total fin.nat_cmp-IsAntisymmetric _ _ (λ q. get_found fs q ∙ h q ∙ sym (get_found es q))

  written_back : (es : List (ℕ × X)) (k q : ℕ) (v : X) (b : Bool) → is_at (nat_cmp k) q ≡ b → Some v ≡ found es k → cond b (Some v) (found es q) ≡ found es q
  written_back es k q v false is at = refl
  written_back es k q v true is at = at ∙ ap (found es) (eqb-true k q (sym (unsigned_tied k q) ∙ is))

  -- to write back what was there changes nothing
  pub unchanged : (es fs : List (ℕ × X)) (k : ℕ) (v : X) → Some v ≡ found es k
      → ((q : ℕ) → found fs q ≡ cond (is_at (nat_cmp k) q) (Some v) (found es q)) → fin.from_entries {R = nat_cmp} fs ≡ fin.from_entries es
  unchanged es fs k v at writes = none_written es fs (λ q. writes q ∙ written_back es k q v (is_at (nat_cmp k) q) refl at)

  -- entries that lack one key make the map without it
  pub one_removed : (es fs : List (ℕ × X)) (k : ℕ) → ((q : ℕ) → found fs q ≡ cond (is_at (nat_cmp k) q) None (found es q))
      → fin.from_entries {R = nat_cmp} fs ≡ fin.remove (fin.from_entries es) k
  one_removed es fs k h = fin.same_map nat_cmp_total fin.nat_cmp-IsAntisymmetric _ _ (λ q.
      get_found fs q ∙ h q ∙ ap (λ b. cond b None (found es q)) ((eq_by_cmp_equiv nat_cmp_total).symm k q)
      ∙ sym (fin.get-remove nat_cmp_total (fin.from_entries es) k q ∙ ap (cond (is_at (nat_cmp q) k) None) (get_found es q)))

pub on_err : {A E P : Type 0} (r : Result A E) → P → OnErr r P
on_err (Ok x) p = tt
on_err (Err e) p = p

abbrev pub progress : ℕ → ℕ → Advance → Progress
progress tag sender a = record { tag = tag; sender = sender; advance = a }

module _ (es : List (ℕ × Session)) (old : Table) (is : fin.from_entries es ≡ old) (tag : ℕ) where
  pub at : (o : Option Session) → o ≡ found es tag → fin.get old tag ≡ o
  at o found_at = sym (ap (λ (m : Table). fin.get m tag) is) ∙ get_found es tag ∙ sym found_at

  pub none_moved : (sender : ℕ) (a : Advance) → None ≡ found es tag → fin.from_entries es ≡ sessions_after old (Some (progress tag sender a))
  none_moved sender a h = is ∙ sym (ap (session_moved old (progress tag sender a)) (at None h))

  module _ (fs : List (ℕ × Session)) (sender : ℕ) (s : Session) (here : Some s ≡ found es tag) where
    pub one_moved : (a : Advance) (s' : Session) → ((q : ℕ) → found fs q ≡ cond (is_at (nat_cmp tag) q) (Some s') (found es q))
        → ends a ≡ false → s' ≡ advanced_by sender a s → fin.from_entries fs ≡ sessions_after old (Some (progress tag sender a))
    one_moved a s' writes goes_on moved =
        one_written es fs tag s' writes ∙ ap (λ (m : Table). fin.insert m tag s') is ∙ ap (fin.insert old tag) moved
        ∙ sym (ap (session_moved old (progress tag sender a)) (at (Some s) here)
        ∙ ap (λ b. cond b (fin.remove old tag) (fin.insert old tag (advanced_by sender a s))) goes_on)

    pub one_ended : ((q : ℕ) → found fs q ≡ cond (is_at (nat_cmp tag) q) None (found es q))
        → fin.from_entries fs ≡ sessions_after old (Some (progress tag sender advance.Ended))
    one_ended writes =
        one_removed es fs tag writes ∙ ap (λ (m : Table). fin.remove m tag) is
        ∙ sym (ap (session_moved old (progress tag sender advance.Ended)) (at (Some s) here))

  pub ended_here : (o : Option Session) → o ≡ found es tag → ended_at tag advance.Ended o ≡ ended_at tag advance.Ended (fin.get old tag)
  ended_here o h = sym (ap (ended_at tag advance.Ended) (at o h))
