-- When two views are the same, and what an answer is worth then.
use Rattle.std.proofs.Common.{◌≡◌, ℕ, true, List, [], ◌∷◌, refl, subst, ◌==◌}
use Rattle.std.proofs.lemmas.Bool.{false≢true}
use Rattle.std.proofs.lemmas.Slice.Eq.{bytes_eq-Decides}
use Rattle.std.specs.Cmp.{first_so, second_so, unsigned_Decides}
use Rattle.std.specs.Cmp.Lexicographic.{pointwise}
use Rattle.std.specs.FinMap as fin
use Rattle.sc_view.specs.declared.view.Stored.{Stored}
use Rattle.sc_view.specs.Views.{ViewMap}
use Rattle.bq_meaning.specs.Answers.{IsAnswer}
use Rattle.bq_insn.specs.declared.insn.Insn.{Insn}
use Rattle.bq_check.specs.Certificate.{Certificate}
use Rattle.bq_check.specs.Certified.{IsCertified}
use Rattle.q_session.specs.Records.{view_records}
use Rattle.q_session.specs.Right.{IsRight}
use Rattle.q_session.specs.declared.ran.Ran.{Ran}
use Rattle.q_session.specs.Same.{is_same_entry, is_same_view}

same-entry : (a b : ℕ × Stored) → is_same_entry a b ≡ true → a ≡ b
same-entry a b h =
    let t = second_so (a.0 == b.0) _ h in
    let id = (unsigned_Decides a.0 b.0).0 (first_so (a.0 == b.0) _ h) in
    let number = (unsigned_Decides a.1.number b.1.number).0 (first_so (a.1.number == b.1.number) _ t) in
    let value = (bytes_eq-Decides a.1.value b.1.value).0 (second_so (a.1.number == b.1.number) _ t) in
    λ i. (id i, record { number = number i; value = value i })

same-entries : (xs ys : List (ℕ × Stored)) → pointwise is_same_entry xs ys ≡ true → xs ≡ ys
same-entries [] [] h = refl
same-entries [] (y ∷ ys) h = absurd (false≢true h)
same-entries (x ∷ xs) [] h = absurd (false≢true h)
same-entries (x ∷ xs) (y ∷ ys) h =
    let head = same-entry x y (first_so (is_same_entry x y) _ h) in
    let rest = same-entries xs ys (second_so (is_same_entry x y) _ h) in
    λ i. head i ∷ rest i

pub same-view : (v w : ViewMap) → is_same_view v w ≡ true → v ≡ w
same-view v w h = fin.same_entries_map v w (same-entries (fin.entries v) (fin.entries w) h)

-- a right answer is that of each certified program with this text and longest path
pub right-of_same : (c d : Certificate) (view : ViewMap) (start : ℕ) (ran : Ran) → IsCertified d → c.text ≡ d.text → c.longest ≡ d.longest
    → IsRight c view start ran → IsRight d view start ran
right-of_same c d view start ran certified text longest r = record {
  certified = certified;
  meant = subst (λ (t : List Insn). IsAnswer t (view_records view) start ran.acc ran.steps) text r.meant;
  within = rw (← longest) r.within;
}
