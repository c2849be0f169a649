-- A query's own job passes the test by which a post finds its query.
use Rattle.std.proofs.Common.{◌≡◌, ℕ, ◌==◌, true, List, [], ◌∷◌, Option, Some, None, refl, ap, ◌∙◌, slice_get, bytes_eq}
use Rattle.std.proofs.lemmas.Bool.{eq-eqb, and_from}
use Rattle.std.proofs.lemmas.Slice.Eq.{bytes_eq-Decides}
use Rattle.std.specs.Cmp.Lexicographic.{pointwise}
use Rattle.std.specs.FinMap as fin
use Rattle.sc_view.specs.declared.view.Stored.{Stored}
use Rattle.sc_view.specs.Views.{ViewMap}
use Rattle.bq_check.specs.Certificate.{Certificate}
use Rattle.q_session.specs.declared.query.Query.{Query}
use Rattle.q_session.specs.declared.job.Job.{Job}
use Rattle.q_desk.specs.Desks as desk

abbrev pub job_by : ℕ → ℕ → Query → ViewMap → Certificate → Job
job_by node k q view program = record { node = node; query = k; program = q.program; start = q.start; certified = program; view = view }

-- a program that is the same as one that may be there is there
pub some_program : (c : Certificate) (o : Option Certificate) → desk.is_same_program c o ≡ true → (program : Certificate) × (o ≡ Some program)
some_program c None h = absurd (cc)
some_program c (Some program) h = (program, refl)

pub same_bytes : (xs : List ℕ) → bytes_eq xs xs ≡ true
same_bytes xs = (bytes_eq-Decides xs xs).1 refl

pub same_number : (n : ℕ) → (n == n) ≡ true
same_number n = eq-eqb n n refl

same_entry : (a : ℕ × Stored) → desk.is_same_entry a a ≡ true
same_entry a =
    and_from (a.0 == a.0) _ (same_number a.0)
    (and_from (a.1.number == a.1.number) _ (same_number a.1.number) (same_bytes a.1.value))

same_entries : (xs : List (ℕ × Stored)) → pointwise desk.is_same_entry xs xs ≡ true
same_entries [] = refl
same_entries (x ∷ xs) = and_from (desk.is_same_entry x x) _ (same_entry x) (same_entries xs)

-- a query's own job is its
pub own_fits : (programs : List Certificate) (node k : ℕ) (q : Query) (view : ViewMap) (program : Certificate) → slice_get programs q.program ≡ Some program
    → desk.is_same_program program (Some program) ≡ true → desk.is_job_of programs (job_by node k q view program) q view ≡ true
own_fits programs node k q view program named same =
    and_from (q.program == q.program) _ (same_number q.program)
    (and_from (q.start == q.start) _ (same_number q.start)
    (and_from (desk.is_same_view view view) _ (same_entries (fin.entries view))
    (ap (desk.is_same_program program) named ∙ same)))
