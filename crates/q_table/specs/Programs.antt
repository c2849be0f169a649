-- Programs: certificates of distinct texts, in the order in which they were registered. A program's id is its place.
use Rattle.std.specs.Prelude.{◌≡◌, ℕ, ◌≤◌, ◌-◌, ◌^◌, min, Bool, bytes_eq, nat_lt, List, [], ◌∷◌, ◌++◌, length, position, slice_get, Option, Some, None, Result, Ok, Err, if◌then◌else◌}
use Rattle.std.specs.List.{AllByRecursion}
use Rattle.bq_insn.specs.declared.insn.Insn.{Insn}
use Rattle.bq_insn.specs.Slots.{spelling}
use Rattle.bq_check.specs.Certificate.{Certificate}
use Rattle.reasons.specs.declared.Reason.{Reason}
use Rattle.reasons.specs.declared.Reason.TheVariants as reasons

-- at most so many programs
abbrev pub most_programs : ℕ
most_programs = 1024

-- the program of this number; a number that is too large is that of no program
abbrev pub program_id : ℕ → ℕ
program_id number = min number (2 ^ 32 - 1)

-- two texts are one where their bytes are the same
abbrev pub is_same_text : List Insn → List Insn → Bool
is_same_text a b = bytes_eq (spelling a) (spelling b)

-- the id of a text
abbrev pub id_of : List Certificate → List Insn → Option ℕ
id_of programs text = position (λ c. is_same_text text c.text) programs

abbrev pub registered_at : List Certificate → Certificate → Option ℕ → Result (ℕ × List Certificate) Reason
registered_at programs c (Some id) = Ok (id, programs)
registered_at programs c None =
    if nat_lt (length programs) most_programs then Ok (length programs, programs ++ c ∷ []) else Err reasons.TableFull

-- A text that is there keeps its id and its first certificate; a new one gets the next id.
abbrev pub registered : List Certificate → Certificate → Result (ℕ × List Certificate) Reason
registered programs c = registered_at programs c (id_of programs c.text)

abbrev pub checked_by : Result (ℕ × List Certificate) Reason → Result (Unit {0}) Reason
checked_by (Ok r) = Ok tt
checked_by (Err e) = Err e

-- whether it may be registered
abbrev pub checked : List Certificate → Certificate → Result (Unit {0}) Reason
checked programs c = checked_by (registered programs c)

-- no text comes twice
abbrev pub AreDistinct : List Certificate → Type 0
AreDistinct programs = (i k : ℕ) (a b : Certificate) → slice_get programs i ≡ Some a → slice_get programs k ≡ Some b → a.text ≡ b.text → i ≡ k

-- what each table keeps
pub record IsTable (programs : List Certificate) : Type 0 where
  pub few : length programs ≤ most_programs
  pub distinct : AreDistinct programs

-- each program stands beside the bytes of its text
abbrev pub AreSpelled : List (List ℕ × Certificate) → Type 0
AreSpelled entries = AllByRecursion (λ e. e.0 ≡ spelling e.1.text) entries
