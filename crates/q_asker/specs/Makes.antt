-- The request that a line makes, and why it makes none.
use Rattle.std.specs.Prelude.{◌≡◌, ◌⊎◌, ℕ, ◌<◌, List, length}
use Rattle.reasons.specs.declared.Reason.{Reason}
use Rattle.reasons.specs.declared.Reason.TheVariants as reasons
use Rattle.bq_check.specs.Certificate.{Certificate}
use Rattle.bq_check.specs.Spelling.{notes_bytes}
use Rattle.bq_check.specs.declared.form.NotesForm.TheVariants as form
use Rattle.q_told.specs.Programs.{IsProgram, IsRefusal}
use Rattle.q_told.specs.Refusal as refusal
use Rattle.q_told.specs.declared.refusal.RefusalPlace.{RefusalPlace}
use Rattle.q_told.specs.declared.refusal.RefusalPlace.TheVariants.{Untold}
use Rattle.q_told.specs.declared.refusal.Refusal.{Refusal}
use Rattle.q_table.specs.Programs.{program_id}
use Rattle.q_net.specs.declared.request.Request.{Request}
use Rattle.q_net.specs.declared.request.Request.TheVariants as request
use Rattle.q_asker.specs.declared.script.ClientLine.{ClientLine}
use Rattle.q_asker.specs.declared.script.ClientLine.TheVariants as line

-- the most bytes of a value in a request
abbrev pub most_value : ℕ
most_value = 255

-- the request registers the program of these bytes, with the verifier's notes for records of 16 to 128 bytes
abbrev pub IsRegistration : List ℕ → Request → Type 0
IsRegistration code r =
    (program : Certificate) × IsProgram code program
    × (r ≡ request.Register code (notes_bytes form.Second program.notes))

-- the request of a line
abbrev pub Makes : ClientLine → Request → Type 0
Makes (line.Program code) r = IsRegistration code.items r
Makes (line.Store value) r = r ≡ request.StoreOf value.items
Makes (line.Ask program start) r = r ≡ request.Ask (program_id program) start

-- why a line has none: its bytes are no program that the verifier takes, or its value is too long for a request
abbrev pub IsUnfit : ClientLine → Reason → RefusalPlace → Type 0
IsUnfit (line.Program code) why at =
    (r : Refusal) × IsRefusal code.items r × (why ≡ refusal.reason r) × (at ≡ refusal.place r)
IsUnfit (line.Store value) why at = (most_value < length value.items) × (why ≡ reasons.BadValue) × (at ≡ Untold)
IsUnfit (line.Ask program start) why at = ⊥

-- memory ran out
abbrev pub IsMemory : Reason → RefusalPlace → Type 0
IsMemory why at = (why ≡ reasons.OutOfMemory) × (at ≡ Untold)

-- why no request was made of a line
abbrev pub MakesNone : ClientLine → Reason → RefusalPlace → Type 0
MakesNone l why at = IsMemory why at ⊎ IsUnfit l why at
