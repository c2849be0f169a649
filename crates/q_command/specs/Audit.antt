-- What a journal tells, and why bytes are none.
use Rattle.std.specs.Prelude.{◌≡◌, ℕ, suc, List, [], ◌∷◌, ◌++◌, codes, Option, Some, None}
use Rattle.std.specs.Fmt.{decimal}
use Rattle.q_session.specs.declared.query.Query.{Query}
use Rattle.q_session.specs.declared.ran.Ran.{Ran}
use Rattle.q_desk.specs.Desks.{answer_in}
use Rattle.q_book.specs.State.{BookState}
use Rattle.q_replay.specs.Journal.{journal_of, IsJournalled}
use Rattle.q_replay.specs.Replayed.{IsFault}
use Rattle.q_told.specs.declared.refusal.Refusal.{Refusal}
use Rattle.q_told.specs.declared.refusal.Refusal.TheVariants as refusal

-- the answer of the query of this number, if it is recorded
abbrev pub answer_line : ℕ → Option Ran → List ℕ
answer_line number None = []
answer_line number (Some ran) = codes "answer " ++ (decimal number ++ (32 ∷ (decimal ran.acc ++ (32 ∷ (decimal ran.steps ++ 10 ∷ [])))))

-- those of queries whose numbers begin at this one
abbrev pub answer_lines : ℕ → List Query → List ℕ
answer_lines first [] = []
answer_lines first (q ∷ qs) = answer_line first (answer_in q.phase) ++ answer_lines (suc first) qs

-- The bytes are the journal of a node's book, whose recorded answers are right, and the lines are those answers by the
-- numbers of their queries.
pub record Audits (bytes lines : List ℕ) : Type 0 where
  pub book : BookState
  pub journal : bytes ≡ journal_of book
  pub journalled : IsJournalled book
  pub told : lines ≡ answer_lines 0 book.desk.queries ++ codes "journal ok\n"

-- why the bytes are no journal
abbrev pub IsUnaudited : List ℕ → Refusal → Type 0
IsUnaudited bytes (refusal.Journal f) = IsFault bytes f
IsUnaudited bytes refusal.OutOfMemory = Unit {0}
IsUnaudited bytes r = ⊥
