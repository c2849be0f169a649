-- audit: replays the journal of a node, and answers the lines of the answers that the node recorded.
use Rattle.std.proofs.Common.{◌≡◌, ◌++◌, ℕ, List, Result, Ok, Err, IfOk, IfErr, codes, sym, subst, string_bytes}
use Rattle.q_book.specs.State.{BookState}
use Rattle.q_replay.specs.Journal.{journal_of, IsJournalled}
use Rattle.q_told.specs.declared.refusal.Refusal.{Refusal}
use Rattle.q_told.specs.declared.refusal.Refusal.TheVariants.{OutOfMemory}
use Rattle.q_command.specs.Audit.{Audits, IsUnaudited, answer_lines}
use Rattle.q_command.proofs.auditor.audit.Goals as goal

audited : {A : Type 0} (f : A → List ℕ) (bytes : List ℕ) (b : BookState) (r : Result A Refusal) → bytes ≡ journal_of b → IsJournalled b
    → IfOk r (λ x. f x ≡ answer_lines 0 b.desk.queries ++ codes "journal ok\n") → IfOk r (λ x. Audits bytes (f x))
audited f bytes b (Ok x) spelled journalled told = record { book = b; journal = spelled; journalled = journalled; told = told }
audited f bytes b (Err e) spelled journalled told = tt

refused : {A : Type 0} (bytes : List ℕ) (r : Result A Refusal) → IfErr r (λ e. e ≡ OutOfMemory) → IfErr r (IsUnaudited bytes)
refused bytes (Ok x) h = tt
refused bytes (Err e) h = subst (IsUnaudited bytes) (sym h) tt

pub returns-clause-audited : goal.returns-clause-audited
returns-clause-audited c =
    audited string_bytes c.args.bytes.now c.in_ok-book.book c.told.result c.in_ok-book.ensures.spelled c.in_ok-book.ensures.journalled c.told.ensures.told

pub returns-clause-refused : goal.returns-clause-refused
returns-clause-refused c = refused c.args.bytes.now c.told.result c.told.ensures.refused
