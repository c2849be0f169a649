-- Which outcomes are wrong: an answer that is left out, and what is told as gathered where a refusal was written.
use Rattle.std.specs.Prelude.{Bool, false, List, [], ◌∷◌, ◌++◌, Some, length, drop, get_or, codes}
use Rattle.std.proofs.Common.{◌≡◌, ◌<◌, ℕ, sym, ap, ◌∙◌, append_assoc, length-append, flat_map, arith}
use lib.Seq.{drop-append_seam}
use Rattle.std.specs.Fmt.{digits}
use Rattle.std.specs.FinMap as fin
use Rattle.sc_view.specs.Views.{ViewMap}
use Rattle.q_session.specs.declared.query.Phase.TheVariants.{Answered, Collecting}
use Rattle.q_session.specs.declared.query.Query.{Query}
use Rattle.q_session.specs.declared.ran.Ran.{Ran}
use Rattle.q_book.specs.State.{BookState}
use Rattle.q_outside.specs.Memory.{Reads}
use Rattle.q_outside.specs.declared.memory_files.MemoryFiles.{MemoryFiles}
use Rattle.q_history.specs.Headline.{ClusterState}
use Rattle.q_command.specs.JournalFiles.{IsWritten, books_of, longest_journal, source_line}
use Rattle.q_command.specs.GatheredLines.{answer_line, answer_lines, answers_of, store_text}
use Rattle.q_command.specs.Tells.{Tells}
use Rattle.q_command.specs.declared.gathered_ending.GatherEnding.TheVariants.{Gathered}

-- ---- answers

pub second : (b : BookState) (q r : Query) (view : ViewMap) → b.id ≡ 4 → b.desk.queries ≡ q ∷ r ∷ [] → q.phase ≡ Collecting
    → r.phase ≡ Answered view (record { acc = 3; steps = 9 }) → fin.entries view ≡ [] → answers_of (b ∷ []) ≡ codes "answer 4 1 3 9 view\n"
unfolding digits
second b q r view id queries first next entries =
    (λ j. answer_lines (id j) 0 (queries j) ++ [])
    ∙ (λ j. (answer_line 4 0 (first j) ++ (answer_line 4 1 (next j) ++ [])) ++ [])
    ∙ (λ j. ((codes "answer 4 1 3 9 view" ++ (flat_map store_text (entries j) ++ 10 ∷ [])) ++ []) ++ [])

-- the line of a recorded answer has bytes
has_bytes : (node number : ℕ) (view : ViewMap) (ran : Ran) → 0 < length (answer_line node number (Answered view ran))
has_bytes node number view ran = omega arith

pub not_dropped : (c : ClusterState) (b : BookState) (q : Query) (view : ViewMap) (ran : Ran) → b.desk.queries ≡ q ∷ [] → q.phase ≡ Answered view ran
    → Tells c (b ∷ []) false (codes "journals ok\n") → ⊥
not_dropped c b q view ran queries phase h =
    let line : List ℕ = answer_line b.id 0 (Answered view ran) in
    let lines : answers_of (b ∷ []) ≡ (line ++ []) ++ [] =
    (λ j. answer_lines b.id 0 (queries j) ++ []) ∙ (λ j. (answer_line b.id 0 (phase j) ++ []) ++ []) in
    let end : List ℕ = codes "journals ok\n" in
    omega (
      arith,
      has_bytes b.id 0 view ran,
      ap length h.says,
      length-append (answers_of (b ∷ [])) (h.met ++ end),
      length-append h.met end,
      ap length lines,
      length-append (line ++ []) [],
      length-append line [],
    )

-- ---- files

-- the line of a refusal does not end as what is told
other_end : (front : List ℕ) → codes "refused 87 FileFailed\n" ≡ front ++ codes "journals ok\n" → ⊥
other_end front is =
    let line : List ℕ = codes "refused 87 FileFailed\n" in
    let end : List ℕ = codes "journals ok\n" in
    let ten : length front ≡ 10 = omega (arith, ap length is, length-append front end) in
    let behind : drop 10 line ≡ end = ap (λ (n : ℕ). drop n line) (sym ten) ∙ ap (drop (length front)) is ∙ drop-append_seam front end in
    let first : 32 ≡ 106 = ap (λ (x : List ℕ). get_or x 0 0) behind in
    omega (arith, first)

pub not_gathered : (names : List (List ℕ)) (pairs : Bool) (old new : MemoryFiles)
    → IsWritten (Reads longest_journal) names pairs old (Some []) Gathered new (Some (codes "refused 87 FileFailed\n")) → ⊥
not_gathered names pairs old new h =
    let tells = h.1 in
    let answers : List ℕ = answers_of (books_of tells.sources) in
    let met : List ℕ = tells.tells.met in
    let files : List ℕ = flat_map source_line tells.sources in
    let end : List ℕ = codes "journals ok\n" in
    other_end (files ++ (answers ++ met))
    (h.2 ∙ tells.says ∙ ap (λ (x : List ℕ). files ++ x) (tells.tells.says ∙ sym (append_assoc answers met end)) ∙ sym (append_assoc files (answers ++ met) end))
