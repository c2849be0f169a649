-- worked: what the definitions say at telling operands, of a book whose journal is a hand-out and a leave.
use Rattle.std.proofs.Common.{◌≡◌, ℕ, List, [], ◌∷◌, ◌++◌, Bool, length, take, Option, Some, arith, sym, ap, ◌∙◌, subst, append_assoc}
use Rattle.std.proofs.lemmas.List.{append_cancel_left}
use Rattle.std.specs.Io.KnownBytes.{Appends}
use Rattle.std.specs.Prelude.{if◌then◌else◌}
use Rattle.spelling.specs.Numbers.{number_bytes}
use Rattle.q_desk.specs.declared.journal.Call.TheVariants as call
use Rattle.q_desk.specs.declared.journal.Entry.{Entry}
use Rattle.q_desk.specs.declared.journal.Entry.TheVariants as entry
use Rattle.q_book.specs.State.{BookState}
use Rattle.q_replay.specs.Spelling.{head_bytes}
use Rattle.q_replay.specs.Journal.{head_of, entries_bytes, journal_of}
use Rattle.q_kept.specs.Recording.{recorded_bytes}
use Rattle.q_kept.specs.Sample.{both}
use Rattle.q_kept.proofs.worked_recorder.worked.Goals as goal

-- behind an empty file the part is all that is there
part_is : (file : Option (List ℕ)) (all part : List ℕ) → file ≡ Some all → Appends (Some []) file part → all ≡ part
part_is file all part is h = let k = subst (λ (f : Option (List ℕ)). Appends (Some []) f part) is h in k

nothing_is_no_head : (xs : List ℕ) → [] ≡ 0x42 ∷ xs → ⊥
nothing_is_no_head xs e = absurd (cc)

-- in an empty file no head stands
pub returns-clause-no_head : goal.returns-clause-no_head
returns-clause-no_head _ = λ r b begun sound file i.
    let there : [] ≡ recorded_bytes r b = part_is r.file [] (recorded_bytes r b) file (i.whole sound) in
    nothing_is_no_head _ (there ∙ ap (λ (t : Bool). if t then head_bytes (head_of b) ++ entries_bytes b.version (take r.written b.desk.journal) else []) begun)

leave_is_no_hand_out : (xs ys : List ℕ) → 1 ∷ xs ≡ 6 ∷ ys → ⊥
leave_is_no_hand_out xs ys e = absurd (cc)

-- behind the head no leave stands where a hand-out comes first
pub returns-clause-no_hole : goal.returns-clause-no_hole
returns-clause-no_hole _ = λ r b journal file i.
    let p = i.beginning in
    let head : List ℕ = head_bytes (head_of b) in
    let leave : List ℕ = 1 ∷ 0 ∷ 0 ∷ 0 ∷ 0 ∷ [] in
    let told = part_is r.file (head ++ leave) p.part file p.appended in
    let whole = ap (λ (l : List ℕ). l ++ p.rest) told ∙ p.parts ∙ ap (λ (l : List Entry). head ++ entries_bytes b.version l) journal in
    leave_is_no_hand_out _ _ (append_cancel_left head (leave ++ p.rest) _ (sym (append_assoc head leave p.rest) ∙ whole))

-- a recorder that did not begin says that the file holds nothing
pub returns-clause-not_again : goal.returns-clause-not_again
returns-clause-not_again _ = λ r b file begun sound i.
    let there : journal_of b ≡ recorded_bytes r b = part_is r.file (journal_of b) (recorded_bytes r b) file (i.whole sound) in
    let nothing : recorded_bytes r b ≡ [] =
    ap (λ (t : Bool). if t then head_bytes (head_of b) ++ entries_bytes b.version (take r.written b.desk.journal) else []) begun in
    nothing_is_no_head _ (sym (there ∙ nothing))

-- the bytes of a hand-out and a leave are not those of a hand-out
longer : (b : BookState) → entries_bytes b.version (entry.Call call.HandOut ∷ entry.Call call.Leave ∷ []) ≡ 6 ∷ 0 ∷ 0 ∷ 0 ∷ 0 ∷ [] → ⊥
unfolding number_bytes
longer b e = let n : 10 ≡ 5 = ap length e in omega (arith, n)

-- a recorder of one entry says that the file holds the first alone
pub returns-clause-not_from_one : goal.returns-clause-not_from_one
unfolding number_bytes
returns-clause-not_from_one _ = λ r b journal file begun one sound i.
    let head : List ℕ = head_bytes (head_of b) in
    let there : journal_of b ≡ recorded_bytes r b = part_is r.file (journal_of b) (recorded_bytes r b) file (i.whole sound) in
    let first : recorded_bytes r b ≡ head ++ entries_bytes b.version (take 1 both) =
    ap (λ (t : Bool). if t then head ++ entries_bytes b.version (take r.written b.desk.journal) else []) begun
    ∙ ap (λ (n : ℕ). head ++ entries_bytes b.version (take n b.desk.journal)) one
    ∙ ap (λ (es : List Entry). head ++ entries_bytes b.version (take 1 es)) journal in
    let all : journal_of b ≡ head ++ entries_bytes b.version both = ap (λ (es : List Entry). head ++ entries_bytes b.version es) journal in
    longer b (append_cancel_left head _ _ (sym all ∙ there ∙ first))
