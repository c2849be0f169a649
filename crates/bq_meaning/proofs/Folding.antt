-- Folds over records: one outcome, and one record more.
use Rattle.std.proofs.Common.{◌≡◌, ℕ, ◌+◌, arith, refl, sym, ◌∙◌, subst, List, [], ◌∷◌, ◌++◌, inl}
use Rattle.bq_insn.specs.declared.insn.Insn.{Insn}
use Rattle.bq_meaning.specs.Place.{Place, IsPlacement}
use Rattle.bq_meaning.specs.Runs.{RecordRun, entry_machine}
use Rattle.bq_meaning.specs.Answers.{FoldsTo, IsAnswer, zero_frame}
use Rattle.bq_meaning.proofs.Once.{same_end}

pub same_fold : (p : Place) (text : List Insn) (records : List (List ℕ)) (acc : ℕ) (frame : List ℕ) (answer steps other count : ℕ)
    (after left : List ℕ) → FoldsTo p text records acc frame answer steps after → FoldsTo p text records acc frame other count left
    → (answer ≡ other) × (steps ≡ count) × (after ≡ left)
same_fold p text [] acc frame answer steps other count after left h i = (h.0 ∙ sym i.0, h.1 ∙ sym i.1, h.2 ∙ sym i.2)
same_fold p text (r ∷ rs) acc frame answer steps other count after left (n, next, middle, rest, run, fold, sum) (m, next', middle', rest', run', fold', sum') =
    let same = same_end p text n m (entry_machine p acc r frame) next next' middle middle' run.runs run'.runs in
    let moved : FoldsTo p text rs next middle other rest' left =
    subst (λ x. FoldsTo p text rs next x other rest' left) (sym same.2) (subst (λ x. FoldsTo p text rs x middle' other rest' left) (sym same.1) fold') in
    let tail = same_fold p text rs next middle answer rest other rest' after left fold moved in
    let counts : steps ≡ count = let a = same.0 in let b = tail.1 in omega arith in
    (tail.0, counts, tail.2)

pub one_more : (p : Place) (text : List Insn) (records : List (List ℕ)) (bytes : List ℕ) (acc : ℕ) (frame : List ℕ) (middle steps : ℕ)
    (between : List ℕ) (n answer : ℕ) (after : List ℕ) → FoldsTo p text records acc frame middle steps between
    → RecordRun p text middle bytes between n answer after → FoldsTo p text (records ++ bytes ∷ []) acc frame answer (steps + n) after
one_more p text [] bytes acc frame middle steps between n answer after h run =
    let from_acc : RecordRun p text acc bytes between n answer after = subst (λ a. RecordRun p text a bytes between n answer after) h.0 run in
    let from_frame : RecordRun p text acc bytes frame n answer after = subst (λ f. RecordRun p text acc bytes f n answer after) h.2 from_acc in
    let sum : steps + n ≡ n + 0 = let e = h.1 in omega arith in
    (n, answer, after, 0, from_frame, (refl, refl, refl), sum)
one_more p text (r ∷ rs) bytes acc frame middle steps between n answer after (k, next, left, rest, first, fold, sum) run =
    let more = one_more p text rs bytes next left middle rest between n answer after fold run in
    let total : steps + n ≡ k + (rest + n) = omega arith in
    (k, next, left, rest + n, first, more, total)

-- a placement
here : Place
here = record { frame = 4096; «record» = 8192 }

here_is : IsPlacement here
unfolding here
here_is = record { frame_fits = omega arith; record_fits = omega arith; apart = inl (omega arith) }

pub same_answer : (text : List Insn) (records : List (List ℕ)) (start answer steps other count : ℕ) → IsAnswer text records start answer steps
    → IsAnswer text records start other count → (answer ≡ other) × (steps ≡ count)
same_answer text records start answer steps other count h i =
    let a = h here here_is in
    let b = i here here_is in
    let same = same_fold here text records start zero_frame answer steps other count a.0 b.0 a.1 b.1 in
    (same.0, same.1)
