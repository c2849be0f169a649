-- A source spells one text at most, and one that spells a text has no fault.
use Rattle.std.proofs.Common.{◌≡◌, ℕ, ◌<◌, ◌≤◌, List, [], ◌∷◌, ◌++◌, Option, Some, None, refl, ap, sym, ◌∙◌, subst, inl, inr, ◌⊎◌, arith}
use Rattle.std.specs.Prelude.{pos, min, MatchOption, MatchResult, IfOk, IfErr, IsErrAnd, Result, Ok, Err}
use Rattle.std.specs.List.{AllZip}
use Rattle.bq_insn.specs.declared.insn.Insn.{Insn}
use Rattle.bq_insn.specs.Slots.{units, IsText}
use Rattle.bq_asm.specs.declared.fault.AsmFault.{AsmFault}
use Rattle.bq_asm.specs.declared.fault.AsmFault.TheVariants as faults
use Rattle.bq_asm.specs.Operands.{jump_insn}
use Rattle.bq_asm.specs.Line.{Statement, Complete, JumpTo, Line, Blank, Label, Instruction, Spells}
use Rattle.bq_asm.specs.Labels.{NoLine, IsFirstLine, IsRepeated, IsUnresolved, HasLabelFault, Mean, Means}
use Rattle.bq_asm.specs.Source.{lines_of, Says, IsSource, IsUnreadable, IsFault, HasOneFault}
use Rattle.bq_asm.specs.Steps.{IsLengthFault, least}
use Rattle.bq_asm.proofs.First.{first_above}
use Rattle.bq_asm.proofs.Said.{one_saying}

says_unique : (texts : List (List ℕ)) (v w : List Line) → AllZip Spells texts v → AllZip Spells texts w → v ≡ w
says_unique [] [] [] h k = refl
says_unique [] [] (y ∷ w) h k = absurd k
says_unique [] (x ∷ v) w h k = absurd h
says_unique (t ∷ texts) [] w h k = absurd h
says_unique (t ∷ texts) (x ∷ v) [] h k = absurd k
says_unique (t ∷ texts) (x ∷ v) (y ∷ w) h k =
    let e = one_saying t x y h.0 k.0 in
    let f = says_unique texts v w h.1 k.1 in
    ap (λ (z : Line). z ∷ v) e ∙ ap (λ (zs : List Line). y ∷ zs) f

means_unique : (s : Statement) (later : List Line) (i j : Insn) → Means s later i → Means s later j → i ≡ j
means_unique (Complete x) later i j h k = h ∙ sym k
means_unique (JumpTo x label) later i j h k =
    let e : ◌≡◌ {A = Option ℕ} (Some h.0) (Some k.0) = sym h.1 ∙ k.1 in
    let f : h.0 ≡ k.0 = cc in
    h.3 ∙ ap (λ (d : ℕ). jump_insn x (pos d)) f ∙ sym k.3

mean_unique : (lines : List Line) (t u : List Insn) → Mean lines t → Mean lines u → t ≡ u
mean_unique [] t u h k = h ∙ sym k
mean_unique (Blank ∷ lines) t u h k = mean_unique lines t u h k
mean_unique (Label label ∷ lines) t u h k = mean_unique lines t u h k
mean_unique (Instruction s ∷ lines) [] u h k = absurd h
mean_unique (Instruction s ∷ lines) (i ∷ t) [] h k = absurd k
mean_unique (Instruction s ∷ lines) (i ∷ t) (j ∷ u) h k =
    let e = means_unique s lines i j h.0 k.0 in
    let f = mean_unique lines t u h.1 k.1 in
    ap (λ (z : Insn). z ∷ t) e ∙ ap (λ (zs : List Insn). j ∷ zs) f

pub one_text : (source : List ℕ) (t u : List Insn) → IsSource source t → IsSource source u → t ≡ u
one_text source t u h k =
    mean_unique h.lines t u h.means (subst (λ lines. Mean lines u) (says_unique (lines_of source) k.lines h.lines k.says h.says) k.means)

-- ---- faults

no_unreadable : (before texts : List (List ℕ)) (v : List Line) (n : ℕ) → AllZip Spells texts v → IsFirstLine IsUnreadable before texts n → ⊥
no_unreadable before [] v n h f = f
no_unreadable before (t ∷ texts) [] n h f = h
no_unreadable before (t ∷ texts) (x ∷ v) n h (inl f) = f.0 x h.0
no_unreadable before (t ∷ texts) (x ∷ v) n h (inr f) = no_unreadable (before ++ t ∷ []) texts v n h.1 f.1

rest_of : (before : List Line) (line : Line) (lines : List Line) (t : List Insn) → Mean (line ∷ lines) t
    → (u : List Insn) × Mean lines u × (IsUnresolved before line lines → ⊥)
rest_of before Blank lines t m = (t, m, λ n. n)
rest_of before (Label label) lines t m = (t, m, λ n. n)
rest_of before (Instruction s) lines [] m = absurd m
rest_of before (Instruction s) lines (i ∷ t) m = (t, m.1, λ n. n i m.0)

no_label_fault : (before lines : List Line) (t : List Insn) (n : ℕ) → NoLine IsRepeated before lines → Mean lines t
    → IsFirstLine HasLabelFault before lines n → ⊥
no_label_fault before [] t n h m f = f
no_label_fault before (line ∷ lines) t n h m (inl (inl r, e)) = h.0 r
no_label_fault before (line ∷ lines) t n h m (inl (inr u, e)) = (rest_of before line lines t m).2 u
no_label_fault before (line ∷ lines) t n h m (inr f) =
    let rest = rest_of before line lines t m in
    no_label_fault (before ++ line ∷ []) lines rest.0 n h.1 rest.1 f.1

-- where each line says something, none is unreadable, so want of memory may be told
readable : (source : List ℕ) (lines : List Line) (n : ℕ) → Says source lines → IsFault source (faults.Syntax n) → ⊥
readable source lines n says f = no_unreadable [] (lines_of source) lines n says f

labelled : (source : List ℕ) (t : List Insn) (n : ℕ) → IsSource source t → IsFault source (faults.Label n) → ⊥
labelled source t n h f =
    let e = says_unique (lines_of source) f.0 h.lines f.1 h.says in
    no_label_fault [] h.lines t n h.once h.means (subst (λ lines. IsFirstLine HasLabelFault [] lines n) e f.2)

pub no_fault : (source : List ℕ) (t : List Insn) (e : AsmFault) → IsText t → IsSource source t → IsFault source e → e ≡ faults.OutOfMemory
no_fault source t (faults.Syntax n) x h f = absurd (readable source h.lines n h.says f)
no_fault source t (faults.Label n) x h f = absurd (labelled source t n h f)
no_fault source t faults.BadLength x h f =
    let e = one_text source t [] h f in
    let u = subst (λ (y : List Insn). 1 ≤ units y) e x.some in
    absurd (omega (arith, u))
no_fault source t faults.TooLong x h f =
    let e = one_text source f.0 t f.1 h in
    let u = subst (λ (y : List Insn). 4096 < units y) e f.2 in
    absurd (omega (arith, u, x.few))
no_fault source t faults.OutOfMemory x h f = refl

-- ---- a source has one fault

module _ {A : Type 0} (P : List A → A → List A → Type 0) where
  one_first_line : (before lines : List A) (m n : ℕ) → IsFirstLine P before lines m → IsFirstLine P before lines n → m ≡ n
  one_first_line before [] m n f g = absurd f
  one_first_line before (line ∷ lines) m n (inl f) (inl g) = f.1 ∙ sym g.1
  one_first_line before (line ∷ lines) m n (inl f) (inr g) = absurd (g.0 f.0)
  one_first_line before (line ∷ lines) m n (inr f) (inl g) = absurd (f.0 g.0)
  one_first_line before (line ∷ lines) m n (inr f) (inr g) = one_first_line (before ++ line ∷ []) lines m n f.1 g.1

may_run_out : (source : List ℕ) (lines : List Line) → Says source lines → IsFault source faults.OutOfMemory
may_run_out source lines says = λ f. readable source lines 1 says f

pub run_out : {A : Type 0} (source : List ℕ) (lines : List Line) → Says source lines → (r : Result A AsmFault)
    → IsErrAnd r (λ e. e ≡ faults.OutOfMemory) → IfErr r (IsFault source)
run_out source lines says (Ok a) k = tt
run_out source lines says (Err e) k = subst (IsFault source) (sym k) (may_run_out source lines says)

short : (source : List ℕ) → IsFault source faults.BadLength → IsFault source faults.TooLong → ⊥
short source h f =
    let e = one_text source f.0 [] f.1 h in
    let u = subst (λ (y : List Insn). 4096 < units y) e f.2 in
    omega (arith, u)

pub one_fault : (source : List ℕ) → HasOneFault source
one_fault source (faults.Syntax m) (faults.Syntax n) p q no_d no_e = ap faults.Syntax (one_first_line IsUnreadable [] (lines_of source) m n p q)
one_fault source (faults.Syntax m) (faults.Label n) p q no_d no_e = absurd (readable source q.0 m q.1 p)
one_fault source (faults.Syntax m) faults.BadLength p q no_d no_e = absurd (readable source q.lines m q.says p)
one_fault source (faults.Syntax m) faults.TooLong p q no_d no_e = absurd (readable source q.1.lines m q.1.says p)
one_fault source (faults.Label m) (faults.Syntax n) p q no_d no_e = absurd (readable source p.0 n p.1 q)
one_fault source (faults.Label m) (faults.Label n) p q no_d no_e =
    let e = says_unique (lines_of source) p.0 q.0 p.1 q.1 in
    ap faults.Label (one_first_line HasLabelFault [] q.0 m n (subst (λ lines. IsFirstLine HasLabelFault [] lines m) e p.2) q.2)
one_fault source (faults.Label m) faults.BadLength p q no_d no_e = absurd (labelled source [] m q p)
one_fault source (faults.Label m) faults.TooLong p q no_d no_e = absurd (labelled source q.0 m q.1 p)
one_fault source faults.BadLength (faults.Syntax n) p q no_d no_e = absurd (readable source p.lines n p.says q)
one_fault source faults.BadLength (faults.Label n) p q no_d no_e = absurd (labelled source [] n p q)
one_fault source faults.BadLength faults.BadLength p q no_d no_e = refl
one_fault source faults.BadLength faults.TooLong p q no_d no_e = absurd (short source p q)
one_fault source faults.TooLong (faults.Syntax n) p q no_d no_e = absurd (readable source p.1.lines n p.1.says q)
one_fault source faults.TooLong (faults.Label n) p q no_d no_e = absurd (labelled source p.0 n p.1 q)
one_fault source faults.TooLong faults.BadLength p q no_d no_e = absurd (short source q p)
one_fault source faults.TooLong faults.TooLong p q no_d no_e = refl
one_fault source faults.OutOfMemory e p q no_d no_e = absurd (no_d refl)
one_fault source d faults.OutOfMemory p q no_d no_e = absurd (no_e refl)

pub all_from : (r : Result (List Insn) AsmFault) (source : List ℕ) (t : List Insn) → IsText t → IsSource source t → IfOk r (λ u. IsSource source u)
    → IfErr r (IsFault source) → MatchResult r (λ u. u ≡ t) (λ e. e ≡ faults.OutOfMemory)
all_from (Ok u) source t x h s f = one_text source u t s h
all_from (Err e) source t x h s f = no_fault source t e x h f

-- ---- the least line of either kind

abbrev Either : {A : Type 0} → (List A → A → List A → Type 0) → (List A → A → List A → Type 0) → List A → A → List A → Type 0
Either P Q before line after = P before line after ⊎ Q before line after

neither : {A B C : Type 0} → (A → C) → (B → C) → A ⊎ B → C
neither f g (inl a) = f a
neither f g (inr b) = g b

module _ {A : Type 0} (P Q : List A → A → List A → Type 0) where
  first_left : (before lines : List A) (n : ℕ) → IsFirstLine P before lines n → NoLine Q before lines → IsFirstLine (Either P Q) before lines n
  first_left before [] n f h = f
  first_left before (line ∷ lines) n (inl f) h = inl (inl f.0, f.1)
  first_left before (line ∷ lines) n (inr f) h = inr (neither f.0 h.0, first_left (before ++ line ∷ []) lines n f.1 h.1)

  first_right : (before lines : List A) (n : ℕ) → NoLine P before lines → IsFirstLine Q before lines n → IsFirstLine (Either P Q) before lines n
  first_right before [] n h f = f
  first_right before (line ∷ lines) n h (inl f) = inl (inr f.0, f.1)
  first_right before (line ∷ lines) n h (inr f) = inr (neither h.0 f.0, first_right (before ++ line ∷ []) lines n h.1 f.1)

  first_both : (before lines : List A) (m n : ℕ) → IsFirstLine P before lines m → IsFirstLine Q before lines n
      → IsFirstLine (Either P Q) before lines (min m n)
  first_both before [] m n f g = f
  first_both before (line ∷ lines) m n (inl f) g = let l = first_above Q before (line ∷ lines) n g in inl (inl f.0, omega (arith, f.1, l))
  first_both before (line ∷ lines) m n (inr f) (inl g) = let l = first_above P before (line ∷ lines) m (inr f) in inl (inr g.0, omega (arith, g.1, l))
  first_both before (line ∷ lines) m n (inr f) (inr g) = inr (neither f.0 g.0, first_both (before ++ line ∷ []) lines m n f.1 g.1)

-- the least line that repeats a name, or none, and the instructions, or the least line that is not resolved
pub record IsPassed (lines : List Line) (t : List Insn) (repeated unresolved : Option ℕ) : Type 0 where
  pub once : MatchOption repeated (NoLine IsRepeated [] lines) (IsFirstLine IsRepeated [] lines)
  pub means : MatchOption unresolved (NoLine IsUnresolved [] lines × Mean lines t) (IsFirstLine IsUnresolved [] lines)

least_fault : (lines : List Line) (t : List Insn) (a b : Option ℕ) → IsPassed lines t a b
    → MatchOption (least a b) (NoLine IsRepeated [] lines × Mean lines t) (IsFirstLine HasLabelFault [] lines)
least_fault lines t None None p = (p.once, p.means.1)
least_fault lines t None (Some m) p = first_right IsRepeated IsUnresolved [] lines m p.once p.means
least_fault lines t (Some m) None p = first_left IsRepeated IsUnresolved [] lines m p.once p.means.0
least_fault lines t (Some m) (Some n) p = first_both IsRepeated IsUnresolved [] lines m n p.once p.means

pub label_fault : {lines : List Line} {t : List Insn} {a b : Option ℕ} → IsPassed lines t a b → (o : Option ℕ) → o ≡ least a b
    → MatchOption o (NoLine IsRepeated [] lines × Mean lines t) (IsFirstLine HasLabelFault [] lines)
label_fault {lines} {t} {a} {b} p o e = rw e (least_fault lines t a b p)

-- what is wrong with the instructions' length is wrong with the source that means them
pub length_fault : (source : List ℕ) (lines : List Line) (t : List Insn) (r : Result (List Insn) AsmFault) → Says source lines
    → NoLine IsRepeated [] lines × Mean lines t → IfErr r (IsLengthFault t) → IfErr r (IsFault source)
length_fault source lines t (Ok u) says h k = tt
length_fault source lines t (Err (faults.Syntax n)) says h k = absurd k
length_fault source lines t (Err (faults.Label n)) says h k = absurd k
length_fault source lines t (Err faults.BadLength) says h k = record { lines = lines; says = says; once = h.0; means = subst (Mean lines) k h.1 }
length_fault source lines t (Err faults.TooLong) says h k = (t, record { lines = lines; says = says; once = h.0; means = h.1 }, k)
length_fault source lines t (Err faults.OutOfMemory) says h k = may_run_out source lines says
