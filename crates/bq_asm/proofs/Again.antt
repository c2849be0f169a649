-- An operand that is written is read again, and so is a statement.
use Rattle.std.proofs.Common.{◌≡◌, ℕ, suc, ◌-◌, ◌^◌, ◌<◌, true, false, cond, eqb, ltb, ◌&&◌, refl, ap, sym, ◌∙◌, subst, arith}
use Rattle.std.specs.Prelude.{ℤ, pos, negsuc, FitsSigned, option_map, List, [], ◌∷◌, ◌++◌, length, Option, Some, None, IsTrue}
use Rattle.std.specs.List.{AllByRecursion, list_all}
use Rattle.std.specs.Int.{w16, w32}
use Rattle.std.specs.Char.{is_ascii_digit}
use Rattle.std.specs.Fmt.{decimal, signed_decimal}
use Rattle.std.proofs.lemmas.Bool.{cond-false, cond-true, ne_eqb, and_from, lt-ltb, false≢true}
use Rattle.std.proofs.lemmas.Bool.Decides.{nat_tests}
use Rattle.std.proofs.lemmas.List.{append_assoc, append-nil}
use Rattle.std.proofs.lemmas.List.Elements.{All-from_recursion}
use Rattle.std.proofs.lemmas.List.Sums.{list_all-from_AllPass}
use Rattle.bq_insn.specs.declared.insn.Operand.TheVariants as operands
use Rattle.bq_insn.specs.declared.insn.Operand.{Operand}
use Rattle.bq_insn.specs.declared.insn.Insn.TheVariants as insns
use Rattle.bq_insn.specs.Insn.{IsOperand, IsInsn}
use Rattle.bq_asm.specs.declared.jump.Jump.{Jump}
use Rattle.bq_asm.specs.declared.jump.Jump.TheVariants as jumps
use Rattle.bq_asm.specs.Statement.{Statement, Complete, JumpTo}
use Rattle.bq_asm.specs.Line.{IsName, IsJump, IsStatement, is_letter, is_name_byte, AreListed, statement_operands, statement_mnemonic}
use Rattle.bq_asm.specs.Operands.{register, operand, distance, memory, jump_insn, jump_mnemonic, jump_operands}
use Rattle.bq_asm.specs.Reading.{◌>>=◌, strip, trimmed, pair_at, positive_of, positive_at, negative_of, negative_at, signed_else, signed_at}
use Rattle.bq_asm.specs.Reading.{distance_else, distance_at, fits, register_at, operand_else, operand_at, place_of, place_else, place_at, memory_at}
use Rattle.bq_asm.specs.Reading.{is_name, jump_bits, target_else, target_at, statement_at}
use Rattle.bq_asm.proofs.Parts.{Lacks, cut_none, cut_at, strip_lacks}
use Rattle.spelling.proofs.Decimal.{decimal_each, natural_decimal}
use Rattle.bq_asm.proofs.Spaces.{Starts, Ends, spaces_lack, lacks_append, starts_append, ends_append, trimmed_between}
use Rattle.bq_asm.proofs.Clean.{Word, no_comma, clean_lacks, clean_ends, word_starts, wider}
use Rattle.bq_asm.proofs.Clean.{register_word, operand_word, distance_word, decimal_word, memory_word, name_word}

-- ---- digits

no_digit : (k c : ℕ) → is_ascii_digit k ≡ false → is_ascii_digit c ≡ true → eqb c k ≡ false
no_digit k c n h = ne_eqb c k (λ same. false≢true (sym n ∙ ap is_ascii_digit (sym same) ∙ h))

decimal_lacks : (k n : ℕ) → n < 2 ^ 64 → is_ascii_digit k ≡ false → Lacks k (decimal n)
decimal_lacks k n l e = decimal_each (λ c. eqb c k ≡ false) (λ c digit. no_digit k c e digit) n l

-- a number has no such byte in front
front : (k n : ℕ) → n < 2 ^ 64 → is_ascii_digit k ≡ false → strip k (decimal n) ≡ None
front k n l e = strip_lacks k (decimal n) (decimal_lacks k n l e)

register_lacks : (k r : ℕ) → r < 11 → is_ascii_digit k ≡ false → eqb 114 k ≡ false → Lacks k (register r)
register_lacks k r l e h = (h, decimal_lacks k r (omega arith) e)

distance_lacks : (k : ℕ) (z : ℤ) → FitsSigned w32 z → is_ascii_digit k ≡ false → eqb 43 k ≡ false → eqb 45 k ≡ false → Lacks k (distance z)
distance_lacks k (pos n) l e h g = (h, decimal_lacks k n (omega arith) e)
distance_lacks k (negsuc n) l e h g = (g, decimal_lacks k (suc n) (omega arith) e)

-- ---- numbers

positive_again : (n : ℕ) → n < 2 ^ 63 → positive_at (decimal n) ≡ Some (pos n)
unfolding positive_at
positive_again n l = ap (λ o. o >>= positive_of) (natural_decimal n (omega arith)) ∙ cond-true _ _ _ (lt-ltb n (2 ^ 63) l)

negative_again : (n : ℕ) → suc n < 2 ^ 63 → negative_at (decimal (suc n)) ≡ Some (negsuc n)
unfolding negative_at
negative_again n l =
    let s : suc n - 1 ≡ n = omega arith in
    let t : (ltb 0 (suc n) && ltb (suc n) (2 ^ 63)) ≡ true = and_from _ _ (lt-ltb 0 (suc n) (omega arith)) (lt-ltb (suc n) (2 ^ 63) l) in
    ap (λ o. o >>= negative_of) (natural_decimal (suc n) (omega arith)) ∙ cond-true _ _ _ t ∙ ap (λ k. Some (negsuc k)) s

signed_again : (z : ℤ) → FitsSigned w32 z → signed_at (signed_decimal z) ≡ Some z
unfolding signed_at
signed_again (pos n) l = ap (signed_else (decimal n)) (front 45 n (omega arith) refl) ∙ positive_again n (omega arith)
signed_again (negsuc n) l = negative_again n (omega arith)

distance_again : (z : ℤ) → FitsSigned w32 z → distance_at (distance z) ≡ Some z
unfolding distance_at
distance_again (pos n) l = positive_again n (omega arith)
distance_again (negsuc n) l = negative_again n (omega arith)

fits32 : (z : ℤ) → FitsSigned w32 z → fits 32 z ≡ true
fits32 (pos n) l = lt-ltb n (2 ^ (32 - 1)) (omega arith)
fits32 (negsuc n) l = lt-ltb n (2 ^ (32 - 1)) (omega arith)

fits16 : (z : ℤ) → FitsSigned w16 z → fits 16 z ≡ true
fits16 (pos n) l = lt-ltb n (2 ^ (16 - 1)) (omega arith)
fits16 (negsuc n) l = lt-ltb n (2 ^ (16 - 1)) (omega arith)

-- ---- operands

pub register_again : (r : ℕ) → r < 11 → register_at (register r) ≡ Some r
unfolding register_at
register_again r l = rw (natural_decimal r (omega arith)) (cond-true _ _ _ (lt-ltb r 11 l))

number_else : (text : List ℕ) (z : ℤ) → register_at text ≡ None → signed_at text ≡ Some z → fits 32 z ≡ true → operand_at text ≡ Some (operands.Number z)
unfolding operand_at
number_else text z n e f = ap (operand_else text) n ∙ rw (e, f) refl

number_again : (z : ℤ) → FitsSigned w32 z → register_at (signed_decimal z) ≡ None → operand_at (signed_decimal z) ≡ Some (operands.Number z)
number_again z l n = number_else (signed_decimal z) z n (signed_again z l) (fits32 z l)

no_register : (text : List ℕ) → strip 114 text ≡ None → register_at text ≡ None
unfolding register_at
no_register text e = rw e refl

pub operand_again : (x : Operand) → IsOperand x → operand_at (operand x) ≡ Some x
unfolding operand_at
operand_again (operands.Register r) l = ap (operand_else (register r)) (register_again r l)
operand_again (operands.Number (pos n)) l = number_again (pos n) l (no_register (decimal n) (front 114 n (omega arith) refl))
operand_again (operands.Number (negsuc n)) l = number_again (negsuc n) l (no_register (signed_decimal (negsuc n)) refl)

place_is : (b : ℕ) (o : ℤ) (q : Option ℤ) → b < 11 → fits 16 o ≡ true → q ≡ Some o → place_of (register b) q ≡ Some (b, o)
place_is b o q l f e = rw (register_again b l, e, f) refl

place_again : (b : ℕ) (o : ℤ) → b < 11 → FitsSigned w16 o → place_at (register b ++ distance o) ≡ Some (b, o)
unfolding place_at
place_again b (pos n) l h =
    ap (place_else (register b ++ distance (pos n))) (cut_at 43 (register b) (decimal n) (register_lacks 43 b l refl refl))
    ∙ place_is b (pos n) (positive_at (decimal n)) l (fits16 (pos n) h) (positive_again n (omega arith))
place_again b (negsuc n) l h =
    let digits = decimal_lacks 43 (suc n) (omega arith) refl in
    let lacks = lacks_append 43 (register b) (distance (negsuc n)) (register_lacks 43 b l refl refl) (refl, digits) in
    ap (place_else (register b ++ distance (negsuc n))) (cut_none 43 (register b ++ distance (negsuc n)) lacks)
    ∙ ap (λ o. o >>= λ p. place_of p.0 (negative_at p.1)) (cut_at 45 (register b) (decimal (suc n)) (register_lacks 45 b l refl refl))
    ∙ place_is b (negsuc n) (negative_at (decimal (suc n))) l (fits16 (negsuc n) h) (negative_again n (omega arith))

pub memory_again : (b : ℕ) (o : ℤ) → b < 11 → FitsSigned w16 o → memory_at (memory b o) ≡ Some (b, o)
unfolding memory_at
memory_again b o l h =
    ap (λ q. q >>= λ p. cond (eqb (length p.1) 0) (place_at p.0) None)
    (cut_at 93 (register b ++ distance o) []
    (lacks_append 93 (register b) (distance o) (register_lacks 93 b l refl refl) (distance_lacks 93 o (wider o h) refl refl refl)))
    ∙ place_again b o l h

-- ---- names

name_bytes : (s : List ℕ) → AllByRecursion (λ d. IsTrue (is_name_byte d)) s → list_all is_name_byte s ≡ true
name_bytes s h = list_all-from_AllPass is_name_byte s (All-from_recursion (λ d. is_name_byte d ≡ true) s h)

pub name_again : (s : List ℕ) → IsName s → is_name s ≡ true
name_again [] h = absurd h
name_again (c ∷ s) h = and_from _ _ (and_from _ _ h.0 (name_bytes s h.1)) (lt-ltb (length s) 32 h.2)

letter_no_plus : (c : ℕ) → is_letter c ≡ true → eqb c 43 ≡ false
letter_no_plus c h = grind (arith, nat_tests)

letter_no_minus : (c : ℕ) → is_letter c ≡ true → eqb c 45 ≡ false
letter_no_minus c h = grind (arith, nat_tests)

no_distance : (s : List ℕ) → IsName s → distance_at s ≡ None
unfolding distance_at
no_distance [] h = absurd h
no_distance (c ∷ s) h =
    ap (distance_else (c ∷ s)) (cond-false (eqb c 43) _ _ (letter_no_plus c h.0))
    ∙ ap (λ o. o >>= negative_at) (cond-false (eqb c 45) _ _ (letter_no_minus c h.0))

-- ---- jumps

jump_fits : (j : Jump) (z : ℤ) → IsInsn (jump_insn j z) → (FitsSigned w32 z) × (fits (jump_bits j) z ≡ true)
jump_fits jumps.Always z h = (wider z h, fits16 z h)
jump_fits jumps.Far z h = (h, fits32 z h)
jump_fits (jumps.Branch w r d x) z h = (wider z h.2, fits16 z h.2)

target_distance : (j : Jump) (z : ℤ) → IsInsn (jump_insn j z) → target_at j (distance z) ≡ Some (Complete (jump_insn j z))
unfolding target_at
target_distance j z h =
    let f = jump_fits j z h in
    ap (target_else j (distance z)) (distance_again z f.0) ∙ ap (option_map Complete) (cond-true _ _ _ f.1)

target_label : (j : Jump) (s : List ℕ) → IsName s → target_at j s ≡ Some (JumpTo j s)
unfolding target_at
target_label j s h = ap (target_else j s) (no_distance s h) ∙ cond-true _ _ _ (name_again s h)

-- ---- lists of operands

abbrev pub Words : List (List ℕ) → Type 0
Words xs = AllByRecursion Word xs

abbrev pub Some_of : List (List ℕ) → Type 0
Some_of [] = ⊥
Some_of (x ∷ xs) = Unit {0}

pub listed_starts : (xs : List (List ℕ)) (text : List ℕ) → Some_of xs → Words xs → AreListed xs text → Starts text
listed_starts [] text s w h = absurd s
listed_starts (x ∷ []) text s w h = subst Starts (sym h) (word_starts x w.0)
listed_starts (x ∷ y ∷ xs) text s w h = subst Starts (sym h.4) (starts_append x (h.0 ++ h.1) (word_starts x w.0))

pub listed_ends : (xs : List (List ℕ)) (text : List ℕ) → Words xs → AreListed xs text → Ends text
listed_ends [] text w h = subst Ends (sym h) refl
listed_ends (x ∷ []) text w h = subst Ends (sym h) (clean_ends x w.0.clean)
listed_ends (x ∷ y ∷ xs) text w h =
    subst Ends (append_assoc x h.0 h.1 ∙ sym h.4)
    (ends_append (x ++ h.0) h.1 (listed_starts (y ∷ xs) h.1 tt w.1 h.3) (listed_ends (y ∷ xs) h.1 w.1 h.3))

-- no operand has the byte k, nor has a comma
pub listed_lacks : (k : ℕ) → ((s : List ℕ) → Word s → Lacks k s) → eqb 32 k ≡ false → eqb 44 k ≡ false → (xs : List (List ℕ)) (text : List ℕ)
    → Words xs → AreListed xs text → Lacks k text
listed_lacks k f a b [] text w h = subst (Lacks k) (sym h) tt
listed_lacks k f a b (x ∷ []) text w h = subst (Lacks k) (sym h) (f x w.0)
listed_lacks k f a b (x ∷ y ∷ xs) text w h =
    let c = h.2 in
    subst (Lacks k) (sym h.4) (lacks_append k x (h.0 ++ h.1) (f x w.0)
    (lacks_append k h.0 h.1
    (subst (Lacks k) (sym c.parts)
    (lacks_append k c.before (44 ∷ c.after) (spaces_lack k c.before a c.spaces_before) (b, spaces_lack k c.after a c.spaces_after)))
    (listed_lacks k f a b (y ∷ xs) h.1 w.1 h.3)))

-- the first operand, and the others
pub pair_listed : (x y : List ℕ) (ys : List (List ℕ)) (text : List ℕ) → Words (x ∷ y ∷ ys) → AreListed (x ∷ y ∷ ys) text
    → (rest : List ℕ) × (pair_at text ≡ Some (x, rest)) × AreListed (y ∷ ys) rest
unfolding pair_at
pair_listed x y ys text w h =
    let c = h.2 in
    let parts : text ≡ (x ++ c.before) ++ (44 ∷ (c.after ++ h.1)) =
    h.4 ∙ ap (λ (s : List ℕ). x ++ (s ++ h.1)) c.parts
    ∙ ap (λ (s : List ℕ). x ++ s) (append_assoc c.before (44 ∷ c.after) h.1) ∙ sym (append_assoc x c.before (44 ∷ (c.after ++ h.1))) in
    let lacks : Lacks 44 (x ++ c.before) =
    lacks_append 44 x c.before (clean_lacks 44 x no_comma w.0.clean) (spaces_lack 44 c.before refl c.spaces_before) in
    let first : trimmed (x ++ c.before) ≡ x = trimmed_between [] x c.before tt (word_starts x w.0) (clean_ends x w.0.clean) c.spaces_before in
    let second : trimmed (c.after ++ h.1) ≡ h.1 =
    ap (λ (s : List ℕ). trimmed (c.after ++ s)) (sym (append-nil h.1))
    ∙ trimmed_between c.after h.1 [] c.spaces_after (listed_starts (y ∷ ys) h.1 tt w.1 h.3) (listed_ends (y ∷ ys) h.1 w.1 h.3) tt in (
      h.1,
      ap pair_at parts ∙ ap (λ o. o >>= λ p. Some (trimmed p.0, trimmed p.1)) (cut_at 44 (x ++ c.before) (c.after ++ h.1) lacks)
          ∙ rw (first, second) refl,
      h.3,
    )

pair_two : (x y text : List ℕ) → Word x → Word y → AreListed (x ∷ y ∷ []) text → pair_at text ≡ Some (x, y)
pair_two x y text v w h = let p = pair_listed x y [] text (v, (w, tt)) h in p.1 ∙ ap (λ (s : List ℕ). Some (x, s)) p.2

-- ---- statements

jump_again : (j : Jump) (target text : List ℕ) (s : Statement) → IsJump j → Word target → target_at j target ≡ Some s
    → AreListed (jump_operands j target) text → statement_at (jump_mnemonic j) text ≡ Some s
unfolding statement_at
jump_again jumps.Always target text s h w e l = ap (target_at jumps.Always) l ∙ e
jump_again jumps.Far target text s h w e l = ap (target_at jumps.Far) l ∙ e
jump_again (jumps.Branch v r d x) target text s h w e l =
    let p = pair_listed (register d) (operand x) (target ∷ []) text (register_word d h.0, (operand_word x h.1, (w, tt))) l in
    let q : pair_at p.0 ≡ Some (operand x, target) = pair_two (operand x) target p.0 (operand_word x h.1) w p.2 in
    rw (p.1, q, register_again d h.0, operand_again x h.1) e

jump_by_again : (j : Jump) (z : ℤ) (text : List ℕ) → IsJump j → IsInsn (jump_insn j z) → AreListed (jump_operands j (distance z)) text
    → statement_at (jump_mnemonic j) text ≡ Some (Complete (jump_insn j z))
jump_by_again j z text is h l =
    jump_again j (distance z) text (Complete (jump_insn j z)) is (distance_word z (jump_fits j z h).0) (target_distance j z h) l

pub statement_again : (s : Statement) (text : List ℕ) → IsStatement s → AreListed (statement_operands s) text
    → statement_at (statement_mnemonic s) text ≡ Some s
unfolding statement_at
statement_again (Complete (insns.Alu w op d x)) text h l =
    rw (pair_two (register d) (operand x) text (register_word d h.0) (operand_word x h.1) l, register_again d h.0, operand_again x h.1) refl
statement_again (Complete (insns.Negate w d)) text h l = rw (l, register_again d h) refl
statement_again (Complete (insns.Extend e d s)) text h l =
    rw (pair_two (register d) (register s) text (register_word d h.0) (register_word s h.1) l, register_again d h.0, register_again s h.1) refl
statement_again (Complete (insns.Order o b d)) text h l = rw (l, register_again d h) refl
statement_again (Complete (insns.Jump z)) text h l = jump_by_again jumps.Always z text tt h l
statement_again (Complete (insns.JumpFar z)) text h l = jump_by_again jumps.Far z text tt h l
statement_again (Complete (insns.Branch w r d x z)) text h l = jump_by_again (jumps.Branch w r d x) z text (h.0, h.1) h l
statement_again (Complete insns.Exit) text h l = rw l refl
statement_again (Complete (insns.Load z d b o)) text h l =
    rw (pair_two (register d) (memory b o) text (register_word d h.0) (memory_word b o h.1 h.2) l, register_again d h.0, memory_again b o h.1 h.2) refl
statement_again (Complete (insns.LoadSigned z d b o)) text h l =
    rw (pair_two (register d) (memory b o) text (register_word d h.0) (memory_word b o h.1 h.2) l, register_again d h.0, memory_again b o h.1 h.2) refl
statement_again (Complete (insns.Store z b o x)) text h l =
    rw (pair_two (memory b o) (operand x) text (memory_word b o h.0 h.1) (operand_word x h.2) l, memory_again b o h.0 h.1, operand_again x h.2) refl
statement_again (Complete (insns.Wide d v)) text h l =
    rw (pair_two (register d) (decimal v) text (register_word d h.0) (decimal_word v h.1) l, register_again d h.0, natural_decimal v h.1) refl
statement_again (JumpTo j label) text h l = jump_again j label text (JumpTo j label) h.0 (name_word label h.1) (target_label j label h.1) l

jump_words : (j : Jump) (target : List ℕ) → IsJump j → Word target → Words (jump_operands j target)
jump_words jumps.Always target h w = (w, tt)
jump_words jumps.Far target h w = (w, tt)
jump_words (jumps.Branch v r d x) target h w = (register_word d h.0, (operand_word x h.1, (w, tt)))

-- the operands of a statement are words
pub operands_words : (s : Statement) → IsStatement s → Words (statement_operands s)
operands_words (Complete (insns.Alu w op d x)) h = (register_word d h.0, (operand_word x h.1, tt))
operands_words (Complete (insns.Negate w d)) h = (register_word d h, tt)
operands_words (Complete (insns.Extend e d s)) h = (register_word d h.0, (register_word s h.1, tt))
operands_words (Complete (insns.Order o b d)) h = (register_word d h, tt)
operands_words (Complete (insns.Jump z)) h = (distance_word z (wider z h), tt)
operands_words (Complete (insns.JumpFar z)) h = (distance_word z h, tt)
operands_words (Complete (insns.Branch w r d x z)) h = (register_word d h.0, (operand_word x h.1, (distance_word z (wider z h.2), tt)))
operands_words (Complete insns.Exit) h = tt
operands_words (Complete (insns.Load z d b o)) h = (register_word d h.0, (memory_word b o h.1 h.2, tt))
operands_words (Complete (insns.LoadSigned z d b o)) h = (register_word d h.0, (memory_word b o h.1 h.2, tt))
operands_words (Complete (insns.Store z b o x)) h = (memory_word b o h.0 h.1, (operand_word x h.2, tt))
operands_words (Complete (insns.Wide d v)) h = (register_word d h.0, (decimal_word v h.1, tt))
operands_words (JumpTo j label) h = jump_words j label h.0 (name_word label h.1)
