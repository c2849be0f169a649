-- A line spells what is read from it, and nothing else.
use Rattle.std.proofs.Common.{◌≡◌, ◌≢◌, ℕ, ◌≤◌, ◌<◌, Bool, true, false, cond, eqb, ltb, not, ◌&&◌, refl, ap, sym, ◌∙◌, subst, inl, inr, ◌⊎◌, arith}
use Rattle.std.specs.Prelude.{List, [], ◌∷◌, ◌++◌, length, Option, Some, None}
use Rattle.std.specs.List.{AllByRecursion}
use Rattle.std.proofs.lemmas.Bool.{eqb-true, eqb-false, and_parts, ltb-true, not-true}
use Rattle.std.proofs.lemmas.Option.{cond_some}
use Rattle.std.proofs.lemmas.List.{append_assoc, append-nil, nil_from_length}
use Rattle.spelling.proofs.Lists.{all_passed}
use Rattle.bq_asm.specs.Mnemonic.{name, mnemonic_at}
use Rattle.bq_asm.specs.Statement.{Statement, Line, Blank, Instruction}
use Rattle.bq_asm.specs.Line.{IsStatement, IsComment, AreListed, AreSpaces, IsGap, statement_operands, statement_mnemonic, Spells}
use Rattle.bq_asm.specs.Reading.{◌>>=◌, cut, trimmed, is_comment, is_name, statement_at, instruction_at, words_else, words_at, label_else, line_else, line_at}
use Rattle.bq_asm.proofs.Spaces.{Starts, Trimmed, spaces_append, trimmed_spaces, trimmed_of, cut-some}
use Rattle.bq_asm.proofs.Mnemonics.{mnemonic_sound}
use Rattle.bq_asm.proofs.Again.{Words, listed_starts, operands_words}
use Rattle.bq_asm.proofs.Sound.{bind_some, guard_some, name_sound, Spread, statement_sound}
use Rattle.bq_asm.proofs.Spelled.{Core, line_again}

comment_sound : (c : List ℕ) → is_comment c ≡ true → AllByRecursion (λ d. (d < 128) × (d ≢ 13)) c
comment_sound =
    all_passed (λ d. (d < 128) × (d ≢ 13)) (λ d. ltb d 128 && not (eqb d 13))
    (λ d h. let p = and_parts (ltb d 128) _ h in (ltb-true d 128 p.0, eqb-false d 13 (not-true (eqb d 13) p.1)))

-- ---- the code of a line

-- a statement's code, with spaces about it
pub record Code (text : List ℕ) (s : Statement) : Type 0 where
  gap : List ℕ
  list : List ℕ
  core : Core s gap list
  about : Trimmed text (name (statement_mnemonic s) ++ (gap ++ list))

core_from : {s : Statement} (xs : List (List ℕ)) (gap list : List ℕ) → xs ≡ statement_operands s → IsStatement s → IsGap xs gap → AreListed xs list
    → Core s gap list
core_from xs gap list e h g l = record { legal = h; gaps = subst (λ ys. IsGap ys gap) e g; listed = subst (λ ys. AreListed ys list) e l }

nil_parts : (a b : List ℕ) → [] ≡ a ++ b → (a ≡ []) × (b ≡ [])
nil_parts [] b e = (refl, sym e)
nil_parts (c ∷ a) b e = absurd cc

code_alone : (text : List ℕ) (s : Statement) (xs : List (List ℕ)) → xs ≡ statement_operands s → IsStatement s
    → trimmed text ≡ name (statement_mnemonic s) → Words xs → Spread xs (trimmed []) → Code text s
code_alone text s [] e h t w p = record {
  gap = [];
  list = [];
  core = core_from [] [] [] e h refl refl;
  about = rw (append-nil (name (statement_mnemonic s)), sym t) (trimmed_of text);
}
code_alone text s (x ∷ xs) e h t w p =
    let n = nil_parts p.before (p.list ++ p.after) (sym (trimmed_spaces [] tt) ∙ p.parts) in
    let m = nil_parts p.list p.after (sym n.1) in
    absurd (subst Starts m.0 (listed_starts (x ∷ xs) p.list tt w p.listed))

-- of a text between spaces, spaces at its end are no part
trimmed_less : {text t : List ℕ} (u more : List ℕ) → Trimmed text t → t ≡ u ++ more → AreSpaces more → Trimmed text u
trimmed_less u more a e h = record {
  before = a.before;
  after = more ++ a.after;
  spaces_before = a.spaces_before;
  spaces_after = spaces_append more a.after h a.spaces_after;
  parts = a.parts ∙ ap (λ (v : List ℕ). a.before ++ (v ++ a.after)) e ∙ ap (λ (v : List ℕ). a.before ++ v) (append_assoc u more a.after);
}

code_spread : (text : List ℕ) (s : Statement) (xs : List (List ℕ)) (gap list after : List ℕ) → xs ≡ statement_operands s → IsStatement s
    → AreSpaces gap → 1 ≤ length gap → AreListed xs list → AreSpaces after → trimmed text ≡ name (statement_mnemonic s) ++ (gap ++ (list ++ after))
    → Code text s
code_spread text s [] gap list after e h g some l a t =
    let m = name (statement_mnemonic s) in
    let nothing = ap (λ (u : List ℕ). m ++ (gap ++ (u ++ after))) l ∙ ap (λ (u : List ℕ). u ++ (gap ++ after)) (sym (append-nil m)) in
    record {
      gap = [];
      list = [];
      core = core_from [] [] [] e h refl refl;
      about = trimmed_less (m ++ []) (gap ++ after) (trimmed_of text) (t ∙ nothing) (spaces_append gap after g a);
    }
code_spread text s (x ∷ xs) gap list after e h g some l a t = record {
  gap = gap;
  list = list;
  core = core_from (x ∷ xs) gap list e h (g, some) l;
  about = trimmed_less (name (statement_mnemonic s) ++ (gap ++ list)) after (trimmed_of text) (t ∙ simp append_assoc) a;
}

code_rest : (text rest : List ℕ) (s : Statement) → IsStatement s → trimmed text ≡ name (statement_mnemonic s) ++ (32 ∷ rest)
    → Spread (statement_operands s) (trimmed rest) → Code text s
code_rest text rest s h t p =
    let b = trimmed_of rest in
    let gap = 32 ∷ (b.before ++ p.before) in
    let after = p.after ++ b.after in
    let gap_spaces : AreSpaces gap = (refl, spaces_append b.before p.before b.spaces_before p.spaces_before) in
    let after_spaces = spaces_append p.after b.after p.spaces_after b.spaces_after in
    let whole : rest ≡ b.before ++ ((p.before ++ (p.list ++ p.after)) ++ b.after) = b.parts ∙ ap (λ (u : List ℕ). b.before ++ (u ++ b.after)) p.parts in
    let parts : trimmed text ≡ name (statement_mnemonic s) ++ (gap ++ (p.list ++ after)) =
    t ∙ ap (λ (u : List ℕ). name (statement_mnemonic s) ++ (32 ∷ u)) whole ∙ simp append_assoc in
    code_spread text s (statement_operands s) gap p.list after refl h gap_spaces (omega arith) p.listed after_spaces parts

pub record Said (first rest : List ℕ) (v : Line) : Type 0 where
  statement : Statement
  is : Instruction statement ≡ v
  mnemonic : first ≡ name (statement_mnemonic statement)
  legal : IsStatement statement
  spread : Spread (statement_operands statement) (trimmed rest)

said : (first rest : List ℕ) (v : Line) → instruction_at first rest ≡ Some v → Said first rest v
unfolding instruction_at
said first rest v e =
    let m = bind_some (mnemonic_at first) (λ m. statement_at m (trimmed rest) >>= λ s. Some (Instruction s)) v e in
    let s = bind_some (statement_at m.0 (trimmed rest)) (λ s. Some (Instruction s)) v m.2 in
    let g : Instruction s.0 ≡ v = cc in
    let r = statement_sound m.0 (trimmed rest) s.0 s.1 in
    record { statement = s.0; is = g; mnemonic = mnemonic_sound first m.0 m.1 ∙ ap name (sym r.mnemonic); legal = r.legal; spread = r.spread }

abbrev pub IsCode : List ℕ → Line → Type 0
IsCode text v = ((Blank ≡ v) × AreSpaces text) ⊎ ((s : Statement) × (Instruction s ≡ v) × Code text s)

words_by : (text : List ℕ) (v : Line) (o : Option (List ℕ × List ℕ)) → cut 32 (trimmed text) ≡ o → words_else (trimmed text) o ≡ Some v → IsCode text v
words_by text v None c e =
    let r = said (trimmed text) [] v e in
    inr (r.statement, r.is, code_alone text r.statement (statement_operands r.statement) refl r.legal r.mnemonic (operands_words r.statement r.legal) r.spread)
words_by text v (Some p) c e =
    let r = said p.0 p.1 v e in
    let parts = cut-some 32 (trimmed text) p c ∙ ap (λ (u : List ℕ). u ++ (32 ∷ p.1)) r.mnemonic in
    inr (r.statement, r.is, code_rest text p.1 r.statement r.legal parts r.spread)

words_empty : (text : List ℕ) → trimmed text ≡ [] → AreSpaces text
words_empty text e =
    let a = trimmed_of text in
    subst AreSpaces (sym (a.parts ∙ ap (λ (u : List ℕ). a.before ++ (u ++ a.after)) e)) (spaces_append a.before a.after a.spaces_before a.spaces_after)

words_cases : (text : List ℕ) (v : Line) (b : Bool) → eqb (length (trimmed text)) 0 ≡ b
    → cond b (Some Blank) (words_else (trimmed text) (cut 32 (trimmed text))) ≡ Some v → IsCode text v
words_cases text v true z e = inl (cc, words_empty text (nil_from_length (trimmed text) (eqb-true _ 0 z)))
words_cases text v false z e = words_by text v (cut 32 (trimmed text)) refl e

words_sound : (text : List ℕ) (v : Line) → words_at text ≡ Some v → IsCode text v
unfolding words_at
words_sound text v e = words_cases text v (eqb (length (trimmed text)) 0) refl e

-- ---- lines

-- code with a comment behind it, or none
spelled : (line code comment : List ℕ) (v : Line) → line ≡ code ++ comment → IsComment comment → IsCode code v → Spells line v
spelled line code comment v e h (inl k) = subst (Spells line) k.0 (record { spaces = code; comment = comment; are_spaces = k.1; is_comment = h; parts = e })
spelled line code comment v e h (inr k) =
    let c = k.2 in
    subst (Spells line) k.1 (record {
      before = c.about.before;
      gap = c.gap;
      list = c.list;
      after = c.about.after;
      comment = comment;
      spaces_before = c.about.spaces_before;
      is_gap = c.core.gaps;
      are_listed = c.core.listed;
      spaces_after = c.about.spaces_after;
      is_comment = h;
      legal = c.core.legal;
      parts = e ∙ ap (λ (u : List ℕ). u ++ comment) c.about.parts ∙ simp append_assoc;
    })

label_by : (line : List ℕ) (v : Line) (o : Option (List ℕ × List ℕ)) → cut 58 (trimmed line) ≡ o → label_else line o ≡ Some v → Spells line v
label_by line v None c e = spelled line line [] v (sym (append-nil line)) tt (words_sound line v e)
label_by line v (Some p) c e =
    let h = cond_some _ _ _ e in
    let k = and_parts (eqb (length p.1) 0) (is_name p.0) h.0 in
    let a = trimmed_of line in
    let t : trimmed line ≡ p.0 ++ (58 ∷ []) = cut-some 58 (trimmed line) p c ∙ ap (λ (u : List ℕ). p.0 ++ (58 ∷ u)) (nil_from_length p.1 (eqb-true _ 0 k.0)) in
    subst (Spells line) h.1 (record {
      before = a.before;
      after = a.after;
      spaces_before = a.spaces_before;
      spaces_after = a.spaces_after;
      is_name = name_sound p.0 k.1;
      parts = a.parts ∙ ap (λ (u : List ℕ). a.before ++ (u ++ a.after)) t ∙ ap (λ (u : List ℕ). a.before ++ u) (append_assoc p.0 (58 ∷ []) a.after);
    })

line_by : (line : List ℕ) (v : Line) (o : Option (List ℕ × List ℕ)) → cut 35 line ≡ o → line_else line o ≡ Some v → Spells line v
line_by line v None c e = label_by line v (cut 58 (trimmed line)) refl e
line_by line v (Some p) c e =
    let h = guard_some (is_comment p.1) (words_at p.0) v e in
    spelled line p.0 (35 ∷ p.1) v (cut-some 35 line p c) (refl, comment_sound p.1 h.0) (words_sound p.0 v h.1)

pub line_sound : (line : List ℕ) (v : Line) → line_at line ≡ Some v → Spells line v
unfolding line_at
line_sound line v e = line_by line v (cut 35 line) refl e

-- a line says one thing at most
pub one_saying : (line : List ℕ) (v w : Line) → Spells line v → Spells line w → v ≡ w
one_saying line v w h k =
    let e : ◌≡◌ {A = Option Line} (Some v) (Some w) = sym (line_again line v h) ∙ line_again line w k in
    cc

pub unreadable : (line : List ℕ) → line_at line ≡ None → (v : Line) → Spells line v → ⊥
unreadable line e v h = let f : ◌≡◌ {A = Option Line} None (Some v) = sym e ∙ line_again line v h in cc
