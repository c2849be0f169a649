-- What a line spells is read from it.
use Rattle.std.proofs.Common.{◌≡◌, ◌≢◌, ℕ, ◌<◌, true, false, eqb, List, [], ◌∷◌, ◌++◌, length, Some, None, refl, ap, sym, ◌∙◌, subst, arith}
use Rattle.std.specs.List.{AllByRecursion}
use Rattle.std.proofs.lemmas.Bool.{ne_eqb, and_from, lt-ltb, not_from_false}
use Rattle.std.proofs.lemmas.List.{append_assoc, append-nil}
use Rattle.bq_asm.specs.Mnemonic.{name}
use Rattle.bq_asm.specs.Statement.{Statement, Line, Blank, Label, Instruction}
use Rattle.bq_asm.specs.Line.{IsStatement, IsComment, AreListed, AreSpaces, IsGap, statement_operands, statement_mnemonic, Spells, SpellsLabel}
use Rattle.bq_asm.specs.Reading.{cut, trimmed, is_comment, instruction_at, words_else, words_at, line_at}
use Rattle.bq_asm.proofs.Parts.{Lacks, cut_none, cut_at}
use Rattle.bq_asm.proofs.Spaces.{Starts, Ends, spaces_lack, lacks_append, starts_append, starts_some, ends_append, trimmed_between, trimmed_spaces}
use Rattle.bq_asm.proofs.Clean.{is_clean, Clean, no_space, no_hash, no_colon, clean_lacks, clean_ends, word_starts, name_word}
use Rattle.bq_asm.proofs.Mnemonics.{mnemonic_again, name_clean, name_some}
use Rattle.bq_asm.proofs.Again.{Words, listed_starts, listed_ends, listed_lacks, statement_again, operands_words, name_again}

comment_again : (c : List ℕ) → AllByRecursion (λ d. (d < 128) × (d ≢ 13)) c → is_comment c ≡ true
comment_again [] h = refl
comment_again (d ∷ c) h = and_from _ _ (and_from _ _ (lt-ltb d 128 h.0.0) (not_from_false _ (ne_eqb d 13 h.0.1))) (comment_again c h.1)

-- ---- the code of a line: without its comment

words_blank : (s : List ℕ) → AreSpaces s → words_at s ≡ Some Blank
unfolding words_at
words_blank s h = rw (trimmed_spaces s h) refl

instruction_is : (s : Statement) (rest list : List ℕ) → IsStatement s → AreListed (statement_operands s) list → trimmed rest ≡ list
    → instruction_at (name (statement_mnemonic s)) rest ≡ Some (Instruction s)
unfolding instruction_at
instruction_is s rest list h l e = rw (mnemonic_again (statement_mnemonic s), e, statement_again s list h l) refl

-- the code of a statement: its mnemonic, what stands behind it, and its operands
pub record Core (s : Statement) (gap list : List ℕ) : Type 0 where
  pub legal : IsStatement s
  pub gaps : IsGap (statement_operands s) gap
  pub listed : AreListed (statement_operands s) list

module _ {s : Statement} {gap list : List ℕ} (k : Core s gap list) where
  abbrev mnemonic : List ℕ
  mnemonic = name (statement_mnemonic s)

  abbrev core : List ℕ
  core = mnemonic ++ (gap ++ list)

  mnemonic_clean : Clean mnemonic
  mnemonic_clean = name_clean (statement_mnemonic s)

  core_starts : Starts core
  core_starts = starts_append mnemonic (gap ++ list) (word_starts mnemonic (record { clean = mnemonic_clean; some = name_some (statement_mnemonic s) }))

  core_ends_by : (xs : List (List ℕ)) (g : List ℕ) → IsGap xs g → AreListed xs list → Words xs → Ends (mnemonic ++ (g ++ list))
  core_ends_by [] g e l w = rw (e, l, append-nil mnemonic) (clean_ends mnemonic mnemonic_clean)
  core_ends_by (x ∷ xs) g e l w =
      rw (sym (append_assoc mnemonic g list)) (ends_append (mnemonic ++ g) list (listed_starts (x ∷ xs) list tt w l) (listed_ends (x ∷ xs) list w l))

  core_ends : Ends core
  core_ends = core_ends_by (statement_operands s) gap k.gaps k.listed (operands_words s k.legal)

  gap_lacks : (c : ℕ) (xs : List (List ℕ)) → eqb 32 c ≡ false → IsGap xs gap → Lacks c gap
  gap_lacks c [] e g = subst (Lacks c) (sym g) tt
  gap_lacks c (x ∷ xs) e g = spaces_lack c gap e g.0

  pub core_lacks : (c : ℕ) → ((d : ℕ) → is_clean d ≡ true → eqb d c ≡ false) → eqb 32 c ≡ false → eqb 44 c ≡ false → Lacks c core
  core_lacks c f a b =
      lacks_append c mnemonic (gap ++ list) (clean_lacks c mnemonic f mnemonic_clean)
      (lacks_append c gap list (gap_lacks c (statement_operands s) a k.gaps)
      (listed_lacks c (λ t w. clean_lacks c t f w.clean) a b (statement_operands s) list (operands_words s k.legal) k.listed))

  words_by : (xs : List (List ℕ)) (g : List ℕ) → IsGap xs g → AreListed xs list → Words xs
      → words_else (mnemonic ++ (g ++ list)) (cut 32 (mnemonic ++ (g ++ list))) ≡ Some (Instruction s)
  words_by [] g e l w =
      rw (e, l, append-nil mnemonic, cut_none 32 mnemonic (clean_lacks 32 mnemonic no_space mnemonic_clean))
      (instruction_is s [] list k.legal k.listed (trimmed_spaces [] tt ∙ sym l))
  words_by (x ∷ xs) [] e l w = absurd (omega (arith, e.1))
  words_by (x ∷ xs) (c ∷ g) e l w =
      let between = trimmed_between g list [] e.0.1 (listed_starts (x ∷ xs) list tt w l) (listed_ends (x ∷ xs) list w l) tt in
      rw (e.0.0, cut_at 32 mnemonic (g ++ list) (clean_lacks 32 mnemonic no_space mnemonic_clean))
      (instruction_is s (g ++ list) list k.legal k.listed (ap (λ (t : List ℕ). trimmed (g ++ t)) (sym (append-nil list)) ∙ between))

  words_statement : (code : List ℕ) → trimmed code ≡ core → words_at code ≡ Some (Instruction s)
  unfolding words_at
  words_statement code e =
      let some : eqb (length core) 0 ≡ false = ne_eqb (length core) 0 (λ h. omega (arith, h, starts_some core core_starts)) in
      rw (e, some) (words_by (statement_operands s) gap k.gaps k.listed (operands_words s k.legal))

-- ---- lines

-- a line whose code has no `#` and no colon, with a comment or none
read_words : (code comment : List ℕ) (v : Line) → Lacks 35 code → cut 58 (trimmed code) ≡ None → IsComment comment → words_at code ≡ Some v
    → line_at (code ++ comment) ≡ Some v
unfolding line_at
read_words code [] v h n c e = rw (append-nil code, cut_none 35 code h, n) e
read_words code (d ∷ ds) v h n c e = rw (c.0, cut_at 35 code ds h, comment_again ds c.1) e

-- spaces about a text bring no `#`, and are trimmed
between : (before text after : List ℕ) → AreSpaces before → AreSpaces after → Starts text → Ends text → Lacks 35 text
    → Lacks 35 (before ++ (text ++ after)) × (trimmed (before ++ (text ++ after)) ≡ text)
between before text after b a s e h = (
  lacks_append 35 before (text ++ after) (spaces_lack 35 before refl b) (lacks_append 35 text after h (spaces_lack 35 after refl a)),
  trimmed_between before text after b s e a,
)

label_again : (line label : List ℕ) → SpellsLabel line label → line_at line ≡ Some (Label label)
unfolding line_at
label_again line label h =
    let w = name_word label h.is_name in
    let text = label ++ (58 ∷ []) in
    let same : line ≡ h.before ++ (text ++ h.after) = h.parts ∙ simp append_assoc in
    let starts = starts_append label (58 ∷ []) (word_starts label w) in
    let lacks : Lacks 35 text = lacks_append 35 label (58 ∷ []) (clean_lacks 35 label no_hash w.clean) (refl, tt) in
    let b = between h.before text h.after h.spaces_before h.spaces_after starts (ends_append label (58 ∷ []) refl refl) lacks in
    rw (same, cut_none 35 _ b.0, b.1, cut_at 58 label [] (clean_lacks 58 label no_colon w.clean), name_again label h.is_name) refl

pub line_again : (line : List ℕ) (v : Line) → Spells line v → line_at line ≡ Some v
line_again line Blank h =
    let none = ap (cut 58) (trimmed_spaces h.spaces h.are_spaces) in
    ap line_at h.parts
    ∙ read_words h.spaces h.comment Blank (spaces_lack 35 h.spaces refl h.are_spaces) none h.is_comment (words_blank h.spaces h.are_spaces)
line_again line (Label label) h = label_again line label h
line_again line (Instruction s) h =
    let k : Core s h.gap h.list = record { legal = h.legal; gaps = h.is_gap; listed = h.are_listed } in
    let code = h.before ++ (core k ++ h.after) in
    let same : line ≡ code ++ h.comment = h.parts ∙ simp append_assoc in
    let b = between h.before (core k) h.after h.spaces_before h.spaces_after (core_starts k) (core_ends k) (core_lacks k 35 no_hash refl refl) in
    let none = ap (cut 58) b.1 ∙ cut_none 58 (core k) (core_lacks k 58 no_colon refl refl) in
    ap line_at same ∙ read_words code h.comment (Instruction s) b.0 none h.is_comment (words_statement k code b.1)
