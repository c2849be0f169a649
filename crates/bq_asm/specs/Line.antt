-- The grammar of a line: what its bytes say.
use Rattle.std.specs.Prelude.{◌≡◌, ◌≢◌, ℕ, ◌<◌, ◌≤◌, Bool, ◌||◌, ◌==◌, IsTrue, List, [], ◌∷◌, ◌++◌, length}
use Rattle.std.specs.List.{AllByRecursion}
use Rattle.std.specs.Char.{is_ascii_digit, is_ascii_alphabetic}
use Rattle.bq_insn.specs.Insn.{IsInsn, IsOperand}
pub use Rattle.bq_asm.specs.Statement.{Statement, Complete, JumpTo, Line, Blank, Label, Instruction}
use Rattle.bq_asm.specs.declared.mnemonic.Mnemonic.{Mnemonic}
use Rattle.bq_asm.specs.declared.jump.Jump.{Jump}
use Rattle.bq_asm.specs.declared.jump.Jump.TheVariants as jumps
use Rattle.bq_asm.specs.Mnemonic.{name}
use Rattle.bq_asm.specs.Operands.{mnemonic_of, operands_of, jump_mnemonic, jump_operands}

-- ---- names

abbrev pub is_letter : ℕ → Bool
is_letter c = is_ascii_alphabetic c

abbrev pub is_name_byte : ℕ → Bool
is_name_byte c = is_ascii_alphabetic c || is_ascii_digit c || c == 95

-- a letter, and then letters, digits and `_`, 32 of them at most
abbrev pub IsName : List ℕ → Type 0
IsName [] = ⊥
IsName (c ∷ cs) = IsTrue (is_letter c) × AllByRecursion (λ d. IsTrue (is_name_byte d)) cs × (length cs < 32)

-- ---- statements

abbrev pub statement_mnemonic : Statement → Mnemonic
statement_mnemonic (Complete i) = mnemonic_of i
statement_mnemonic (JumpTo j label) = jump_mnemonic j

abbrev pub statement_operands : Statement → List (List ℕ)
statement_operands (Complete i) = operands_of i
statement_operands (JumpTo j label) = jump_operands j label

abbrev pub IsJump : Jump → Type 0
IsJump (jumps.Branch w r dst x) = (dst < 11) × IsOperand x
IsJump _ = Unit {0}

-- its numbers fit their fields, and its label is a name
abbrev pub IsStatement : Statement → Type 0
IsStatement (Complete i) = IsInsn i
IsStatement (JumpTo j label) = IsJump j × IsName label

-- ---- the line

abbrev pub AreSpaces : List ℕ → Type 0
AreSpaces s = AllByRecursion (λ c. c ≡ 32) s

-- nothing, or from `#` on ASCII with no carriage return
abbrev pub IsComment : List ℕ → Type 0
IsComment [] = Unit {0}
IsComment (c ∷ cs) = (c ≡ 35) × AllByRecursion (λ d. (d < 128) × (d ≢ 13)) cs

-- a comma with spaces about it
pub record IsComma (text : List ℕ) : Type 0 where
  pub before : List ℕ
  pub after : List ℕ
  pub spaces_before : AreSpaces before
  pub spaces_after : AreSpaces after
  pub parts : text ≡ before ++ (44 ∷ after)

-- operands with commas between them
abbrev pub AreListed : List (List ℕ) → List ℕ → Type 0
AreListed [] text = text ≡ []
AreListed (x ∷ []) text = text ≡ x
AreListed (x ∷ y ∷ xs) text = (comma : List ℕ) × (rest : List ℕ) × IsComma comma × AreListed (y ∷ xs) rest × (text ≡ x ++ (comma ++ rest))

-- what stands between the mnemonic and the operands: a space at least, where there are any
abbrev pub IsGap : List (List ℕ) → List ℕ → Type 0
IsGap [] gap = gap ≡ []
IsGap (x ∷ xs) gap = AreSpaces gap × (1 ≤ length gap)

pub record SpellsBlank (line : List ℕ) : Type 0 where
  pub spaces : List ℕ
  pub comment : List ℕ
  pub are_spaces : AreSpaces spaces
  pub is_comment : IsComment comment
  pub parts : line ≡ spaces ++ comment

pub record SpellsLabel (line label : List ℕ) : Type 0 where
  pub before : List ℕ
  pub after : List ℕ
  pub spaces_before : AreSpaces before
  pub spaces_after : AreSpaces after
  pub is_name : IsName label
  pub parts : line ≡ before ++ (label ++ (58 ∷ after))

pub record SpellsStatement (line : List ℕ) (s : Statement) : Type 0 where
  pub before : List ℕ
  pub gap : List ℕ
  pub list : List ℕ
  pub after : List ℕ
  pub comment : List ℕ
  pub spaces_before : AreSpaces before
  pub is_gap : IsGap (statement_operands s) gap
  pub are_listed : AreListed (statement_operands s) list
  pub spaces_after : AreSpaces after
  pub is_comment : IsComment comment
  pub legal : IsStatement s
  pub parts : line ≡ before ++ (name (statement_mnemonic s) ++ (gap ++ (list ++ (after ++ comment))))

-- the line says this
abbrev pub Spells : List ℕ → Line → Type 0
Spells line Blank = SpellsBlank line
Spells line (Label label) = SpellsLabel line label
Spells line (Instruction s) = SpellsStatement line s
