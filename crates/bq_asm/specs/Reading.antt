-- Reading a line from its bytes, as functions of lists. It says the reader again, step by step, so that private
-- functions have contracts; of public contracts only the worked rows cite it. What a line says is `Spells` of
-- `specs/Line.antt`, a relation apart from the reader, which the public contracts cite by `specs/Source.antt`.
use Rattle.std.specs.Prelude.{◌≡◌, ℕ, ◌-◌, ◌^◌, ℤ, pos, negsuc, Bool, false, not, ◌&&◌, ◌==◌, nat_lt, if◌then◌else◌, List, [], ◌∷◌, length, Option, Some, None, option_map}
use Rattle.std.specs.List.{list_all}
use Rattle.spelling.specs.Natural.{natural_at}
use Rattle.bq_insn.specs.declared.insn.Operand.{Operand}
use Rattle.bq_insn.specs.declared.insn.Operand.TheVariants as operands
use Rattle.bq_insn.specs.declared.insn.Insn.TheVariants as insns
pub use Rattle.bq_asm.specs.Jumps.{fits, jump_bits, jump_by}
use Rattle.bq_asm.specs.declared.mnemonic.Mnemonic.{Mnemonic}
use Rattle.bq_asm.specs.declared.mnemonic.Mnemonic.TheVariants as mnemonics
use Rattle.bq_asm.specs.declared.jump.Jump.{Jump}
use Rattle.bq_asm.specs.declared.jump.Jump.TheVariants as jumps
use Rattle.bq_asm.specs.Mnemonic.{mnemonic_at}
use Rattle.bq_asm.specs.Line.{Statement, Complete, JumpTo, Line, Blank, Label, Instruction, is_letter, is_name_byte}

infixl 10 ◌>>=◌
abbrev pub ◌>>=◌ : {A B : Type 0} → Option A → (A → Option B) → Option B
None >>= f = None
(Some x) >>= f = f x

-- what was returned, seen by view, is what reading gives
abbrev pub Gives : {X Y : Type 0} → (X → Y) → Option X → Option Y → Type 0
Gives view None read = read ≡ None
Gives view (Some x) read = read ≡ Some (view x)

-- ---- parts of a text

-- what stands before the first c, and what stands behind it
abbrev pub cut : ℕ → List ℕ → Option (List ℕ × List ℕ)
cut c [] = None
cut c (d ∷ ds) = if d == c then Some ([], ds) else option_map (λ p. (d ∷ p.0, p.1)) (cut c ds)

-- what stands behind a first byte c
abbrev pub strip : ℕ → List ℕ → Option (List ℕ)
strip c [] = None
strip c (d ∷ ds) = if d == c then Some ds else None

abbrev pub trim_start : List ℕ → List ℕ
trim_start [] = []
trim_start (c ∷ cs) = if c == 32 then trim_start cs else c ∷ cs

abbrev pub before_spaces : ℕ → List ℕ → List ℕ
before_spaces c [] = if c == 32 then [] else c ∷ []
before_spaces c (d ∷ ds) = c ∷ d ∷ ds

abbrev pub trim_end : List ℕ → List ℕ
trim_end [] = []
trim_end (c ∷ cs) = before_spaces c (trim_end cs)

-- without the spaces at both ends
unfoldable pub trimmed : List ℕ → List ℕ
trimmed s = trim_end (trim_start s)

-- two texts with a comma between them
unfoldable pub pair_at : List ℕ → Option (List ℕ × List ℕ)
pair_at text = do
  p ← cut 44 text
  Some (trimmed p.0, trimmed p.1)

-- ---- numbers

abbrev pub positive_of : ℕ → Option ℤ
positive_of n = if nat_lt n (2 ^ 63) then Some (pos n) else None

abbrev pub negative_of : ℕ → Option ℤ
negative_of n = if nat_lt 0 n && nat_lt n (2 ^ 63) then Some (negsuc (n - 1)) else None

unfoldable pub positive_at : List ℕ → Option ℤ
positive_at text = natural_at text >>= positive_of

unfoldable pub negative_at : List ℕ → Option ℤ
negative_at text = natural_at text >>= negative_of

abbrev pub signed_else : List ℕ → Option (List ℕ) → Option ℤ
signed_else text None = positive_at text
signed_else text (Some digits) = negative_at digits

-- a number, with `-` in front or none
unfoldable pub signed_at : List ℕ → Option ℤ
signed_at text = signed_else text (strip 45 text)

abbrev pub distance_else : List ℕ → Option (List ℕ) → Option ℤ
distance_else text None = strip 45 text >>= negative_at
distance_else text (Some digits) = positive_at digits

-- a number with `+` or `-` in front
unfoldable pub distance_at : List ℕ → Option ℤ
distance_at text = distance_else text (strip 43 text)

abbrev pub fitting : ℕ → ℤ → Option ℤ
fitting w z = if fits w z then Some z else None

-- ---- operands

abbrev pub register_of : ℕ → Option ℕ
register_of n = if nat_lt n 11 then Some n else None

unfoldable pub register_at : List ℕ → Option ℕ
register_at text = do
  digits ← strip 114 text
  n ← natural_at digits
  register_of n

abbrev pub operand_else : List ℕ → Option ℕ → Option Operand
operand_else text (Some r) = Some (operands.Register r)
operand_else text None = do
  z ← signed_at text
  n ← fitting 32 z
  Some (operands.Number n)

unfoldable pub operand_at : List ℕ → Option Operand
operand_at text = operand_else text (register_at text)

-- a base and an offset
abbrev pub place_of : List ℕ → Option ℤ → Option (ℕ × ℤ)
place_of base offset = do
  r ← register_at base
  z ← offset
  d ← fitting 16 z
  Some (r, d)

abbrev pub place_else : List ℕ → Option (List ℕ × List ℕ) → Option (ℕ × ℤ)
place_else text (Some p) = place_of p.0 (positive_at p.1)
place_else text None = cut 45 text >>= λ p. place_of p.0 (negative_at p.1)

unfoldable pub place_at : List ℕ → Option (ℕ × ℤ)
place_at text = place_else text (cut 43 text)

-- a place in brackets
unfoldable pub memory_at : List ℕ → Option (ℕ × ℤ)
memory_at text = do
  inner ← strip 91 text
  p ← cut 93 inner
  if length p.1 == 0 then place_at p.0 else None

-- ---- statements

abbrev pub is_name : List ℕ → Bool
is_name [] = false
is_name (c ∷ cs) = is_letter c && list_all is_name_byte cs && nat_lt (length cs) 32

abbrev pub target_else : Jump → List ℕ → Option ℤ → Option Statement
target_else j text (Some z) = option_map Complete (jump_by j z)
target_else j text None = if is_name text then Some (JumpTo j text) else None

-- a jump to this target
unfoldable pub target_at : Jump → List ℕ → Option Statement
target_at j text = target_else j text (distance_at text)

-- the statement with this mnemonic and these operands
unfoldable pub statement_at : Mnemonic → List ℕ → Option Statement
statement_at (mnemonics.Alu w op) text = do
  p ← pair_at text
  d ← register_at p.0
  x ← operand_at p.1
  Some (Complete (insns.Alu w op d x))
statement_at (mnemonics.Negate w) text = do
  d ← register_at text
  Some (Complete (insns.Negate w d))
statement_at (mnemonics.Extend e) text = do
  p ← pair_at text
  d ← register_at p.0
  s ← register_at p.1
  Some (Complete (insns.Extend e d s))
statement_at (mnemonics.Order o b) text = do
  d ← register_at text
  Some (Complete (insns.Order o b d))
statement_at mnemonics.Jump text = target_at jumps.Always text
statement_at mnemonics.JumpFar text = target_at jumps.Far text
statement_at (mnemonics.Branch w r) text = do
  p ← pair_at text
  q ← pair_at p.1
  d ← register_at p.0
  x ← operand_at q.0
  target_at (jumps.Branch w r d x) q.1
statement_at mnemonics.Exit text = if length text == 0 then Some (Complete insns.Exit) else None
statement_at (mnemonics.Load z) text = do
  p ← pair_at text
  d ← register_at p.0
  m ← memory_at p.1
  Some (Complete (insns.Load z d m.0 m.1))
statement_at (mnemonics.LoadSigned z) text = do
  p ← pair_at text
  d ← register_at p.0
  m ← memory_at p.1
  Some (Complete (insns.LoadSigned z d m.0 m.1))
statement_at (mnemonics.Store z) text = do
  p ← pair_at text
  m ← memory_at p.0
  x ← operand_at p.1
  Some (Complete (insns.Store z m.0 m.1 x))
statement_at mnemonics.Wide text = do
  p ← pair_at text
  d ← register_at p.0
  v ← natural_at p.1
  Some (Complete (insns.Wide d v))

-- ---- lines

abbrev pub is_comment : List ℕ → Bool
is_comment text = list_all (λ d. nat_lt d 128 && not (d == 13)) text

unfoldable pub instruction_at : List ℕ → List ℕ → Option Line
instruction_at first rest = do
  m ← mnemonic_at first
  s ← statement_at m (trimmed rest)
  Some (Instruction s)

abbrev pub words_else : List ℕ → Option (List ℕ × List ℕ) → Option Line
words_else text None = instruction_at text []
words_else text (Some p) = instruction_at p.0 p.1

-- a line with no label and no comment
unfoldable pub words_at : List ℕ → Option Line
words_at text = if length (trimmed text) == 0 then Some Blank else words_else (trimmed text) (cut 32 (trimmed text))

abbrev pub label_else : List ℕ → Option (List ℕ × List ℕ) → Option Line
label_else text None = words_at text
label_else text (Some p) = if length p.1 == 0 && is_name p.0 then Some (Label p.0) else None

abbrev pub line_else : List ℕ → Option (List ℕ × List ℕ) → Option Line
line_else text None = label_else text (cut 58 (trimmed text))
line_else text (Some p) = if is_comment p.1 then words_at p.0 else None

unfoldable pub line_at : List ℕ → Option Line
line_at text = line_else text (cut 35 text)
