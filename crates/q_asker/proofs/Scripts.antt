-- The lines of a script.
use Rattle.std.proofs.Common.{◌≡◌, ◌≢◌, ◌↔◌, ℕ, ◌+◌, ◌<◌, List, ◌++◌, length, take, get_or, Result, Ok, Err, ap, sym, ◌∙◌, subst, arith}
use Rattle.std.specs.Prelude.{Vec, codes}
use Rattle.std.specs.declared.alloc.Global.{Global}
use Rattle.std.specs.List.{AllZip}
use Rattle.std.proofs.lemmas.List.{append_cancel_left}
use Rattle.q_script.specs.declared.line.LineFault.{LineFault}
use Rattle.q_script.specs.declared.line.LineFault.TheVariants.{Form, OutOfMemory}
use Rattle.q_script.specs.Line.{Judges}
use Rattle.q_script.specs.Lines.{IsFirst}
use Rattle.q_script.specs.Records.{IsValue}
use Rattle.q_script.specs.Words.{IsPair}
use Rattle.q_script.proofs.Lines.{first_other}
use Rattle.q_asker.specs.declared.script.ClientLine.{ClientLine}
use Rattle.q_asker.specs.declared.script.ClientLine.TheVariants as line
use Rattle.q_asker.specs.Script.{IsAsk, IsBehind, IsOther, IsProgram, IsStore, SpellsLine}

-- ---- what stands behind a word

-- a text that begins with this word spells what stands behind it, and only that
pub behind_word : (word : List ℕ) (spells : List ℕ → ClientLine → Type 0) (text rest : List ℕ) (l : ClientLine) → text ≡ word ++ rest
    → IsBehind word spells text l → spells rest l
behind_word word spells text rest l is h = subst (λ (t : List ℕ). spells t l) (append_cancel_left word h.0 rest (sym h.1 ∙ is)) h.2

program_store : (text a b : List ℕ) → text ≡ codes "program " ++ a → text ≡ codes "store " ++ b → ⊥
program_store text a b e f = let first : 112 ≡ 115 = ap (λ (l : List ℕ). get_or l 0 0) (sym e ∙ f) in omega (arith, first)

program_ask : (text a b : List ℕ) → text ≡ codes "program " ++ a → text ≡ codes "ask " ++ b → ⊥
program_ask text a b e f = let first : 112 ≡ 97 = ap (λ (l : List ℕ). get_or l 0 0) (sym e ∙ f) in omega (arith, first)

store_ask : (text a b : List ℕ) → text ≡ codes "store " ++ a → text ≡ codes "ask " ++ b → ⊥
store_ask text a b e f = let first : 115 ≡ 97 = ap (λ (l : List ℕ). get_or l 0 0) (sym e ∙ f) in omega (arith, first)

-- what stands behind a word, judged
judged_behind : (spells : List ℕ → ClientLine → Type 0) (text rest : List ℕ) (r : Result ClientLine LineFault)
    → ((l : ClientLine) → spells rest l ↔ SpellsLine text l) → Judges spells rest r → Judges SpellsLine text r
judged_behind spells text rest (Ok l) means h = (means l).0 h
judged_behind spells text rest (Err Form) means h = λ l p. h l ((means l).1 p)
judged_behind spells text rest (Err OutOfMemory) means h = tt

-- behind its word an operand means its line, and no other
program_means : (text rest : List ℕ) → text ≡ codes "program " ++ rest → (l : ClientLine) → IsProgram rest l ↔ SpellsLine text l
program_means text rest is (line.Program code) = (λ h. (rest, is, h), λ h. behind_word (codes "program ") IsProgram text rest (line.Program code) is h)
program_means text rest is (line.Store value) = (λ h. absurd h, λ h. program_store text rest h.0 is h.1)
program_means text rest is (line.Ask program start) = (λ h. absurd h, λ h. program_ask text rest h.0 is h.1)

pub program_judged : (text rest : List ℕ) (r : Result ClientLine LineFault) → text ≡ codes "program " ++ rest → Judges IsProgram rest r
    → Judges SpellsLine text r
program_judged text rest r is h = judged_behind IsProgram text rest r (program_means text rest is) h

store_means : (text rest : List ℕ) → text ≡ codes "store " ++ rest → (l : ClientLine) → IsStore rest l ↔ SpellsLine text l
store_means text rest is (line.Program code) = (λ h. absurd h, λ h. program_store text h.0 rest h.1 is)
store_means text rest is (line.Store value) = (λ h. (rest, is, h), λ h. behind_word (codes "store ") IsStore text rest (line.Store value) is h)
store_means text rest is (line.Ask program start) = (λ h. absurd h, λ h. store_ask text rest h.0 is h.1)

pub store_judged : (text rest : List ℕ) (r : Result ClientLine LineFault) → text ≡ codes "store " ++ rest → Judges IsStore rest r → Judges SpellsLine text r
store_judged text rest r is h = judged_behind IsStore text rest r (store_means text rest is) h

ask_means : (text rest : List ℕ) → text ≡ codes "ask " ++ rest → (l : ClientLine) → IsAsk rest l ↔ SpellsLine text l
ask_means text rest is (line.Program code) = (λ h. absurd h, λ h. program_ask text h.0 rest h.1 is)
ask_means text rest is (line.Store value) = (λ h. absurd h, λ h. store_ask text h.0 rest h.1 is)
ask_means text rest is (line.Ask program start) = (λ h. (rest, is, h), λ h. behind_word (codes "ask ") IsAsk text rest (line.Ask program start) is h)

pub ask_judged : (text rest : List ℕ) (r : Result ClientLine LineFault) → text ≡ codes "ask " ++ rest → Judges IsAsk rest r → Judges SpellsLine text r
ask_judged text rest r is h = judged_behind IsAsk text rest r (ask_means text rest is) h

-- a text that begins with none of the words
pub no_line : (text : List ℕ) → ((rest : List ℕ) → text ≢ codes "program " ++ rest) → ((rest : List ℕ) → text ≢ codes "store " ++ rest)
    → ((rest : List ℕ) → text ≢ codes "ask " ++ rest) → (l : ClientLine) → SpellsLine text l → ⊥
no_line text p s a (line.Program code) h = p h.0 h.1
no_line text p s a (line.Store value) h = s h.0 h.1
no_line text p s a (line.Ask program start) h = a h.0 h.1

-- ---- operands

not_store : (text : List ℕ) → ((value : Vec ℕ Global) → IsValue text value.items → ⊥) → (l : ClientLine) → IsStore text l → ⊥
not_store text h (line.Store value) p = h value p
not_store text h l p = p

pub no_store : (text : List ℕ) (fault : LineFault) → Judges (λ t (value : Vec ℕ Global). IsValue t value.items) text (Err fault)
    → Judges IsStore text (Err fault)
no_store text Form h = not_store text h
no_store text OutOfMemory h = tt

pub no_ask : (text : List ℕ) → ((p : ℕ × ℕ) → IsPair 32 text p → ⊥) → (l : ClientLine) → IsAsk text l → ⊥
no_ask text h (line.Ask program start) p = h (program, start) p
no_ask text h l p = p

-- ---- lines in turn

-- the least line that is of another form
pub least_other : (texts done : List (List ℕ)) (items : List ClientLine) (t : List ℕ) (i k : ℕ) → done ≡ take i texts → i < length texts
    → t ≡ get_or texts i t → AllZip SpellsLine done items → ((l : ClientLine) → SpellsLine t l → ⊥) → k ≡ length items
    → IsFirst IsOther 0 texts (k + 1)
least_other texts done items t i k f l e h n d =
    subst (IsFirst IsOther 0 texts) (omega arith) (first_other SpellsLine 0 texts done items t i k f l e h n d)
