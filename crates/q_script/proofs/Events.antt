-- The events of lines: what is no line spells none.
use Rattle.std.proofs.Common.{◌≡◌, ◌≢◌, ℕ, List, ◌∷◌, ◌++◌, Result, Ok, Err, Bool, true, false, inl, inr, ap, sym, ◌∙◌, subst, lit<, string_bytes}
use Rattle.std.specs.Prelude.{Vec, IsErrAnd, IsTrue, ◌↔◌}
use Rattle.std.specs.declared.alloc.Global.{Global}
use Rattle.q_script.specs.declared.call_line.CallLine.TheVariants.{Program, Store, Ask}
use Rattle.q_script.specs.declared.command.Command.{Command}
use Rattle.q_script.specs.declared.command.Command.TheVariants as command
use Rattle.q_script.specs.declared.line.ScriptLine.{ScriptLine}
use Rattle.q_script.specs.declared.line.ScriptLine.TheVariants.{Call, Deliver, Pairs, Journal}
use Rattle.q_script.specs.declared.line.LineFault.{LineFault}
use Rattle.q_script.specs.declared.line.LineFault.TheVariants.{Form, OutOfMemory}
use Rattle.q_script.specs.Words.{Lacks, IsFollowed, IsPair}
use Rattle.q_script.specs.Records.{IsValue}
use Rattle.q_script.specs.Line.{IsCode, IsWord, IsProgram, IsStore, IsAsk, IsDeliver, IsJournal, HasOperands, HasCommand, IsAlone, Spells, Judges, name}
use Rattle.q_script.proofs.Parts.{IsCut, cut_once, never_cut}
use Rattle.q_script.proofs.Pairs.{followed_once}
use Rattle.q_script.proofs.Commands.{same_command, name_lacks_space}

-- ---- operands

pub not_store : (s : List ℕ) → ((p : ℕ × List ℕ) → IsFollowed 32 s p → ⊥) → (line : ScriptLine) → IsStore s line → ⊥
not_store s n (Call (Store node value)) h = n (node, h.0) h.1
not_store s n _ h = h

pub not_store_value : (s : List ℕ) (p : ℕ × List ℕ) → IsFollowed 32 s p → ((value : Vec ℕ Global) → IsValue p.1 value.items → ⊥) → (line : ScriptLine)
    → IsStore s line → ⊥
not_store_value s p f n (Call (Store node value)) h =
    let same = followed_once 32 s p (node, h.0) (lit< tt) f h.1 in
    n value (subst (λ x. IsValue x value.items) (sym same) h.2)
not_store_value s p f n _ h = h

pub not_deliver : (s : List ℕ) → ((p : ℕ × ℕ) → IsPair 32 s p → ⊥) → (line : ScriptLine) → IsDeliver s line → ⊥
not_deliver s n (Deliver message node) h = n (message, node) h
not_deliver s n _ h = h

part_told : {X : Type 0} (part : List ℕ → X → Type 0) (whole : List ℕ → ScriptLine → Type 0) (s t : List ℕ) (fault : LineFault)
    → (((x : X) → part t x → ⊥) → (line : ScriptLine) → whole s line → ⊥) → Judges part t (Err fault) → Judges whole s (Err fault)
part_told part whole s t Form none h = none h
part_told part whole s t OutOfMemory none h = tt

-- where a part of a line is refused, the line is refused for the same cause
pub part_fails : {X : Type 0} (part : List ℕ → X → Type 0) (whole : List ℕ → ScriptLine → Type 0) (s t : List ℕ) (fault : LineFault)
    (r : Result ScriptLine LineFault) → IsErrAnd r (λ e. e ≡ fault) → (((x : X) → part t x → ⊥) → (line : ScriptLine) → whole s line → ⊥)
    → Judges part t (Err fault) → Judges whole s r
part_fails part whole s t fault (Ok line) e none h = absurd e
part_fails part whole s t fault (Err f) e none h = rw e (part_told part whole s t fault none h)

pub not_ask : (s : List ℕ) → ((p : ℕ × List ℕ) → IsFollowed 32 s p → ⊥) → (line : ScriptLine) → IsAsk s line → ⊥
not_ask s n (Call (Ask node program start)) h = n (node, h.0) h.1
not_ask s n _ h = h

pub not_ask_pair : (s : List ℕ) (p : ℕ × List ℕ) → IsFollowed 32 s p → ((q : ℕ × ℕ) → IsPair 32 p.1 q → ⊥) → (line : ScriptLine) → IsAsk s line → ⊥
not_ask_pair s p f n (Call (Ask node program start)) h =
    let same = followed_once 32 s p (node, h.0) (lit< tt) f h.1 in
    n (program, start) (subst (λ x. IsPair 32 x (program, start)) (sym same) h.2)
not_ask_pair s p f n _ h = h

pub not_program : (s : List ℕ) → ((p : ℕ × List ℕ) → IsFollowed 32 s p → ⊥) → (line : ScriptLine) → IsProgram s line → ⊥
not_program s n (Call (Program node code)) h = n (node, h.0) h.1
not_program s n _ h = h

not_code : (s : List ℕ) (p : ℕ × List ℕ) → IsFollowed 32 s p → ((code : Vec ℕ Global) → IsCode p.1 code.items → ⊥) → (line : ScriptLine) → IsProgram s line → ⊥
not_code s p f n (Call (Program node code)) h =
    let same = followed_once 32 s p (node, h.0) (lit< tt) f h.1 in
    n code (subst (λ x. IsCode x code.items) (sym same) h.2)
not_code s p f n _ h = h

pub code_fault : (s : List ℕ) (p : ℕ × List ℕ) (fault : LineFault) → IsFollowed 32 s p
    → Judges (λ text (code : Vec ℕ Global). IsCode text code.items) p.1 (Err fault) → Judges IsProgram s (Err fault)
code_fault s p Form f h = not_code s p f h
code_fault s p OutOfMemory f h = tt

pub not_journal : (s : List ℕ) → ((p : ℕ × List ℕ) → IsFollowed 32 s p → ⊥) → (line : ScriptLine) → IsJournal s line → ⊥
not_journal s n (Journal node file) h = n (node, string_bytes file) h.0
not_journal s n _ h = h

not_file : (s : List ℕ) (p : ℕ × List ℕ) → IsFollowed 32 s p → (IsWord p.1 → ⊥) → (line : ScriptLine) → IsJournal s line → ⊥
not_file s p f n (Journal node file) h =
    let same = followed_once 32 s p (node, string_bytes file) (lit< tt) f h.0 in
    n (subst IsWord (sym same) h.1)
not_file s p f n _ h = h

-- a space is in no word
pub no_word : (s a b : List ℕ) → IsCut 32 s a b → IsTrue false ↔ IsWord s
no_word s a b e = ((λ h. absurd (cc)), λ h. absurd (never_cut 32 s a b h.1 e))

pub no_file : (s : List ℕ) (p : ℕ × List ℕ) (b : Bool) → IsFollowed 32 s p → IsTrue b ↔ IsWord p.1 → b ≡ false → (line : ScriptLine) → IsJournal s line → ⊥
no_file s p b f test h = not_file s p f (λ w. let t : true ≡ false = sym (test.1 w) ∙ h in cc)

-- ---- lines

pub not_alone : (s : List ℕ) → (s ≡ name command.Pairs → ⊥) → (line : ScriptLine) → IsAlone s line → ⊥
not_alone s n Pairs h = n h
not_alone s n _ h = h

alone_lacks : (s : List ℕ) (line : ScriptLine) → IsAlone s line → Lacks 32 s
alone_lacks s Pairs h = subst (Lacks 32) (sym h) (name_lacks_space command.Pairs)
alone_lacks s _ h = absurd h

no_command_there : (s : List ℕ) → Lacks 32 s → (line : ScriptLine) → HasCommand s line → ⊥
no_command_there s l line h = never_cut 32 s (name h.command) h.rest l (name_lacks_space h.command, h.parts)

-- a line without a space
pub alone_judged : (s : List ℕ) (r : Result ScriptLine LineFault) → Lacks 32 s → Judges IsAlone s r → Judges Spells s r
alone_judged s (Ok line) l h = inl h
alone_judged s (Err Form) l h = λ line p. elim p [ inl a ↦ h line a | inr b ↦ no_command_there s l line b ]
alone_judged s (Err OutOfMemory) l h = tt

same_word : (s a b : List ℕ) (line : ScriptLine) (h : HasCommand s line) → IsCut 32 s a b → (a ≡ name h.command) × (b ≡ h.rest)
same_word s a b line h e = cut_once 32 s a b (name h.command) h.rest e (name_lacks_space h.command, h.parts)

-- a line with a space has a command with operands
spaced : (s a b : List ℕ) (line : ScriptLine) → IsCut 32 s a b → Spells s line → HasCommand s line
spaced s a b line e (inl h) = absurd (never_cut 32 s a b (alone_lacks s line h) e)
spaced s a b line e (inr h) = h

pub no_command : (s a b : List ℕ) → IsCut 32 s a b → ((c : Command) → a ≢ name c) → (line : ScriptLine) → Spells s line → ⊥
no_command s a b e n line p = let h = spaced s a b line e p in n h.command (same_word s a b line h e).0

pub line_judged : (s a b : List ℕ) (c : Command) (r : Result ScriptLine LineFault) → IsCut 32 s a b → a ≡ name c → Judges (HasOperands c) b r
    → Judges Spells s r
line_judged s a b c (Ok line) e k h = inr (record { command = c; rest = b; parts = e.1 ∙ ap (λ w. w ++ (32 ∷ b)) k; operands = h })
line_judged s a b c (Err Form) e k h = λ line q.
    let p = spaced s a b line e q in
    let same = same_word s a b line p e in
    let d = same_command c p.command (sym k ∙ same.0) in
    h line (subst (λ (d : Command). HasOperands d b line) (sym d) (subst (λ x. HasOperands p.command x line) (sym same.1) p.operands))
line_judged s a b c (Err OutOfMemory) e k h = tt
