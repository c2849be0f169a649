-- The disassembly of a text: it is written unit by unit, and it spells the text.
use Rattle.std.proofs.Common.{◌≡◌, ℕ, ◌+◌, ◌<◌, ◌≤◌, false, eqb, List, [], ◌∷◌, ◌++◌, length, take, get_or, Option, None, refl, ap, sym, ◌∙◌, subst, arith}
use Rattle.std.specs.Prelude.{codes}
use Rattle.std.specs.List.{AllByRecursion, AllZip}
use Rattle.std.proofs.lemmas.List.{take_more, take_all, append-nil, append_assoc}
use Rattle.std.proofs.lemmas.List.Concat.{flat_map-append}
use Rattle.std.proofs.lemmas.List.Elements.{All-from_recursion}
use Rattle.std.proofs.lemmas.List.Splits.{slice_split_at}
use Rattle.bq_insn.specs.declared.insn.Insn.{Insn}
use Rattle.bq_insn.specs.Insn.{IsInsn}
use Rattle.bq_insn.specs.Slots.{slots, begun}
use Rattle.bq_insn.proofs.Reading.{begun-append}
use Rattle.bq_insn.proofs.Listed.{begun-slots}
use Rattle.bq_asm.specs.Mnemonic.{name}
use Rattle.bq_asm.specs.Operands.{mnemonic_of, operands_of}
use Rattle.bq_asm.specs.Line.{Complete, Line, Blank, Instruction, IsComma, AreListed, IsGap, Spells}
use Rattle.bq_asm.specs.Labels.{NoLine, IsRepeated, Mean}
use Rattle.bq_asm.specs.Source.{lines_of, IsSource, listed, spaced, insn_line, disassembly}
use Rattle.bq_asm.proofs.Parts.{Lacks}
use Rattle.bq_asm.proofs.Clean.{no_line_feed}
use Rattle.bq_asm.proofs.Spelled.{Core, core_lacks}

-- ---- unit by unit

pub line_more : (t : List Insn) (k : ℕ) {o : Option Insn} {before after : List ℕ} → k < length (slots t) → o ≡ get_or (slots t) k None
    → before ≡ disassembly (begun (take k (slots t))) → after ≡ before ++ disassembly (begun (o ∷ []))
    → after ≡ disassembly (begun (take (k + 1) (slots t)))
line_more t k {o} l e b a =
    let s : take (k + 1) (slots t) ≡ take k (slots t) ++ o ∷ [] = take_more (slots t) k None l ∙ ap (λ (p : Option Insn). take k (slots t) ++ p ∷ []) (sym e) in
    a ∙ ap (λ (u : List ℕ). u ++ disassembly (begun (o ∷ []))) b ∙ sym (flat_map-append insn_line (begun (take k (slots t))) (begun (o ∷ [])))
    ∙ ap disassembly (sym (begun-append (take k (slots t)) (o ∷ []))) ∙ ap (λ u. disassembly (begun u)) (sym s)

pub all_written : (t : List Insn) (k : ℕ) {out : List ℕ} → length (slots t) ≤ k → out ≡ disassembly (begun (take k (slots t))) → out ≡ disassembly t
all_written t k l e = e ∙ ap (λ u. disassembly (begun u)) (take_all k (slots t) l) ∙ ap disassembly (begun-slots t)

-- ---- the line of an instruction

abbrev text_of : Insn → List ℕ
text_of i = name (mnemonic_of i) ++ spaced (operands_of i)

are_listed : (xs : List (List ℕ)) → AreListed xs (listed xs)
are_listed [] = refl
are_listed (x ∷ []) = refl
are_listed (x ∷ y ∷ xs) =
    let comma : IsComma (codes ", ") = record { before = []; after = 32 ∷ []; spaces_before = tt; spaces_after = (refl, tt); parts = refl } in
    (codes ", ", listed (y ∷ xs), comma, are_listed (y ∷ xs), refl)

gap_of : (xs : List (List ℕ)) → (gap : List ℕ) × IsGap xs gap × (spaced xs ≡ gap ++ listed xs)
gap_of [] = ([], refl, refl)
gap_of (x ∷ xs) = (32 ∷ [], ((refl, tt), omega arith), refl)

-- the text of an instruction has no line feed, and spells it
text_says : (i : Insn) → IsInsn i → Lacks 10 (text_of i) × Spells (text_of i) (Instruction (Complete i))
text_says i h =
    let list = listed (operands_of i) in
    let gap = gap_of (operands_of i) in
    let core : Core (Complete i) gap.0 list = record { legal = h; gaps = gap.1; listed = are_listed (operands_of i) } in (
      rw gap.2 (core_lacks core 10 no_line_feed refl refl),
      record {
        before = [];
        gap = gap.0;
        list = list;
        after = [];
        comment = [];
        spaces_before = tt;
        is_gap = gap.1;
        are_listed = core.listed;
        spaces_after = tt;
        is_comment = tt;
        legal = h;
        parts = ap (λ (u : List ℕ). name (mnemonic_of i) ++ u) (gap.2 ∙ ap (λ (u : List ℕ). gap.0 ++ u) (sym (append-nil list)));
      },
    )

-- ---- the whole

abbrev said : List Insn → List Line
said [] = Blank ∷ []
said (i ∷ t) = Instruction (Complete i) ∷ said t

cut_line : (i : Insn) (rest : List ℕ) → IsInsn i → lines_of (insn_line i ++ rest) ≡ text_of i ∷ lines_of rest
cut_line i rest h =
    let parts : insn_line i ++ rest ≡ text_of i ++ (10 ∷ rest) = simp append_assoc in
    ap lines_of parts
    ∙ slice_split_at (λ c. eqb c 10) (text_of i) 10 rest (All-from_recursion (λ c. eqb c 10 ≡ false) (text_of i) (text_says i h).0) refl

says : (t : List Insn) → AllByRecursion IsInsn t → AllZip Spells (lines_of (disassembly t)) (said t)
says [] h = (record { spaces = []; comment = []; are_spaces = tt; is_comment = tt; parts = refl }, tt)
says (i ∷ t) h = subst (λ u. AllZip Spells u (said (i ∷ t))) (sym (cut_line i (disassembly t) h.0)) ((text_says i h.0).1, says t h.1)

said_once : (before : List Line) (t : List Insn) → NoLine IsRepeated before (said t)
said_once before [] = (λ h. h, tt)
said_once before (i ∷ t) = (λ h. h, said_once (before ++ Instruction (Complete i) ∷ []) t)

said_means : (t : List Insn) → Mean (said t) t
said_means [] = refl
said_means (i ∷ t) = (refl, said_means t)

pub disassembly_spells : (t : List Insn) → AllByRecursion IsInsn t → IsSource (disassembly t) t
disassembly_spells t h = record { lines = said t; says = says t h; once = said_once [] t; means = said_means t }
