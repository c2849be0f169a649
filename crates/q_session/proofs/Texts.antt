-- When two texts are the same.
use Rattle.std.proofs.Common.{◌≡◌, ◌<◌, ℕ, true, false, List, get_or, None, sym, ap, ◌∙◌}
use Rattle.std.proofs.lemmas.Bool.{false_from_ne_true}
use Rattle.std.proofs.lemmas.List.{ext_get_or}
use Rattle.std.proofs.lemmas.Slice.Eq.{bytes_eq-Decides}
use Rattle.bq_insn.specs.declared.insn.Insn.{Insn}
use Rattle.bq_insn.specs.Slots.{slots, begun, units, spelling, IsText}
use Rattle.bq_insn.proofs.Listed.{begun-slots}
use Rattle.q_table.specs.Programs.{is_same_text}

-- bytes are the spelling of one text
abbrev pub OneSpelling : Type 0
OneSpelling = (t u : List Insn) → IsText t → IsText u → spelling t ≡ spelling u → t ≡ u

pub texts-differ : OneSpelling → (t u : List Insn) → IsText t → IsText u → (t ≡ u → ⊥) → false ≡ is_same_text t u
texts-differ one t u p q differ =
    sym (false_from_ne_true (is_same_text t u) (λ same. differ (one t u p q ((bytes_eq-Decides (spelling t) (spelling u)).0 same))))

pub texts-same : (t u : List Insn) → units t ≡ units u → ((k : ℕ) → k < units t → get_or (slots t) k None ≡ get_or (slots u) k None) → t ≡ u
texts-same t u n at =
    let s : slots t ≡ slots u = ext_get_or None (slots t) (slots u) n at in
    sym (begun-slots t) ∙ ap begun s ∙ begun-slots u

pub text-told : (t u : List Insn) → t ≡ u → true ≡ is_same_text t u
text-told t u e = sym ((bytes_eq-Decides (spelling t) (spelling u)).1 (ap spelling e))
