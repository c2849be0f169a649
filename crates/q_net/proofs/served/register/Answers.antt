-- register: registers the text with the notes that these bytes spell.
use Rattle.std.proofs.Common.{◌≡◌, List, Option, refl, sym, ap, ◌∙◌, subst}
use Rattle.bq_insn.specs.Slots.{spelling}
use Rattle.bq_state.specs.Kinds.{StateKinds}
use Rattle.bq_check.specs.Faults.{IsFirstFault}
use Rattle.bq_check.specs.Spelling.{notes_bytes, IsNotes}
use Rattle.bq_check.specs.declared.fault.NotesFault.TheVariants.{OutOfMemory}
use Rattle.sc_msg.specs.declared.version.Version.{Version}
use Rattle.q_book.specs.Books.{notes_form, record_lengths}
use Rattle.q_net.proofs.served.register.Goals as goal

pub returns-in-Err-read_notes : goal.returns-in-Err-read_notes
returns-in-Err-read_notes c =
    let bytes = c.args.notes.now in
    let fault = c.in-Err-read_notes.fault in
    let text = c.in-Ok.text in (
      refl,
      (text, c.in-Ok.ensures.text, c.in-Ok.ensures.spelled),
      subst (λ (v : Version). (fault ≡ OutOfMemory → ⊥) → (n : List (Option StateKinds)) → IsNotes (notes_form v) n → bytes ≡ notes_bytes (notes_form v) n → ⊥)
          c.version-version.ensures (λ other n legal spelled. other (c.in-Err-read_notes.ensures.all n legal spelled)),
    )

pub returns-in-Err-of_text : goal.returns-in-Err-of_text
returns-in-Err-of_text c =
    let is = c.version-version.ensures in
    let text = c.in-Ok.text in
    let notes = c.in-Ok-read_notes.notes in
    let lengths = c.record_lengths.ensures ∙ ap (λ (v : Version). record_lengths v) is in (
      refl,
      (
        text,
        notes,
        c.in-Ok.ensures.text,
        c.in-Ok.ensures.spelled,
        subst (λ (v : Version). IsNotes (notes_form v) notes) is c.in-Ok-read_notes.ensures.legal,
        c.in-Ok-read_notes.ensures.spelled ∙ ap (λ (v : Version). notes_bytes (notes_form v) notes) is,
        subst (λ l. IsFirstFault l text notes c.in-Err-of_text.fault) lengths c.in-Err-of_text.ensures.fault,
      ),
    )

pub returns-in-Ok-of_text : goal.returns-in-Ok-of_text
returns-in-Ok-of_text c =
    let is = c.version-version.ensures in
    let program = c.in-Ok-of_text.program in
    let same = c.in-Ok-of_text.ensures.same in
    let form = notes_form c.version-version.result in (
      program,
      c.in-Ok-of_text.ensures.passes,
      same.2 ∙ c.record_lengths.ensures ∙ ap (λ (v : Version). record_lengths v) is,
      c.in-Ok.ensures.spelled ∙ ap spelling (sym same.0),
      subst (λ (v : Version). IsNotes (notes_form v) program.notes) is (subst (IsNotes form) (sym same.1) c.in-Ok-read_notes.ensures.legal),
      c.in-Ok-read_notes.ensures.spelled ∙ ap (notes_bytes form) (sym same.1) ∙ ap (λ (v : Version). notes_bytes (notes_form v) program.notes) is,
      c.register.ensures,
    )
