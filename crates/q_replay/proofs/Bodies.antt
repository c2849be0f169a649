-- Bodies that are those of no event of their kind.
use Rattle.std.proofs.Common.{◌≡◌, ℕ, ◌<◌, List, ◌++◌, length, Option, Result, refl, sym, ap, ◌∙◌, arith, length-append}
use Rattle.std.specs.Prelude.{IfErr, IsErrAnd}
use Rattle.bq_insn.specs.declared.insn.Insn.{Insn}
use Rattle.bq_insn.specs.Slots.{spelling, IsText}
use Rattle.bq_insn.specs.declared.fault.DecodeFault.{DecodeFault}
use Rattle.bq_insn.specs.declared.fault.DecodeFault.TheVariants as texts
use Rattle.bq_state.specs.Kinds.{StateKinds}
use Rattle.bq_check.specs.Spelling.{notes_bytes, IsNotes}
use Rattle.bq_check.specs.declared.fault.NotesFault.{NotesFault}
use Rattle.bq_check.specs.declared.fault.NotesFault.TheVariants as notes
use Rattle.sc_msg.specs.declared.version.Version.{Version}
use Rattle.spelling.specs.Numbers.{number_bytes}
use Rattle.sc_msg.specs.declared.message.Message.{Message}
use Rattle.sc_msg.specs.declared.fault.MessageFault.{MessageFault}
use Rattle.sc_msg.specs.declared.fault.MessageFault.TheVariants as messages
use Rattle.sc_msg.specs.Messages.{message_bytes, IsMessage}
use Rattle.spelling.proofs.Codes.{same_front, number_front}
use Rattle.q_replay.specs.declared.raw_entry.RawEntry.{RawEntry}
use Rattle.q_replay.specs.declared.raw_entry.RawEntry.TheVariants.{Register, Deliver}
use Rattle.q_replay.specs.declared.read.ReadFault.{ReadFault}
use Rattle.q_replay.specs.declared.read.ReadFault.TheVariants.{Form, OutOfMemory}
use Rattle.q_replay.specs.Spelling.{body_bytes}
use Rattle.q_book.specs.Books.{notes_form}
use Rattle.q_replay.specs.Reading.{IsBody, IsNoBody, of_text, of_notes, of_message}
use Rattle.q_replay.proofs.Exits.{passed}
use Rattle.q_replay.proofs.Sizes.{text_fits, length-registered}
use Rattle.q_replay.proofs.Fronts.{IsLengthRead, IsFront}

-- ---- messages

pub no_deliver : (version : Version) (body : List ℕ) → ((m : Message) → IsMessage version m → body ≡ message_bytes version m → ⊥) → IsNoBody version 5 body
no_deliver version body other = record { none = λ w h. none w h }
  where
    none : (w : RawEntry) → IsBody version 5 body w → ⊥
    none (Deliver m) h = other m h.legal h.spelled
    none w h = omega (arith, h.is)

-- ---- faults of parts

-- a fault of form is none of a part that ran out of memory
part_fault : {F : Type 0} (of : F → ReadFault) (out d : F) (e : ReadFault) → of out ≡ OutOfMemory → e ≡ of d → e ≡ Form → d ≡ out → ⊥
part_fault of out d e memory is form same = let no : OutOfMemory ≡ Form = sym (is ∙ ap of same ∙ memory) ∙ form in absurd (cc)

pub message_fault : (d : MessageFault) (e : ReadFault) → e ≡ of_message d → e ≡ Form → d ≡ messages.OutOfMemory → ⊥
message_fault d e is form same = part_fault of_message messages.OutOfMemory d e refl is form same

-- ---- a text and its notes

-- the length of a text, the text, and notes stand there
abbrev Registered : Version → List ℕ → List Insn → List (Option StateKinds) → Type 0
Registered version body t ns = body ≡ number_bytes 4 (length (spelling t)) ++ (spelling t ++ notes_bytes (notes_form version) ns)

module _ (version : Version) {body : List ℕ} where
  no_register : ((t : List Insn) (ns : List (Option StateKinds)) → IsText t → IsNotes (notes_form version) ns → Registered version body t ns → ⊥)
      → IsNoBody version 2 body
  no_register other = record { none = λ w h. none w h }
    where
      none : (w : RawEntry) → IsBody version 2 body w → ⊥
      none (Register t ns) h = other t ns h.legal.0 h.legal.1 h.spelled
      none w h = omega (arith, h.is)

  pub no_length : length body < 4 → IsNoBody version 2 body
  no_length short = no_register (λ t ns p q e. omega (arith, short, ap length e, length-registered version t ns))

  -- the length of the text was read
  module _ {rest : List ℕ} {n : ℕ} (read : IsLengthRead body n rest) where
    text_follows : (t : List Insn) (ns : List (Option StateKinds)) → IsText t → Registered version body t ns
        → (n ≡ length (spelling t)) × (rest ≡ spelling t ++ notes_bytes (notes_form version) ns)
    text_follows t ns p e = number_front 4 _ _ _ _ read.legal (text_fits t p) (sym read.parts ∙ e)

    pub text_cut : length rest < n → IsNoBody version 2 body
    text_cut short = no_register (λ t ns p q e.
        let f = text_follows t ns p e in
        omega (arith, short, f.0, ap length f.1, length-append (spelling t) (notes_bytes (notes_form version) ns)))

    -- so many bytes stand behind the length, and others behind these
    module _ {front behind : List ℕ} (text : IsFront rest front behind n) where
      notes_follow : (t : List Insn) (ns : List (Option StateKinds)) → IsText t → Registered version body t ns
          → (front ≡ spelling t) × (behind ≡ notes_bytes (notes_form version) ns)
      notes_follow t ns p e =
          let f = text_follows t ns p e in
          same_front front (spelling t) behind (notes_bytes (notes_form version) ns) n text.long (sym f.0) (sym text.parts ∙ f.1)

      pub registered : (t : List Insn) (ns : List (Option StateKinds)) → front ≡ spelling t → behind ≡ notes_bytes (notes_form version) ns
          → body ≡ body_bytes version (Register t ns)
      registered t ns is others =
          let texts = text.parts ∙ ap (λ (l : List ℕ). l ++ behind) is ∙ ap (λ (l : List ℕ). spelling t ++ l) others in
          read.parts ∙ ap (λ (k : ℕ). number_bytes 4 k ++ rest) (sym text.long ∙ ap length is)
          ∙ ap (λ (l : List ℕ). number_bytes 4 (length (spelling t)) ++ l) texts

      -- a part was refused
      module _ {A : Type 0} (r : Result A ReadFault) where
        part_refused : {F : Type 0} (of : F → ReadFault) (out d : F) → of out ≡ OutOfMemory → IsErrAnd r (λ e. e ≡ of d)
            → ((t : List Insn) (ns : List (Option StateKinds)) → IsText t → IsNotes (notes_form version) ns → Registered version body t ns → d ≡ out)
            → IfErr r (λ f. f ≡ Form → IsNoBody version 2 body)
        part_refused of out d memory failed all =
            passed (IsNoBody version 2 body) r failed (λ e told form. no_register (λ t ns p q h. part_fault of out d e memory told form (all t ns p q h)))

        pub text_refused : (d : DecodeFault) → IsErrAnd r (λ e. e ≡ of_text d)
            → ((t : List Insn) → IsText t → front ≡ spelling t → d ≡ texts.OutOfMemory) → IfErr r (λ f. f ≡ Form → IsNoBody version 2 body)
        text_refused d failed all = part_refused of_text texts.OutOfMemory d refl failed (λ t ns p q h. all t p (notes_follow t ns p h).0)

        pub notes_refused : (d : NotesFault) → IsErrAnd r (λ e. e ≡ of_notes d)
            → ((ns : List (Option StateKinds)) → IsNotes (notes_form version) ns → behind ≡ notes_bytes (notes_form version) ns → d ≡ notes.OutOfMemory)
            → IfErr r (λ f. f ≡ Form → IsNoBody version 2 body)
        notes_refused d failed all = part_refused of_notes notes.OutOfMemory d refl failed (λ t ns p q h. all ns q (notes_follow t ns p h).1)
