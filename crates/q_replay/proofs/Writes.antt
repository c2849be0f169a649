-- The body of a program, written part by part.
use Rattle.std.proofs.Common.{◌≡◌, ℕ, List, ◌++◌, length, Option, ap, ◌∙◌, append_assoc}
use Rattle.bq_insn.specs.declared.insn.Insn.{Insn}
use Rattle.bq_insn.specs.Slots.{spelling}
use Rattle.bq_state.specs.Kinds.{StateKinds}
use Rattle.bq_check.specs.Spelling.{notes_bytes}
use Rattle.sc_msg.specs.declared.version.Version.{Version}
use Rattle.spelling.specs.Numbers.{number_bytes}
use Rattle.q_replay.specs.declared.raw_entry.RawEntry.TheVariants.{Register}
use Rattle.q_replay.specs.Spelling.{body_bytes}
use Rattle.q_book.specs.Books.{notes_form}

two : (front a new x y : List ℕ) → a ≡ front ++ x → new ≡ a ++ y → new ≡ front ++ (x ++ y)
two front a new x y first second = second ∙ ap (λ (l : List ℕ). l ++ y) first ∙ append_assoc front x y

three : (front a b new x y z : List ℕ) → a ≡ front ++ x → b ≡ a ++ y → new ≡ b ++ z → new ≡ front ++ (x ++ (y ++ z))
three front a b new x y z first second third = two front a new x (y ++ z) first (two a b new y z second third)

-- s is how the text is spelled and m the notes, and k is what is said of the length
pub program_written : (version : Version) (old : List ℕ) {a b new s m : List ℕ} (t : List Insn) (ns : List (Option StateKinds)) {k : ℕ} → s ≡ spelling t
    → m ≡ notes_bytes (notes_form version) ns → a ≡ old ++ number_bytes 4 k → k ≡ length s → b ≡ a ++ s → new ≡ b ++ m
    → new ≡ old ++ body_bytes version (Register t ns)
program_written version old {a} {b} {new} {s} {m} t ns {k} text notes first long second third =
    three old a b new (number_bytes 4 k) s m first second third ∙ ap (λ (j : ℕ). old ++ (number_bytes 4 j ++ (s ++ m))) (long ∙ ap length text)
    ∙ ap (λ (l : List ℕ). old ++ (number_bytes 4 (length (spelling t)) ++ (l ++ m))) text
    ∙ ap (λ (l : List ℕ). old ++ (number_bytes 4 (length (spelling t)) ++ (spelling t ++ l))) notes
