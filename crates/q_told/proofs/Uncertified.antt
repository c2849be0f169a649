-- Why there is no certificate, said of the bytes.
use Rattle.std.proofs.Common.{◌≡◌, ℕ, List}
use Rattle.bq_insn.specs.declared.insn.Insn.{Insn}
use Rattle.bq_insn.specs.Slots.{IsText, spelling}
use Rattle.q_told.specs.declared.refusal.Refusal.{Refusal}
use Rattle.q_told.specs.declared.refusal.Refusal.TheVariants.{FileFailed, Assembler, Bytes, Program, Records, Script, Fraction, Cluster, Journal, OutOfMemory}
use Rattle.q_told.specs.Programs.{IsUncertified, IsRefusal, program_lengths}

pub of_bytes : (code : List ℕ) (text : List Insn) (r : Refusal) → IsText text → code ≡ spelling text → IsUncertified program_lengths text r → IsRefusal code r
of_bytes code text FileFailed legal is h = absurd h
of_bytes code text (Assembler f) legal is h = absurd h
of_bytes code text (Bytes f) legal is h = absurd h
of_bytes code text (Program f) legal is h = (text, legal, is, h)
of_bytes code text (Records f) legal is h = absurd h
of_bytes code text (Script f) legal is h = absurd h
of_bytes code text (Fraction f) legal is h = absurd h
of_bytes code text (Cluster f) legal is h = absurd h
of_bytes code text (Journal f) legal is h = absurd h
of_bytes code text OutOfMemory legal is h = tt
