-- Programs that a script or a file gives, and why one is refused.
use Rattle.std.specs.Prelude.{◌≡◌, ℕ, List}
use Rattle.bq_insn.specs.declared.insn.Insn.{Insn}
use Rattle.bq_insn.specs.Slots.{IsText, spelling}
use Rattle.bq_insn.specs.Fault as bytes
use Rattle.bq_range.specs.Interval.{Interval}
use Rattle.bq_check.specs.Certificate.{Certificate}
use Rattle.bq_check.specs.Certified.{IsCertified}
use Rattle.bq_verify.specs.Least.{AreLeast}
use Rattle.bq_verify.specs.Refused as verify
use Rattle.sc_msg.specs.declared.version.Version.TheVariants.{Second}
use Rattle.q_book.specs.Books.{record_lengths}
use Rattle.q_told.specs.declared.refusal.Refusal.{Refusal}
use Rattle.q_told.specs.declared.refusal.Refusal.TheVariants.{Bytes, Program, OutOfMemory}

-- why a text gets no certificate for records of these lengths: the verifier refuses it, or memory was refused
abbrev pub IsUncertified : Interval → List Insn → Refusal → Type 0
IsUncertified lengths text (Program f) = verify.IsRefused lengths text f
IsUncertified lengths text OutOfMemory = Unit {0}
IsUncertified lengths text r = ⊥

-- the lengths of the records that the programs of a cluster run over: its books are of the second version
abbrev pub program_lengths : Interval
program_lengths = record_lengths Second

-- the certificate is of the text that the bytes spell, for records of these lengths, with the verifier's notes: no
-- notes that pass say more
pub record IsProgram (code : List ℕ) (certificate : Certificate) : Type 0 where
  pub spelled : code ≡ spelling certificate.text
  pub certified : IsCertified certificate
  pub lengths : certificate.lengths ≡ program_lengths
  pub least : AreLeast program_lengths certificate.text certificate.notes

-- why bytes give no program: they spell no text, or the text that they spell gets no certificate
abbrev pub IsRefusal : List ℕ → Refusal → Type 0
IsRefusal code (Bytes f) = bytes.IsFault code f
IsRefusal code (Program f) = (text : List Insn) × IsText text × (code ≡ spelling text) × verify.IsRefused program_lengths text f
IsRefusal code OutOfMemory = Unit {0}
IsRefusal code r = ⊥
