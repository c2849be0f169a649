-- disassembled_and_listed: what `asm` lists of the text that `dis` prints is the units of its bytes.
use Rattle.std.proofs.Common.{◌∙◌, List, ap, subst, sym}
use Rattle.bq_asm.specs.Source.{IsSource}
use Rattle.bq_insn.specs.Slots.{spelling}
use Rattle.bq_insn.specs.declared.insn.Insn.{Insn}
use Rattle.q_command.specs.Listing.{listing_of}
use Rattle.q_command.proofs.laws.disassembled_and_listed.Goals as goal

pub returns : goal.returns
returns c = λ source lines listed d l.
    let written : IsSource lines d.text = subst (λ s. IsSource s d.text) (sym d.written) (c.disassembly_spells_the_text.ensures d.text d.program.0) in
    let same = c.one_text.ensures lines l.text d.text l.program.spelled written in
    l.listed ∙ ap (λ (t : List Insn). listing_of (spelling t)) same ∙ ap listing_of (sym d.program.1)
