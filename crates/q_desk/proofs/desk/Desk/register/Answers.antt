-- Desk::register: registers a program; a text that is there keeps its id.
use Rattle.std.proofs.Common.{rules, ap, sym, ◌∙◌}
use Rattle.std.proofs.lemmas.Bool.{not-false}
use Rattle.bq_check.specs.Certificate.{Certificate}
use Rattle.q_table.specs.Programs.{id_of, registered}
use Rattle.q_desk.specs.declared.journal.Call.TheVariants as call
use Rattle.q_desk.specs.declared.journal.Entry.TheVariants as entry
use Rattle.q_desk.proofs.Accepted.{same_lengths}
use Rattle.q_desk.proofs.Keeps.{desk-appended, desk-registered}
use Rattle.q_desk.proofs.desk.Desk.register.Goals as goal

pub invariant_of-self-2 : goal.invariant_of-self-2
invariant_of-self-2 c =
    let s = c.self.inside in
    let program = c.args.program.now in
    let lengths = c.lengths.ensures.value ∙ ap (λ (p : Certificate). p.lengths) c.certified.ensures in
    let registers = ap (λ (p : Certificate). registered s.programs p) (sym c.in_ok-encoded.ensures) ∙ c.in_ok-id.ensures in
    let same = sym lengths ∙ same_lengths c.lengths.result s.lengths (not-false _ (sym c.if-ne.ensures)) in (
      desk-appended _ (entry.Call (call.Register program)) _ (record { room = search rules; is = search rules })
          (desk-registered _ _ program c.in_ok-id.id (id_of s.programs program.text) registers same c.self.invariant.0 c.len-count.ensures.table),
      record { counted = c.self.invariant.1.counted; fits = search rules },
    )
