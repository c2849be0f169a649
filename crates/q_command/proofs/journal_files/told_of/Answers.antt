-- told_of: the same of the files with these names, of which this was read.
use Rattle.std.proofs.Common.{ℕ, ◌++◌, List, inl, ap, ◌∙◌, subst, string_bytes}
use Rattle.q_book.specs.State.{BookState}
use Rattle.q_gather.specs.Gather.{AreRefused}
use Rattle.q_command.specs.Tells.{Tells}
use Rattle.q_command.proofs.journal_files.told_of.Goals as goal

pub returns-in-Ok-push_str-clause-told : goal.returns-in-Ok-push_str-clause-told
returns-in-Ok-push_str-clause-told g c =
    let told : List ℕ = string_bytes c.in-Ok.told in (
      told,
      c.in-Ok.ensures.told.0,
      subst (λ (bs : List BookState). Tells c.in-Ok.ensures.told.0 bs c.args.pairs told) c.deref.ensures.value c.in-Ok.ensures.told.1,
      c.in-Ok-push_str.ensures.bytes ∙ ap (λ (x : List ℕ). string_bytes c.args.sources.lines ++ x) c.as_str.ensures.value,
    )

pub returns-in-Err-clause-refused : goal.returns-in-Err-clause-refused
returns-in-Err-clause-refused g c =
    inl (c.in-Err.fault, subst (λ (bs : List BookState). AreRefused bs c.in-Err.fault) c.deref.ensures.value c.in-Err.ensures.refused, c.of_gather.ensures)
