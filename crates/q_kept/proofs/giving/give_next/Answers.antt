-- give_next: does the first message that waits, if one does: its letter stands behind others.
use Rattle.std.proofs.Common.{◌∙◌, ap, refl, List, [], ◌∷◌, ◌++◌}
use Rattle.q_held.specs.LiveNodes.{both_unsent}
use Rattle.q_kept.specs.declared.question.Question.{Question}
use Rattle.q_kept.proofs.Gifts.{asking, first_and_others, next_fitting, next_none, next_unfit}
use Rattle.q_kept.proofs.giving.give_next.Goals as goal

pub returns-then-not-fits-clause-added : goal.returns-then-not-fits-clause-added
returns-then-not-fits-clause-added c =
    next_unfit (first_and_others c.in-Some.ensures.value c.deref.ensures.value c.remove.ensures.items) c.if-not-fits.ensures.told
    (c.and-held.ensures ∙ ap (both_unsent c.args.held.now.unsent) c.message.ensures)

pub returns-in_err-reserve-clause-added : goal.returns-in_err-reserve-clause-added
returns-in_err-reserve-clause-added c = next_none c.reserve.ensures.items refl

pub returns-in_err-push_letter-clause-added : goal.returns-in_err-push_letter-clause-added
returns-in_err-push_letter-clause-added c = next_none c.reserve.ensures.items c.in_err-push_letter.ensures.err

pub returns-clause-added : goal.returns-clause-added
returns-clause-added c =
    next_fitting (first_and_others c.in-Some.ensures.value c.deref.ensures.value c.remove-2.ensures.items) c.remove-2.ensures.value
    c.if-not-fits.ensures.told c.addressee.ensures c.in_ok-push_letter.ensures.ok
    (c.keep.ensures ∙ ap (λ (l : List Question). l ++ asking (c.remove-2.result ∷ [])) c.reserve.ensures.items)
