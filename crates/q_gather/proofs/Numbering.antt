-- Messages get their numbers one after another, and what was taken is counted.
use Rattle.std.proofs.Common.{◌≡◌, ◌<◌, ◌≤◌, ◌+◌, ℕ, Bool, true, false, List, [], ◌∷◌, ◌++◌, length, take, Some, refl, sym, ap, ◌∙◌, subst, slice_get, arith}
use Rattle.std.specs.Prelude.{MatchBool, nat_eq}
use Rattle.std.proofs.lemmas.Bool.{eqb-true, eqb-false}
use Rattle.std.proofs.lemmas.List.{take_more, take-append-le, take_all, length-take-le}
use Rattle.std.proofs.lemmas.Option.{slice_get_within, get_or_from_slice_get}
use Rattle.sc_msg.specs.declared.message.Message.{Message}
use Rattle.sc_msg.specs.declared.version.Version.TheVariants.{Second}
use Rattle.sc_msg.specs.Messages.{message_bytes, IsMessage}
use Rattle.q_book.specs.State.{BookState}
use Rattle.q_history.specs.Headline.{ClusterState}
use Rattle.q_history.proofs.Lists.{same_Some}
use Rattle.q_cluster.specs.Acts.{book_at}
use Rattle.q_gather.specs.Numbers.{NumberList, added, AreNumbers}
use Rattle.q_gather.specs.Gathering.{HasTaken}

abbrev pub OneMore : Type 0
OneMore = (sent : List Message) (numbers : NumberList) (m : Message) → AreNumbers sent numbers → IsMessage Second m
    → AreNumbers (sent ++ m ∷ []) (added (message_bytes Second m) (length sent) numbers)

pub numbered_next : {after : NumberList} {m : Message} → OneMore → (sent : List Message) (numbers : NumberList) (n : ℕ) → Some m ≡ slice_get sent n
    → IsMessage Second m → after ≡ added (message_bytes Second m) n numbers → AreNumbers (take n sent) numbers → AreNumbers (take (n + 1) sent) after
numbered_next {after = after} {m = m} more sent numbers n at legal is are =
    let within : n < length sent = slice_get_within sent n m (sym at) in
    let long : length (take n sent) ≡ n = length-take-le n sent (omega (arith, within)) in
    let list : take (n + 1) sent ≡ take n sent ++ m ∷ [] =
    take_more sent n m within ∙ ap (λ (x : Message). take n sent ++ x ∷ []) (get_or_from_slice_get sent n m m (sym at)) in
    let same : added (message_bytes Second m) (length (take n sent)) numbers ≡ after = (λ i. added (message_bytes Second m) (long i) numbers) ∙ sym is in
    subst (λ (x : List Message). AreNumbers x after) (sym list)
    (subst (AreNumbers (take n sent ++ m ∷ [])) same (more (take n sent) numbers m are legal))

-- the messages that were sent before the event are the first
pub sent_before : {new : List Message} {n : ℕ} (old outs : List Message) (numbers : NumberList) → n ≡ length old → new ≡ old ++ outs → AreNumbers old numbers
    → AreNumbers (take n new) numbers
sent_before {new = new} {n = n} old outs numbers long is are =
    let le : length old ≤ length old = omega arith in
    let whole : take n new ≡ old =
    (λ i. take (long i) (is i)) ∙ take-append-le (length old) old outs le ∙ take_all (length old) old le in
    subst (λ (x : List Message). AreNumbers x numbers) (sym whole) are

-- ---- what was taken

pub taken_test : {b : BookState} {n m : ℕ} (c : ClusterState) (whole : BookState) → Some b ≡ book_at c whole.id → n ≡ length b.desk.journal
    → m ≡ length whole.desk.journal → MatchBool (nat_eq n m) (HasTaken c whole) (HasTaken c whole → ⊥)
taken_test {b = b} {n = n} {m = m} c whole at is are = go (nat_eq n m) refl
  where
    go : (t : Bool) → nat_eq n m ≡ t → MatchBool t (HasTaken c whole) (HasTaken c whole → ⊥)
    go true same = record { book = b; at = sym at; all = sym is ∙ eqb-true n m same ∙ are }
    go false other =
        λ h.
        let one : h.book ≡ b = same_Some h.book b (sym h.at ∙ sym at) in
        eqb-false n m other (is ∙ ap (λ (x : BookState). length x.desk.journal) (sym one) ∙ h.all ∙ sym are)
