-- What settling does, out of the pump, the recorder and what is given.
use Rattle.std.proofs.Common.{◌≡◌, Bool, true, false, not, List, [], ◌∷◌, sym, ap, ◌∙◌, subst, Option, Some, Result, Ok, Err, inl, inr}
use Rattle.std.specs.Io.KnownBytes.{Appends}
use Rattle.sc_msg.specs.declared.message.Message.{Message}
use Rattle.q_held.specs.declared.losses.Unsent.{Unsent}
use Rattle.std.specs.Prelude.{if◌then◌else◌, MatchResult, ℕ}
use Rattle.q_session.specs.declared.job.Job.{Job}
use Rattle.q_session.specs.Done.{Finished}
use Rattle.q_board.specs.AskerModel.{AskerModel}
use Rattle.q_desk.specs.State.{DeskState}
use Rattle.q_desk.specs.Desks as desk
use Rattle.reasons.specs.declared.Reason.{Reason}
use Rattle.q_book.specs.State.{BookState}
use Rattle.q_book.specs.Books.{by_desk, with_desk}
use Rattle.q_board.specs.Pumped.{Carries, HandsOut, Posts, Pumped, Stopped}
use Rattle.q_replay.specs.Journal.{head_of, journal_of}
use Rattle.q_kept.specs.State.{RecorderState}
use Rattle.q_kept.specs.Recording.{Grows, IsRecorded, Records, RecordsAll}
use Rattle.q_kept.specs.declared.fault.Unrecorded.{Unrecorded}
use Rattle.q_kept.specs.declared.fault.Unrecorded.TheVariants.{Failed, OutOfMemory}
use Rattle.q_kept.specs.Giving.{Gives, Outbox, outbox}
use Rattle.q_kept.specs.Settling.{GivesWritten, Pumps}
use Rattle.q_kept.specs.declared.letter.Letter.{Letter}
use Rattle.q_kept.specs.declared.question.Question.{Question}

-- a call of the desk leaves the head as it is
head_stays : {A : Type 0} (present : Bool) (f : Reason) (r : Result (A × DeskState) Reason) (b c : BookState) (a : A)
    → (if present then by_desk (with_desk b) r else Err f) ≡ Ok (a, c) → head_of c ≡ head_of b
head_stays false f r b c a e = absurd (cc)
head_stays true f (Err x) b c a e = absurd (cc)
head_stays {A} true f (Ok x) b c a e =
    let made : BookState = record b { desk = x.1 } in
    let is : ◌≡◌ {A = A × BookState} (x.0, made) (a, c) = cc in
    sym (ap (λ (p : A × BookState). head_of p.1) is)

posts_stay : (b c : BookState) (ds accepted : List Finished) → Posts b ds accepted c → head_of c ≡ head_of b
posts_stay b c [] accepted p = ap head_of p.1
posts_stay b c (d ∷ ds) accepted (inl p) =
    posts_stay p.0 c ds p.1 p.4 ∙ head_stays (not b.node.gone) _ (desk.posted b.desk b.id d.job d.ran) b p.0 tt p.2
posts_stay b c (d ∷ ds) accepted (inr p) = posts_stay b c ds accepted p.3

hands_stay : (b c : BookState) (js : List Job) → HandsOut b js c → head_of c ≡ head_of b
hands_stay b c [] h = ap head_of h
hands_stay b c (j ∷ js) h = hands_stay h.0 c js h.2 ∙ head_stays (not b.node.gone) _ (desk.handed_out b.desk b.id) b h.0 (Some j) h.1

carries_grow : (a a' : AskerModel) (b b' : BookState) → Carries a b a' b' → Grows b b'
carries_grow a a' b b' k = record {
  head = hands_stay k.between b' k.handed k.hands ∙ posts_stay b k.between k.results k.accepted k.posts;
  more = _;
  journal = k.journal;
}

pub pumps_grow : (a a' : AskerModel) (b b' : BookState) → Pumps a b a' b' → Grows b b'
pumps_grow a a' b b' (inl p) = carries_grow a a' b b' p.1.carries
pumps_grow a a' b b' (inr p) = carries_grow a a' b b' p.1.carries

-- whatever the pump answered
pub pumps_either : (a a' : AskerModel) (b b' : BookState) (r : Result ℕ Reason)
    → MatchResult r (λ posted. Pumped a b posted a' b') (λ fault. Stopped a b fault a' b') → Pumps a b a' b'
pumps_either a a' b b' (Ok posted) p = inl (posted, p)
pumps_either a a' b b' (Err fault) p = inr (fault, p)

-- what comes later leaves the seat and the book as they are
pub pumps_after : (a a' a'' : AskerModel) (b b' b'' : BookState) → Pumps a b a' b' → a'' ≡ a' → b'' ≡ b' → Pumps a b a'' b''
pumps_after a a' a'' b b' b'' p e k = subst (λ (x : AskerModel × BookState). Pumps a b x.0 x.1) (λ i. (sym e i, sym k i)) p

-- a recorder that was broken is as it was
pub stays_broken : (old new : RecorderState) (b : BookState) (e : Unrecorded) → Records old b (Err e) new → old.broken ≡ true → new ≡ old
stays_broken old new b Failed r t = r.before t
stays_broken old new b OutOfMemory r t = r.1

-- one that records is not broken
pub is_sound : {old new : RecorderState} {b : BookState} → RecordsAll old b new → old.broken ≡ true → ⊥
is_sound r t = let e : true ≡ false = sym t ∙ r.sound in absurd (cc)

-- what waits and what is counted stay, over what was given before
pub same_outbox : (qs : List Question) {had has : List Message} {u w : Unsent} → has ≡ had → w ≡ u → outbox has qs w ≡ outbox had qs u
same_outbox qs waits counts = λ i. outbox (waits i) qs (counts i)

-- what was given after the book's journal was recorded, of a book that was b before the pump, c after it, and is d
pub gives_written : {r r' : RecorderState} {b c d : BookState} {old pumped new : Outbox} {ls : List Letter} → Grows b c → d ≡ c → RecordsAll r c r'
    → ((first : Option (List ℕ)) (e : BookState) → Grows e c → IsRecorded first e r → Appends first r'.file (journal_of c)) → pumped ≡ old
    → Gives c.version pumped ls new → GivesWritten r b d old ls r' new
gives_written {r} {r'} {b} {c} {d} {old} {pumped} {new} {ls} grows same records whole waits gives =
    subst (λ (x : BookState). GivesWritten r b x old ls r' new) (sym same)
    (record {
      written = records;
      whole = λ first h. whole first b grows h;
      given = subst (λ (o : Outbox). Gives c.version o ls new) waits gives;
    })
