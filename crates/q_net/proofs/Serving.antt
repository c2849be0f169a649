-- Requests that were served, one after the other.
use Rattle.std.proofs.Common.{◌≡◌, ℕ, List, [], ◌∷◌, ◌++◌, Option, Some, Result, Ok, Err, Bool}
use Rattle.std.proofs.Common.{true, false, refl, sym, ap, ◌∙◌, append_assoc, append-nil, subst}
use Rattle.std.specs.List.{AllByRecursion}
use Rattle.std.specs.Io.KnownBytes.{Appends, Consumes}
use Rattle.std.proofs.KnownBytes.{Appends-trans, Consumes-trans}
use Rattle.spelling.proofs.Codes.{all_push}
use Rattle.sc_msg.specs.declared.message.Message.{Message}
use Rattle.sc_msg.specs.declared.version.Version.{Version}
use Rattle.q_book.specs.State.{BookState}
use Rattle.q_net.specs.declared.request.Request.{Request}
use Rattle.q_net.specs.declared.replies.Reply.{Reply}
use Rattle.bq_insn.specs.declared.fault.DecodeFault.TheVariants as decode_fault
use Rattle.q_net.specs.declared.request.Request.TheVariants.{Register}
use Rattle.q_net.specs.declared.request.StreamEnd.{StreamEnd}
use Rattle.q_net.specs.declared.replies.Reply.TheVariants.{Refused}
use Rattle.q_net.specs.declared.served.Registered.TheVariants as registered
use Rattle.q_net.specs.declared.incoming.Incoming.{Incoming}
use Rattle.q_net.specs.declared.incoming.Incoming.TheVariants as next
use Rattle.q_net.specs.Requests.{spelling, spellings, IsRequest, IsGot}
use Rattle.q_net.specs.Replies.{reply_bytes, Replies, stop_number}
use Rattle.std.specs.Prelude.{IsErrAnd}
use Rattle.q_outside.specs.declared.fault.TransportFailed.{TransportFailed}
use Rattle.q_net.specs.Serves.{Serves, IsAtHand, IsTaken, IsTurn, IsEnd}

-- So far all is served, and nothing else was read or written.
pub record Served (input left before after : Option (List ℕ)) (b c : BookState) (had has : List Message) : Type 0 where
  pub requests : List Request
  pub legal : AllByRecursion (IsRequest b.version) requests
  pub consumed : Consumes input left (spellings requests)
  pub replies : List ℕ
  pub messages : List Message
  pub serves : Serves b requests replies messages c
  pub written : Appends before after replies
  pub grown : has ≡ had ++ messages

-- one request more at the end
serves_more : (rs : List Request) (b c d : BookState) (bytes : List ℕ) (sent : List Message) (r : Request) (said : Reply) (outs : List Message)
    → Serves b rs bytes sent c → Replies c r said outs d → Serves b (rs ++ r ∷ []) (bytes ++ reply_bytes said) (sent ++ outs) d
serves_more [] b c d bytes sent r said outs h p = (
  said,
  outs,
  d,
  [],
  [],
  subst (λ (x : BookState). Replies x r said outs d) h.2 p,
  (refl, refl, refl),
  ap (λ (l : List ℕ). l ++ reply_bytes said) h.0 ∙ sym (append-nil (reply_bytes said)),
  ap (λ (l : List Message). l ++ outs) h.1 ∙ sym (append-nil outs),
)
serves_more (q ∷ rs) b c d bytes sent r said outs h p =
    let (first, out, between, later, behind, replied, rest, is_bytes, is_sent) = h in (
      first,
      out,
      between,
      later ++ reply_bytes said,
      behind ++ outs,
      replied,
      serves_more rs between c d later behind r said outs rest p,
      ap (λ (l : List ℕ). l ++ reply_bytes said) is_bytes ∙ append_assoc (reply_bytes first) later (reply_bytes said),
      ap (λ (l : List Message). l ++ outs) is_sent ∙ append_assoc out behind outs,
    )

spellings_more : (rs : List Request) (r : Request) → spellings (rs ++ r ∷ []) ≡ spellings rs ++ spelling r
spellings_more [] r = append-nil (spelling r)
spellings_more (q ∷ rs) r = ap (λ (l : List ℕ). spelling q ++ l) (spellings_more rs r) ∙ sym (append_assoc (spelling q) (spellings rs) (spelling r))

-- ---- turns

-- what was served before
module _ {input mid before between : Option (List ℕ)} {b c : BookState} {had has : List Message} (s : Served input mid before between b c had has)
    (left after : Option (List ℕ)) (d : BookState) (more : List Message) where
  -- a request that was read, and replied to in full
  pub goes_on : (on : Bool) → on ≡ true → IsTaken b.version mid left between after c d has more on → Served input left before after b d had more
  goes_on on is turn =
      let t : IsTaken b.version mid left between after c d has more true = subst (IsTaken b.version mid left between after c d has more) is turn in
      let (r, said, outs, legal, consumed, replied, grown, written) = t in
      record {
        requests = s.requests ++ r ∷ [];
        legal = all_push (IsRequest b.version) s.requests r s.legal legal;
        consumed =
            subst (Consumes input left) (sym (spellings_more s.requests r))
            (Consumes-trans input mid left (spellings s.requests) (spelling r) s.consumed consumed);
        replies = s.replies ++ reply_bytes said;
        messages = s.messages ++ outs;
        serves = serves_more s.requests b c d s.replies s.messages r said outs s.serves replied;
        written = Appends-trans before between after s.replies (reply_bytes said) s.written written;
        grown = grown ∙ ap (λ (l : List Message). l ++ outs) s.grown ∙ append_assoc had s.messages outs;
      }

  -- a turn that failed
  pub end_broken : {F : Type 0} (P : TransportFailed → Type 0) (r : Result (Unit {0}) TransportFailed) (e : F) → IsErrAnd r P
      → IsTurn b.version mid left between after c d has more (Err e) → IsEnd r input left before after b d had more
  end_broken P (Ok u) e h turn = absurd h
  end_broken P (Err f) e h turn =
      let (read, part, consumed, written, at_hand) = turn in
      record {
        requests = s.requests;
        legal = s.legal;
        rest = read;
        consumed = Consumes-trans input mid left (spellings s.requests) read s.consumed consumed;
        replies = s.replies;
        messages = s.messages;
        between = c;
        serves = s.serves;
        part = part;
        written = Appends-trans before between after s.replies part s.written written;
        at_hand = subst (λ (l : List Message). IsAtHand b.version read c d l more) s.grown at_hand;
      }

-- requests stop
pub stops : (version : Version) (input left before after : Option (List ℕ)) (b : BookState) (had : List Message) (n : Incoming) (stop : StreamEnd) (number : ℕ)
    → n ≡ next.Ended stop → IsGot version [] input left n → number ≡ stop_number stop → Appends before after (number ∷ [])
    → IsTaken version input left before after b b had had false
stops version input left before after b had n stop number is got said written =
    let g : IsGot version [] input left (next.Ended stop) = subst (IsGot version [] input left) is got in
    let (bytes, consumed, is_stop, read) = g in
    (Some stop, bytes, is_stop, consumed, read, subst (λ (k : ℕ). Appends before after (k ∷ [])) said written, refl, refl)

-- there was no memory for the bytes of a registration
pub loses : (version : Version) (input left before after : Option (List ℕ)) (b : BookState) (had : List Message) (n : Incoming) → n ≡ next.Lost
    → IsGot version [] input left n → Appends before after (99 ∷ []) → IsTaken version input left before after b b had had true
loses version input left before after b had n is got written =
    let g : IsGot version [] input left next.Lost = subst (IsGot version [] input left) is got in
    let (bytes, consumed, lost, read) = g in
    let (text, notes, legal, spelled) = lost in (
      Register text notes,
      Refused 99,
      [],
      legal,
      subst (Consumes input left) spelled consumed,
      (registered.Text decode_fault.OutOfMemory, (refl, λ known. absurd (known refl)), refl, refl),
      sym (append-nil had),
      written,
    )
