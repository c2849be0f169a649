-- Replies to requests.
use Rattle.std.proofs.Common.{◌≡◌, ℕ, ◌≤◌, List, [], ◌++◌, length, Err, arith, refl, sym, ◌∙◌, subst, append-nil}
use Rattle.sc_msg.specs.declared.message.Message.{Message}
use Rattle.q_book.specs.State.{BookState}
use Rattle.reasons.specs.declared.Reason.TheVariants.{OutOfMemory as memory}
use Rattle.q_net.specs.declared.request.Request.{Request}
use Rattle.q_net.specs.declared.request.Request.TheVariants.{Register, Ask, Store}
use Rattle.q_net.specs.declared.replies.Reply.{Reply}
use Rattle.q_net.specs.declared.replies.Reply.TheVariants.{Program, Number, Open, Answer, Refused}
use Rattle.q_net.specs.declared.served.Registered.{Registered}
use Rattle.q_net.specs.Replies.{Replies, Registers, of_registered, reply_bytes}

-- every reply has a byte
pub reply_has_bytes : (a : Reply) → 1 ≤ length (reply_bytes a)
reply_has_bytes (Program program) = omega arith
reply_has_bytes (Number value) = omega arith
reply_has_bytes Open = omega arith
reply_has_bytes (Answer acc steps) = omega arith
reply_has_bytes (Refused why) = omega arith

-- nothing is sent
pub none_sent : {P : List Message → Type 0} (had has : List Message) → has ≡ had → P [] → (outs : List Message) × P outs × (has ≡ had ++ outs)
none_sent had has same p = ([], p, same ∙ sym (append-nil had))

pub registers_replies : (b c : BookState) (r : Registered) {request : Request} {text notes bytes more : List ℕ} {said : Reply}
    → request ≡ Register text notes → bytes ≡ text → more ≡ notes → Registers b bytes more r c → said ≡ of_registered r → Replies b request said [] c
registers_replies b c r {text = text} {more = more} {said = said} is first second done reply =
    subst (λ (q : Request). Replies b q said [] c) (sym is)
    (r, subst (λ (n : List ℕ). Registers b text n r c) second (subst (λ (t : List ℕ). Registers b t more r c) first done), reply, refl)

-- a store that was replied to, of either form
pub store_replies : (form : List ℕ → Request) (b c : BookState) {request : Request} {value bytes : List ℕ} (had has : List Message) (said : Reply)
    → request ≡ form value → bytes ≡ value → (outs : List Message) × Replies b (form bytes) said outs c × (has ≡ had ++ outs)
    → (outs : List Message) × Replies b request said outs c × (has ≡ had ++ outs)
store_replies form b c had has said is same h =
    (h.0, subst (λ (q : Request). Replies b q said h.0 c) (sym is) (subst (λ (v : List ℕ). Replies b (form v) said h.0 c) same h.1), h.2)

-- memory ran out before the call
pub asks_nothing : (b : BookState) (request : Request) (program start : ℕ) → request ≡ Ask program start → Replies b request (Refused 99) [] b
asks_nothing b request program start is =
    subst (λ (q : Request). Replies b q (Refused 99) [] b) (sym is) (Err memory, (refl, λ other. absurd (other refl)), refl, refl)

pub stores_nothing : (b : BookState) (value : List ℕ) → Replies b (Store value) (Refused 99) [] b
stores_nothing b value = (Err memory, (refl, λ other. absurd (other refl)), refl, refl)
