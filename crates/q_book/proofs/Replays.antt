-- What a call adds to the replay of a book.
use Rattle.std.proofs.Common.{◌≡◌, ℕ, ◌≤◌, ◌&&◌, nat_le, leb-true, List, [], ◌∷◌, ◌++◌, length, Option, Some, None, IfSome, refl, sym, ap, subst, ◌∙◌}
use Rattle.std.proofs.lemmas.List.{append-nil, append_assoc}
use Rattle.std.specs.Cmp.{first_so, second_so}
use Rattle.std.specs.Ordering.{nat_cmp}
use Rattle.std.specs.FinSet as set
use Rattle.forms.proofs.Calls.{passed}
use Rattle.sc_node.specs.Nodes as node
use Rattle.reasons.specs.declared.Reason.TheVariants as reasons
use Rattle.sc_node.specs.State.{NodeState}
use Rattle.q_desk.specs.State.{DeskState}
use Rattle.q_desk.specs.declared.journal.Entry.{Entry}
use Rattle.q_book.specs.State.{BookState}
use Rattle.q_book.specs.Books.{new_book}
use Rattle.q_book.specs.Replays.{Follows, Replays, IsFirst, IsReplay, IsBook}
use Rattle.q_desk.proofs.Accepted.{Keeps, keeps_itself, keeps_on}
use Rattle.q_desk.proofs.Changes.{Told}
use Rattle.q_book.proofs.Followed.{Deed, IsAccepted, follows-accepted}

replays_next : (es : List Entry) (b c d : BookState) (e : Entry) → Replays b es c → Follows c e d → Replays b (es ++ e ∷ []) d
replays_next [] b c d e h s = (d, subst (λ (x : BookState). Follows x e d) h s, refl)
replays_next (f ∷ es) b c d e h s = (h.0, h.1, replays_next es h.0 c d e h.2 s)

-- the book with another node and desk
abbrev pub with : BookState → NodeState → DeskState → BookState
with b n d = record b { node = n; desk = d }

-- an entry that follows is one more of the replay
pub replay_next : (b later : BookState) (e : Entry) → IsReplay b → Follows b e later → IsReplay (with b later.node later.desk)
replay_next b later e r f =
    let on = follows-accepted b e later f in
    let c : BookState = with b later.node later.desk in
    let first : BookState = new_book b.version b.id b.config b.founders r.first in
    let next = replays_next b.desk.journal first b c e r.replayed (subst (Follows b e) (sym on.same) f) in
    record { first = r.first; begun = r.begun; replayed = subst (λ (es : List Entry). Replays first es c) (sym on.adds) next }

-- and the book keeps what each book keeps
pub book_next : (b later : BookState) (e : Entry) → IsBook b → Follows b e later → IsBook (with b later.node later.desk)
book_next b later e k f = record { replay = replay_next b later e k.replay f; lengths = (follows-accepted b e later f).keeps.lengths ∙ k.lengths }

-- ---- where entries lead

-- a later book of the same node, whose desk keeps what it had, and whose journal goes on with these entries
pub record IsLater (b : BookState) (es : List Entry) (c : BookState) : Type 0 where
  pub same : record b { node = c.node; desk = c.desk } ≡ c
  pub keeps : Keeps b.desk c.desk
  pub adds : c.desk.journal ≡ b.desk.journal ++ es

later_itself : (b : BookState) → IsLater b [] b
later_itself b = record { same = refl; keeps = keeps_itself b.desk; adds = sym (append-nil b.desk.journal) }

later_next : (b c d : BookState) (e : Entry) (es : List Entry) (x : Deed) (t : Told) → IsAccepted b e x t c → IsLater c es d → IsLater b (e ∷ es) d
later_next b c d e es x t n l = record {
  same = ap (λ (x : BookState). let y : BookState = record x { node = d.node; desk = d.desk } in y) n.same ∙ l.same;
  keeps = keeps_on b.desk c.desk d.desk n.keeps l.keeps;
  adds = l.adds ∙ ap (λ (xs : List Entry). xs ++ es) n.adds ∙ append_assoc b.desk.journal (e ∷ []) es;
}

pub replays_later : (es : List Entry) (b c : BookState) → Replays b es c → IsLater b es c
replays_later [] b c r = subst (IsLater b []) (sym r) (later_itself b)
replays_later (e ∷ es) b c r = later_next b r.0 c e es _ _ (follows-accepted b e r.0 r.1) (replays_later es r.0 c r.2)

-- ---- how many founders there are

pub founders_few : (b : BookState) (n : NodeState) (o : Option (List ℕ)) → IsFirst b n o → IfSome o (λ ids. length ids ≤ node.most_founders)
founders_few b n None f = tt
founders_few b n (Some ids) f =
    let own = set.contains (set.from_list {R = nat_cmp} ids) b.id in
    let held = (passed (node.are_founders ids && own) reasons.BadFounders _ n f).0 in
    let some = first_so (node.are_founders ids) own held in
    leb-true (length ids) node.most_founders (first_so _ (node.rises ids) (second_so (nat_le 1 (length ids)) _ some))
