-- What the lock keeps true.
use Rattle.std.proofs.Common.{◌≡◌, ℕ, Bool, true, false, if◌then◌else◌, List, Option, Some, None, ap, ◌∙◌, subst, sym}
use Rattle.std.proofs.Props.{props}
use Rattle.std.specs.Io.KnownBytes.{Appends}
use Rattle.std.proofs.Math.Logic.{∥∥₁_map}
use Rattle.q_book.specs.State.{BookState}
use Rattle.q_replay.specs.Head.{Head}
use Rattle.q_kept.specs.State.{RecorderState}
use Rattle.q_kept.specs.Recording.{Grows, IsRecorded}
use Rattle.q_kept.specs.declared.kept.Kept.{Kept}
use Rattle.q_node.specs.Own.{IsOwn}

-- of a book that grew, with what was recorded of it
pub own_stays : (node : ℕ) (first : Option (List ℕ)) (b c : BookState) (r s : RecorderState) → Grows b c → IsOwn node first b r
    → (IsRecorded first b r → IsRecorded first c s) → IsOwn node first c s
own_stays node first b c r s g own stays = record { id = ap (λ (h : Head). h.id) g.head ∙ own.id; recorded = ∥∥₁_map own.recorded stays }

-- of a book and a recorder that are as they were
pub own_same : (node : ℕ) (first : Option (List ℕ)) (b c : BookState) (r s : RecorderState) → c ≡ b → s ≡ r → IsOwn node first b r → IsOwn node first c s
own_same node first b c r s books recorders own = subst (λ (x : BookState). IsOwn node first x s) (sym books) (subst (IsOwn node first b) (sym recorders) own)

-- of what is kept when it looked at its file
pub own_looked : (J : Type 0) (node : ℕ) (first : Option (List ℕ)) (found : Bool) (k n : Kept J)
    → n ≡ (if found then record k { recorder = record k.recorder { broken = true } } else k)
    → (IsRecorded first k.held.book k.recorder → IsRecorded first k.held.book n.recorder)
    → IsOwn node first k.held.book k.recorder → IsOwn node first n.held.book n.recorder
own_looked J node first true k n looked stays own =
    subst (λ (x : BookState). IsOwn node first x n.recorder) (sym (ap (λ (x : Kept J). x.held.book) looked))
    (record { id = own.id; recorded = ∥∥₁_map own.recorded stays })
own_looked J node first false k n looked stays own =
    subst (λ (x : BookState). IsOwn node first x n.recorder) (sym (ap (λ (x : Kept J). x.held.book) looked))
    (record { id = own.id; recorded = ∥∥₁_map own.recorded stays })

-- what is known to be appended is so in one way
pub appends_prop : (a b : Option (List ℕ)) (bytes : List ℕ) → IsProp (Appends a b bytes)
appends_prop None b bytes = Prim.hlevel props
appends_prop (Some x) None bytes = Prim.hlevel props
appends_prop (Some x) (Some y) bytes = Prim.hlevel props
