-- A node that begins or comes back, whose book and file are its own.
use Rattle.std.proofs.Common.{◌≡◌, ℕ, List, [], Option, Some, None, refl, ◌∙◌, subst, sym}
use Rattle.std.specs.Prelude.{IfSome, option_map}
use Rattle.q_book.specs.State.{BookState}
use Rattle.q_kept.specs.State.{RecorderState}
use Rattle.q_kept.specs.Recording.{IsRecorded}
use Rattle.q_journal.specs.declared.start.Resumed.{Resumed}
use Rattle.q_node.specs.Own.{IsOwn}
use Rattle.q_node.specs.Runs.{IsJournal, IsReady, first_of}
use Rattle.q_node.specs.declared.ending.NodeEnding.{NodeEnding}
use Rattle.q_node.specs.declared.front.Resumption.{Resumption}

-- the book is the one with which the node comes back, if it does, and the recorder is ready for it
pub own_ready : (resumed : Option Resumed) (p : Option Resumption) (b c : BookState) (r s : RecorderState)
    → ((given : Option (List ℕ)) → first_of p given ≡ first_of resumed given)
    → IfSome resumed (λ (found : Resumed). c ≡ found.book) → IsReady resumed r → b ≡ c → s ≡ r
    → IsOwn b.id (first_of p s.file) b s
own_ready None p b c r s first book ready books recorders =
    subst (λ (x : RecorderState). IsOwn b.id (first_of p x.file) b x) (sym recorders) (record {
      id = refl;
      recorded = ∣ subst (λ (x : Option (List ℕ)). IsRecorded x b r) (sym (first r.file)) (ready b) ∣₁;
    })
own_ready (Some found) p b c r s first book ready books recorders =
    subst (λ (x : RecorderState). IsOwn b.id (first_of p x.file) b x) (sym recorders) (record {
      id = refl;
      recorded = ∣ subst (λ (x : Option (List ℕ)). IsRecorded x b r) (sym (first r.file))
          (subst (λ (x : BookState). IsRecorded (option_map (λ (bytes : List ℕ). []) r.file) x r) (sym (books ∙ book)) ready) ∣₁;
    })

-- what the file holds at the end, said of the recorder that the node was given
pub journal_ready : (resumed : Option Resumed) (p : Option Resumption) (id node : ℕ) (r s : RecorderState) (after : Option (List ℕ)) (e : NodeEnding)
    → ((given : Option (List ℕ)) → first_of p given ≡ first_of resumed given) → id ≡ node → s ≡ r
    → ((given : Option (List ℕ)) → IsJournal id (first_of p s.file) given after e)
    → IsJournal node (first_of resumed r.file) r.file after e
journal_ready resumed p id node r s after e first ids recorders journal =
    subst (λ (n : ℕ). IsJournal n (first_of resumed r.file) r.file after e) ids
    (subst (λ (x : Option (List ℕ)). IsJournal id x r.file after e) (first r.file)
    (subst (λ (x : RecorderState). IsJournal id (first_of p x.file) r.file after e) recorders (journal r.file)))
