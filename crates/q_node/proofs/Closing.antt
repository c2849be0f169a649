-- How a run closes.
use Rattle.std.proofs.Common.{◌≡◌, ℕ, List, [], ◌++◌, Option, Result, Ok, Err, inl, inr, refl, sym, ◌∙◌, append-nil, subst}
use Rattle.std.specs.Io.KnownBytes.{Appends}
use Rattle.std.proofs.KnownBytes.{Appends-trans}
use Rattle.q_replay.specs.Journal.{journal_of}
use Rattle.q_kept.specs.declared.fault.Unrecorded.{Unrecorded}
use Rattle.q_node.specs.Journal.{HoldsBeginning, HoldsJournal, IsKept}
use Rattle.q_node.specs.Runs.{Closes, IsFront, IsJournal, IsWritten, ending_of, last_line}
use Rattle.q_node.specs.Talks.{Talks}
use Rattle.q_node.specs.declared.ending.NodeEnding.{NodeEnding}
use Rattle.q_node.specs.declared.ending.NodeEnding.TheVariants as ending
use Rattle.q_node.specs.declared.fault.StartFault.{StartFault}
use Rattle.q_node.specs.declared.talk_end.Talk.TheVariants as talk

-- ---- what is printed

-- what was printed before is a front, or nothing
told : (node : ℕ) (greeting : List ℕ) (a b c : Option (List ℕ)) (events : Result ℕ Unrecorded) (front : List ℕ) → IsFront node greeting front
    → Appends a b front → Appends b c (last_line events) → IsWritten node greeting (ending_of events) a c
told node greeting a b c (Ok n) front is first last = (front, is, Appends-trans a b c front _ first last)
told node greeting a b c (Err f) front is first last = (front, inl is, Appends-trans a b c front _ first last)

pub written_ended : (node : ℕ) (greeting : List ℕ) (a b c : Option (List ℕ)) (events : Result ℕ Unrecorded) (e : NodeEnding)
    → Talks node greeting a talk.Ended b → Closes events b e c → IsWritten node greeting e a c
written_ended node greeting a b c events e t (inl h) = rw h.0 (told node greeting a b c events t.0 t.1 t.2 h.1)
written_ended node greeting a b c events e t (inr h) = rw h.0 (t.0 ++ h.1.0, Appends-trans a b c t.0 h.1.0 t.2 h.1.1)

pub written_unstarted : (node : ℕ) (greeting : List ℕ) (b c : Option (List ℕ)) (f : Unrecorded) (e : NodeEnding) → Closes (Err f) b e c
    → IsWritten node greeting e b c
written_unstarted node greeting b c f e (inl h) = rw h.0 ([], inr refl, h.1)
written_unstarted node greeting b c f e (inr h) = rw h.0 h.1

-- ---- the journal

beginning_of : (node : ℕ) (first file : Option (List ℕ)) (n : ℕ) → HoldsJournal node first file n → HoldsBeginning node first file
beginning_of node first file n h = record {
  book = h.book;
  own = h.own;
  beginning = ∣ record { part = journal_of h.book; rest = []; parts = append-nil (journal_of h.book); appended = h.whole } ∣₁;
}

pub kept_beginning : (node : ℕ) (first file : Option (List ℕ)) (events : Result ℕ Unrecorded) → IsKept node first file events → HoldsBeginning node first file
kept_beginning node first file (Ok n) h = beginning_of node first file n h
kept_beginning node first file (Err f) h = h

journal_of_ending : (node : ℕ) (first given file : Option (List ℕ)) (events : Result ℕ Unrecorded) → IsKept node first file events
    → IsJournal node first given file (ending_of events)
journal_of_ending node first given file (Ok n) h = h
journal_of_ending node first given file (Err f) h = h

pub journal_ended : (node : ℕ) (first given file b c : Option (List ℕ)) (events : Result ℕ Unrecorded) (e : NodeEnding) → Closes events b e c
    → IsKept node first file events → IsJournal node first given file e
journal_ended node first given file b c events e (inl h) k =
    subst (IsJournal node first given file) (sym h.0) (journal_of_ending node first given file events k)
journal_ended node first given file b c events e (inr h) k =
    subst (IsJournal node first given file) (sym h.0) (inl (kept_beginning node first file events k))

-- ---- it began

abbrev IsBegun : NodeEnding → Type 0
IsBegun (ending.Refused f) = ⊥
IsBegun e = Unit {0}

ending_begun : (events : Result ℕ Unrecorded) → IsBegun (ending_of events)
ending_begun (Ok n) = tt
ending_begun (Err f) = tt

pub not_refused : (b c : Option (List ℕ)) (events : Result ℕ Unrecorded) (e : NodeEnding) → Closes events b e c → (f : StartFault) → e ≡ ending.Refused f → ⊥
not_refused b c events e (inl h) f is = subst IsBegun (sym h.0 ∙ is) (ending_begun events)
not_refused b c events e (inr h) f is = subst IsBegun (sym h.0 ∙ is) tt

pub unwritten_begun : (f : StartFault) → ending.Unwritten ≡ ending.Refused f → ⊥
unwritten_begun f is = subst IsBegun is tt
