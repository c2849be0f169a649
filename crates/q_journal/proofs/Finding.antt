-- From tests on the bytes of a file to what they are to a node.
use Rattle.std.proofs.Common.{◌≡◌, ℕ, ◌<◌, ◌-◌, ◌≤◌, Bool, true, false, List, ◌++◌, length, take, drop, sym, ap, ◌∙◌, subst}
use Rattle.std.proofs.Common.{MatchBool, append_assoc, length-append, arith, Err}
use Rattle.std.specs.Str.{bytes_eq}
use Rattle.std.proofs.lemmas.Slice.Eq.{bytes_eq-Decides}
use Rattle.std.proofs.KnownBytes.{starts_with_rest}
use Rattle.std.proofs.Transfers.{starts_with_of_append}
use Rattle.spelling.specs.Codes.{BeginsNone}
use Rattle.q_book.specs.State.{BookState}
use Rattle.q_replay.specs.Head.{Head}
use Rattle.q_replay.specs.Spelling.{head_bytes, IsHead}
use Rattle.q_replay.specs.Journal.{entries_bytes, head_of}
use Rattle.q_beginning.specs.Beginning.{IsBeginning, IsRefused}
use Rattle.q_replay.specs.declared.fault.ReplayFault.{ReplayFault}
use Rattle.q_replay.specs.declared.fault.ReplayFault.TheVariants as replay
use Rattle.q_journal.specs.Found.{BeginsWith, IsHeadless, IsOther, IsResumed}
use Rattle.q_journal.specs.Starts.{Finds, IsForeign}
use Rattle.q_journal.specs.Faults.{fault_of_replay}
use Rattle.q_journal.specs.declared.fault.JournalFault.{JournalFault}
use Rattle.q_journal.specs.declared.fault.JournalFault.TheVariants as fault

-- ---- tests

-- the test of a slice says whether the bytes begin with these
pub begins_by : (b : Bool) (bytes front : List ℕ) → bytes_eq front (take (length front) bytes) ≡ b
    → MatchBool b (BeginsWith bytes front) (BeginsWith bytes front → ⊥)
begins_by true bytes front is =
    let same : front ≡ take (length front) bytes = (bytes_eq-Decides front (take (length front) bytes)).0 is in
    (drop (length front) bytes, starts_with_rest bytes front (sym same))
begins_by false bytes front is = λ (b : BeginsWith bytes front).
    let same : take (length front) bytes ≡ front = starts_with_of_append bytes front b.0 b.1 in
    let yes : bytes_eq front (take (length front) bytes) ≡ true = (bytes_eq-Decides front (take (length front) bytes)).1 (sym same) in
    let wrong : true ≡ false = sym yes ∙ is in
    cc

-- ---- heads

-- bytes that begin with a list do not fall short of it
pub not_short : (head bytes rest : List ℕ) → bytes ≡ head ++ rest → length bytes < length head → ⊥
not_short head bytes rest e l = omega (arith, ap length e, length-append head rest, l)

-- where the bytes are no proper beginning of the head
abbrev pub NoShort : List ℕ → List ℕ → Type 0
NoShort head bytes = BeginsWith head bytes → length bytes < length head → ⊥

pub headless : (head : Head) (own bytes : List ℕ) → own ≡ head_bytes head → BeginsWith own bytes → length bytes < length own
    → IsHeadless head bytes
headless head own bytes is b l = record {
  missing = b.0;
  parts = sym is ∙ b.1;
  short = subst (λ (h : List ℕ). length bytes < length h) is l;
}

pub not_headless : (head : Head) (own bytes : List ℕ) → own ≡ head_bytes head → NoShort own bytes → IsHeadless head bytes → ⊥
not_headless head own bytes is none h =
    none (h.missing, is ∙ h.parts) (subst (λ (l : List ℕ). length bytes < length l) (sym is) h.short)

-- bytes begin with one head at most
abbrev pub OneHead : Type 0
OneHead = (h g : Head) (rest more : List ℕ) → IsHead h → IsHead g → head_bytes h ++ rest ≡ head_bytes g ++ more → (h ≡ g) × (rest ≡ more)

-- the head of a book that the bytes begin with
pub own_book : (one : OneHead) (head : Head) (own bytes kept : List ℕ) (b : BookState) → own ≡ head_bytes head → IsHead head
    → BeginsWith bytes own → IsBeginning bytes kept b → head_of b ≡ head
own_book one head own bytes kept b is legal begins i =
    let entries : List ℕ = entries_bytes b.version b.desk.journal in
    let there : bytes ≡ head_bytes (head_of b) ++ (entries ++ i.left) =
    i.parts ∙ ap (λ (k : List ℕ). k ++ i.left) i.journal ∙ append_assoc (head_bytes (head_of b)) entries i.left in
    let here : bytes ≡ head_bytes head ++ begins.0 = begins.1 ∙ ap (λ (h : List ℕ). h ++ begins.0) is in
    (one (head_of b) head (entries ++ i.left) begins.0 i.journalled.head legal (sym there ∙ here)).0

-- what the node comes back with
pub resumed : (one : OneHead) (head : Head) (own bytes : List ℕ) (b : BookState) (kept : ℕ) → own ≡ head_bytes head → IsHead head
    → BeginsWith bytes own → IsBeginning bytes (take kept bytes) b → kept ≤ length bytes → IsResumed head bytes b kept (length bytes - kept)
resumed one head own bytes b kept is legal begins i within = record {
  begins = i;
  own = own_book one head own bytes (take kept bytes) b is legal begins i;
  all = omega (arith, within);
}

-- bytes of the node that are refused
pub refused : (head : Head) (own bytes : List ℕ) (f : ReplayFault) → own ≡ head_bytes head → NoShort own bytes → IsRefused bytes f
    → Finds head bytes (Err (fault_of_replay f))
refused head own bytes (replay.Form event) is none r = (r, not_headless head own bytes is none)
refused head own bytes (replay.Mismatch event) is none r = (r, not_headless head own bytes is none)
refused head own bytes replay.OutOfMemory is none r = tt

-- ---- bytes of no journal of the node

-- bytes that begin with no head have no beginning that is a journal
pub no_journal : (bytes : List ℕ) → BeginsNone head_bytes IsHead bytes → IsRefused bytes (replay.Form 0)
no_journal bytes none = record {
  is_fault = none;
  none = λ (kept : List ℕ) (b : BookState) (i : IsBeginning bytes kept b).
      let entries : List ℕ = entries_bytes b.version b.desk.journal in
      absurd (none.none (head_of b) (entries ++ i.left) i.journalled.head
      (i.parts ∙ ap (λ (k : List ℕ). k ++ i.left) i.journal ∙ append_assoc (head_bytes (head_of b)) entries i.left));
}

-- the head of another node
pub other : (head : Head) (own bytes : List ℕ) (h : Head) (rest : List ℕ) → own ≡ head_bytes head → (BeginsWith bytes own → ⊥)
    → IsHead h → bytes ≡ head_bytes h ++ rest → IsOther head bytes
other head own bytes h rest is none legal parts = record {
  other = h;
  legal = legal;
  rest = rest;
  parts = parts;
  differs = λ (same : h ≡ head). none (rest, parts ∙ ap (λ (k : List ℕ). k ++ rest) (ap head_bytes same ∙ sym is));
}

pub foreign : (head : Head) (own bytes : List ℕ) (f : JournalFault) → own ≡ head_bytes head → NoShort own bytes
    → (BeginsWith bytes own → ⊥) → IsForeign bytes f → Finds head bytes (Err f)
foreign head own bytes fault.OtherNode is short none i = other head own bytes i.0 i.1 is none i.2 i.3
foreign head own bytes (fault.Journal f) is short none i =
    (subst (λ (g : ReplayFault). IsRefused bytes g) (sym i.0) (no_journal bytes i.1), not_headless head own bytes is short)
foreign head own bytes fault.OutOfMemory is short none i = tt
foreign head own bytes fault.Failed is short none i = absurd i
foreign head own bytes fault.BadNote is short none i = absurd i
foreign head own bytes (fault.Unresumed why) is short none i = absurd i
