-- worked_settling: what settling says: no message leaves before the journal that gave it is written.
use Rattle.std.proofs.Common.{◌≡◌, ℕ, ◌∙◌, true, false, List, [], ◌∷◌, ◌++◌, length, map, arith, sym, refl, ap, Option, Some, None}
use Rattle.std.specs.Io.KnownBytes.{Appends}
use Rattle.std.proofs.lemmas.List.{append_cancel_left}
use Rattle.spelling.specs.Numbers.{number_bytes}
use Rattle.sc_msg.specs.declared.message.Message.{Message}
use Rattle.sc_msg.specs.declared.version.Version.{Version}
use Rattle.q_desk.specs.declared.journal.Entry.{Entry}
use Rattle.q_desk.specs.declared.journal.Call.TheVariants as call
use Rattle.q_desk.specs.declared.journal.Entry.TheVariants as entry
use Rattle.q_book.specs.State.{BookState}
use Rattle.q_replay.specs.Spelling.{head_bytes}
use Rattle.q_replay.specs.Journal.{head_of, entries_bytes, journal_of}
use Rattle.q_kept.specs.State.{RecorderState}
use Rattle.q_kept.specs.Recording.{Breaks, RecordsAll}
use Rattle.q_kept.specs.Letters.{SpellsAll, addressed}
use Rattle.q_kept.specs.Giving.{fitting}
use Rattle.q_kept.specs.declared.letter.Letter.{Letter}
use Rattle.q_kept.proofs.Settling.{stays_broken}
use Rattle.q_kept.proofs.worked.worked_settling.Goals as goal

-- what is behind nothing
behind_none : (o : Option (List ℕ)) (bytes : List ℕ) → (let none : List ℕ = [] in Appends (Some none) o bytes) → o ≡ Some bytes
behind_none None bytes h = absurd h
behind_none (Some all) bytes h = ap (λ (l : List ℕ). let o : Option (List ℕ) = Some l in o) h

pub returns-clause-written : goal.returns-clause-written
returns-clause-written _ = λ r b c old letters r' new h g. behind_none r'.file (journal_of c) (g.whole (Some []) h)

-- the bytes of a hand-out are not those of a hand-out and a leave
short_of_a_leave : (b : BookState)
    → 6 ∷ 0 ∷ 0 ∷ 0 ∷ 0 ∷ [] ≡ entries_bytes b.version (entry.Call call.HandOut ∷ entry.Call call.Leave ∷ []) → ⊥
unfolding number_bytes
short_of_a_leave b e = let n : 5 ≡ 10 = ap length e in omega (arith, n)

some_same : (xs ys : List ℕ) → (let o : Option (List ℕ) = Some xs in o) ≡ Some ys → xs ≡ ys
some_same xs ys e = cc

pub returns-clause-not_before : goal.returns-clause-not_before
returns-clause-not_before _ = λ r b c old letters r' new h journal file g.
    let head : List ℕ = head_bytes (head_of c) in
    let all = some_same _ _ (sym file ∙ behind_none r'.file (journal_of c) (g.whole (Some []) h)) in
    let entries = all ∙ ap (λ (es : List Entry). head ++ entries_bytes c.version es) journal in
    short_of_a_leave c (append_cancel_left head (6 ∷ 0 ∷ 0 ∷ 0 ∷ 0 ∷ []) _ entries)

pub returns-clause-not_failed : goal.returns-clause-not_failed
returns-clause-not_failed _ = λ r b c old letters r' new h g.
    let k : Breaks r c r' = h in
    let broken : r'.broken ≡ true = ap (λ (x : RecorderState). x.broken) k.broken in
    let sound : r'.broken ≡ false = ap (λ (x : RecorderState). x.broken) g.written.counted ∙ g.written.sound in
    absurd (cc (broken, sound))

-- what all that lacked was appended to counts the whole journal
all_counted : (r r' : RecorderState) (b : BookState) (es : List Entry) → RecordsAll r b r' → b.desk.journal ≡ es
    → r'.written ≡ length es
all_counted r r' b es w journal = ap (λ (x : RecorderState). x.written) w.counted ∙ ap length journal

pub returns-clause-not_short : goal.returns-clause-not_short
returns-clause-not_short _ = λ r b c old letters r' new journal one h g.
    let counted : r'.written ≡ 2 = all_counted r r' c (entry.Call call.HandOut ∷ entry.Call call.Leave ∷ []) g.written journal in
    let same : r'.written ≡ r.written = ap (λ (x : RecorderState). x.written) h.1 in
    omega (arith, counted, same, one)

-- the book that is written has one entry, and the book that gives has two
pub returns-clause-not_later : goal.returns-clause-not_later
returns-clause-not_later _ = λ r b c d old letters r' new one two w g.
    let first : r'.written ≡ 1 = all_counted r r' c (entry.Call call.HandOut ∷ []) w one in
    let second : r'.written ≡ 2 = all_counted r r' d (entry.Call call.HandOut ∷ entry.Call call.HandOut ∷ []) g.written two in
    omega (arith, first, second)

pub returns-clause-mute : goal.returns-clause-mute
returns-clause-mute _ = λ r b c old letters r' new t g. absurd (cc (t, g.written.sound))

pub returns-clause-stays_mute : goal.returns-clause-stays_mute
returns-clause-stays_mute _ = λ r c old r' new t g.
    (ap (λ (x : RecorderState). x.broken) (stays_broken r r' c g.why g.unwritten t) ∙ t, g.same)

none_given : (v : Version) (done has : List Message) (ls : List Letter) → [] ≡ done ++ has → SpellsAll v (map addressed (fitting v done)) ls
    → (length ls ≡ 0) × (has ≡ [])
none_given v [] has [] e s = (refl, sym e)
none_given v [] has (l ∷ ls) e s = absurd s
none_given v (m ∷ done) has ls e s = absurd (cc)

pub returns-clause-nothing_waits : goal.returns-clause-nothing_waits
returns-clause-nothing_waits _ = λ v qs asks u w letters has g. none_given v g.done has letters g.parts g.spelled
