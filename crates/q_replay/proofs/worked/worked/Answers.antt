-- Behind a head stands a leave, which is an event.
use Rattle.std.proofs.Common.{◌≡◌, ℕ, List, [], ◌∷◌, ◌++◌, length, sym, flat_map, arith}
use Rattle.sc_msg.specs.declared.version.Version.{Version}
use Rattle.spelling.specs.Numbers.{number_bytes}
use Rattle.q_replay.specs.Spelling.{event_bytes}
use Rattle.q_replay.specs.declared.raw_entry.RawEntry.{RawEntry}
use Rattle.q_replay.specs.declared.raw_entry.RawEntry.TheVariants.{Leave}
use Rattle.q_replay.proofs.Fronts.{head_front}
use Rattle.q_replay.proofs.worked.worked.Goals as goal

none_before : (version : Version) (events : List RawEntry) (bytes rest : List ℕ) → 0 ≡ length events
    → bytes ≡ flat_map (event_bytes version) events ++ rest → rest ≡ bytes
none_before version [] bytes rest many is = sym is
none_before version (w ∷ ws) bytes rest many is = absurd (omega (arith, many))

pub returns-clause-not_the_first : goal.returns-clause-not_the_first
unfolding number_bytes
returns-clause-not_the_first c = λ h legal f.
    let l = f.leads in
    let heads = head_front h l.head (1 ∷ 0 ∷ 0 ∷ 0 ∷ 0 ∷ 9 ∷ []) (flat_map (event_bytes l.head.version) l.events ++ f.rest) legal l.legal l.parts in
    f.none.none Leave (9 ∷ []) tt (none_before l.head.version l.events (1 ∷ 0 ∷ 0 ∷ 0 ∷ 0 ∷ 9 ∷ []) f.rest l.many heads.1)
