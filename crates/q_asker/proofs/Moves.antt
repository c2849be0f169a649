-- Steps, one behind the other.
use Rattle.std.proofs.Common.{◌≡◌, ℕ, List, [], ◌∷◌, ◌++◌, Option, Err, refl, ap, sym, ◌∙◌, subst, append_assoc, append-nil}
use Rattle.std.specs.Io.KnownBytes.{Appends, Consumes}
use Rattle.std.proofs.KnownBytes.{Appends-nil, Appends-trans, Consumes-nil, Consumes-trans}
use Rattle.std.proofs.lemmas.List.Concat.{flat_map-append}
use Rattle.reasons.specs.declared.Reason.{Reason}
use Rattle.q_told.specs.Line.{line_of, TakesPart, unanswered_line}
use Rattle.q_told.specs.declared.refusal.RefusalPlace.{RefusalPlace}
use Rattle.q_net.specs.declared.request.Request.{Request}
use Rattle.q_asker.specs.declared.connection.ExchangeFault.{ExchangeFault}
use Rattle.q_asker.specs.declared.connection.ExchangeFault.TheVariants.{OutOfMemory}
use Rattle.q_asker.specs.Exchanges.{Exchanges}
use Rattle.q_asker.specs.Runs.{GivesPart}
use Rattle.q_asker.specs.Steps.{GaveUp, Moves, Step, StepTells, StepsTell, Streams, Unmade, heard_by, sent_by}

-- ---- parts

same_sent : {a b : Option (List ℕ)} → b ≡ a → Appends a b []
same_sent {a} e = subst (λ (x : Option (List ℕ)). Appends a x []) (sym e) (Appends-nil a)

same_heard : {a b : Option (List ℕ)} → b ≡ a → Consumes a b []
same_heard {a} e = subst (λ (x : Option (List ℕ)). Consumes a x []) (sym e) (Consumes-nil a)

pub same_part : {a b : Option (List ℕ)} → b ≡ a → TakesPart a b
same_part e = ([], same_sent e)

pub same_given : {a b : Option (List ℕ)} → b ≡ a → GivesPart a b
same_given e = ([], same_heard e)

-- what a fault leaves behind it
pub fault_parts : (r : Request) (sent sending heard hearing : Option (List ℕ)) (fault : ExchangeFault)
    → Exchanges r sent sending heard hearing (Err fault) → TakesPart sent sending × GivesPart heard hearing
fault_parts r sent sending heard hearing OutOfMemory h = (same_part h.0, same_given h.1)
fault_parts r sent sending heard hearing fault h = h

-- ---- steps

pub moves_none : (s : Streams) → Moves [] s s
moves_none s = record { sends = Appends-nil s.sent; hears = Consumes-nil s.heard; text = []; tells = refl; prints = Appends-nil s.printed }

tell_behind : (ss ts : List Step) (x y : List ℕ) → StepsTell ss x → StepsTell ts y → StepsTell (ss ++ ts) (x ++ y)
tell_behind [] ts x y h k = subst (λ (z : List ℕ). StepsTell ts (z ++ y)) (sym h) k
tell_behind (s ∷ ss) ts x y h k = (h.0, h.1 ++ y, h.2, tell_behind ss ts h.1 y h.3 k, ap (λ (z : List ℕ). z ++ y) h.4 ∙ append_assoc h.0 h.1 y)

pub moves_behind : (ss ts : List Step) (a b c : Streams) → Moves ss a b → Moves ts b c → Moves (ss ++ ts) a c
moves_behind ss ts a b c h k = record {
  sends = subst (Appends a.sent c.sent) (sym (flat_map-append sent_by ss ts)) (Appends-trans a.sent b.sent c.sent _ _ h.sends k.sends);
  hears = subst (Consumes a.heard c.heard) (sym (flat_map-append heard_by ss ts)) (Consumes-trans a.heard b.heard c.heard _ _ h.hears k.hears);
  text = h.text ++ k.text;
  tells = tell_behind ss ts h.text k.text h.tells k.tells;
  prints = Appends-trans a.printed b.printed c.printed h.text k.text h.prints k.prints;
}

-- one step
pub moves_one : (step : Step) (a b : Streams) (text : List ℕ) → Appends a.sent b.sent (sent_by step) → Consumes a.heard b.heard (heard_by step)
    → StepTells step text → Appends a.printed b.printed text → Moves (step ∷ []) a b
moves_one step a b text sends hears tells prints = record {
  sends = subst (Appends a.sent b.sent) (sym (append-nil (sent_by step))) sends;
  hears = subst (Consumes a.heard b.heard) (sym (append-nil (heard_by step))) hears;
  text = text;
  tells = (text, [], tells, refl, sym (append-nil text));
  prints = prints;
}

-- no request was made
pub moves_unmade : (why : Reason) (at : RefusalPlace) (a b : Streams) → b.sent ≡ a.sent → b.heard ≡ a.heard
    → Appends a.printed b.printed (line_of why at) → Moves (Unmade why at ∷ []) a b
moves_unmade why at a b sent heard prints = moves_one (Unmade why at) a b (line_of why at) (same_sent sent) (same_heard heard) refl prints

-- a query was given up
pub moves_given_up : (a b : Streams) → b.sent ≡ a.sent → b.heard ≡ a.heard → Appends a.printed b.printed unanswered_line → Moves (GaveUp ∷ []) a b
moves_given_up a b sent heard prints = moves_one GaveUp a b unanswered_line (same_sent sent) (same_heard heard) refl prints
