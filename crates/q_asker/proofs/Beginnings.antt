-- The steps of lines, and what begins them.
use Rattle.std.proofs.Common.{◌≡◌, List, [], ◌∷◌, ◌++◌, inl, refl, ap, sym, ◌∙◌, subst, append_assoc, append-nil}
use Rattle.reasons.specs.declared.Reason.TheVariants as reasons
use Rattle.q_told.specs.declared.refusal.RefusalPlace.TheVariants.{Untold}
use Rattle.q_asker.specs.Steps.{AreOf, AreOfAll, BeginAll, Step, Unmade}
use Rattle.q_asker.specs.declared.script.ClientLine.{ClientLine}

-- a step at which memory ran out, which any line may have
abbrev pub lacking : Step
lacking = Unmade reasons.OutOfMemory Untold

pub lacking_of : (l : ClientLine) → AreOf l (lacking ∷ [])
lacking_of l = (inl (refl, refl), refl)

abbrev pub lackings : List ClientLine → List Step
lackings [] = []
lackings (l ∷ ls) = (lacking ∷ []) ++ lackings ls

lackings_of : (ls : List ClientLine) → AreOfAll ls (lackings ls)
lackings_of [] = refl
lackings_of (l ∷ ls) = (lacking ∷ [], lackings ls, lacking_of l, lackings_of ls, refl)

-- nothing begins any lines
pub begin_none : (ls : List ClientLine) → BeginAll ls []
begin_none ls = (lackings ls, lackings_of ls)

-- what begins the steps of a line
pub begin_first : (l : ClientLine) (steps more : List Step) → AreOf l (steps ++ more) → BeginAll (l ∷ []) steps
begin_first l steps more h = (more, (steps ++ more, [], h, refl, sym (append-nil (steps ++ more))))

-- the steps of lines, and then those of more
pub of_behind : (ls ms : List ClientLine) (steps more : List Step) → AreOfAll ls steps → AreOfAll ms more → AreOfAll (ls ++ ms) (steps ++ more)
of_behind [] ms steps more h k = subst (λ (z : List Step). AreOfAll ms (z ++ more)) (sym h) k
of_behind (x ∷ ls) ms steps more h k = (h.0, h.1 ++ more, h.2, of_behind ls ms h.1 more h.3 k, ap (λ z. z ++ more) h.4 ∙ append_assoc h.0 h.1 more)

-- the steps of lines, and what begins those of the next
pub begin_behind : (ls : List ClientLine) (l : ClientLine) (rest : List ClientLine) (steps more : List Step) → AreOfAll ls steps
    → BeginAll (l ∷ []) more → BeginAll (ls ++ l ∷ rest) (steps ++ more)
begin_behind ls l rest steps more h k =
    let next = of_behind (l ∷ []) rest (more ++ k.0) (lackings rest) k.1 (lackings_of rest) in
    let whole = of_behind ls (l ∷ rest) steps ((more ++ k.0) ++ lackings rest) h next in
    let same : steps ++ ((more ++ k.0) ++ lackings rest) ≡ (steps ++ more) ++ (k.0 ++ lackings rest) = simp append_assoc in
    (k.0 ++ lackings rest, subst (AreOfAll (ls ++ l ∷ rest)) same whole)
