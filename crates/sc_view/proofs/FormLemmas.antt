-- Runs of commands, one step on.
use Rattle.std.proofs.Common.{ℕ, ◌+◌, ◌<◌, List, [], ◌∷◌, ◌++◌, length, take, get_or, refl, sym, subst}
use Rattle.std.proofs.lemmas.List.{take_more}
use Rattle.sc_view.specs.declared.form.Command.{Command}
use Rattle.sc_view.specs.declared.form.Reply.{Reply}
use Rattle.sc_view.specs.Views.{ViewMap}
use Rattle.sc_view.specs.Forms.{Runs, Answers}

runs_push : (v w : ViewMap) (cs : List Command) (rs : List Reply) (u : ViewMap) (c : Command) (r : Reply) (new : ViewMap) → Runs v w cs rs u
    → Answers u w c r new → Runs v w (cs ++ c ∷ []) (rs ++ r ∷ []) new
runs_push v w [] [] u c r new h a = (new, subst (λ x. Answers x w c r new) h a, refl)
runs_push v w [] (s ∷ rs) u c r new h a = absurd h
runs_push v w (d ∷ cs) [] u c r new h a = absurd h
runs_push v w (d ∷ cs) (s ∷ rs) u c r new h a = (h.0, h.1, runs_push h.0 w cs rs u c r new h.2 a)

pub runs_next : (v w : ViewMap) (cs : List Command) (i : ℕ) (d : Command) (rs : List Reply) (u : ViewMap) (r : Reply) (new : ViewMap) → i < length cs
    → Runs v w (take i cs) rs u → Answers u w (get_or cs i d) r new → Runs v w (take (i + 1) cs) (rs ++ r ∷ []) new
runs_next v w cs i d rs u r new l h a =
    subst (λ ds. Runs v w ds (rs ++ r ∷ []) new) (sym (take_more cs i d l)) (runs_push v w (take i cs) rs u (get_or cs i d) r new h a)
