-- The table has all commands, and each word is that of one command.
use Rattle.std.proofs.Common.{◌≡◌, ◌≢◌, ℕ, Bool, true, false, cond, eqb, not, List, [], ◌∷◌, Option, Some, None, refl, ap, sym, ◌∙◌, inl, inr, ◌⊎◌}
use Rattle.std.specs.Prelude.{MatchOption, find}
use Rattle.std.specs.Str.{bytes_eq}
use Rattle.std.specs.List.{list_all}
use Rattle.std.proofs.lemmas.Bool.{eqb-false, not-true}
use Rattle.std.proofs.lemmas.Option.{none-some}
use Rattle.std.proofs.lemmas.Slice.Eq.{bytes_eq-Decides}
use Rattle.spelling.proofs.Lists.{all_passed}
use Rattle.q_script.specs.declared.command.TheConstants as consts
use Rattle.q_script.specs.declared.command.Command.{Command}
use Rattle.q_script.specs.declared.command.Command.TheVariants.{Program}
use Rattle.q_script.specs.Words.{Lacks}
use Rattle.q_script.specs.Line.{name}

-- the first command with this word
command_at : List ℕ → Option Command
command_at word = find (λ c. bytes_eq (name c) word) consts.COMMANDS

chosen : (t : Bool) (c d : Command) (r : Option Command) → cond t (Some c) r ≡ Some d → ((t ≡ true) × (c ≡ d)) ⊎ (r ≡ Some d)
chosen true c d r e = inl (refl, cc)
chosen false c d r e = inr e

found : (word : List ℕ) (cs : List Command) (d : Command) → find (λ c. bytes_eq (name c) word) cs ≡ Some d → word ≡ name d
found word [] d e = absurd cc
found word (c ∷ cs) d e =
    elim (chosen (bytes_eq (name c) word) c d (find (λ c. bytes_eq (name c) word) cs) e) [
      | inl g ↦ sym ((bytes_eq-Decides (name c) word).0 g.0) ∙ ap name g.1
      | inr g ↦ found word cs d g
    ]

-- each word is read as its command
command_again : (c : Command) → command_at (name c) ≡ Some c
unfolding command_at
command_again Program = refl
command_again _ = refl

-- no two commands have one word
pub same_command : (c d : Command) → name c ≡ name d → c ≡ d
same_command c d e = let found : Some c ≡ Some d = sym (command_again c) ∙ ap command_at e ∙ command_again d in cc

-- what is found has the word, and where nothing is found no command has it
pub command_judged : (word : List ℕ) (r : Option Command) → r ≡ find (λ c. bytes_eq (name c) word) consts.COMMANDS
    → MatchOption r ((c : Command) → word ≢ name c) (λ c. word ≡ name c)
unfolding command_at
command_judged word None e = λ c is. none-some c (e ∙ ap command_at is ∙ command_again c)
command_judged word (Some c) e = found word consts.COMMANDS c (sym e)

-- no byte of these is c
abbrev are_not : ℕ → List ℕ → Bool
are_not c s = list_all (λ d. not (eqb d c)) s

lacks_by_test : (c : ℕ) (s : List ℕ) → are_not c s ≡ true → Lacks c s
lacks_by_test c s = all_passed (λ d. d ≢ c) (λ d. not (eqb d c)) (λ d other. eqb-false d c (not-true (eqb d c) other)) s

name_test : (c : Command) → are_not 32 (name c) ≡ true
name_test Program = refl
name_test _ = refl

pub name_lacks_space : (c : Command) → Lacks 32 (name c)
name_lacks_space c = lacks_by_test 32 (name c) (name_test c)
