-- What a run of commands answers, by the map alone.
use Rattle.std.specs.Prelude.{◌≡◌, ◌≤◌, ◌<◌, List, [], ◌∷◌, Result, Ok, Err}
use Rattle.std.specs.FinMap as fin
use Rattle.sc_view.specs.declared.view.ViewFault.{ViewFault}
use Rattle.sc_view.specs.declared.view.ViewFault.TheVariants.{Full, OutOfMemory}
use Rattle.sc_view.specs.declared.form.Command.{Command}
use Rattle.sc_view.specs.declared.form.Command.TheVariants.{Get, Put, Merge}
use Rattle.sc_view.specs.declared.form.Reply.{Reply}
use Rattle.sc_view.specs.declared.form.Reply.TheVariants.{Known, Learned}
use Rattle.sc_view.specs.Views.{ViewMap, put, merge, most_entries}

-- what learning made of a map, where all of it would be `all`
abbrev pub Learns : {X : Type 0} → Result X ViewFault → ViewMap → ViewMap → ViewMap → Type 0
Learns (Ok u) v all new = (new ≡ all) × (fin.len all ≤ most_entries)
Learns (Err Full) v all new = (new ≡ v) × (most_entries < fin.len all)
Learns (Err OutOfMemory) v all new = (new ≡ v) × (fin.len all ≤ most_entries)

abbrev pub Answers : ViewMap → ViewMap → Command → Reply → ViewMap → Type 0
Answers v other (Get id) (Known known) new = (known ≡ fin.get v id) × (new ≡ v)
Answers v other (Get id) (Learned r) new = ⊥
Answers v other (Put id x) (Known known) new = ⊥
Answers v other (Put id x) (Learned r) new = Learns r v (put v id x) new
Answers v other Merge (Known known) new = ⊥
Answers v other Merge (Learned r) new = Learns r v (merge v other) new

abbrev pub Runs : ViewMap → ViewMap → List Command → List Reply → ViewMap → Type 0
Runs v other [] [] new = new ≡ v
Runs v other [] (r ∷ rs) new = ⊥
Runs v other (c ∷ cs) [] new = ⊥
Runs v other (c ∷ cs) (r ∷ rs) new = (next : ViewMap) × Answers v other c r next × Runs next other cs rs new
