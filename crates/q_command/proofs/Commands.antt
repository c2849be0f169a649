-- The command that the words name.
use Rattle.std.proofs.Common.{◌≡◌, ◌<◌, ◌≤◌, ℕ, ◌∙◌, ap, ap₂, refl, sym, codes, Bor, option_map, unwrap_or, IsSomeAnd, cond, ◌||◌, ◌⊎◌, inl, inr, subst, arith}
use Rattle.std.specs.Prelude.{Bool, true, false, List, [], ◌∷◌, map, Option, Some, None, MatchOption, Box, find, Result, Ok, Err, IfOk, IsErrAnd, MatchResult}
use Rattle.std.specs.Box.{box_value}
use Rattle.std.specs.Option.{SomeIff}
use Rattle.std.proofs.lemmas.Fmt.{decimal_injective}
use Rattle.std.proofs.lemmas.Option.{none-some}
use Rattle.bq_range.specs.Interval.{Interval, between}
use Rattle.bq_state.specs.Kinds.{AreLengths}
use Rattle.q_script.specs.Words as words
use Rattle.clap.specs.Words.{App, HasKind, HasMatchesOf, IsAmong, Row, Rule, Shape, Text, app_of, fault_of, is_simple, is_simple_and_free, kind_of}
use Rattle.clap.specs.Words.{rule_of, subcommand_name_of, subcommand_of, subcommand_rows, subcommand_rows_of, with_rule, with_subcommand}
use Rattle.clap.specs.Simple.{argument_words, built, entered, label_of, names_of, rows_at}
use Rattle.clap.specs.Walk.{answers_to, stop_after}
use Rattle.clap.specs.Built.{AddsArg, AddsSubcommand}
use Rattle.clap.specs.declared.builder.arg.Arg.{Arg}
use Rattle.clap.specs.declared.builder.command.Command.{Command}
use Rattle.clap.specs.declared.builder.command.Command.TheViews.{out-Command}
use Rattle.clap.specs.declared.error.Error.{Error}
use Rattle.clap.specs.declared.parser.matches.SubCommand.{SubCommand}
use Rattle.clap.specs.declared.parser.matches.ArgMatches.{ArgMatches}
use Rattle.clap.specs.declared.parser.matches.ArgMatches.TheViews.{out-ArgMatches, out-SubCommand}
use Rattle.clap.proofs.OnLiterals.{clap_on_literals}
use Rattle.q_command.specs.declared.words.Invocation.{Invocation}
use Rattle.q_command.specs.declared.words.WordsFault.{WordsFault}
use Rattle.q_command.specs.declared.words.WordsFault.TheVariants.{Help, Wrong, OutOfMemory}
use Rattle.q_command.specs.Words.{AreBad, AreGiven, AreGivenFor, Has, HasFault, HasLineFault, IsAskedFor, IsMet, IsOneOf, IsRunners, Reads, Tells}
use Rattle.q_command.specs.Words.{bqview, commands, operand_of}

simple : is_simple bqview ≡ true
unfolding clap_on_literals
simple = refl

free : is_simple_and_free bqview ≡ true
unfolding clap_on_literals
free = refl

-- what was met, from its name and what was found for its operands
met_rows : {Z : Type 0} (o : Option (Box SubCommand Z)) (name : Text) (rows : List Row)
    → option_map (λ b. (out-SubCommand (box_value b)).name.now) o ≡ Some name
    → option_map (λ p. p.1) (subcommand_rows o) ≡ Some rows → subcommand_rows o ≡ Some (name, rows)
met_rows None name rows e f = absurd (none-some name e)
met_rows (Some b) name rows e f = ap₂ (λ n r. Some (n, r)) (ap (λ o. unwrap_or o []) e) (ap (λ o. unwrap_or o []) f)

pub operand_text : {file : Bor Text} {t : Option Text} (o : Option (Bor Text)) (d : Bor Text) → option_map (λ s. s.now) o ≡ t → file ≡ unwrap_or o d
    → d.now ≡ [] → file.now ≡ unwrap_or t []
operand_text None d e f g = ap (λ s. s.now) f ∙ g ∙ ap (λ x. unwrap_or x []) e
operand_text (Some s) d e f g = ap (λ s. s.now) f ∙ ap (λ x. unwrap_or x []) e

-- the texts that were found for an operand
abbrev pub texts_in : Option (Bor (List (Bor Text))) → Option (List Text)
texts_in o = option_map (λ s. map (λ v. v.now) s.now) o

pub texts_found : {o : Option (Bor (List (Bor Text)))} {s : Bor (List (Bor Text))} {given : Option (List Text)} {items : List (Bor Text)}
    → texts_in o ≡ given → o ≡ Some s → items ≡ s.now → map (λ v. v.now) items ≡ unwrap_or given []
texts_found e is same =
    ap (λ (l : List (Bor Text)). map (λ v. v.now) l) same ∙ ap (λ o. unwrap_or (texts_in o) []) (sym is) ∙ ap (λ g. unwrap_or g []) e

-- none were found
pub texts_missing : {o : Option (Bor (List (Bor Text)))} {given : Option (List Text)} (items : List (Bor Text))
    → texts_in o ≡ given → o ≡ None → items ≡ [] → map (λ v. v.now) items ≡ unwrap_or given []
texts_missing items e is same =
    ap (λ (l : List (Bor Text)). map (λ v. v.now) l) same ∙ ap (λ o. unwrap_or (texts_in o) []) (sym is) ∙ ap (λ g. unwrap_or g []) e

-- what the parser found is what the words of `bqview` say
pub found_said : {a : App} (m : ArgMatches) (words : List Text) → a ≡ bqview → HasMatchesOf a words m → subcommand_rows_of m ≡ subcommand_of bqview words
found_said m words is matches = (matches (ap is_simple is ∙ simple)).1 ∙ ap (λ (x : App). subcommand_of x words) is

-- what holds of what was met holds of what was said
said_so : (P : Text × List Row → Type 0) (said : Option (Text × List Row)) (met : Text × List Row) → said ≡ Some met → P met → IsSomeAnd said P
said_so P said met e h = subst (λ o. IsSomeAnd o P) (sym e) h

-- ---- which commands there are

abbrev names : List Shape → List Text
names ss = map (λ s. s.name) ss

same_name : (p q : Text × List Row) → Some p ≡ Some q → q.0 ≡ p.0
same_name p q e = ap (λ o. (unwrap_or o p).0) (sym e)

found_in : (b : Bool) (s : Shape) (rest : Option Shape) (words : List Text) (ss : List Shape) (p : Text × List Row)
    → (option_map (λ t. rows_at t words) rest ≡ Some p → IsOneOf p.0 (names ss))
    → option_map (λ t. rows_at t words) (cond b (Some s) rest) ≡ Some p → IsOneOf p.0 (s.name ∷ names ss)
found_in true s rest words ss p f e = inl (same_name (rows_at s words) p e)
found_in false s rest words ss p f e = inr (f e)

find_in : (test : Shape → Bool) (ss : List Shape) (words : List Text) (p : Text × List Row)
    → option_map (λ t. rows_at t words) (find test ss) ≡ Some p → IsOneOf p.0 (names ss)
find_in test [] words p e = none-some p e
find_in test (s ∷ ss) words p e = found_in (test s) s (find test ss) words ss p (find_in test ss words p) e

entered_in : (a : App) (stop : Option (Text × List Text)) (p : Text × List Row) → entered a stop ≡ Some p → IsOneOf p.0 (names a.subs)
entered_in a None p e = absurd (none-some p e)
entered_in a (Some q) p e = find_in (λ s. answers_to q.0 (label_of s)) a.subs q.1 p e

all_names : names (built bqview).subs ≡ commands
all_names = refl

-- a command was met, so its name is one of those
pub known_command : (words : List Text) (met : Text × List Row) → subcommand_of bqview words ≡ Some met → IsOneOf met.0 commands
known_command words met said =
    let stop = stop_after (built bqview).top.rules (names_of (built bqview)) (argument_words bqview words) in
    subst (IsOneOf met.0) all_names (entered_in (built bqview) stop met said)

-- ---- how commands are put together

pub or_false : (b c : Bool) → c ≡ false → (b || c) ≡ b
or_false true c e = refl
or_false false c e = e

-- a command has one more argument
pub with_one_more : {E : Type 0} (old : Command) (a : Arg) (r : Result Command E) (app : App) (rule : Rule) → IfOk r (AddsArg old a) → a.global ≡ false
    → rule_of a ≡ rule → (app_of old ≡ app) × ((out-Command old).has_globals ≡ false) → Has r (with_rule app rule)
with_one_more old a (Ok c) app rule h e f has = (h.shape e ∙ ap₂ with_rule has.0 f, h.globals ∙ or_false (out-Command old).has_globals a.global e ∙ has.1)
with_one_more old a (Err e) app rule h l f has = tt

-- a command has one more command below it
pub below_one_more : {E : Type 0} (old below : Command) (r : Result Command E) (app under : App) → IfOk r (AddsSubcommand old below)
    → (app_of old ≡ app) × ((out-Command old).has_globals ≡ false) → (app_of below ≡ under) × ((out-Command below).has_globals ≡ false)
    → Has r (with_subcommand app under.top)
below_one_more old below (Ok c) app under h has low = (
  h.shape low.1 ∙ ap₂ (λ (x y : App). with_subcommand x y.top) has.0 low.0,
  h.globals ∙ or_false (out-Command old).has_globals (out-Command below).has_globals low.1 ∙ has.1,
)
below_one_more old below (Err e) app under h has low = tt

-- what is read where this command was met
pub read_so : (words : List Text) (r : Result Invocation WordsFault) (met : Text × List Row) → fault_of bqview words ≡ []
    → subcommand_of bqview words ≡ Some met → MatchResult r (λ asked. IsMet asked met) (λ e. HasLineFault e met) → Reads words r
read_so words (Ok asked) met n s h = (n, said_so (IsMet asked) _ met s h)
read_so words (Err (Help e)) met n s h = absurd h
read_so words (Err (Wrong e)) met n s h = absurd h
read_so words (Err OutOfMemory) met n s h = tt
read_so words (Err e) met n s h = (n, said_so (HasLineFault e) _ met s h)

-- the fault by what `clap` says
faulty_so : (words : List Text) (error : Error) (e : WordsFault) → HasKind (fault_of bqview words) error → Tells error e → HasFault words e
faulty_so words error (Help x) h t = elim h [
  | inl memory ↦ elim t.1 [ inl asked ↦ absurd cc | inr asked ↦ absurd cc ]
  | inr among ↦ (subst (λ y. IsAskedFor (kind_of y)) (sym t.0) t.1, subst (λ y. IsAmong (kind_of y) (fault_of bqview words)) (sym t.0) among)
]
faulty_so words error (Wrong x) h t = elim h [
  | inl memory ↦ absurd (t.2 memory)
  | inr among ↦ (subst (λ y. ¬ (IsAskedFor (kind_of y))) (sym t.0) t.1, subst (λ y. IsAmong (kind_of y) (fault_of bqview words)) (sym t.0) among)
]
faulty_so words error OutOfMemory h t = tt
faulty_so words error e h t = absurd t

-- the parser found no fault
pub no_fault : {a : App} (words : List Text) → a ≡ bqview → (is_simple_and_free a ≡ true → fault_of a words ≡ []) → fault_of bqview words ≡ []
no_fault words is kinds = subst (λ (x : App). fault_of x words ≡ []) is (kinds (ap is_simple_and_free is ∙ free))

-- the parser fails
pub failed_so : {a : App} (words : List Text) (error : Error) (r : Result Invocation WordsFault) → a ≡ bqview
    → (is_simple_and_free a ≡ true → HasKind (fault_of a words) error) → IsErrAnd r (Tells error) → Reads words r
failed_so words error (Ok asked) is kinds h = absurd h
failed_so words error (Err e) is kinds h =
    faulty_so words error e (subst (λ (x : App). HasKind (fault_of x words) error) is (kinds (ap is_simple_and_free is ∙ free))) h

-- the parser met the command of this name
pub was_met : {a : App} {name : Text} {rows : List Row} (m : ArgMatches) (words : List Text) → a ≡ bqview → HasMatchesOf a words m
    → subcommand_name_of m ≡ Some name → option_map (λ p. p.1) (subcommand_rows_of m) ≡ Some rows → subcommand_of bqview words ≡ Some (name, rows)
was_met {name = name} {rows = rows} m words is matches named found =
    sym (found_said m words is matches) ∙ met_rows (out-ArgMatches m).subcommand name rows named found

-- ---- lengths of records

-- a text spells one number
same_number : (t : Text) (n m : ℕ) → words.IsNumeral t n → words.IsNumeral t m → n ≡ m
same_number t n m h k = decimal_injective n m h.0 k.0 (sym h.1 ∙ k.1)

-- the numbers that were read of what was given
pub were_given : (rows : List Row) (least most : Text) (a b : Option ℕ) (n m : ℕ) → least ≡ operand_of (codes "least") rows
    → most ≡ operand_of (codes "most") rows → words.Reads words.IsNumeral least a → words.Reads words.IsNumeral most b → a ≡ Some n → b ≡ Some m
    → AreGivenFor rows n m
were_given rows least most a b n m is_least is_most h k e f = (
  subst (λ o. words.Reads words.IsNumeral (operand_of (codes "least") rows) o) e (subst (λ t. words.Reads words.IsNumeral t a) is_least h),
  subst (λ o. words.Reads words.IsNumeral (operand_of (codes "most") rows) o) f (subst (λ t. words.Reads words.IsNumeral t b) is_most k),
)

-- the lengths that were read of two numbers, if they are some
pub lengths_read : (rows : List Row) (n m : ℕ) (o : Option Interval) → AreGivenFor rows n m → SomeIff o (AreLengths (between n m)) (between n m)
    → MatchOption o (AreBad rows) (AreGiven rows)
lengths_read rows n m (Some l) g h = subst (AreGiven rows) (sym h.1) (h.0, g)
lengths_read rows n m None g h = λ l k.
    let least = same_number (operand_of (codes "least") rows) l.lo n k.1.0 g.0 in
    let most = same_number (operand_of (codes "most") rows) l.hi m k.1.1 g.1 in
    h (subst AreLengths (ap₂ between least most) k.0)

-- ---- runners

-- a text that spells a number which is none of 1 to 64 spells no count of threads
pub no_runners : (t : Text) (n : ℕ) → words.IsNumeral t n → (n < 1) ⊎ ((1 ≤ n) × (64 < n)) → (m : ℕ) → IsRunners t m → ⊥
no_runners t n h out m k =
    let e : m ≡ n = same_number t m n k.0 h in
    elim out [ inl low ↦ absurd (omega (arith, e, low, k.1)) | inr high ↦ absurd (omega (arith, e, high.1, k.2)) ]
