-- The lengths of values in messages that have a spelling.
use Rattle.std.proofs.Common.{◌≡◌, ◌↔◌, ◌==◌, ◌≤◌, ℕ, nat_le, Bool, true, IsTrue, List, [], ◌∷◌, length, Option, Some, None, IfSome}
use Rattle.std.proofs.Common.{Result, Ok, Err, sym, ap, ◌∙◌, arith, eq-eqb}
use Rattle.std.specs.Cmp.{both_ways}
use Rattle.std.proofs.lemmas.Bool.{eqb-true, leb-true, le-leb}
use Rattle.std.specs.Result.{IfOk}
use Rattle.std.specs.List.{AllByRecursion}
use Rattle.std.specs.FinMap as fin
use Rattle.sc_view.specs.declared.view.Stored.{Stored}
use Rattle.sc_view.specs.Values.{Lengths, IsWithin, is_within}
use Rattle.sc_view.specs.Views.{ViewMap, HasValuesWithin}
use Rattle.sc_view.proofs.LengthLemmas.{Within, within_by_entries, is_told, told_is, told_within}
use Rattle.sc_msg.specs.declared.message.Body.{Body}
use Rattle.sc_msg.specs.declared.message.Body.TheVariants as bodies
use Rattle.sc_msg.specs.declared.message.Message.{Message}
use Rattle.sc_msg.specs.declared.fault.MessageFault.{MessageFault}
use Rattle.sc_msg.specs.declared.version.Version.{Version}
use Rattle.sc_msg.specs.declared.version.Version.TheVariants.{First, Second}
use Rattle.sc_msg.specs.Values.{value_lengths, IsLength}
use Rattle.sc_msg.specs.Entries.{AreRecords, IsEntry, view_layout}
use Rattle.sc_msg.specs.Fields.{IsField, fields}
use Rattle.sc_msg.specs.Messages.{IsMessage}
use Rattle.sc_msg.specs.Lengths.{MessageHasValuesWithin, BodyFits, Fits, view_of, told_values_within, has_values_within}

all_within : (version : Version) (es : List (ℕ × Stored)) → AllByRecursion (IsEntry (view_layout version)) es
    → AllByRecursion (Within (value_lengths version)) es
all_within version [] h = tt
all_within version (e ∷ es) h = (h.0.1.whole, all_within version es h.1)

records_fit : (version : Version) (v : ViewMap) → AreRecords version v → HasValuesWithin (value_lengths version) v
records_fit version v are = within_by_entries (value_lengths version) v (all_within version (fin.entries v) are.fit)

body_fits : (version : Version) (b : Body) → AllByRecursion IsField (fields version b) → BodyFits version b
body_fits version (bodies.EnterEcho e) h = records_fit version e.view h.1.1.1.1.1.0
body_fits version (bodies.Store s) h = records_fit version s.view h.1.0
body_fits version (bodies.StoreEcho v) h = records_fit version v h.0
body_fits version (bodies.CollectReply r) h = records_fit version r.view h.1.1.0
body_fits version b h = tt

pub message_fits : (version : Version) (m : Message) → IsMessage version m → Fits version m
message_fits version m is = body_fits version m.body is.fields

pub decoded_fits : (version : Version) (r : Result Message MessageFault) → IfOk r (IsMessage version) → IfOk r (Fits version)
decoded_fits version (Ok m) is = message_fits version m is
decoded_fits version (Err e) is = tt

-- ---- both versions

first_short : (n : ℕ) → IsLength First n → IsLength Second n
first_short n is = record { least = omega arith; most = omega (arith, is.most) }

first_view : (v : ViewMap) → HasValuesWithin (value_lengths First) v → HasValuesWithin (value_lengths Second) v
first_view v h = record { at = λ id e has. first_short (length e.value) (h.at id e has) }

first_told : (o : Option ViewMap) → IfSome o (HasValuesWithin (value_lengths First)) → IfSome o (HasValuesWithin (value_lengths Second))
first_told None h = tt
first_told (Some v) h = first_view v h

-- what can be written in the first version can be written in the second
pub first_fits_second : (m : Message) → Fits First m → Fits Second m
first_fits_second m h = first_told (view_of m.body) h

-- ---- the test

has_told : (l : Lengths) (o : Option ViewMap) → told_values_within l o ≡ true → IfSome o (HasValuesWithin l)
has_told l None h = tt
has_told l (Some v) h = told_within l v h

-- a message of which the test finds each value to have one of these lengths
pub message_told : (l : Lengths) (m : Message) → has_values_within l m ≡ true → MessageHasValuesWithin l m
message_told l m h = has_told l (view_of m.body) h

-- ---- a length

-- two tests of one fact
same_test : (s : Bool) (n : ℕ) (l : Lengths) → (s ≡ true → IsWithin n l) → (IsWithin n l → s ≡ true) → s ≡ is_within n l
same_test s n l from_s to_s = both_ways s (is_within n l) (λ yes. is_told n l (from_s yes)) (λ yes. to_s (told_is n l yes))

first_is : (n : ℕ) → n ≡ 48 → IsLength First n
first_is n is = record { least = omega (arith, is); most = omega (arith, is) }

second_is : (n : ℕ) → n ≤ 112 → IsLength Second n
second_is n few = record { least = omega arith; most = few }

first_length : (n : ℕ) → (n == 48) ≡ is_within n (value_lengths First)
first_length n = same_test _ n _ (λ yes. first_is n (eqb-true n 48 yes)) (λ h. eq-eqb n 48 (omega (arith, h.least, h.most)))

second_length : (n : ℕ) → nat_le n 112 ≡ is_within n (value_lengths Second)
second_length n = same_test _ n _ (λ yes. second_is n (leb-true n 112 yes)) (λ h. le-leb n 112 h.most)

-- the tests of the two versions
pub length_of_first : (version : Version) (n : ℕ) → version ≡ First → (n == 48) ≡ is_within n (value_lengths version)
length_of_first version n is = first_length n ∙ ap (λ (v : Version). is_within n (value_lengths v)) (sym is)

pub length_of_second : (version : Version) (n : ℕ) → version ≡ Second → nat_le n 112 ≡ is_within n (value_lengths version)
length_of_second version n is = second_length n ∙ ap (λ (v : Version). is_within n (value_lengths v)) (sym is)

pub length_means : (version : Version) (n : ℕ) (b : Bool) → b ≡ is_within n (value_lengths version) → IsTrue b ↔ IsLength version n
length_means version n b told = (λ yes. told_is n (value_lengths version) (sym told ∙ yes), λ h. told ∙ is_told n (value_lengths version) h)
