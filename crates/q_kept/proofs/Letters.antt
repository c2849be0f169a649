-- Letters that are put behind others.
use Rattle.std.proofs.Common.{◌≡◌, ℕ, ◌+◌, ◌<◌, List, [], ◌∷◌, ◌++◌, length, take, drop, get_or, refl}
use Rattle.std.proofs.Common.{sym, ap, ◌∙◌, subst, suc, Result, Ok, Err, append_assoc, append-nil}
use Rattle.std.specs.Prelude.{OnErr}
use Rattle.std.specs.List.{AllZip, flat_map}
use Rattle.std.proofs.lemmas.Grind.{flat_map-append}
use Rattle.std.proofs.lemmas.List.{flat_map_more, take_more, take-append-drop}
use Rattle.std.proofs.Math.Seq.{drop-cons}
use Rattle.sc_msg.specs.declared.version.Version.{Version}
use Rattle.q_kept.specs.Letters.{Addressed, Spells, AddsAll, AddsFirst}
use Rattle.q_kept.specs.declared.letter.Letter.{Letter}

pub zip_append : {A B : Type 0} (R : A → B → Type 0) (xs ys : List A) (us vs : List B) → AllZip R xs us → AllZip R ys vs → AllZip R (xs ++ ys) (us ++ vs)
zip_append R [] ys [] vs h k = k
zip_append R [] ys (u ∷ us) vs h k = absurd h
zip_append R (x ∷ xs) ys [] vs h k = absurd h
zip_append R (x ∷ xs) ys (u ∷ us) vs h k = (h.0, zip_append R xs ys us vs h.1 k)

pub on_err : {A E : Type 0} (r : Result A E) (P : Type 0) → P → OnErr r P
on_err (Ok a) P p = tt
on_err (Err e) P p = p

module _ {v : Version} where
  -- no letter is put behind others
  pub adds_none : {ls : List Letter} → AddsAll v [] ls ls
  adds_none {ls} = record { more = []; added = sym (append-nil ls); spelled = tt }

  -- letters of these, and then of those
  pub adds_both : {xs ys : List Addressed} {ls ms ns : List Letter} → AddsAll v xs ls ms → AddsAll v ys ms ns → AddsAll v (xs ++ ys) ls ns
  adds_both {xs} {ys} {ls} a b = record {
    more = a.more ++ b.more;
    added = b.added ∙ ap (λ (l : List Letter). l ++ b.more) a.added ∙ append_assoc ls a.more b.more;
    spelled = zip_append (Spells v) xs ys a.more b.more a.spelled b.spelled;
  }

  -- letters of all of these and of the first of those
  pub adds_some : {xs ys : List Addressed} (zs : List Addressed) {ls ms ns : List Letter} → AddsAll v xs ls ms → AddsFirst v ys ms ns
      → AddsFirst v (xs ++ (ys ++ zs)) ls ns
  adds_some {xs} {ys} zs {ls} a b = let f = b.spelled in record {
    more = a.more ++ b.more;
    added = b.added ∙ ap (λ (l : List Letter). l ++ b.more) a.added ∙ append_assoc ls a.more b.more;
    spelled = record {
      sent = xs ++ f.sent;
      unsent = f.unsent ++ zs;
      parts =
          ap (λ (l : List Addressed). xs ++ (l ++ zs)) f.parts ∙ ap (λ (l : List Addressed). xs ++ l) (append_assoc f.sent f.unsent zs)
          ∙ sym (append_assoc xs f.sent (f.unsent ++ zs));
      spelled = zip_append (Spells v) xs f.sent a.more b.more a.spelled f.spelled;
    };
  }

  -- none of these is put behind others
  pub adds_first_none : {xs : List Addressed} {ls ms : List Letter} → ms ≡ ls → AddsFirst v xs ls ms
  adds_first_none {xs} {ls} e =
      record { more = []; added = e ∙ sym (append-nil ls); spelled = record { sent = []; unsent = xs; parts = refl; spelled = tt } }

  -- one more of a list of which each gives some letters
  module _ {X : Type 0} (f : X → List Addressed) (xs : List X) (i : ℕ) {x : X} (within : i < length xs) (read : x ≡ get_or xs i x)
      {ls ms ns : List Letter} (before : AddsAll v (flat_map f (take i xs)) ls ms) where
    pub adds_more : AddsAll v (f x) ms ns → AddsAll v (flat_map f (take (i + 1) xs)) ls ns
    adds_more a =
        let more = take_more xs i x within ∙ ap (λ (y : X). take i xs ++ y ∷ []) (sym read) in
        subst (λ (l : List Addressed). AddsAll v l ls ns) (flat_map_more f [] (take i xs) x ∙ ap (flat_map f) (sym more)) (adds_both before a)

    pub adds_up_to : AddsFirst v (f x) ms ns → AddsFirst v (flat_map f xs) ls ns
    adds_up_to a =
        let rest = drop-cons xs i x within ∙ ap (λ (y : X). y ∷ drop (suc i) xs) (sym read) in
        let parts = sym (take-append-drop i xs) ∙ ap (λ (l : List X). take i xs ++ l) rest in
        subst (λ (l : List Addressed). AddsFirst v l ls ns) (sym (ap (flat_map f) parts ∙ flat_map-append f (take i xs) (x ∷ drop (suc i) xs)))
        (adds_some (flat_map f (drop (suc i) xs)) before a)
