-- Entries written one after another.
use Rattle.std.proofs.Common.{◌≡◌, ℕ, List, [], ◌∷◌, ◌++◌, length, refl, sym, ap, subst, ◌∙◌, append_assoc}
use Rattle.std.proofs.lemmas.List.{append-nil}
use Rattle.std.specs.List.{flat_map, AllByRecursion}
use Rattle.spelling.specs.Numbers.{number_bytes}
use Rattle.sc_msg.specs.Entries.{Layout, entry_bytes, list_bytes, IsEntry}
use Rattle.spelling.proofs.Codes.{all_push, flat_map_push}
use Rattle.sc_view.proofs.AllLemmas.{all_split}

-- of the entries all but rest are written behind old
pub record WrittenTo {A : Type 0} (layout : Layout A) (count : ℕ) (entries : List A) (old new : List ℕ) (rest : List A) : Type 0 where
  pub done : List A
  pub split : entries ≡ done ++ rest
  pub legal : AllByRecursion (IsEntry layout) done
  pub written : new ≡ old ++ (number_bytes 2 count ++ flat_map (entry_bytes layout) done)

module _ {A : Type 0} {layout : Layout A} {count : ℕ} {entries : List A} {old : List ℕ} where
  pub written_none : {new : List ℕ} → new ≡ old ++ number_bytes 2 count → WrittenTo layout count entries old new entries
  written_none is =
      record { done = []; split = refl; legal = tt; written = is ∙ ap (λ (l : List ℕ). old ++ l) (sym (append-nil (number_bytes 2 count))) }

  -- where these entries are left
  pub written_more : {new after : List ℕ} {e : A} {rest left : List A} → WrittenTo layout count entries old new left → left ≡ e ∷ rest
      → IsEntry layout e → after ≡ new ++ entry_bytes layout e → WrittenTo layout count entries old after rest
  written_more {new = new} {e = e} {rest = rest} so_far next is more =
      let w = subst (WrittenTo layout count entries old new) next so_far in
      let pushed = ap (λ (l : List ℕ). number_bytes 2 count ++ l) (sym (flat_map_push (entry_bytes layout) w.done e)) in
      record {
        done = w.done ++ e ∷ [];
        split = w.split ∙ sym (append_assoc w.done (e ∷ []) rest);
        legal = all_push (IsEntry layout) w.done e w.legal is;
        written = more ∙ ap (λ (l : List ℕ). l ++ entry_bytes layout e) w.written ∙ append_assoc old _ (entry_bytes layout e)
            ∙ ap (λ (l : List ℕ). old ++ l) (append_assoc (number_bytes 2 count) _ (entry_bytes layout e) ∙ pushed);
      }

  -- where none is left
  pub written_all : {new : List ℕ} {left : List A} → WrittenTo layout count entries old new left → left ≡ [] → count ≡ length entries
      → AllByRecursion (IsEntry layout) entries × (new ≡ old ++ list_bytes layout entries)
  written_all {new = new} so_far none len =
      let w = subst (WrittenTo layout count entries old new) none so_far in
      let all : w.done ≡ entries = sym (w.split ∙ append-nil w.done) in (
        subst (AllByRecursion (IsEntry layout)) all w.legal,
        w.written ∙ (λ i. old ++ (number_bytes 2 (len i) ++ flat_map (entry_bytes layout) (all i))),
      )

pub all_at : {A : Type 0} (P : A → Type 0) {es : List A} (done rest : List A) {e : A} → es ≡ done ++ e ∷ rest → AllByRecursion P es → P e
all_at P done rest {e = e} split h = (all_split P done (e ∷ rest) (subst (AllByRecursion P) split h)).1.0
