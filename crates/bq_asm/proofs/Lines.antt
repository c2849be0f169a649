-- The lines of a source, read one after another.
use Rattle.std.proofs.Common.{◌≡◌, ℕ, ◌+◌, ◌<◌, false, cond, List, [], ◌∷◌, ◌++◌, length, map, take, drop, get_or, subst, inl, inr, arith}
use Rattle.std.specs.Prelude.{Result, Some, None}
use Rattle.std.specs.Result.{is_ok, is_err}
use Rattle.std.specs.List.{AllZip}
use Rattle.std.proofs.lemmas.List.{map_push, length-map, length-append}
use Rattle.std.proofs.lemmas.Slice.Zip.{all_zipped_more}
use Rattle.spelling.proofs.Lists.{pieces_at, pushed}
use Rattle.bq_asm.specs.declared.statement.Line as code
use Rattle.bq_asm.specs.View.{line_view}
use Rattle.bq_asm.specs.Line.{Line, Spells}
use Rattle.bq_asm.specs.Labels.{IsFirstLine}
use Rattle.bq_asm.specs.Source.{IsUnreadable}
use Rattle.bq_asm.specs.Reading.{line_at}
use Rattle.bq_asm.proofs.First.{first_above}
use Rattle.bq_asm.proofs.Said.{line_sound, unreadable}

-- the lines before this one say what was read of them, and it is the next
pub record IsNext (texts done : List (List ℕ)) (items : List code.Line) (i : ℕ) (t : List ℕ) : Type 0 where
  pub front : done ≡ take i texts
  pub inside : i < length texts
  pub here : t ≡ get_or texts i t
  pub read : AllZip Spells done (map line_view items)

first_from : (before done : List (List ℕ)) (v : List Line) (t : List ℕ) (rest : List (List ℕ)) → AllZip Spells done v → ((w : Line) → Spells t w → ⊥)
    → IsFirstLine IsUnreadable before (done ++ t ∷ rest) (length before + length v + 1)
first_from before [] [] t rest h n = inl (n, omega arith)
first_from before [] (y ∷ v) t rest h n = absurd h
first_from before (x ∷ done) [] t rest h n = absurd h
first_from before (x ∷ done) (y ∷ v) t rest h n =
    let more = first_from (before ++ x ∷ []) done v t rest h.1 n in
    inr (λ f. f y h.0, subst (IsFirstLine IsUnreadable (before ++ x ∷ []) (done ++ t ∷ rest)) (omega (arith, length-append before (x ∷ []))) more)

first_readable : (x : List ℕ) (rest : List (List ℕ)) (w : Line) → Spells x w → IsFirstLine IsUnreadable [] (x ∷ rest) 1 → ⊥
first_readable x rest w s h = elim h [
  | inl here ↦ here.0 w s
  | inr later ↦ let more = first_above IsUnreadable (x ∷ []) rest 1 later.1 in omega (arith, more)
]

front_readable : (done : List (List ℕ)) (v : List Line) (t : List ℕ) (rest : List (List ℕ)) (w : Line) → AllZip Spells done v → Spells t w
    → IsFirstLine IsUnreadable [] (done ++ t ∷ rest) 1 → ⊥
front_readable [] v t rest w z s h = first_readable t rest w s h
front_readable (x ∷ done) [] t rest w z s h = absurd z
front_readable (x ∷ done) (y ∷ v) t rest w z s h = first_readable x (done ++ t ∷ rest) y z.0 h

module _ {texts done : List (List ℕ)} {items : List code.Line} {i : ℕ} {t : List ℕ} (next : IsNext texts done items i t) where
  parts : texts ≡ done ++ (t ∷ drop (i + 1) texts)
  parts = pieces_at texts done i t next.front next.inside next.here

  pub first_unreadable : (k : ℕ) → line_at t ≡ None → k ≡ length items → IsFirstLine IsUnreadable [] texts (k + 1)
  first_unreadable k none e =
      let here = first_from [] done (map line_view items) t (drop (i + 1) texts) next.read (unreadable t none) in
      rw parts (subst (IsFirstLine IsUnreadable [] (done ++ t ∷ drop (i + 1) texts)) (omega (arith, e, length-map items line_view)) here)

  module _ (x : code.Line) (some : line_at t ≡ Some (line_view x)) where
    -- a line was read, so the first is of a form
    pub none_first : IsFirstLine IsUnreadable [] texts 1 → ⊥
    none_first h =
        front_readable done (map line_view items) t (drop (i + 1) texts) (line_view x) next.read (line_sound t (line_view x) some)
        (subst (λ u. IsFirstLine IsUnreadable [] u 1) parts h)

    pub read_more : {E : Type 0} {new : List code.Line} (r : Result (Unit {0}) E) → new ≡ cond (is_ok r) (items ++ x ∷ []) items → is_err r ≡ false
        → AllZip Spells (done ++ t ∷ []) (map line_view new)
    read_more {new = new} r e ok =
        rw (pushed items new x r e ok, map_push line_view items x)
        (all_zipped_more Spells done (map line_view items) t (line_view x) next.read (line_sound t (line_view x) some))
