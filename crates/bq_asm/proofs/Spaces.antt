-- Texts with spaces about them.
use Rattle.std.proofs.Common.{◌≡◌, ℕ, ◌<◌, true, false, eqb, List, [], ◌∷◌, ◌++◌, length, refl, ap, sym, ◌∙◌, subst, inl, inr, ◌⊎◌, arith, length-append}
use Rattle.std.specs.Prelude.{option_map, Option, Some, None}
use Rattle.std.proofs.lemmas.Bool.{cond-false, cond-true, eq-eqb, eqb-true, cases_Bool}
use Rattle.std.proofs.lemmas.List.{append_assoc, append-nil}
use Rattle.std.proofs.lemmas.Option.{same_Some}
use Rattle.spelling.proofs.Lists.{all_append, all_wider}
use Rattle.bq_asm.specs.Reading.{cut, trim_start, trim_end, before_spaces, trimmed}
use Rattle.bq_asm.specs.Line.{AreSpaces}
use Rattle.bq_asm.proofs.Parts.{Lacks, trim_end_push}

-- ---- spaces

pub spaces_append : (a b : List ℕ) → AreSpaces a → AreSpaces b → AreSpaces (a ++ b)
spaces_append a b = all_append (λ c. c ≡ 32) a b

pub spaces_lack : (k : ℕ) (a : List ℕ) → eqb 32 k ≡ false → AreSpaces a → Lacks k a
spaces_lack k a e = all_wider (λ d. eqb d k ≡ false) (λ d is. ap (λ (x : ℕ). eqb x k) is ∙ e) a

pub lacks_append : (k : ℕ) (a b : List ℕ) → Lacks k a → Lacks k b → Lacks k (a ++ b)
lacks_append k a b = all_append (λ d. eqb d k ≡ false) a b

-- ---- a text that begins and ends with no space

abbrev pub Starts : List ℕ → Type 0
Starts [] = ⊥
Starts (c ∷ cs) = eqb c 32 ≡ false

abbrev pub Ends : List ℕ → Type 0
Ends s = trim_end s ≡ s

pub starts_some : (s : List ℕ) → Starts s → 0 < length s
starts_some [] h = absurd h
starts_some (c ∷ cs) h = omega arith

pub starts_append : (a b : List ℕ) → Starts a → Starts (a ++ b)
starts_append [] b h = absurd h
starts_append (c ∷ a) b h = h

before_some : (c : ℕ) (s : List ℕ) → 0 < length s → before_spaces c s ≡ c ∷ s
before_some c [] h = absurd (omega arith)
before_some c (d ∷ s) h = refl

pub ends_append : (a b : List ℕ) → Starts b → Ends b → Ends (a ++ b)
ends_append [] b h e = e
ends_append (c ∷ a) b h e = ap (before_spaces c) (ends_append a b h e) ∙ before_some c (a ++ b) (omega (arith, length-append a b, starts_some b h))

-- ---- trimming

pub trim_front : (a s : List ℕ) → AreSpaces a → trim_start (a ++ s) ≡ trim_start s
trim_front [] s h = refl
trim_front (c ∷ a) s h = cond-true (eqb c 32) _ _ (eq-eqb c 32 h.0) ∙ trim_front a s h.1

pub trim_starts : (s b : List ℕ) → Starts s → trim_start (s ++ b) ≡ s ++ b
trim_starts [] b h = absurd h
trim_starts (c ∷ s) b h = cond-false (eqb c 32) _ _ h

pub trim_back : (s b : List ℕ) → AreSpaces b → trim_end (s ++ b) ≡ trim_end s
trim_back s [] h = ap trim_end (append-nil s)
trim_back s (c ∷ b) h =
    ap (λ (d : ℕ). trim_end (s ++ (d ∷ b))) h.0
    ∙ ap trim_end (sym (append_assoc s (32 ∷ []) b))
    ∙ trim_back (s ++ (32 ∷ [])) b h.1 ∙ trim_end_push s

-- what stands between spaces
pub trimmed_between : (a s b : List ℕ) → AreSpaces a → Starts s → Ends s → AreSpaces b → trimmed (a ++ (s ++ b)) ≡ s
unfolding trimmed
trimmed_between a s b ha hs he hb = ap trim_end (trim_front a (s ++ b) ha ∙ trim_starts s b hs) ∙ trim_back s b hb ∙ he

pub trimmed_spaces : (a : List ℕ) → AreSpaces a → trimmed a ≡ []
unfolding trimmed
trimmed_spaces a h = ap trim_end (ap trim_start (sym (append-nil a)) ∙ trim_front a [] h)

-- ---- what was trimmed

pub record Front (s : List ℕ) : Type 0 where
  before : List ℕ
  spaces : AreSpaces before
  parts : s ≡ before ++ trim_start s

front_by : (c : ℕ) (s : List ℕ) → (eqb c 32 ≡ true) ⊎ (eqb c 32 ≡ false) → Front s → Front (c ∷ s)
front_by c s (inl e) f = record {
  before = c ∷ f.before;
  spaces = (eqb-true c 32 e, f.spaces);
  parts = ap (λ (xs : List ℕ). c ∷ xs) f.parts ∙ ap (λ (xs : List ℕ). (c ∷ f.before) ++ xs) (sym (cond-true (eqb c 32) (trim_start s) (c ∷ s) e));
}
front_by c s (inr e) f = record { before = []; spaces = tt; parts = sym (cond-false (eqb c 32) (trim_start s) (c ∷ s) e) }

front_of : (s : List ℕ) → Front s
front_of [] = record { before = []; spaces = tt; parts = refl }
front_of (c ∷ s) = front_by c s (cases_Bool (eqb c 32)) (front_of s)

pub record Back (s : List ℕ) : Type 0 where
  after : List ℕ
  spaces : AreSpaces after
  parts : s ≡ trim_end s ++ after

-- before spaces alone a byte stays, or is a space; before others it stays
before_by : (c : ℕ) (t : List ℕ) → ((c ≡ 32) × (t ≡ []) × (before_spaces c t ≡ [])) ⊎ (before_spaces c t ≡ c ∷ t)
before_by c [] = elim (cases_Bool (eqb c 32)) [
  | inl e ↦ inl (eqb-true c 32 e, refl, cond-true (eqb c 32) _ _ e)
  | inr e ↦ inr (cond-false (eqb c 32) _ _ e)
]
before_by c (d ∷ ds) = inr refl

back_by : (c : ℕ) (s : List ℕ) → Back s → Back (c ∷ s)
back_by c s b = elim (before_by c (trim_end s)) [
  | inl h ↦ record {
    after = c ∷ s;
    spaces = (h.0, subst AreSpaces (sym (b.parts ∙ ap (λ (xs : List ℕ). xs ++ b.after) h.1)) b.spaces);
    parts = ap (λ (xs : List ℕ). xs ++ (c ∷ s)) (sym h.2);
  }
  | inr h ↦ record {
    after = b.after;
    spaces = b.spaces;
    parts = ap (λ (xs : List ℕ). c ∷ xs) b.parts ∙ ap (λ (xs : List ℕ). xs ++ b.after) (sym h);
  }
]

back_of : (s : List ℕ) → Back s
back_of [] = record { after = []; spaces = tt; parts = refl }
back_of (c ∷ s) = back_by c s (back_of s)

-- a text is what trimming leaves, between spaces
pub record Trimmed (s t : List ℕ) : Type 0 where
  pub before : List ℕ
  pub after : List ℕ
  pub spaces_before : AreSpaces before
  pub spaces_after : AreSpaces after
  pub parts : s ≡ before ++ (t ++ after)

pub trimmed_of : (s : List ℕ) → Trimmed s (trimmed s)
unfolding trimmed
trimmed_of s =
    let f = front_of s in
    let b = back_of (trim_start s) in
    record {
      before = f.before;
      after = b.after;
      spaces_before = f.spaces;
      spaces_after = b.spaces;
      parts = f.parts ∙ ap (λ (xs : List ℕ). f.before ++ xs) b.parts;
    }

-- ---- what was cut

pub map_some : {A B : Type 0} (o : Option A) (f : A → B) (y : B) → option_map f o ≡ Some y → (x : A) × (o ≡ Some x) × (f x ≡ y)
map_some None f y e = absurd cc
map_some (Some x) f y e = (x, refl, cc)

cut_by : (c d : ℕ) (s : List ℕ) (p : List ℕ × List ℕ) → ((q : List ℕ × List ℕ) → cut c s ≡ Some q → s ≡ q.0 ++ (c ∷ q.1))
    → (eqb d c ≡ true) ⊎ (eqb d c ≡ false) → cut c (d ∷ s) ≡ Some p → d ∷ s ≡ p.0 ++ (c ∷ p.1)
cut_by c d s p f (inl k) h =
    let e = same_Some ([], s) p (sym (cond-true (eqb d c) _ _ k) ∙ h) in
    ap (λ (x : ℕ). x ∷ s) (eqb-true d c k) ∙ ap (λ (r : List ℕ × List ℕ). r.0 ++ (c ∷ r.1)) e
cut_by c d s p f (inr k) h =
    let m = map_some (cut c s) (λ (r : List ℕ × List ℕ). (d ∷ r.0, r.1)) p (sym (cond-false (eqb d c) _ _ k) ∙ h) in
    ap (λ (xs : List ℕ). d ∷ xs) (f m.0 m.1) ∙ ap (λ (r : List ℕ × List ℕ). r.0 ++ (c ∷ r.1)) m.2

pub cut-some : (c : ℕ) (s : List ℕ) (p : List ℕ × List ℕ) → cut c s ≡ Some p → s ≡ p.0 ++ (c ∷ p.1)
cut-some c [] p h = absurd cc
cut-some c (d ∷ s) p h = cut_by c d s p (cut-some c s) (cases_Bool (eqb d c)) h
