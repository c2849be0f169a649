-- Cutting, stripping and trimming of a text, by bytes.
use Rattle.std.proofs.Common.{◌≡◌, ◌≢◌, ℕ, ◌-◌, ◌<◌, false, eqb, List, [], ◌∷◌, ◌++◌, length, get_or, take, drop, refl, ap, sym, ◌∙◌, arith, Bor, lit<}
use Rattle.std.specs.Prelude.{option_map, MatchOption, IfSome, Option, Some, None}
use Rattle.std.specs.List.{AllByRecursion}
use Rattle.std.specs.Str.Pattern.{HasCharAt, FindsCharPrefix, FindsCharSuffix, CutsPrefixes, CutsSuffixes, IsTrimStartMatches, IsTrimEndMatches}
use Rattle.std.proofs.lemmas.Bool.{cond-false, cond-true, eq-eqb, ne_eqb}
use Rattle.std.proofs.lemmas.List.{take-append-drop, drop_all}
use Rattle.std.proofs.lemmas.List.Elements.{recursion_from_All, All-from_get_or}
use Rattle.std.proofs.lemmas.Str.Pattern.{drop_at_char}
use Rattle.std.proofs.lemmas.Str.Ascii.{encode_ascii}
use Rattle.bq_asm.specs.Reading.{Gives, cut, strip, trim_start, trim_end, before_spaces, trimmed}

-- c is not among the bytes
abbrev pub Lacks : ℕ → List ℕ → Type 0
Lacks c s = AllByRecursion (λ d. eqb d c ≡ false) s

lacks_from : (c : ℕ) (s : List ℕ) → ((i : ℕ) → i < length s → get_or s i 0 ≢ c) → Lacks c s
lacks_from c s h = recursion_from_All _ s (All-from_get_or (λ d. eqb d c ≡ false) s 0 (λ i less. ne_eqb _ c (h i less)))

-- ---- cut

pub cut_none : (c : ℕ) (s : List ℕ) → Lacks c s → cut c s ≡ None
cut_none c [] h = refl
cut_none c (d ∷ ds) h = cond-false (eqb d c) _ _ h.0 ∙ ap (option_map (λ (p : List ℕ × List ℕ). (d ∷ p.0, p.1))) (cut_none c ds h.1)

pub cut_at : (c : ℕ) (xs ys : List ℕ) → Lacks c xs → cut c (xs ++ (c ∷ ys)) ≡ Some (xs, ys)
cut_at c [] ys h = cond-true (eqb c c) _ _ (eq-eqb c c refl)
cut_at c (d ∷ ds) ys h = cond-false (eqb d c) _ _ h.0 ∙ ap (option_map (λ (p : List ℕ × List ℕ). (d ∷ p.0, p.1))) (cut_at c ds ys h.1)

pub gives_cut : (c : ℕ) (s : List ℕ) (r : Option (Bor (List ℕ) × Bor (List ℕ)))
    → MatchOption r ((i : ℕ) → i < length s → get_or s i 0 ≢ c) (λ x. (s ≡ x.0.now ++ (c ∷ x.1.now)) × ((i : ℕ) → i < length x.0.now → get_or x.0.now i 0 ≢ c))
    → Gives (λ p. (p.0.now, p.1.now)) r (cut c s)
gives_cut c s None h = cut_none c s (lacks_from c s h)
gives_cut c s (Some x) h = ap (cut c) h.0 ∙ cut_at c x.0.now x.1.now (lacks_from c x.0.now h.1)

-- ---- strip

strip_none : (c : ℕ) (s : List ℕ) → ((rest : List ℕ) → s ≢ c ∷ rest) → strip c s ≡ None
strip_none c [] h = refl
strip_none c (d ∷ ds) h = cond-false (eqb d c) _ _ (ne_eqb d c (λ e. h ds (ap (λ (x : ℕ). x ∷ ds) e)))

pub strip_lacks : (c : ℕ) (s : List ℕ) → Lacks c s → strip c s ≡ None
strip_lacks c [] h = refl
strip_lacks c (d ∷ ds) h = cond-false (eqb d c) _ _ h.0

strip_at : (c : ℕ) (rest : List ℕ) → strip c (c ∷ rest) ≡ Some rest
strip_at c rest = cond-true (eqb c c) _ _ (eq-eqb c c refl)

pub gives_strip : (c : ℕ) (s : List ℕ) (r : Option (Bor (List ℕ))) → MatchOption r ((rest : List ℕ) → s ≢ c ∷ rest) (λ x. s ≡ c ∷ x.now)
    → Gives (λ rest. rest.now) r (strip c s)
gives_strip c s None h = strip_none c s h
gives_strip c s (Some x) h = ap (strip c) h ∙ strip_at c x.now

-- ---- trim

pub trim_start_same : (s : List ℕ) → ((rest : List ℕ) → s ≢ 32 ∷ rest) → trim_start s ≡ s
trim_start_same [] h = refl
trim_start_same (c ∷ cs) h = cond-false (eqb c 32) _ _ (ne_eqb c 32 (λ e. h cs (ap (λ (x : ℕ). x ∷ cs) e)))

pub trim_end_push : (s : List ℕ) → trim_end (s ++ (32 ∷ [])) ≡ trim_end s
trim_end_push [] = refl
trim_end_push (c ∷ cs) = ap (before_spaces c) (trim_end_push cs)

pub trim_end_same : (s : List ℕ) → ((front : List ℕ) → s ≢ front ++ (32 ∷ [])) → trim_end s ≡ s
trim_end_same [] h = refl
trim_end_same (c ∷ []) h = cond-false (eqb c 32) _ _ (ne_eqb c 32 (λ e. h [] (ap (λ (x : ℕ). x ∷ []) e)))
trim_end_same (c ∷ d ∷ ds) h = ap (before_spaces c) (trim_end_same (d ∷ ds) (λ front e. h (c ∷ front) (ap (λ (xs : List ℕ). c ∷ xs) e)))

starts : (s : List ℕ) (n : ℕ) → HasCharAt 32 s 0 n → s ≡ 32 ∷ drop n s
starts s n h = drop_at_char 32 s 0 n h (lit< tt)

ends : (s : List ℕ) (k : ℕ) → HasCharAt 32 s k (length s) → s ≡ take k s ++ (32 ∷ [])
ends s k h =
    let last = drop_at_char 32 s k (length s) h (lit< tt) ∙ ap (λ (xs : List ℕ). 32 ∷ xs) (drop_all (length s) s (omega arith)) in
    sym (take-append-drop k s) ∙ ap (λ (xs : List ℕ). take k s ++ xs) last

prefixes : (s : List ℕ) (ns : List ℕ) (r : List ℕ) → CutsPrefixes (FindsCharPrefix 32) s ns r → trim_start s ≡ trim_start r
prefixes s [] r h = ap trim_start (sym h)
prefixes s (n ∷ ns) r h = prefixes s ns h.0 h.1 ∙ ap trim_start (starts h.0 n h.2) ∙ ap trim_start (sym h.3)

suffixes : (s : List ℕ) (ns : List ℕ) (r : List ℕ) → CutsSuffixes (FindsCharSuffix 32) s ns r → trim_end s ≡ trim_end r
suffixes s [] r h = ap trim_end (sym h)
suffixes s (n ∷ ns) r h =
    let k = length h.0 - n in
    suffixes s ns h.0 h.1 ∙ ap trim_end (ends h.0 k h.2.1) ∙ trim_end_push (take k h.0) ∙ ap trim_end (sym h.3)

no_prefix : (s : List ℕ) (o : Option ℕ) → FindsCharPrefix 32 s o → IfSome o (λ n. n ≡ 0) → (rest : List ℕ) → s ≢ 32 ∷ rest
no_prefix s None h z = λ rest e. h rest (e ∙ ap (λ (xs : List ℕ). xs ++ rest) (sym (encode_ascii 32 (lit< tt))))
no_prefix s (Some n) h z = λ rest e. absurd (omega (arith, z, h.ends))

no_suffix : (s : List ℕ) (o : Option ℕ) → FindsCharSuffix 32 s o → IfSome o (λ n. n ≡ 0) → (front : List ℕ) → s ≢ front ++ (32 ∷ [])
no_suffix s None h z = λ front e. h front (e ∙ ap (λ (xs : List ℕ). front ++ xs) (sym (encode_ascii 32 (lit< tt))))
no_suffix s (Some n) h z = λ front e. absurd (omega (arith, z, h.0))

pub trimmed_is : (s m r : List ℕ) → IsTrimStartMatches (FindsCharPrefix 32) s m → IsTrimEndMatches (FindsCharSuffix 32) m r → r ≡ trimmed s
unfolding trimmed
trimmed_is s m r h k =
    sym (ap trim_end (prefixes s h.0.0 m h.0.1 ∙ trim_start_same m (no_prefix m h.1.0 h.1.1 h.1.2))
    ∙ suffixes m k.0.0 r k.0.1 ∙ trim_end_same r (no_suffix r k.1.0 k.1.1 k.1.2))
