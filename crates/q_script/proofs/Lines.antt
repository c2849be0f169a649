-- The lines of a script, read one after another.
use Rattle.std.proofs.Common.{◌≡◌, ℕ, suc, ◌+◌, ◌<◌, false, cond, take, drop, get_or, ap, sym, ◌∙◌, subst, inl, inr, arith}
use Rattle.std.specs.Prelude.{Result, Ok, Err, IfErr, List, [], ◌∷◌, ◌++◌, length}
use Rattle.std.specs.Result.{is_ok, is_err, IsErrAnd}
use Rattle.std.specs.List.{AllZip}
use Rattle.std.proofs.lemmas.Slice.Zip.{all_zipped_more}
pub use Rattle.spelling.proofs.Lists.{pieces_at}
pub use Rattle.spelling.proofs.Lines.{road_of, turn_of}
use Rattle.spelling.proofs.Lists.{pushed}
use Rattle.q_script.specs.Words.{Lacks}
use Rattle.q_script.specs.Lines.{without_last_feed, parts_of, lines_of, IsFirst}
use Rattle.q_script.specs.Script.{IsNone}
use Rattle.q_script.proofs.Parts.{IsCut, one_part, first_part}

-- ---- parts between line feeds

pub one_line : (text : List ℕ) {body : List ℕ} → body ≡ without_last_feed text → Lacks 10 body → lines_of text ≡ body ∷ []
one_line text {body = body} e l = ap parts_of (sym e) ∙ one_part 10 body l

pub more_lines : (text : List ℕ) {body : List ℕ} (a b : List ℕ) → body ≡ without_last_feed text → IsCut 10 body a b → lines_of text ≡ a ∷ parts_of b
more_lines text a b e l = ap parts_of (sym e ∙ l.1) ∙ first_part 10 a b l.0

-- what is passed on is what is wrong
pub passed_on : {X E : Type 0} (P : E → Type 0) (r : Result X E) (fault : E) → IsErrAnd r (λ d. d ≡ fault) → P fault → IfErr r P
passed_on P (Ok x) fault h p = tt
passed_on P (Err d) fault h p = subst P (sym h) p

-- ---- the loop over lines

first_from : {L : Type 0} (spells : List ℕ → L → Type 0) (b : ℕ) (done : List (List ℕ)) (v : List L) (t : List ℕ) (rest : List (List ℕ))
    → AllZip spells done v → IsNone spells b t → IsFirst (IsNone spells) b (done ++ t ∷ rest) (b + length v + 1)
first_from spells b [] [] t rest h n = inl (n, omega arith)
first_from spells b [] (y ∷ v) t rest h n = absurd h
first_from spells b (x ∷ done) [] t rest h n = absurd h
first_from spells b (x ∷ done) (y ∷ v) t rest h n =
    inr (λ f. f y h.0, subst (IsFirst (IsNone spells) (suc b) (done ++ t ∷ rest)) (omega arith) (first_from spells (suc b) done v t rest h.1 n))

-- the least line that is of another form
pub first_other : {L : Type 0} (spells : List ℕ → L → Type 0) (b : ℕ) (texts done : List (List ℕ)) (items : List L) (t : List ℕ) (i k : ℕ)
    → done ≡ take i texts → i < length texts → t ≡ get_or texts i t → AllZip spells done items → IsNone spells b t
    → k ≡ length items → IsFirst (IsNone spells) b texts (b + k + 1)
first_other spells b texts done items t i k f l e h n d =
    let here = first_from spells b done items t (drop (i + 1) texts) h n in
    subst (λ u. IsFirst (IsNone spells) b u (b + k + 1)) (sym (pieces_at texts done i t f l e))
    (subst (IsFirst (IsNone spells) b (done ++ t ∷ drop (i + 1) texts)) (omega (arith, d)) here)

pub all_read : {L : Type 0} (spells : List ℕ → L → Type 0) (texts done : List (List ℕ)) (items : List L) → done ≡ texts → AllZip spells done items
    → AllZip spells texts items
all_read spells texts done items e h = subst (λ u. AllZip spells u items) e h

pub read_more : {E L : Type 0} (spells : List ℕ → L → Type 0) (done : List (List ℕ)) (t : List ℕ) (items new : List L) (x : L) (r : Result (Unit {0}) E)
    → AllZip spells done items → spells t x → new ≡ cond (is_ok r) (items ++ x ∷ []) items → is_err r ≡ false → AllZip spells (done ++ t ∷ []) new
read_more spells done t items new x r h s p f = rw (pushed items new x r p f) (all_zipped_more spells done items t x h s)
