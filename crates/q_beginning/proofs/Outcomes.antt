-- Which outcomes are wrong: an event that is cut though it is whole, and bytes that are kept after a journal.
use Rattle.std.specs.Prelude.{List, [], ◌∷◌, ◌++◌, length, drop}
use Rattle.std.proofs.Common.{◌≡◌, ℕ, refl, sym, ap, ◌∙◌, subst, length-append, arith, lit<}
use lib.Seq.{drop-append_seam}
use Rattle.spelling.specs.Numbers.{number_bytes}
use Rattle.q_book.specs.State.{BookState}
use Rattle.q_replay.specs.Journal.{journal_of}
use Rattle.q_beginning.specs.Beginning.{IsBeginning, IsCut}
use Rattle.q_beginning.proofs.Testing.{whole}

none_told : 0 ∷ 0 ∷ 0 ∷ 0 ∷ [] ≡ number_bytes 4 0 ++ []
unfolding number_bytes
none_told = refl

-- an event whose body has no byte has all of it
not_cut : IsCut (9 ∷ 0 ∷ 0 ∷ 0 ∷ 0 ∷ []) → ⊥
not_cut = whole (9 ∷ 0 ∷ 0 ∷ 0 ∷ 0 ∷ []) (0 ∷ 0 ∷ 0 ∷ 0 ∷ []) [] 9 0 refl none_told (lit< tt) (λ short. omega (arith, short))

pub whole_event : (kept : List ℕ) (b : BookState) → IsBeginning (kept ++ 9 ∷ 0 ∷ 0 ∷ 0 ∷ 0 ∷ []) kept b → ⊥
whole_event kept b h =
    let event : List ℕ = 9 ∷ 0 ∷ 0 ∷ 0 ∷ 0 ∷ [] in
    let left : h.left ≡ event = sym (drop-append_seam kept h.left) ∙ ap (drop (length kept)) (sym h.parts) ∙ drop-append_seam kept event in
    not_cut (subst IsCut left h.cut)

pub longer : (b : BookState) → IsBeginning (journal_of b ++ 1 ∷ []) (journal_of b ++ 1 ∷ []) b → ⊥
longer b h = omega (arith, ap length h.journal, length-append (journal_of b) (1 ∷ []))
