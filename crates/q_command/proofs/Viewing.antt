-- The stores of a view, one after the other.
use Rattle.std.proofs.Common.{◌≡◌, ℕ, List, [], ◌∷◌, ◌++◌, map, sym, ap, ◌∙◌, append_assoc, flat_map, Bor}
use Rattle.std.proofs.lemmas.List.{map-append}
use Rattle.spelling.proofs.Codes.{flat_map_push}
use Rattle.sc_view.specs.declared.view.Stored.{Stored}
use Rattle.q_command.specs.GatheredLines.{store_text}
use Rattle.q_session.proofs.Records.{shown}

-- the stores so far, and one more
pub more_stores : {before after : List ℕ} (yielded : List (ℕ × Bor Stored)) (e : ℕ × Bor Stored) (text : List ℕ)
    → before ≡ text ++ flat_map store_text (map shown yielded) → after ≡ before ++ store_text (shown e)
    → after ≡ text ++ flat_map store_text (map shown (yielded ++ e ∷ []))
more_stores yielded e text so_far grown =
    grown ∙ ap (λ (t : List ℕ). t ++ store_text (shown e)) so_far ∙ append_assoc text (flat_map store_text (map shown yielded)) (store_text (shown e))
    ∙ ap (λ (t : List ℕ). text ++ t)
    (sym (ap (flat_map store_text) (map-append shown yielded (e ∷ [])) ∙ flat_map_push store_text (map shown yielded) (shown e)))
