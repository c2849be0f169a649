-- View::has_values_within: whether each value has at least and at most so many bytes.
use Rattle.std.proofs.Common.{subst, sym, List, ◌↔◌, length, ℕ, IsTrue}
use Rattle.std.specs.List.{All}
use Rattle.sc_view.specs.declared.view.Stored.{Stored}
use Rattle.sc_view.specs.Values.{IsWithin, lengths}
use Rattle.sc_view.specs.Views.{HasValuesWithin}
use Rattle.sc_view.proofs.LengthLemmas.{chunks_within, within_by_chunks, told_by}
use Rattle.sc_view.proofs.view.View.has_values_within.Goals as goal

each : (c : goal.After-have_values_within) → IsTrue c.have_values_within.result ↔ HasValuesWithin (lengths c.args.least c.args.most) c.args.self.now
each c =
    let cs = c.self.inside.row.items in
    let l = lengths c.args.least c.args.most in
    let AllWithin : List (List (ℕ × Stored)) → Type 0 = λ rows. All (λ chunk. All (λ e. IsWithin (length e.1.value) l) chunk) rows in (
      λ yes. within_by_chunks l cs _ c.self.invariant.row.rises c.self.view_is (subst AllWithin c.as_slice.ensures.value (c.have_values_within.ensures.0 yes)),
      λ h. c.have_values_within.ensures.1 (subst AllWithin (sym c.as_slice.ensures.value) (chunks_within l cs _ c.self.invariant.row.rises c.self.view_is h)),
    )

pub returns : goal.returns
returns c = record { told = told_by (lengths c.args.least c.args.most) c.args.self.now _ (each c); each = each c }
