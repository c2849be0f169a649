-- What a store leaves in the frame.
use Rattle.std.proofs.Common.{◌≡◌, ℕ, ◌+◌, ◌-◌, ◌≤◌, arith, refl, ap, subst, ◌∙◌, List, ◌++◌, length, Option, Some, take}
use Rattle.std.specs.Prelude.{Ok}
use Rattle.std.specs.Int.{w64, to_le_bytes}
use Rattle.std.proofs.lemmas.List.{drop-drop}
use Rattle.std.specs.List.{splice}
use borrow.Rule.Slice.PartMut.{put_mid}
use Rattle.bq_word.proofs.Bytes.{lowest_bytes}
use Rattle.bq_meaning.specs.Place.{Place}
use Rattle.bq_meaning.specs.Memory.{access, MachineState as Machine}
use Rattle.bq_meaning.specs.Meaning.{reading, stored}
use Rattle.bq_meaning.specs.Runs.{StepAnswers}
use Rattle.bq_meaning.specs.declared.machine.Location.{Location}
use Rattle.bq_meaning.specs.declared.machine.Location.TheVariants.{Frame}
use Rattle.bq_meaning.specs.declared.fault.Fault.TheVariants.{OutsideAccess}
use Rattle.bq_meaning.specs.declared.step.Step.TheVariants as steps

-- a part of a list that is written is the list with that part put in
part_is : (a k : ℕ) (xs ys : List ℕ) → put_mid a (a + k - a) xs ys ≡ splice xs a (a + k) ys
part_is a k xs ys = let e : a + k - a ≡ k = omega arith in rw e (ap (λ zs. take a xs ++ (ys ++ zs)) (drop-drop k a xs))

-- what is found to lie in the frame
pub lies_in_frame : (found wanted : Option Location) (l : Location) (at : ℕ) → found ≡ wanted → found ≡ Some l → l ≡ Frame at → wanted ≡ Some (Frame at)
lies_in_frame found wanted l at a b d = cc

-- a store changes the frame of the machine as it was
pub stores : (p : Place) (m old : Machine) (address size v at : ℕ) (bytes ys : List ℕ) → size ≤ 8 → old ≡ m
    → access p (length old.record) address size ≡ Some (Frame at) → bytes ≡ to_le_bytes w64 v → ys ≡ take size bytes
    → StepAnswers (reading OutsideAccess (access p (length m.record) address size) (λ l. stored m l size v)) m (Ok steps.Continues)
    (record { unit = old.unit + 1; registers = old.registers; frame = put_mid at (at + size - at) old.frame ys; «record» = old.record })
stores p m old address size v at bytes ys small same is written part =
    let put = part_is at size m.frame ys ∙ ap (splice m.frame at (at + size)) (part ∙ lowest_bytes size v bytes small written) in
    let found = subst (λ (x : Machine). access p (length x.record) address size ≡ Some (Frame at)) same is in
    rw (same, found) (refl, ap (λ zs. record { unit = m.unit + 1; registers = m.registers; frame = zs; «record» = m.record }) put)
