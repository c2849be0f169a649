-- Over records in turn a safe text has one outcome, the same at every placement.
use Rattle.std.proofs.Common.{ℕ, suc, ◌+◌, ◌*◌, ◌^◌, ◌<◌, ◌≤◌, refl, arith, List, [], ◌∷◌, length}
use Rattle.std.specs.Prelude.{All}
use Rattle.std.proofs.lemmas.List.{length-replicate}
use Rattle.std.proofs.lemmas.List.Elements.{All-head, All-tail, All-replicate}
use Rattle.std.proofs.Math.Nat.{mul-suc}
use Rattle.bq_insn.specs.declared.insn.Insn.{Insn}
use Rattle.bq_meaning.specs.Place.{Place, IsPlacement}
use Rattle.bq_meaning.specs.Answers.{FoldsTo, zero_frame}
use Rattle.bq_sound.specs.Safe.{AreBytes, IsSafe, HasAnswer}

-- the record runs of the records in turn, from an accumulator and a frame
pub record FoldsAlike (text : List Insn) (longest : ℕ) (records : List (List ℕ)) (acc : ℕ) (frame : List ℕ) : Type 0 where
  pub answer : ℕ
  pub steps : ℕ
  pub after : List ℕ
  pub within : steps ≤ longest * length records
  pub word : answer < 2 ^ 64
  pub whole : AreBytes 512 after
  pub fold : (p : Place) → IsPlacement p → FoldsTo p text records acc frame answer steps after

more_steps : (longest n count rest : ℕ) → n ≤ longest → rest ≤ longest * count → n + rest ≤ longest * suc count
more_steps longest n count rest h i = omega (arith, h, i, mul-suc longest count)

-- a text that is safe
module _ (len : ℕ) (text : List Insn) (longest : ℕ) (safe : IsSafe len text longest) where
  folds_alike : (records : List (List ℕ)) (acc : ℕ) (frame : List ℕ) → All (AreBytes len) records → acc < 2 ^ 64 → AreBytes 512 frame
      → FoldsAlike text longest records acc frame
  folds_alike [] acc frame b small f = record {
    answer = acc;
    steps = 0;
    after = frame;
    within = omega arith;
    word = small;
    whole = f;
    fold = λ p place. (refl, refl, refl);
  }
  folds_alike (bytes ∷ others) acc frame b small f =
      let one = safe.runs acc bytes frame small (All-head (AreBytes len) bytes others b) f in
      let rest = folds_alike others one.answer one.after (All-tail (AreBytes len) bytes others b) one.word one.whole in
      record {
        answer = rest.answer;
        steps = one.steps + rest.steps;
        after = rest.after;
        within = more_steps longest one.steps (length others) rest.steps one.within rest.within;
        word = rest.word;
        whole = rest.whole;
        fold = λ p place. (one.steps, one.answer, one.after, rest.steps, one.run p place, rest.fold p place, refl);
      }

zero_frame_whole : AreBytes 512 zero_frame
zero_frame_whole = record { count = length-replicate {A = ℕ} 512 0; each = All-replicate (λ b. b < 256) 512 0 (omega arith) }

pub has_answer : (len : ℕ) (text : List Insn) (longest : ℕ) (records : List (List ℕ)) (start : ℕ) → IsSafe len text longest
    → All (AreBytes len) records → start < 2 ^ 64 → HasAnswer text longest records start
has_answer len text longest records start safe b small =
    let f = folds_alike len text longest safe records start zero_frame b small zero_frame_whole in
    record { answer = f.answer; steps = f.steps; is = λ p place. (f.after, f.fold p place); within = f.within; word = f.word }
