-- Parts of a journal: what stands there, what lacks, and what comes behind.
use Rattle.std.proofs.Common.{◌≡◌, ℕ, ◌≤◌, Bool, true, false, List, [], ◌++◌, length, take, drop, Option}
use Rattle.std.proofs.Common.{refl, sym, ap, ◌∙◌, append_assoc, append-nil, take-append-drop}
use Rattle.std.proofs.lemmas.List.{take_all, take-append-le}
use Rattle.std.proofs.lemmas.List.Concat.{flat_map-append}
use Rattle.std.proofs.KnownBytes.{Appends-trans}
use Rattle.std.specs.Prelude.{if◌then◌else◌}
use Rattle.std.specs.List.{flat_map}
use Rattle.std.specs.Io.KnownBytes.{Appends}
use Rattle.q_kept.specs.Recording.{AppendsPart}

-- ---- beginnings that are appended

pub part_all : {old new : Option (List ℕ)} {bytes : List ℕ} → Appends old new bytes → AppendsPart old new bytes
part_all {old} {new} {bytes} h = record { part = bytes; rest = []; parts = append-nil bytes; appended = h }

-- a beginning behind all of what came before
pub part_behind : {first old new : Option (List ℕ)} (before : List ℕ) {bytes : List ℕ} → Appends first old before → AppendsPart old new bytes
    → AppendsPart first new (before ++ bytes)
part_behind {first} {old} {new} before h p = record {
  part = before ++ p.part;
  rest = p.rest;
  parts = append_assoc before p.part p.rest ∙ ap (λ l. before ++ l) p.parts;
  appended = Appends-trans first old new before p.part h p.appended;
}

-- a beginning of bytes that have more behind them
pub part_more : {old new : Option (List ℕ)} {bytes : List ℕ} (more : List ℕ) → AppendsPart old new bytes → AppendsPart old new (bytes ++ more)
part_more more p = record {
  part = p.part;
  rest = p.rest ++ more;
  parts = sym (append_assoc p.part p.rest more) ∙ ap (λ l. l ++ more) p.parts;
  appended = p.appended;
}

-- ---- a head and entries

module _ {X : Type 0} (bytes_of : X → List ℕ) (head : List ℕ) where
  -- what is there and what lacks are the journal
  pub there_and_lacking : (begun : Bool) (n : ℕ) (es : List X) → (begun ≡ false → n ≡ 0)
      → (if begun then head ++ flat_map bytes_of (take n es) else []) ++ ((if begun then [] else head) ++ flat_map bytes_of (drop n es))
      ≡ head ++ flat_map bytes_of es
  there_and_lacking true n es h =
      append_assoc head (flat_map bytes_of (take n es)) (flat_map bytes_of (drop n es))
      ∙ ap (λ l. head ++ l) (sym (flat_map-append bytes_of (take n es) (drop n es)) ∙ ap (flat_map bytes_of) (take-append-drop n es))
  there_and_lacking false n es h = ap (λ k. head ++ flat_map bytes_of (drop k es)) (h refl)

  -- what is there stays, where entries come behind
  pub there_stays : (begun : Bool) (n : ℕ) (es more : List X) → n ≤ length es
      → (if begun then head ++ flat_map bytes_of (take n (es ++ more)) else []) ≡ (if begun then head ++ flat_map bytes_of (take n es) else [])
  there_stays true n es more h = ap (λ l. head ++ flat_map bytes_of l) (take-append-le n es more h)
  there_stays false n es more h = refl

  -- all is there
  pub there_whole : (begun : Bool) (n : ℕ) (es : List X) → begun ≡ true → length es ≤ n
      → (if begun then head ++ flat_map bytes_of (take n es) else []) ≡ head ++ flat_map bytes_of es
  there_whole true n es b h = ap (λ l. head ++ flat_map bytes_of l) (take_all n es h)
  there_whole false n es b h = absurd (cc)

  pub more_behind : (es more : List X) → head ++ flat_map bytes_of (es ++ more) ≡ (head ++ flat_map bytes_of es) ++ flat_map bytes_of more
  more_behind es more = ap (λ l. head ++ l) (flat_map-append bytes_of es more) ∙ sym (append_assoc head (flat_map bytes_of es) (flat_map bytes_of more))
