-- What instructions and branches keep of a state: what is kept where a register gets a kind that one of the state's
-- registers has, or one that is no length, and where the record's lengths are narrowed by a register that holds one.
use Rattle.std.proofs.Common.{◌≡◌, ℕ, ◌+◌, [], ◌∷◌, refl, subst, ◌⊎◌, inl, inr, Option, Some, None, Bool, true, false}
use Rattle.std.specs.Prelude.{ℤ, ◌*◌, Result, Ok, Err, ◌==◌, option_map}
use Rattle.std.specs.Option.{option_and_then}
use Rattle.std.specs.List.{All}
use Rattle.std.proofs.lemmas.List.Elements.{All-nil, All-cons, All-append}
use Rattle.std.proofs.lemmas.Bool.{cond_both}
use Rattle.bq_meaning.specs.Meaning.{target}
use Rattle.bq_word.specs.Word.{bits_of, swap_bits, low, modulo, signed_bytes}
use Rattle.bq_word.specs.declared.Width.{Width}
use Rattle.bq_word.specs.declared.Width.TheVariants.{W64}
use Rattle.bq_word.specs.declared.AluOp.{AluOp}
use Rattle.bq_word.specs.declared.AluOp.TheVariants as ops
use Rattle.bq_word.specs.declared.Relation.{Relation}
use Rattle.bq_insn.specs.declared.insn.Insn.{Insn}
use Rattle.bq_insn.specs.declared.insn.Insn.TheVariants as insns
use Rattle.bq_insn.specs.declared.insn.Operand.{Operand}
use Rattle.bq_insn.specs.declared.insn.Operand.TheVariants as operands
use Rattle.bq_range.specs.Interval.{Interval, single, meet, whole, all_words}
use Rattle.bq_range.specs.Table.{negated, sign_extended}
use Rattle.bq_insn.specs.Insn.{extension_bits, extension_width, size_bytes}
use Rattle.bq_range.specs.Narrow.{branched}
use Rattle.bq_state.specs.Offsets.{Span, moved_on, moved_back}
use Rattle.bq_state.specs.Kinds.{StateKinds, kind_of, as_number, read_kind, with_kind, with_lengths}
use Rattle.bq_state.specs.Rules.{and_then, known, writable, number, allowed, readable, storable, transfer}
use Rattle.bq_state.specs.Rules.{sum_kind, difference_kind, pointer_kind, operated_kind, is_copy, alu_kind, ordered_range}
use Rattle.bq_state.specs.Rules.{operand_kind, read_operand, taken_kind, mapped, loaded_state}
use Rattle.bq_state.specs.Edges.{narrowed, with_number, with_numbers, refined_by_number, refined_by_register, refined, along, edges}
use Rattle.bq_state.specs.Plain.{IsPlainKind}
use Rattle.bq_state.specs.declared.kind.Kind.{Kind}
use Rattle.bq_state.specs.declared.kind.Kind.TheVariants.{Unset, Number, Pointer, Length}
use Rattle.bq_state.specs.declared.region.Region.{Region}
use Rattle.bq_state.specs.declared.rule.Rule.{Rule}
use Rattle.bq_state.specs.declared.rule.Rule.TheVariants.{WrongKind, AnswerKind}

-- a kind that an instruction may leave in a register
abbrev pub Comes : StateKinds → Kind → Type 0
Comes s k = IsPlainKind k ⊎ ((r : ℕ) × (kind_of s r ≡ k))

-- ---- the kinds that operations make

pointer_plain : (r : Region) (o : Option Span) (k : Kind) → option_map (Pointer r) o ≡ Some k → IsPlainKind k
pointer_plain r None k e = absurd cc
pointer_plain r (Some t) k e = let is : Pointer r t ≡ k = cc in subst IsPlainKind is tt

sum_plain : (a b k : Kind) → sum_kind a b ≡ Some k → IsPlainKind k
sum_plain (Pointer r s) (Number x) k e = pointer_plain r (moved_on s x) k e
sum_plain (Number x) (Pointer r s) k e = pointer_plain r (moved_on s x) k e
sum_plain a b k e = absurd cc

difference_plain : (a b k : Kind) → difference_kind a b ≡ Some k → IsPlainKind k
difference_plain (Pointer r s) (Number x) k e = pointer_plain r (moved_back s x) k e
difference_plain a b k e = absurd cc

moved_plain : (w : Width) (op : AluOp) (a b k : Kind) → pointer_kind w op a b ≡ Some k → IsPlainKind k
moved_plain W64 ops.Add a b k e = sum_plain a b k e
moved_plain W64 ops.Sub a b k e = difference_plain a b k e
moved_plain w op a b k e = absurd cc

operated_plain : (w : Width) (op : AluOp) (a b k : Kind) → operated_kind w op a b ≡ Some k → IsPlainKind k
operated_plain w op (Number x) (Number y) k e = numbered k _ e
  where
    numbered : (k : Kind) (x : Interval) → Some (Number x) ≡ Some k → IsPlainKind k
    numbered k x e = let is : Number x ≡ k = cc in subst IsPlainKind is tt
operated_plain w op a b k e = moved_plain w op a b k e

same_kind : (s : StateKinds) (b k : Kind) → Comes s b → Some b ≡ Some k → Comes s k
same_kind s b k h e = let is : b ≡ k = cc in subst (Comes s) is h

alu_comes : (s : StateKinds) (l : Interval) (w : Width) (op : AluOp) (a b k : Kind) → Comes s b → alu_kind l w op a b ≡ Some k → Comes s k
alu_comes s l w op a b k h e =
    cond_both (is_copy w op) (Some b) (operated_kind w op a (as_number l b)) (λ o. o ≡ Some k → Comes s k)
    (λ _ f. same_kind s b k h f)
    (λ _ f. inl (operated_plain w op a (as_number l b) k f))
    e

operand_comes : (s : StateKinds) (x : Operand) → Comes s (operand_kind s x)
operand_comes s (operands.Register r) = inr (r, refl)
operand_comes s (operands.Number z) = inl tt

-- ---- results

module _ (P : StateKinds → Type 0)
    (puts : (s : StateKinds) (d : ℕ) (k : Kind) → P s → Comes s k → P (with_kind s d k))
    (narrows : (s : StateKinds) (r : ℕ) (l : Interval) → P s → kind_of s r ≡ Length → P (with_lengths s l)) where
  -- what is left, if something is
  record Leaves (r : Result StateKinds Rule) : Type 0 where
    when_ok : (t : StateKinds) → r ≡ Ok t → P t

  done : (s : StateKinds) → P s → Leaves (Ok s)
  done s e = record { when_ok = λ t h. let same : s ≡ t = cc in subst P same e }

  after : {A : Type 0} (r : Result A Rule) (go : A → Result StateKinds Rule) → ((a : A) → r ≡ Ok a → Leaves (go a)) → Leaves (and_then r go)
  after (Ok a) go h = h a refl
  after (Err rule) go h = record { when_ok = λ t e. absurd cc }

  number_put : (s : StateKinds) (d : ℕ) (a : Interval) → P s → Leaves (Ok (with_kind s d (Number a)))
  number_put s d a e = done (with_kind s d (Number a)) (puts s d (Number a) e (inl tt))

  mapped_leaves : (s : StateKinds) (d b : ℕ) (f : Interval → Interval) → P s → Leaves (mapped s d b f)
  mapped_leaves s d b f e = after (known (read_kind s b)) _ (λ k _. after (writable d) _ (λ _ _. after (number WrongKind k) _ (λ a _. number_put s d (f a) e)))

  loaded_leaves : (s : StateKinds) (d base : ℕ) (offset : ℤ) (size : ℕ) (range : Interval) → P s → Leaves (loaded_state s d base offset size range)
  loaded_leaves s d base offset size range e =
      after (known (read_kind s base)) _ (λ k _. after (writable d) _ (λ _ _. after (readable s.lengths k offset size) _ (λ _ _. number_put s d range e)))

  known_same : (k j : Kind) → known k ≡ Ok j → k ≡ j
  known_same Unset j e = absurd cc
  known_same k j e = cc

  allowed_same : (o : Option Kind) (k : Kind) → allowed o ≡ Ok k → o ≡ Some k
  allowed_same None k e = absurd cc
  allowed_same (Some j) k e = cc

  transfer_leaves : (i : Insn) (s : StateKinds) → P s → Leaves (transfer i s)
  transfer_leaves (insns.Alu w op d x) s e =
      after (known (taken_kind s op d)) _ (λ a _.
      after (known (operand_kind s x)) _ (λ b is.
      after (writable d) _ (λ _ _.
      after (allowed (alu_kind s.lengths w op a b)) _ (λ k made.
      let comes = subst (Comes s) (known_same (operand_kind s x) b is) (operand_comes s x) in
      done (with_kind s d k) (puts s d k e (alu_comes s s.lengths w op a b k comes (allowed_same (alu_kind s.lengths w op a b) k made)))))))
  transfer_leaves (insns.Negate w d) s e = mapped_leaves s d d (negated (bits_of w)) e
  transfer_leaves (insns.Extend x d b) s e = mapped_leaves s d b (sign_extended (extension_bits x) (bits_of (extension_width x))) e
  transfer_leaves (insns.Order o bits d) s e = mapped_leaves s d d (ordered_range o (swap_bits bits)) e
  transfer_leaves (insns.Jump offset) s e = done s e
  transfer_leaves (insns.JumpFar distance) s e = done s e
  transfer_leaves (insns.Branch w r d x offset) s e =
      after (known (read_kind s d)) _ (λ a _. after (known (read_operand s x)) _ (λ b _.
      after (number WrongKind a) _ (λ _ _. after (number WrongKind b) _ (λ _ _. done s e))))
  transfer_leaves insns.Exit s e = after (known (read_kind s 0)) _ (λ k _. after (number AnswerKind k) _ (λ _ _. done s e))
  transfer_leaves (insns.Load size d base offset) s e = loaded_leaves s d base offset (size_bytes size) (whole (8 * size_bytes size)) e
  transfer_leaves (insns.LoadSigned bits d base offset) s e = loaded_leaves s d base offset (signed_bytes bits) all_words e
  transfer_leaves (insns.Store size base offset x) s e =
      after (known (read_kind s base)) _ (λ k _. after (known (read_operand s x)) _ (λ v _. after (storable k v offset (size_bytes size)) _ (λ _ _. done s e)))
  transfer_leaves (insns.Wide d v) s e = after (writable d) _ (λ _ _. number_put s d (single v) e)

  pub transfer_keeps : (i : Insn) (a b : StateKinds) → P a → transfer i a ≡ Ok b → P b
  transfer_keeps i a b e h = (transfer_leaves i a e).when_ok b h

  -- ---- branches

  same_keeps : (a b : StateKinds) → P a → Some a ≡ Some b → P b
  same_keeps a b e h = let same : a ≡ b = cc in subst P same e

  lengths_keep : (a b : StateKinds) (d : ℕ) (o : Option Interval) → P a → kind_of a d ≡ Length → option_map (with_lengths a) o ≡ Some b → P b
  lengths_keep a b d None e is h = absurd cc
  lengths_keep a b d (Some l) e is h = same_keeps (with_lengths a l) b (narrows a d l e is) h

  narrowed_keeps : (a b : StateKinds) (d : ℕ) (x : Interval) (k : Kind) → P a → kind_of a d ≡ k → narrowed a d x k ≡ Some b → P b
  narrowed_keeps a b d x Length e is h = lengths_keep a b d (meet a.lengths x) e is h
  narrowed_keeps a b d x k e is h = same_keeps (with_kind a d (Number x)) b (puts a d (Number x) e (inl tt)) h

  number_keeps : (a b : StateKinds) (d : ℕ) (o : Option (Interval × Interval)) → P a → with_number a d o ≡ Some b → P b
  number_keeps a b d None e h = absurd cc
  number_keeps a b d (Some p) e h = narrowed_keeps a b d p.0 (kind_of a d) e refl h

  both_keep : (b : StateKinds) (s : ℕ) (x : Interval) (o : Option StateKinds) → ((t : StateKinds) → o ≡ Some t → P t)
      → option_and_then (λ (t : StateKinds). narrowed t s x (kind_of t s)) o ≡ Some b → P b
  both_keep b s x None first h = absurd cc
  both_keep b s x (Some t) first h = narrowed_keeps t b s x (kind_of t s) (first t refl) refl h

  numbers_keep : (a b : StateKinds) (d s : ℕ) (o : Option (Interval × Interval)) → P a → with_numbers a d s o ≡ Some b → P b
  numbers_keep a b d s None e h = absurd cc
  numbers_keep a b d s (Some p) e h = both_keep b s p.1 (narrowed a d p.0 (kind_of a d)) (λ t i. narrowed_keeps a t d p.0 (kind_of a d) e refl i) h

  by_number_keeps : (a b : StateKinds) (w : Width) (r : Relation) (taken : Bool) (d n : ℕ) (k : Kind) → P a → refined_by_number a w r taken d n k ≡ Some b → P b
  by_number_keeps a b w r taken d n (Number x) e h = number_keeps a b d (branched (bits_of w) r taken x (single (low (bits_of w) n))) e h
  by_number_keeps a b w r taken d n k e h = same_keeps a b e h

  by_register_keeps : (a b : StateKinds) (w : Width) (r : Relation) (taken : Bool) (d s : ℕ) (k l : Kind) → P a
      → refined_by_register a w r taken d s k l ≡ Some b → P b
  by_register_keeps a b w r taken d s (Number x) (Number y) e h = numbers_keep a b d s (branched (bits_of w) r taken x y) e h
  by_register_keeps a b w r taken d s k l e h = same_keeps a b e h

  pub refined_keeps : (a b : StateKinds) (w : Width) (r : Relation) (taken : Bool) (d : ℕ) (x : Operand) → P a → refined a w r taken d x ≡ Some b → P b
  refined_keeps a b w r taken d (operands.Number z) e h = by_number_keeps a b w r taken d (modulo 64 z) (read_kind a d) e h
  refined_keeps a b w r taken d (operands.Register s) e h =
      cond_both (d == s) (Some a) (refined_by_register a w r taken d s (read_kind a d) (read_kind a s)) (λ o. o ≡ Some b → P b)
      (λ _ i. same_keeps a b e i)
      (λ _ i. by_register_keeps a b w r taken d s (read_kind a d) (read_kind a s) e i)
      h

  -- ---- edges

  abbrev Kept : (ℕ × StateKinds) → Type 0
  Kept e = P e.1

  one_keeps : (e : ℕ × StateKinds) → Kept e → All Kept (e ∷ [])
  one_keeps e h = All-cons Kept e [] h (All-nil Kept)

  along_keeps : (unit : ℕ) (o : Option StateKinds) → ((b : StateKinds) → o ≡ Some b → P b) → All Kept (along unit o)
  along_keeps unit None h = All-nil Kept
  along_keeps unit (Some s) h = one_keeps (unit, s) (h s refl)

  pub edges_keep : (unit : ℕ) (i : Insn) (a : StateKinds) → P a → All (λ e. P e.1) (edges unit i a)
  edges_keep unit (insns.Jump offset) a e = one_keeps (target unit offset, a) e
  edges_keep unit (insns.JumpFar distance) a e = one_keeps (target unit distance, a) e
  edges_keep unit (insns.Branch w r d x offset) a e =
      All-append Kept (along (unit + 1) (refined a w r false d x)) (along (target unit offset) (refined a w r true d x))
      (along_keeps (unit + 1) (refined a w r false d x) (λ b h. refined_keeps a b w r false d x e h))
      (along_keeps (target unit offset) (refined a w r true d x) (λ b h. refined_keeps a b w r true d x e h))
  edges_keep unit insns.Exit a e = All-nil Kept
  edges_keep unit (insns.Wide d v) a e = one_keeps (unit + 2, a) e
  edges_keep unit i a e = one_keeps (unit + 1, a) e
