-- The table has all mnemonics, and each text is that of one mnemonic.
use Rattle.std.proofs.Common.{◌≡◌, ℕ, ◌<◌, Bool, true, false, cond, ◌&&◌, ltb, List, [], ◌∷◌, length, Option, Some, refl, ap, sym, ◌∙◌, inl, inr, ◌⊎◌, subst}
use Rattle.std.specs.Prelude.{find}
use Rattle.std.specs.Str.{bytes_eq}
use Rattle.std.specs.List.{list_all}
use Rattle.std.proofs.lemmas.Bool.{and_parts, ltb-true}
use Rattle.std.proofs.lemmas.Slice.Eq.{bytes_eq-Decides}
use Rattle.bq_word.specs.declared.Width.TheVariants.{W32, W64}
use Rattle.bq_word.specs.declared.AluOp.TheVariants as ops
use Rattle.bq_word.specs.declared.SignBits.TheVariants as signs
use Rattle.bq_word.specs.declared.SwapBits.TheVariants as swaps
use Rattle.bq_word.specs.declared.Relation.TheVariants as relations
use Rattle.bq_insn.specs.declared.insn.Extension.TheVariants as extensions
use Rattle.bq_insn.specs.declared.insn.ByteOrder.TheVariants as orders
use Rattle.bq_insn.specs.declared.insn.Size.TheVariants as sizes
use Rattle.bq_asm.specs.declared.mnemonic.TheConstants as consts
use Rattle.bq_asm.specs.declared.mnemonic.Mnemonic.{Mnemonic}
use Rattle.bq_asm.specs.declared.mnemonic.Mnemonic.TheVariants as mnemonics
use Rattle.bq_asm.specs.Mnemonic.{name, all_mnemonics, mnemonic_at}
use Rattle.bq_asm.proofs.Clean.{is_clean, Clean, clean_from}

whole : consts.MNEMONICS ≡ all_mnemonics
whole = refl

pub table_is : (text : List ℕ) → find (λ m. bytes_eq (name m) text) consts.MNEMONICS ≡ mnemonic_at text
unfolding mnemonic_at
table_is text = ap (find (λ m. bytes_eq (name m) text)) whole

-- what a text names has that text
chosen : (t : Bool) (m : Mnemonic) (r : Option Mnemonic) (n : Mnemonic) → cond t (Some m) r ≡ Some n → ((t ≡ true) × (m ≡ n)) ⊎ (r ≡ Some n)
chosen true m r n e = inl (refl, cc)
chosen false m r n e = inr e

found : (text : List ℕ) (q : Mnemonic → Bool) (ms : List Mnemonic) (n : Mnemonic) → list_all q ms ≡ true
    → find (λ m. bytes_eq (name m) text) ms ≡ Some n → (text ≡ name n) × (q n ≡ true)
found text q [] n h e = absurd cc
found text q (m ∷ ms) n h e =
    let k = and_parts _ _ h in
    elim (chosen (bytes_eq (name m) text) m (find (λ p. bytes_eq (name p) text) ms) n e) [
      | inl g ↦ (sym ((bytes_eq-Decides (name m) text).0 g.0) ∙ ap name g.1, subst (λ p. q p ≡ true) g.1 k.0)
      | inr g ↦ found text q ms n k.1 g
    ]

-- a name is a word
abbrev is_word : Mnemonic → Bool
is_word m = ltb 0 (length (name m)) && list_all is_clean (name m)

words : list_all is_word all_mnemonics ≡ true
words = refl

pub mnemonic_sound : (text : List ℕ) (m : Mnemonic) → mnemonic_at text ≡ Some m → text ≡ name m
unfolding mnemonic_at
mnemonic_sound text m e = (found text is_word all_mnemonics m words e).0

pub mnemonic_again : (m : Mnemonic) → mnemonic_at (name m) ≡ Some m
unfolding mnemonic_at
mnemonic_again (mnemonics.Alu W64 ops.Add) = refl
mnemonic_again (mnemonics.Alu W32 ops.Add) = refl
mnemonic_again (mnemonics.Negate W64) = refl
mnemonic_again (mnemonics.Extend extensions.W32From8) = refl
mnemonic_again (mnemonics.Order orders.Little swaps.B16) = refl
mnemonic_again (mnemonics.Order orders.Big swaps.B16) = refl
mnemonic_again (mnemonics.Order orders.Swapped swaps.B16) = refl
mnemonic_again (mnemonics.Branch W64 relations.Equal) = refl
mnemonic_again (mnemonics.Branch W32 relations.Equal) = refl
mnemonic_again (mnemonics.Load sizes.B1) = refl
mnemonic_again (mnemonics.LoadSigned signs.B8) = refl
mnemonic_again (mnemonics.Store sizes.B1) = refl
mnemonic_again m = refl

word_of : (m : Mnemonic) → mnemonic_at (name m) ≡ Some m → is_word m ≡ true
unfolding mnemonic_at
word_of m e = (found (name m) is_word all_mnemonics m words e).1

pub name_clean : (m : Mnemonic) → Clean (name m)
name_clean m = clean_from (name m) (and_parts _ _ (word_of m (mnemonic_again m))).1

pub name_some : (m : Mnemonic) → 0 < length (name m)
name_some m = ltb-true _ _ (and_parts _ _ (word_of m (mnemonic_again m))).0
