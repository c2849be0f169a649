-- What is read from a line is spelled by it.
use Rattle.std.proofs.Common.{◌≡◌, ℕ, ◌-◌, ◌^◌, ◌<◌, Bool, true, false, cond, eqb, ltb, ◌&&◌, List, [], ◌∷◌, ◌++◌, length, refl, ap, sym, ◌∙◌, subst, arith}
use Rattle.std.specs.Prelude.{ℤ, pos, negsuc, FitsSigned, Option, Some, None, IsTrue, suc}
use Rattle.std.specs.List.{list_all}
use Rattle.std.specs.Int.{w16, w32}
use Rattle.std.specs.Fmt.{decimal, signed_decimal}
use Rattle.std.proofs.lemmas.Bool.{eqb-true, and_parts, ltb-true}
use Rattle.std.proofs.lemmas.Option.{cond_some}
use Rattle.std.proofs.lemmas.List.{append_assoc, append-nil, nil_from_length}
use Rattle.bq_insn.specs.declared.insn.Operand.TheVariants as operands
use Rattle.bq_insn.specs.declared.insn.Operand.{Operand}
use Rattle.bq_insn.specs.declared.insn.Insn.{Insn}
use Rattle.bq_insn.specs.declared.insn.Insn.TheVariants as insns
use Rattle.bq_insn.specs.Insn.{IsOperand}
use Rattle.bq_asm.specs.declared.mnemonic.Mnemonic.{Mnemonic}
use Rattle.bq_asm.specs.declared.mnemonic.Mnemonic.TheVariants as mnemonics
use Rattle.bq_asm.specs.declared.jump.Jump.{Jump}
use Rattle.bq_asm.specs.declared.jump.Jump.TheVariants as jumps
use Rattle.bq_asm.specs.Statement.{Statement, Complete}
use Rattle.bq_asm.specs.Line.{IsName, IsJump, IsStatement, is_letter, is_name_byte, AreListed, AreSpaces, IsComma, statement_operands, statement_mnemonic}
use Rattle.bq_asm.specs.Operands.{register, operand, distance, memory, jump_insn, jump_mnemonic, jump_operands}
use Rattle.bq_asm.specs.Reading.{◌>>=◌, cut, strip, trimmed, pair_at, positive_at, negative_of, negative_at, signed_else, signed_at, fits, fitting}
use Rattle.bq_asm.specs.Reading.{distance_else, distance_at, register_of, register_at, operand_else, operand_at, place_of, place_else, place_at}
use Rattle.bq_asm.specs.Reading.{memory_at, is_name, jump_bits, jump_by, target_else, target_at, statement_at, positive_of}
use Rattle.spelling.specs.Natural.{natural_at}
use Rattle.spelling.proofs.Decimal.{natural_sound}
use Rattle.spelling.proofs.Lists.{all_passed}
use Rattle.bq_asm.proofs.Spaces.{spaces_append, trimmed_of, map_some, cut-some}

pub bind_some : {A B : Type 0} (o : Option A) (f : A → Option B) (y : B) → (o >>= f) ≡ Some y → (x : A) × (o ≡ Some x) × (f x ≡ Some y)
bind_some None f y e = absurd cc
bind_some (Some x) f y e = (x, refl, e)

pub guard_some : {A : Type 0} (b : Bool) (o : Option A) (y : A) → cond b o None ≡ Some y → (b ≡ true) × (o ≡ Some y)
guard_some true o y e = (refl, e)
guard_some false o y e = absurd cc

strip_sound : (c : ℕ) (s rest : List ℕ) → strip c s ≡ Some rest → s ≡ c ∷ rest
strip_sound c [] rest e = absurd cc
strip_sound c (d ∷ s) rest e = let h = cond_some _ _ _ e in ap (λ (x : ℕ). x ∷ s) (eqb-true d c h.0) ∙ ap (λ (xs : List ℕ). c ∷ xs) h.1

-- ---- numbers

positive_sound : (text : List ℕ) (z : ℤ) → positive_at text ≡ Some z → (n : ℕ) × (z ≡ pos n) × (text ≡ decimal n)
unfolding positive_at
positive_sound text z e =
    let b = bind_some (natural_at text) positive_of z e in
    let h = cond_some _ _ _ b.2 in
    (b.0, sym h.1, (natural_sound text b.0 b.1).0)

negative_by : (n : ℕ) (z : ℤ) (text : List ℕ) → text ≡ decimal n → negative_of n ≡ Some z → (k : ℕ) × (z ≡ negsuc k) × (text ≡ decimal (suc k))
negative_by n z text t e =
    let h = cond_some _ _ _ e in
    let p = and_parts _ _ h.0 in
    let l : 0 < n = ltb-true 0 n p.0 in
    let s : n ≡ suc (n - 1) = omega arith in
    (n - 1, sym h.1, t ∙ ap decimal s)

negative_sound : (text : List ℕ) (z : ℤ) → negative_at text ≡ Some z → (n : ℕ) × (z ≡ negsuc n) × (text ≡ decimal (suc n))
unfolding negative_at
negative_sound text z e = let b = bind_some (natural_at text) negative_of z e in negative_by b.0 z text (natural_sound text b.0 b.1).0 b.2

-- a minus, and a number behind it
minus_sound : (text : List ℕ) (z : ℤ) → (strip 45 text >>= negative_at) ≡ Some z → (n : ℕ) × (z ≡ negsuc n) × (text ≡ 45 ∷ decimal (suc n))
minus_sound text z e =
    let b = bind_some (strip 45 text) negative_at z e in
    let p = negative_sound b.0 z b.2 in
    (p.0, p.1, strip_sound 45 text b.0 b.1 ∙ ap (λ (xs : List ℕ). 45 ∷ xs) p.2)

signed_by : (text : List ℕ) (z : ℤ) (o : Option (List ℕ)) → strip 45 text ≡ o → signed_else text o ≡ Some z → text ≡ signed_decimal z
signed_by text z None s e = let p = positive_sound text z e in p.2 ∙ ap signed_decimal (sym p.1)
signed_by text z (Some ds) s e = let p = minus_sound text z (ap (λ o. o >>= negative_at) s ∙ e) in p.2 ∙ ap signed_decimal (sym p.1)

signed_sound : (text : List ℕ) (z : ℤ) → signed_at text ≡ Some z → text ≡ signed_decimal z
unfolding signed_at
signed_sound text z e = signed_by text z (strip 45 text) refl e

distance_by : (text : List ℕ) (z : ℤ) (o : Option (List ℕ)) → strip 43 text ≡ o → distance_else text o ≡ Some z → text ≡ distance z
distance_by text z None s e = let p = minus_sound text z e in p.2 ∙ ap distance (sym p.1)
distance_by text z (Some ds) s e =
    let p = positive_sound ds z e in
    strip_sound 43 text ds s ∙ ap (λ (xs : List ℕ). 43 ∷ xs) p.2 ∙ ap distance (sym p.1)

distance_sound : (text : List ℕ) (z : ℤ) → distance_at text ≡ Some z → text ≡ distance z
unfolding distance_at
distance_sound text z e = distance_by text z (strip 43 text) refl e

fits_32 : (z : ℤ) → fits 32 z ≡ true → FitsSigned w32 z
fits_32 (pos n) e = let l : n < 2 ^ 31 = ltb-true n (2 ^ 31) e in omega arith
fits_32 (negsuc n) e = let l : n < 2 ^ 31 = ltb-true n (2 ^ 31) e in omega arith

fits_16 : (z : ℤ) → fits 16 z ≡ true → FitsSigned w16 z
fits_16 (pos n) e = let l : n < 2 ^ 15 = ltb-true n (2 ^ 15) e in omega arith
fits_16 (negsuc n) e = let l : n < 2 ^ 15 = ltb-true n (2 ^ 15) e in omega arith

-- ---- operands

register_sound : (text : List ℕ) (r : ℕ) → register_at text ≡ Some r → (text ≡ register r) × (r < 11)
unfolding register_at
register_sound text r e =
    let b = bind_some (strip 114 text) (λ ds. natural_at ds >>= register_of) r e in
    let n = bind_some (natural_at b.0) register_of r b.2 in
    let h = cond_some _ _ _ n.2 in
    let l : n.0 < 11 = ltb-true n.0 11 h.0 in
    (strip_sound 114 text b.0 b.1 ∙ ap (λ (xs : List ℕ). 114 ∷ xs) ((natural_sound b.0 n.0 n.1).0 ∙ ap decimal h.1), omega (arith, h.1))

operand_by : (text : List ℕ) (x : Operand) (o : Option ℕ) → register_at text ≡ o → operand_else text o ≡ Some x → (text ≡ operand x) × IsOperand x
operand_by text x (Some r) s e =
    let g : operands.Register r ≡ x = cc in
    let h = register_sound text r s in
    (h.0 ∙ ap operand g, subst IsOperand g h.1)
operand_by text x None s e =
    let b = bind_some (signed_at text) (λ z. fitting 32 z >>= λ n. Some (operands.Number n)) x e in
    let f = bind_some (fitting 32 b.0) (λ n. Some (operands.Number n)) x b.2 in
    let h = cond_some _ _ _ f.1 in
    let g : operands.Number b.0 ≡ x = ap operands.Number h.1 ∙ cc in
    (signed_sound text b.0 b.1 ∙ ap operand g, subst IsOperand g (fits_32 b.0 h.0))

operand_sound : (text : List ℕ) (x : Operand) → operand_at text ≡ Some x → (text ≡ operand x) × IsOperand x
unfolding operand_at
operand_sound text x e = operand_by text x (register_at text) refl e

pub record IsPlace (text : List ℕ) (p : ℕ × ℤ) : Type 0 where
  pub base : p.0 < 11
  pub offset : FitsSigned w16 p.1
  pub parts : text ≡ register p.0 ++ distance p.1

place_of_sound : (base digits : List ℕ) (z : Option ℤ) (sign : ℕ) (p : ℕ × ℤ) → ((o : ℤ) → z ≡ Some o → sign ∷ digits ≡ distance o)
    → place_of base z ≡ Some p → IsPlace (base ++ (sign ∷ digits)) p
place_of_sound base digits z sign p f e =
    let b = bind_some (register_at base) (λ r. z >>= λ o. fitting 16 o >>= λ d. Some (r, d)) p e in
    let o = bind_some z (λ o. fitting 16 o >>= λ d. Some (b.0, d)) p b.2 in
    let d = bind_some (fitting 16 o.0) (λ d. Some (b.0, d)) p o.2 in
    let h = cond_some _ _ _ d.1 in
    let r = register_sound base b.0 b.1 in
    let g : ◌≡◌ {A = ℕ × ℤ} (b.0, o.0) p = ap (λ (y : ℤ). (b.0, y)) h.1 ∙ cc in
    subst (IsPlace (base ++ (sign ∷ digits))) g (record {
      base = r.1;
      offset = fits_16 o.0 h.0;
      parts = ap (λ (xs : List ℕ). xs ++ (sign ∷ digits)) r.0 ∙ ap (λ (xs : List ℕ). register b.0 ++ xs) (f o.0 o.1);
    })

place_by : (text : List ℕ) (p : ℕ × ℤ) (o : Option (List ℕ × List ℕ)) → cut 43 text ≡ o → place_else text o ≡ Some p → IsPlace text p
place_by text p (Some q) s e =
    subst (λ t. IsPlace t p) (sym (cut-some 43 text q s))
    (place_of_sound q.0 q.1 (positive_at q.1) 43 p
    (λ o h. let k = positive_sound q.1 o h in ap (λ (xs : List ℕ). 43 ∷ xs) k.2 ∙ ap distance (sym k.1)) e)
place_by text p None s e =
    let b = bind_some (cut 45 text) (λ q. place_of q.0 (negative_at q.1)) p e in
    subst (λ t. IsPlace t p) (sym (cut-some 45 text b.0 b.1))
    (place_of_sound b.0.0 b.0.1 (negative_at b.0.1) 45 p
    (λ o h. let k = negative_sound b.0.1 o h in ap (λ (xs : List ℕ). 45 ∷ xs) k.2 ∙ ap distance (sym k.1)) b.2)

place_sound : (text : List ℕ) (p : ℕ × ℤ) → place_at text ≡ Some p → IsPlace text p
unfolding place_at
place_sound text p e = place_by text p (cut 43 text) refl e

abbrev write_memory : ℕ × ℤ → List ℕ
write_memory p = memory p.0 p.1

abbrev IsPlaceInMemory : ℕ × ℤ → Type 0
IsPlaceInMemory p = (p.0 < 11) × FitsSigned w16 p.1

memory_sound : (text : List ℕ) (p : ℕ × ℤ) → memory_at text ≡ Some p → (text ≡ write_memory p) × IsPlaceInMemory p
unfolding memory_at
memory_sound text p e =
    let b = bind_some (strip 91 text) (λ inner. cut 93 inner >>= λ q. cond (eqb (length q.1) 0) (place_at q.0) None) p e in
    let q = bind_some (cut 93 b.0) (λ q. cond (eqb (length q.1) 0) (place_at q.0) None) p b.2 in
    let h = guard_some (eqb (length q.0.1) 0) (place_at q.0.0) p q.2 in
    let k = place_sound q.0.0 p h.1 in
    let nothing = ap (λ (xs : List ℕ). q.0.0 ++ (93 ∷ xs)) (nil_from_length q.0.1 (eqb-true _ 0 h.0)) in
    let inner = cut-some 93 b.0 q.0 q.1 ∙ nothing ∙ ap (λ (xs : List ℕ). xs ++ (93 ∷ [])) k.parts in
    (strip_sound 91 text b.0 b.1 ∙ ap (λ (xs : List ℕ). 91 ∷ xs) inner, (k.base, k.offset))

-- ---- names and jumps

pub name_sound : (s : List ℕ) → is_name s ≡ true → IsName s
name_sound [] h = absurd cc
name_sound (c ∷ s) h =
    let p = and_parts (is_letter c && list_all is_name_byte s) (ltb (length s) 32) h in
    let q = and_parts (is_letter c) (list_all is_name_byte s) p.0 in
    (q.0, all_passed (λ d. IsTrue (is_name_byte d)) is_name_byte (λ d is. is) s q.1, ltb-true (length s) 32 p.1)

-- a statement that jumps to this target
pub record Jumps (j : Jump) (target : List ℕ) (s : Statement) : Type 0 where
  pub mnemonic : statement_mnemonic s ≡ jump_mnemonic j
  pub operands : statement_operands s ≡ jump_operands j target
  pub legal : IsStatement s

jump_is : (j : Jump) (z : ℤ) → IsJump j → fits (jump_bits j) z ≡ true → Jumps j (distance z) (Complete (jump_insn j z))
jump_is jumps.Always z h f = record { mnemonic = refl; operands = refl; legal = fits_16 z f }
jump_is jumps.Far z h f = record { mnemonic = refl; operands = refl; legal = fits_32 z f }
jump_is (jumps.Branch w r d x) z h f = record { mnemonic = refl; operands = refl; legal = (h.0, h.1, fits_16 z f) }

target_by : (j : Jump) (text : List ℕ) (s : Statement) (o : Option ℤ) → IsJump j → distance_at text ≡ o → target_else j text o ≡ Some s → Jumps j text s
target_by j text s (Some z) h d e =
    let m = map_some (jump_by j z) Complete s e in
    let f = cond_some _ _ _ m.1 in
    let g : Complete (jump_insn j z) ≡ s = ap Complete f.1 ∙ m.2 in
    subst (λ t. Jumps j t s) (sym (distance_sound text z d)) (subst (Jumps j (distance z)) g (jump_is j z h f.0))
target_by j text s None h d e =
    let f = cond_some _ _ _ e in
    subst (Jumps j text) f.1 (record { mnemonic = refl; operands = refl; legal = (h, name_sound text f.0) })

target_sound : (j : Jump) (text : List ℕ) (s : Statement) → IsJump j → target_at j text ≡ Some s → Jumps j text s
unfolding target_at
target_sound j text s h e = target_by j text s (distance_at text) h refl e

-- ---- operands with spaces about them

pub record Spread (xs : List (List ℕ)) (text : List ℕ) : Type 0 where
  pub before : List ℕ
  pub list : List ℕ
  pub after : List ℕ
  pub spaces_before : AreSpaces before
  pub spaces_after : AreSpaces after
  pub listed : AreListed xs list
  pub parts : text ≡ before ++ (list ++ after)

spread_one : (x text : List ℕ) → text ≡ x → Spread (x ∷ []) text
spread_one x text e = record { before = []; list = x; after = []; spaces_before = tt; spaces_after = tt; listed = refl; parts = e ∙ sym (append-nil x) }

spread_none : (text : List ℕ) → text ≡ [] → Spread [] text
spread_none text e = record { before = []; list = []; after = []; spaces_before = tt; spaces_after = tt; listed = refl; parts = e }

pair_sound : (text : List ℕ) (p : List ℕ × List ℕ) → pair_at text ≡ Some p
    → (q : List ℕ × List ℕ) × (text ≡ q.0 ++ (44 ∷ q.1)) × (trimmed q.0 ≡ p.0) × (trimmed q.1 ≡ p.1)
unfolding pair_at
pair_sound text p e =
    let b = bind_some (cut 44 text) (λ q. Some (trimmed q.0, trimmed q.1)) p e in
    let g : ◌≡◌ {A = List ℕ × List ℕ} (trimmed b.0.0, trimmed b.0.1) p = cc in
    (b.0, cut-some 44 text b.0 b.1, ap (λ (q : List ℕ × List ℕ). q.0) g, ap (λ (q : List ℕ × List ℕ). q.1) g)

spread_parts : (a x b c d l e f : List ℕ) → (a ++ (x ++ b)) ++ (44 ∷ (c ++ ((d ++ (l ++ e)) ++ f))) ≡ a ++ ((x ++ ((b ++ (44 ∷ (c ++ d))) ++ l)) ++ (e ++ f))
spread_parts a x b c d l e f = simp append_assoc

spread_pair : (x z : List ℕ) (zs : List (List ℕ)) (text : List ℕ) (p : List ℕ × List ℕ) → pair_at text ≡ Some p → p.0 ≡ x → Spread (z ∷ zs) p.1
    → Spread (x ∷ z ∷ zs) text
spread_pair x z zs text p e f s =
    let q = pair_sound text p e in
    let a = trimmed_of q.0.0 in
    let b = trimmed_of q.0.1 in
    let first : q.0.0 ≡ a.before ++ (x ++ a.after) = a.parts ∙ ap (λ (t : List ℕ). a.before ++ (t ++ a.after)) (q.2 ∙ f) in
    let second : q.0.1 ≡ b.before ++ ((s.before ++ (s.list ++ s.after)) ++ b.after) =
    b.parts ∙ ap (λ (t : List ℕ). b.before ++ (t ++ b.after)) (q.3 ∙ s.parts) in
    let comma = a.after ++ (44 ∷ (b.before ++ s.before)) in
    let spaces = spaces_append b.before s.before b.spaces_before s.spaces_before in
    let is_comma : IsComma comma =
    record { before = a.after; after = b.before ++ s.before; spaces_before = a.spaces_after; spaces_after = spaces; parts = refl } in
    record {
      before = a.before;
      list = x ++ (comma ++ s.list);
      after = s.after ++ b.after;
      spaces_before = a.spaces_before;
      spaces_after = spaces_append s.after b.after s.spaces_after b.spaces_after;
      listed = (comma, s.list, is_comma, s.listed, refl);
      parts = q.1 ∙ ap (λ (t : List ℕ). t ++ (44 ∷ q.0.1)) first ∙ ap (λ (t : List ℕ). (a.before ++ (x ++ a.after)) ++ (44 ∷ t)) second
          ∙ spread_parts a.before x a.after b.before s.before s.list s.after b.after;
    }

-- ---- statements

pub record Reads (m : Mnemonic) (text : List ℕ) (s : Statement) : Type 0 where
  pub mnemonic : statement_mnemonic s ≡ m
  pub legal : IsStatement s
  pub spread : Spread (statement_operands s) text

reads_jump : (j : Jump) (text : List ℕ) (s : Statement) → Spread (jump_operands j text) text → Jumps j text s → Reads (jump_mnemonic j) text s
reads_jump j text s p k = record { mnemonic = k.mnemonic; legal = k.legal; spread = subst (λ xs. Spread xs text) (sym k.operands) p }

-- an instruction made of two parts, each of which is read as it is written and keeps to its bounds
reads_two : {A B : Type 0} (one : List ℕ → Option A) (two : List ℕ → Option B) (write_one : A → List ℕ) (write_two : B → List ℕ)
    (IsOne : A → Type 0) (IsTwo : B → Type 0) → ((t : List ℕ) (x : A) → one t ≡ Some x → (t ≡ write_one x) × IsOne x)
    → ((t : List ℕ) (y : B) → two t ≡ Some y → (t ≡ write_two y) × IsTwo y) → (m : Mnemonic) (make : A → B → Insn) (text : List ℕ) (s : Statement)
    → ((x : A) (y : B) → IsOne x → IsTwo y → Spread (write_one x ∷ write_two y ∷ []) text → Reads m text (Complete (make x y)))
    → (pair_at text >>= (λ p. one p.0 >>= λ x. two p.1 >>= λ y. Some (Complete (make x y)))) ≡ Some s → Reads m text s
reads_two one two write_one write_two IsOne IsTwo one_sound two_sound m make text s reads e =
    let p = bind_some (pair_at text) (λ p. one p.0 >>= λ x. two p.1 >>= λ y. Some (Complete (make x y))) s e in
    let x = bind_some (one p.0.0) (λ x. two p.0.1 >>= λ y. Some (Complete (make x y))) s p.2 in
    let y = bind_some (two p.0.1) (λ y. Some (Complete (make x.0 y))) s x.2 in
    let g : Complete (make x.0 y.0) ≡ s = cc in
    let a = one_sound p.0.0 x.0 x.1 in
    let b = two_sound p.0.1 y.0 y.1 in
    let spread = spread_pair (write_one x.0) (write_two y.0) [] text p.0 p.1 a.0 (spread_one (write_two y.0) p.0.1 b.0) in
    subst (Reads m text) g (reads x.0 y.0 a.1 b.1 spread)

abbrev IsRegister : ℕ → Type 0
IsRegister r = r < 11

pub statement_sound : (m : Mnemonic) (text : List ℕ) (s : Statement) → statement_at m text ≡ Some s → Reads m text s
unfolding statement_at
statement_sound (mnemonics.Alu w op) text s e =
    reads_two register_at operand_at register operand IsRegister IsOperand register_sound operand_sound (mnemonics.Alu w op) (insns.Alu w op)
    text s (λ d x low is spread. record { mnemonic = refl; legal = (low, is); spread = spread }) e
statement_sound (mnemonics.Negate w) text s e =
    let d = bind_some (register_at text) (λ d. Some (Complete (insns.Negate w d))) s e in
    let g : Complete (insns.Negate w d.0) ≡ s = cc in
    let r = register_sound text d.0 d.1 in
    subst (Reads (mnemonics.Negate w) text) g (record { mnemonic = refl; legal = r.1; spread = spread_one (register d.0) text r.0 })
statement_sound (mnemonics.Extend x) text s e =
    reads_two register_at register_at register register IsRegister IsRegister register_sound register_sound (mnemonics.Extend x) (insns.Extend x)
    text s (λ d t low is spread. record { mnemonic = refl; legal = (low, is); spread = spread }) e
statement_sound (mnemonics.Order o b) text s e =
    let d = bind_some (register_at text) (λ d. Some (Complete (insns.Order o b d))) s e in
    let g : Complete (insns.Order o b d.0) ≡ s = cc in
    let r = register_sound text d.0 d.1 in
    subst (Reads (mnemonics.Order o b) text) g (record { mnemonic = refl; legal = r.1; spread = spread_one (register d.0) text r.0 })
statement_sound mnemonics.Jump text s e = reads_jump jumps.Always text s (spread_one text text refl) (target_sound jumps.Always text s tt e)
statement_sound mnemonics.JumpFar text s e = reads_jump jumps.Far text s (spread_one text text refl) (target_sound jumps.Far text s tt e)
statement_sound (mnemonics.Branch w r) text s e =
    let p =
    bind_some (pair_at text) (λ p. pair_at p.1 >>= λ q. register_at p.0 >>= λ d. operand_at q.0 >>= λ x. target_at (jumps.Branch w r d x) q.1) s e in
    let q = bind_some (pair_at p.0.1) (λ q. register_at p.0.0 >>= λ d. operand_at q.0 >>= λ x. target_at (jumps.Branch w r d x) q.1) s p.2 in
    let d = bind_some (register_at p.0.0) (λ d. operand_at q.0.0 >>= λ x. target_at (jumps.Branch w r d x) q.0.1) s q.2 in
    let x = bind_some (operand_at q.0.0) (λ x. target_at (jumps.Branch w r d.0 x) q.0.1) s d.2 in
    let k = register_sound p.0.0 d.0 d.1 in
    let o = operand_sound q.0.0 x.0 x.1 in
    let j = target_sound (jumps.Branch w r d.0 x.0) q.0.1 s (k.1, o.1) x.2 in
    record {
      mnemonic = j.mnemonic;
      legal = j.legal;
      spread = subst (λ xs. Spread xs text) (sym j.operands)
          (spread_pair (register d.0) (operand x.0) (q.0.1 ∷ []) text p.0 p.1 k.0
          (spread_pair (operand x.0) q.0.1 [] p.0.1 q.0 q.1 o.0 (spread_one q.0.1 q.0.1 refl)));
    }
statement_sound mnemonics.Exit text s e =
    let h = cond_some (eqb (length text) 0) (Complete insns.Exit) s e in
    subst (Reads mnemonics.Exit text) h.1 (record { mnemonic = refl; legal = tt; spread = spread_none text (nil_from_length text (eqb-true _ 0 h.0)) })
statement_sound (mnemonics.Load z) text s e =
    reads_two register_at memory_at register write_memory IsRegister IsPlaceInMemory register_sound memory_sound (mnemonics.Load z)
    (λ d p. insns.Load z d p.0 p.1) text s (λ d p low is spread. record { mnemonic = refl; legal = (low, is.0, is.1); spread = spread }) e
statement_sound (mnemonics.LoadSigned z) text s e =
    reads_two register_at memory_at register write_memory IsRegister IsPlaceInMemory register_sound memory_sound (mnemonics.LoadSigned z)
    (λ d p. insns.LoadSigned z d p.0 p.1) text s (λ d p low is spread. record { mnemonic = refl; legal = (low, is.0, is.1); spread = spread }) e
statement_sound (mnemonics.Store z) text s e =
    reads_two memory_at operand_at write_memory operand IsPlaceInMemory IsOperand memory_sound operand_sound (mnemonics.Store z)
    (λ p x. insns.Store z p.0 p.1 x) text s (λ p x place is spread. record { mnemonic = refl; legal = (place.0, place.1, is); spread = spread }) e
statement_sound mnemonics.Wide text s e =
    reads_two register_at natural_at register decimal IsRegister (λ v. v < 2 ^ 64) register_sound natural_sound mnemonics.Wide insns.Wide
    text s (λ d v low is spread. record { mnemonic = refl; legal = (low, is); spread = spread }) e
