-- An instruction faults by the least of the faults that hold of it.
use Rattle.std.proofs.Common.{◌≡◌, ◌≢◌, ◌⊎◌, ℕ, ◌<◌, ◌≤◌, ℤ, true, false, nat_lt, List, length, Option, Some, None}
use Rattle.std.proofs.Common.{arith, refl, subst, inl, inr}
use Rattle.std.proofs.lemmas.Bool.{cond_both}
use Rattle.std.proofs.lemmas.Bool.Decides.{nat_tests}
use Rattle.reasons.specs.Table.{number}
use Rattle.bq_word.specs.declared.AluOp.{AluOp}
use Rattle.bq_word.specs.declared.AluOp.TheVariants as ops
use Rattle.bq_insn.specs.declared.insn.Insn.{Insn}
use Rattle.bq_insn.specs.declared.insn.Insn.TheVariants as insns
use Rattle.bq_insn.specs.declared.insn.Operand.{Operand}
use Rattle.bq_insn.specs.declared.insn.Operand.TheVariants as operands
use Rattle.bq_insn.specs.declared.insn.Size.{Size}
use Rattle.bq_insn.specs.declared.insn.Size.TheVariants as sizes
use Rattle.bq_meaning.specs.Place.{Place, IsPlacement, record_room}
use Rattle.bq_insn.specs.Insn.{size_bytes}
use Rattle.bq_word.specs.Word.{signed_bytes, sign_bits, extended}
use Rattle.bq_meaning.specs.Memory.{access, is_inside, MachineState as Machine}
use Rattle.bq_meaning.specs.Meaning.{Outcome, Continues, Ends, Faults, held, value, taken, moved, reading, writing, stored, loading, perform}
use Rattle.bq_meaning.specs.Faults.{OperandReads, IsAddress, AreWithin, ReadsUnset, WritesFramePointer, AccessesOutside, WritesRecord}
use Rattle.bq_meaning.specs.Faults.{reason, Holds, IsLeast, HoldsNone, IsDone, LeastFaultIsNamed}
use Rattle.bq_meaning.specs.declared.machine.Location.{Location}
use Rattle.bq_meaning.specs.declared.machine.Location.TheVariants.{Frame, Record}
use Rattle.bq_meaning.specs.declared.fault.Fault.{Fault}
use Rattle.bq_meaning.specs.declared.fault.Fault.TheVariants.{ReadUnset, WroteFramePointer, OutsideAccess, WroteRecord, BadPlace, StepsOut}

-- an outcome that names the least of four facts
abbrev Judged : Type 0 → Type 0 → Type 0 → Type 0 → Outcome → Type 0
Judged R W O S (Continues next) = (R → ⊥) × (W → ⊥) × (O → ⊥) × (S → ⊥)
Judged R W O S (Ends answer) = (R → ⊥) × (W → ⊥) × (O → ⊥) × (S → ⊥)
Judged R W O S (Faults ReadUnset) = R
Judged R W O S (Faults WroteFramePointer) = (R → ⊥) × W
Judged R W O S (Faults OutsideAccess) = (R → ⊥) × (W → ⊥) × O
Judged R W O S (Faults WroteRecord) = (R → ⊥) × (W → ⊥) × (O → ⊥) × S
Judged R W O S (Faults BadPlace) = ⊥
Judged R W O S (Faults StepsOut) = ⊥

abbrev JudgedAt : Place → Insn → Machine → Outcome → Type 0
JudgedAt p i m o = Judged (ReadsUnset i m) (WritesFramePointer i) (AccessesOutside p i m) (WritesRecord p i m) o

-- ---- the parts of an instruction

module _ (R W O S : Type 0) where
  read_first : (h : Option ℕ) (go : ℕ → Outcome) → (h ≡ None → R) → ((a : ℕ) → h ≡ Some a → Judged R W O S (go a))
      → Judged R W O S (reading ReadUnset h go)
  read_first None go r k = r refl
  read_first (Some a) go r k = k a refl

  write_next : (d : ℕ) (o : Outcome) → (R → ⊥) → (10 ≤ d → W) → (d < 10 → Judged R W O S o) → Judged R W O S (writing d o)
  write_next d o r w k =
      cond_both (nat_lt d 10) o (Faults WroteFramePointer) (Judged R W O S) (λ e. k (grind (arith, nat_tests)))
      (λ e. (r, w (grind (arith, nat_tests))))

  -- a register is written, and nothing more is done
  writes_one : (d : ℕ) (next : Machine) → (R → ⊥) → (10 ≤ d → W) → (W → 10 ≤ d) → (O → ⊥) → (S → ⊥) → Judged R W O S (writing d (Continues next))
  writes_one d next r w above o s = write_next d _ r w (λ h. (r, (λ x. let a = above x in omega arith), o, s))

-- where an access lies, in plain words
abbrev Lies : Place → ℕ → ℕ → ℕ → Option Location → Type 0
Lies p len address size (Some (Frame at)) = AreWithin p.frame 512 address size
Lies p len address size (Some (Record at)) = AreWithin p.record len address size
Lies p len address size None = (AreWithin p.frame 512 address size → ⊥) × (AreWithin p.record len address size → ⊥)

inside_is : (start len address size : ℕ) → is_inside start len address size ≡ true → AreWithin start len address size
inside_is start len address size e = (grind (arith, nat_tests), grind (arith, nat_tests))

inside_is_not : (start len address size : ℕ) → is_inside start len address size ≡ false → AreWithin start len address size → ⊥
inside_is_not start len address size e h = grind (arith, nat_tests)

lies : (p : Place) (len address size : ℕ) → Lies p len address size (access p len address size)
lies p len address size =
    cond_both (is_inside p.frame 512 address size) _ _ (Lies p len address size) (inside_is p.frame 512 address size) (λ e.
    cond_both (is_inside p.record len address size) _ _ (Lies p len address size) (inside_is p.record len address size) (λ f.
    (inside_is_not p.frame 512 address size e, inside_is_not p.record len address size f)))

-- no byte is in both regions
never_both : (p : Place) (len address size : ℕ) → IsPlacement p → len ≤ record_room → 0 < size → AreWithin p.frame 512 address size
    → AreWithin p.record len address size → ⊥
never_both p len address size is room some a b = elim is.apart as (λ _. ⊥) [ inl h ↦ omega arith | inr h ↦ omega arith ]

-- ---- registers

taken_none : (op : AluOp) (registers : List (Option ℕ)) (d : ℕ) → taken registers op d ≡ None → (op ≢ ops.Mov) × (held registers d ≡ None)
taken_none ops.Mov registers d h = cc
taken_none _ registers d h = (λ e. cc, h)

taken_some : (op : AluOp) (registers : List (Option ℕ)) (d a : ℕ) → taken registers op d ≡ Some a → op ≢ ops.Mov → held registers d ≡ Some a
taken_some ops.Mov registers d a h n = absurd (n refl)
taken_some _ registers d a h n = h

operand_unset : (x : Operand) (registers : List (Option ℕ)) → value registers x ≡ None → (r : ℕ) × OperandReads x r × (held registers r ≡ None)
operand_unset (operands.Register s) registers h = (s, refl, h)
operand_unset (operands.Number z) registers h = cc

either_set : {A : Type 0} (x : Operand) (registers : List (Option ℕ)) (a r : ℕ) → (A → ⊥) → value registers x ≡ Some a → A ⊎ OperandReads x r
    → held registers r ≡ None → ⊥
either_set x registers a r first h (inl e) n = first e
either_set (operands.Register s) registers a r first h (inr e) n = let e' = e in absurd (cc)
either_set (operands.Number z) registers a r first h (inr e) n = e

set_one : (registers : List (Option ℕ)) (d r a : ℕ) → held registers d ≡ Some a → r ≡ d → held registers r ≡ None → ⊥
set_one registers d r a h e n = let i : held registers d ≡ None = rw e at n in absurd (cc)

size_some : (size : Size) → 0 < size_bytes size
size_some sizes.B1 = omega arith
size_some _ = omega arith

-- ---- loads and stores

-- what is loaded or stored lies in neither region, and what is stored lies in the record
abbrev Outside : Place → Machine → (ℕ → ℕ → Type 0) → (ℕ → ℕ → Type 0) → Type 0
Outside p m Loads Stores =
    (a : ℕ) × (n : ℕ) × (Loads a n ⊎ Stores a n) × (AreWithin p.frame 512 a n → ⊥) × (AreWithin p.record (length m.record) a n → ⊥)

abbrev InRecord : Place → Machine → (ℕ → ℕ → Type 0) → Type 0
InRecord p m Stores = (a : ℕ) × (n : ℕ) × Stores a n × AreWithin p.record (length m.record) a n

-- one access
module _ (p : Place) (m : Machine) (address size : ℕ) (R W : Type 0) (Loads Stores : ℕ → ℕ → Type 0) (unset : R → ⊥) (free : W → ⊥)
    (one : (a n : ℕ) → Loads a n ⊎ Stores a n → (a ≡ address) × (n ≡ size)) where
  inside : (k : Location) → Lies p (length m.record) address size (Some k) → Outside p m Loads Stores → ⊥
  inside (Frame k) at o = let e = one o.0 o.1 o.2 in o.3 (rw (e.0, e.1) at)
  inside (Record k) at o = let e = one o.0 o.1 o.2 in o.4 (rw (e.0, e.1) at)

  abbrev Accessed : Outcome → Type 0
  Accessed o = Judged R W (Outside p m Loads Stores) (InRecord p m Stores) o

  load_at : (l : Option Location) (go : Location → Machine) → Loads address size → (InRecord p m Stores → ⊥)
      → Lies p (length m.record) address size l → Accessed (reading OutsideAccess l (λ k. Continues (go k)))
  load_at None go is still at = (unset, free, (address, size, inl is, at.0, at.1))
  load_at (Some k) go is still at = (unset, free, inside k at, still)

  store_at : (l : Option Location) (v : ℕ) → IsPlacement p → length m.record ≤ record_room → 0 < size → Stores address size
      → Lies p (length m.record) address size l → Accessed (reading OutsideAccess l (λ k. stored m k size v))
  store_at None v place room some is at = (unset, free, (address, size, inr is, at.0, at.1))
  store_at (Some (Frame k)) v place room some is at =
      let apart : InRecord p m Stores → ⊥ = λ s.
      let e = one s.0 s.1 (inr s.2) in
      let there : AreWithin p.record (length m.record) address size = rw (e.0, e.1) at s.3 in
      never_both p (length m.record) address size place room some at there in
      (unset, free, inside (Frame k) at, apart)
  store_at (Some (Record k)) v place room some is at = (unset, free, inside (Record k) at, (address, size, is, at))

-- an address is one
one_address : (m : Machine) (base a : ℕ) (offset : ℤ) (size address n : ℕ) → held m.registers base ≡ Some a
    → IsAddress m base offset address × (n ≡ size) → (address ≡ moved a offset) × (n ≡ size)
one_address m base a offset size address n h l = let s : l.0.0 ≡ a = cc in (subst (λ x. address ≡ moved x offset) s l.0.2, l.1)

-- ---- each form of instruction

nothing : ⊥ ⊎ ⊥ → ⊥
nothing (inl x) = x
nothing (inr x) = x

-- an instruction that reads the register s, writes d and stores nothing
abbrev JudgedOne : Place → Machine → ℕ → ℕ → (ℕ → ℕ → Type 0) → Outcome → Type 0
JudgedOne p m d s Loads o =
    Judged ((r : ℕ) × (r ≡ s) × (held m.registers r ≡ None)) ((r : ℕ) × (r ≡ d) × (10 ≤ r)) (Outside p m Loads (λ a n. ⊥))
    (InRecord p m (λ a n. ⊥)) o

maps : (p : Place) (m : Machine) (d s : ℕ) (go : ℕ → Machine)
    → JudgedOne p m d s (λ a n. ⊥) (reading ReadUnset (held m.registers s) (λ a. writing d (Continues (go a))))
maps p m d s go =
    read_first _ _ _ _ (held m.registers s) _ (λ e. (s, refl, e)) (λ a ea.
    writes_one _ _ _ _ d _ (λ r. set_one m.registers s r.0 a ea r.1 r.2) (λ h. (d, refl, h)) (λ w. omega arith) (λ o. nothing o.2) (λ s. s.2))

loads : (p : Place) (m : Machine) (d base : ℕ) (offset : ℤ) (size : ℕ) (number : ℕ → ℕ)
    → JudgedOne p m d base (λ t n. IsAddress m base offset t × (n ≡ size)) (loading p m d base offset size number)
loads p m d base offset size number =
    read_first _ _ _ _ (held m.registers base) _ (λ e. (base, refl, e)) (λ a ea.
    write_next _ _ _ _ d _ (λ r. set_one m.registers base r.0 a ea r.1 r.2) (λ h. (d, refl, h)) (λ h.
    load_at p m (moved a offset) size _ _ (λ t n. IsAddress m base offset t × (n ≡ size)) (λ t n. ⊥)
    (λ r. set_one m.registers base r.0 a ea r.1 r.2) (λ w. omega arith)
    (λ t n h. elim h [ inl l ↦ one_address m base a offset size t n ea l | inr l ↦ absurd l ])
    (access p (length m.record) (moved a offset) size) _ ((a, ea, refl), refl) (λ s. s.2) (lies p _ _ _)))

judged : (p : Place) (i : Insn) (m : Machine) → IsPlacement p → length m.record ≤ record_room → JudgedAt p i m (perform p i m)
judged p (insns.Alu w op d x) m place room =
    read_first _ _ _ _ (taken m.registers op d) _ (λ e. let t = taken_none op m.registers d e in (d, inl (t.0, refl), t.1)) (λ a ea.
    read_first _ _ _ _ (value m.registers x) _ (λ e. let t = operand_unset x m.registers e in (t.0, inr t.1, t.2)) (λ b eb.
    writes_one _ _ _ _ d _ (λ r. either_set x m.registers b r.0 (λ h. set_one m.registers d r.0 a (taken_some op m.registers d a ea h.0) h.1 r.2) eb r.1 r.2)
    (λ h. (d, refl, h)) (λ w. omega arith) (λ o. nothing o.2) (λ s. s.2)))
judged p (insns.Negate w d) m place room = maps p m d d _
judged p (insns.Extend e d s) m place room = maps p m d s _
judged p (insns.Order o bits d) m place room = maps p m d d _
judged p (insns.Jump offset) m place room = ((λ r. r.1), (λ w. w.1), (λ o. nothing o.2), (λ s. s.2))
judged p (insns.JumpFar distance) m place room = ((λ r. r.1), (λ w. w.1), (λ o. nothing o.2), (λ s. s.2))
judged p (insns.Branch w relation d x offset) m place room =
    read_first _ _ _ _ (held m.registers d) _ (λ e. (d, inl refl, e)) (λ a ea.
    read_first _ _ _ _ (value m.registers x) _ (λ e. let t = operand_unset x m.registers e in (t.0, inr t.1, t.2)) (λ b eb.
    ((λ r. either_set x m.registers b r.0 (λ h. set_one m.registers d r.0 a ea h r.2) eb r.1 r.2), (λ w. w.1), (λ o. nothing o.2), (λ s. s.2))))
judged p insns.Exit m place room =
    read_first _ _ _ _ (held m.registers 0) _ (λ e. (0, refl, e)) (λ a ea.
    ((λ r. set_one m.registers 0 r.0 a ea r.1 r.2), (λ w. w.1), (λ o. nothing o.2), (λ s. s.2)))
judged p (insns.Load size d base offset) m place room = loads p m d base offset (size_bytes size) (λ n. n)
judged p (insns.LoadSigned bits d base offset) m place room = loads p m d base offset (signed_bytes bits) (extended (sign_bits bits) 64)
judged p (insns.Store size base offset x) m place room =
    read_first _ _ _ _ (held m.registers base) _ (λ e. (base, inl refl, e)) (λ a ea.
    read_first _ _ _ _ (value m.registers x) _ (λ e. let t = operand_unset x m.registers e in (t.0, inr t.1, t.2)) (λ v eb.
    store_at p m (moved a offset) (size_bytes size) _ _ (λ t n. ⊥) (λ t n. IsAddress m base offset t × (n ≡ size_bytes size))
    (λ r. either_set x m.registers v r.0 (λ h. set_one m.registers base r.0 a ea h r.2) eb r.1 r.2) (λ w. w.1)
    (λ t n h. elim h [ inl l ↦ absurd l | inr l ↦ one_address m base a offset (size_bytes size) t n ea l ])
    (access p (length m.record) (moved a offset) (size_bytes size)) v place room (size_some size) ((a, ea, refl), refl) (lies p _ _ _)))
judged p (insns.Wide d v) m place room =
    writes_one _ _ _ _ d _ (λ r. r.1) (λ h. (d, refl, h)) (λ w. omega arith) (λ o. nothing o.2) (λ s. s.2)

-- ---- the law

no_fault : (p : Place) (i : Insn) (m : Machine) → (ReadsUnset i m → ⊥) → (WritesFramePointer i → ⊥) → (AccessesOutside p i m → ⊥)
    → (WritesRecord p i m → ⊥) → HoldsNone p i m
no_fault p i m r w o s ReadUnset h = r h
no_fault p i m r w o s WroteFramePointer h = w h
no_fault p i m r w o s OutsideAccess h = o h
no_fault p i m r w o s WroteRecord h = s h
no_fault p i m r w o s BadPlace h = h
no_fault p i m r w o s StepsOut h = h

done : (p : Place) (i : Insn) (m : Machine) (o : Outcome) → JudgedAt p i m o → IsDone o → HoldsNone p i m
done p i m (Continues next) j d = no_fault p i m j.0 j.1 j.2 j.3
done p i m (Ends answer) j d = no_fault p i m j.0 j.1 j.2 j.3
done p i m (Faults f) j d = absurd d

holds : (p : Place) (i : Insn) (m : Machine) (f : Fault) → JudgedAt p i m (Faults f) → Holds p i m f
holds p i m ReadUnset j = j
holds p i m WroteFramePointer j = j.1
holds p i m OutsideAccess j = j.2
holds p i m WroteRecord j = j.3
holds p i m BadPlace j = j
holds p i m StepsOut j = j

least : (p : Place) (i : Insn) (m : Machine) (f g : Fault) → JudgedAt p i m (Faults f) → Holds p i m g → number (reason f) ≤ number (reason g)
least p i m BadPlace g j h = absurd j
least p i m StepsOut g j h = absurd j
least p i m f BadPlace j h = absurd h
least p i m f StepsOut j h = absurd h
least p i m WroteFramePointer ReadUnset j h = absurd (j.0 h)
least p i m OutsideAccess ReadUnset j h = absurd (j.0 h)
least p i m OutsideAccess WroteFramePointer j h = absurd (j.1 h)
least p i m WroteRecord ReadUnset j h = absurd (j.0 h)
least p i m WroteRecord WroteFramePointer j h = absurd (j.1 h)
least p i m WroteRecord OutsideAccess j h = absurd (j.2 h)
least p i m f g j h = omega arith

is_least : (p : Place) (i : Insn) (m : Machine) (f : Fault) → JudgedAt p i m (Faults f) → IsLeast p i m f
is_least p i m f j = (holds p i m f j, λ g h. least p i m f g j h)

same_number : (f g : Fault) → number (reason f) ≡ number (reason g) → f ≡ g
same_number ReadUnset ReadUnset e = refl
same_number WroteFramePointer WroteFramePointer e = refl
same_number OutsideAccess OutsideAccess e = refl
same_number WroteRecord WroteRecord e = refl
same_number BadPlace BadPlace e = refl
same_number StepsOut StepsOut e = refl
same_number f g e = absurd (omega arith)

named : (p : Place) (i : Insn) (m : Machine) (o : Outcome) (f : Fault) → JudgedAt p i m o → IsLeast p i m f → o ≡ Faults f
named p i m (Continues next) f j l = absurd (done p i m (Continues next) j tt f l.0)
named p i m (Ends answer) f j l = absurd (done p i m (Ends answer) j tt f l.0)
named p i m (Faults g) f j l =
    let a = is_least p i m g j in
    let x : number (reason g) ≤ number (reason f) = a.1 f l.0 in
    let y : number (reason f) ≤ number (reason g) = l.1 g a.0 in
    let e : g ≡ f = let n : number (reason g) ≡ number (reason f) = omega arith in same_number g f n in
    cc

clear : (p : Place) (i : Insn) (m : Machine) (o : Outcome) → JudgedAt p i m o → HoldsNone p i m → IsDone o
clear p i m (Continues next) j n = tt
clear p i m (Ends answer) j n = tt
clear p i m (Faults f) j n = n f (holds p i m f j)

pub least_fault : LeastFaultIsNamed
least_fault p i m place room =
    let j = judged p i m place room in (
      λ f. ((λ e. is_least p i m f (subst (JudgedAt p i m) e j)), (λ l. named p i m (perform p i m) f j l)),
      ((λ d. done p i m (perform p i m) j d), (λ n. clear p i m (perform p i m) j n)),
    )
