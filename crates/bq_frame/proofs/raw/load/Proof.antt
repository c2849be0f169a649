-- `load` meets its contract: a walk of its MIR by hand, over a context of what is owned, which comments show as
-- [first; second; ..]. The slice is looked into, the byte's cell is taken out of its row, read, and put back.
use Rattle.std.proofs.Common.{ℕ, ◌^◌, ◌<◌, List, [], ◌∷◌, length, get_or, sym, refl, w8, w64}
use seplogic.Ra.Ura.{Ura}
use mir.Syntax.{ty_int, named}
use mir.Val.{Val, vint}
use base.Logic.{SProp, ent}
use base.Fml.{Lft, Share, ftrue, fat, flft}
use prog.Memory.{Memory}
use prog.Routine.{Routine}
use prog.Wp.{Env, Calls, Loops, WpFn, Tables}
use types.Logic.{Logic}
use contract.Monad.{Fun}
use contract.Running.{tables, tables_of}
use sound.WpLaws.{WpFn-mono}
use types.Kit.{‵, ◌⊛◌, ⋆, at_ret, ◌$◌, ◌∵◌, !, qed, by, move, keep, drop, split, join, fsplit, fjoin, feq_i, flt_i, rewrite, suffices, done}
use types.Part.{whole, sub}
use types.Run.{look, load, stop, fld, addr, hop, from, of_opd, bin, first, blocks, exec, returns, enter}
use types.ByLocal.{alloc_all, pass_all, free_all, look_at, look_in_at, get, through, sets, sets_last, env}
use denote.Copied.{uint_Copied}
use denote.Exit.{yes}
use denote.RattleType.{owns}
use denote.Laws.{Is, shows}
use denote.Plain.{uint_vals, uint_Tells}
use denote.Ref.{Bor}
use denote.Slice.{ShrSlice, Room, slice_val, shr_slice_vals, shr_slice_Tells}
use denote.Index.{place_byte, elem_out, elem_back, looks_slice, shuts_slice}
use denote.Builtin.{SliceRefOf, u8, usize}
use denote.Signature.{plain}
use denote.Steps.{nothing}
use denote.Triple.Clauses.{Clauses}
use denote.Triple.Entry.{on_entry}
use denote.Triple.Spec.{Meets, triple_of}
use denote.Triple.Table.{entered}
use denote.Triple.Walked.{says, needs, Stays, stay_dropped, walk_of, ends_at, walked, Goes-dropped, walk_Meets}
use Rattle.bq_frame.specs.contracts.raw.load.Key.{name as #load}
use Rattle.bq_frame.specs.contracts.raw.load as f
use Rattle.bq_frame.proofs.raw.load.Statement as stated
use Rattle.bq_frame.proofs.raw.load.Code as code

-- the function has nothing of its parameters when it returns
abbrev stayed : Stays (f.ended).signature.params (f.ended).kept
stayed = (stay_dropped (SliceRefOf (0 ∷ []) tt (plain (λ _. u8)) (λ _. tt)) yes, (stay_dropped (plain (λ _. usize)) yes, tt))

module _ {M : Type 1} {𝓤 : Ura M} (𝓛 : Logic 𝓤) (at_mem : Memory → SProp 𝓤) (run : Routine → Fun 𝓤) where
  open 𝓛 use {H}

  abbrev clauses : Clauses 𝓤 f.ended
  clauses = f.clauses 𝓛 at_mem run

  -- the slice is lent for κ, lies at the offset o of the block b, and holds xs
  module _ (κ : Lft) (q : Share) (b o : ℕ) (xs : List ℕ) (i : ℕ) where
    abbrev args : Bor (List ℕ) × (ℕ × Unit {0})
    args = (record { ref_ptr = (b, o); now = xs }, (i, tt))

    abbrev words : List Val × (List Val × Unit {0})
    words = (slice_val (b, o) (length xs) ∷ [], (vint w64 i ∷ [], tt))

    abbrev bound : (walk_of 𝓛 f.ended stayed clauses).Ghost
    bound = (((κ, tt), (q, tt), tt, args, words), tt)

    abbrev Post : Val → SProp 𝓤
    Post = (walk_of 𝓛 f.ended stayed clauses).post bound

    abbrev byte : ℕ
    byte = get_or xs i 0

    -- the end: the `ensures`, the token of κ, and the byte
    exits : byte < 2 ^ 8 → ent 𝓤 (⋆ 𝓛 (‵ (flft κ q) ∷ [])) (Post (vint w8 byte))
    exits fits =
        qed 𝓛 (‵ (flft κ q) ∷ []) ∵
        suffices ! _ (ends_at 𝓛 f.ended stayed clauses bound (vint w8 byte) byte (tt, (tt, tt)) (tt, (tt, tt))) $ says ! refl $
        nothing ! $ move ! (1 ∷ 0 ∷ []) $ join ! $ nothing ! $ nothing ! $ fjoin ! $ nothing ! $ fjoin ! $ move ! (1 ∷ 0 ∷ []) $
        flt_i ! byte (2 ^ 8) fits $ feq_i ! (List Val) (vint w8 byte ∷ []) (vint w8 byte ∷ []) refl $ fjoin ! $ move ! (1 ∷ 2 ∷ 0 ∷ []) $ done !

    module _ (C : Calls 𝓤 H) (Λ : Loops 𝓤 H) where
      walk : Room u8 (length xs) → i < 2 ^ 64 → i < length xs
          → ent 𝓤 (on_entry 𝓛 f.signature (κ, tt) (q, tt) args words) (WpFn 𝓤 H C Λ code.function (slice_val (b, o) (length xs) ∷ vint w64 i ∷ []) Post)
      walk room fi inside =
          qed 𝓛 ((‵ (flft κ q) ⊛ ‵ ftrue) ∷ ‵ (owns (ShrSlice (named 0) κ u8 ∷ usize ∷ []) args words) ∷ []) ∵
          enter ! C Λ code.function (slice_val (b, o) (length xs) ∷ vint w64 i ∷ []) _ $
          alloc_all ! (λ l. pass_all ! refl ((tt, (tt, (record { fits = room.0 }, tt))), ((tt, record { fits = fi }), tt)) $
          let En : Env 𝓤 H = env (code.function).locals l in
          move ! (1 ∷ []) $ fsplit ! $ fsplit ! $ drop ! $ move ! (2 ∷ []) $ split ! $ move ! (2 ∷ 0 ∷ []) $
          -- [the bytes, shared; the token of κ; ..]
          looks_slice ! tt u8 (uint_Copied 𝓛 w8) xs b o (λ q'. elem_out ! u8 (Is u8) (shows 𝓛 u8) (uint_vals w8) (uint_Tells w8) q' xs i 0 b o inside (λ good.
          rewrite ! 0 (λ (k : ℕ). ‵ (fat q' (ty_int w8) b k (vint w8 byte))) (place_byte o i) refl $
          -- [the byte's cell; what it owns; the other bytes; ..]. From here, one step for each statement of the MIR.
          -- let start = bytes.as_ptr();
          sets ! (addr ! (from ! (fld ! refl (hop ! (look_in_at ! 1 (sub ! 0 refl (whole !))) (stop !))))) refl (tt, tt) $
          first ! $ blocks ! $
          -- *start.add(at)
          sets ! (bin ! (get ! refl) (get ! refl) tt) refl (tt, tt) $
          sets_last ! (of_opd ! (load ! (through ! refl (stop !)) (look ! 0 refl))) refl (tt, record { fits = good.1 }) $
          exec ! C Λ En code.Mir.t-3 (at_ret En Post) $
          sets ! (of_opd ! (get ! refl)) refl (tt, record { fits = good.1 }) $
          rewrite ! 0 (λ (k : ℕ). ‵ (fat q' (ty_int w8) b k (vint w8 byte))) (sym (place_byte o i)) refl $
          elem_back ! u8 q' xs i 0 (vint w8 byte ∷ []) b o inside $ shuts_slice ! tt u8 q' xs b o $
          returns ! (look_at ! 0 refl) $ free_all ! refl $ keep ! (0 ∷ []) $ by ! (exits good.1))))

  meets : (𝓣 : Tables 𝓤 H) → Meets 𝓛 f.signature (WpFn 𝓤 H 𝓣.C 𝓣.Λ code.function) (f.spec 𝓛 at_mem run)
  meets 𝓣 =
      walk_Meets 𝓛 f.ended stayed (
        Goes-dropped 𝓛 1 (SliceRefOf (0 ∷ []) tt (plain (λ _. u8)) (λ _. tt)) yes (λ κs x w. refl),
        (Goes-dropped 𝓛 1 (plain (λ _. usize)) yes (λ κs x w. refl), tt),
      )
      clauses (WpFn 𝓤 H 𝓣.C 𝓣.Λ code.function) (WpFn-mono 𝓤 H 𝓛.laws 𝓣 code.function)
      (walked 𝓛 f.ended stayed clauses (WpFn 𝓤 H 𝓣.C 𝓣.Λ code.function)
      (λ κs. (shr_slice_vals, (uint_vals w64, tt))) (λ κs. (shr_slice_Tells (named 0) κs.0 u8, (uint_Tells w64, tt)))
      (λ κs qs bounds a g are. needs 𝓤 (a.1.0 < length a.0.now) _
      (walk κs.0 qs.0 a.0.ref_ptr.0 a.0.ref_ptr.1 a.0.now a.1.0 𝓣.C 𝓣.Λ are.0.0.1 are.1.0.1)))

pub load_spec : {M : Type 1} → stated.statement M
unfolding tables_of
load_spec 𝓤 𝓛 𝓜 𝓡 wired =
    entered 𝓤 𝓛.H (triple_of 𝓛 f.signature (f.spec 𝓛 𝓜.mem 𝓡.returns))
    (tables 𝓤 𝓛.H 𝓜 𝓡 𝓡.env).C (tables 𝓤 𝓛.H 𝓜 𝓡 𝓡.env).Λ #load code.function (code.unfolded 𝓤 𝓛.H 𝓜 𝓡 wired)
    (meets 𝓛 𝓜.mem 𝓡.returns (tables_of 𝓤 𝓛.H 𝓜 (tables 𝓤 𝓛.H 𝓜 𝓡 𝓡.env)))
