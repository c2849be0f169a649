-- The first faulty line of a list of records.
use Rattle.std.proofs.Common.{◌≡◌, ℕ, ◌+◌, ◌≤◌, ◌<◌, ◌==◌, Bool, false, take, drop, get_or, ap, sym, ◌∙◌, subst, arith, refl}
use Rattle.std.specs.Prelude.{Option, Some, None, List, [], ◌∷◌, ◌++◌, length}
use Rattle.std.specs.FinMap as fin
use Rattle.std.proofs.lemmas.Bool.{eqb-false}
use Rattle.std.proofs.lemmas.Slice.Zip.{AllZip-long}
use Rattle.bq_range.specs.Interval.{Interval}
use Rattle.sc_view.specs.declared.view.Stored.{Stored}
use Rattle.sc_view.specs.Views.{ViewMap, put, most_entries}
use Rattle.q_script.specs.declared.records.RecordFault.{RecordFault}
use Rattle.q_script.specs.declared.records.RecordFault.TheVariants.{Full}
use Rattle.q_script.specs.Lines.{without_last_feed, parts_of}
use Rattle.q_script.specs.Records.{Record, IsRecord, IsAbove, IsEntry, IsGood, HasFault, IsReading, IsFaultAt, last_id, learned, stored_of, record_lines}
use Rattle.q_script.proofs.Lines.{pieces_at}
use Rattle.q_script.proofs.Learning.{len_learned, len_more, learned_push, last_push, reading_push}

pub lines_there : (source body : List ℕ) → (length source ≡ 0 → ⊥) → body ≡ without_last_feed source → record_lines source ≡ parts_of body
lines_there [] body n e = absurd (n refl)
lines_there (c ∷ cs) body n e = ap parts_of (sym e)

-- what is known where some lines are read
pub record Read (l : Interval) (done : List (List ℕ)) (last : Option ℕ) (view : ViewMap) (records : List Record) : Type 0 where
  pub reading : IsReading l done records
  pub learnt : view ≡ learned fin.empty records
  pub ends : last ≡ last_id None records

pub fault_at : {l : Interval} {texts done : List (List ℕ)} {t : List ℕ} (i : ℕ) {n : ℕ} {last : Option ℕ} {view : ViewMap} {records : List Record}
    (fault : RecordFault) → done ≡ take i texts → i < length texts → t ≡ get_or texts i t → Read l done last view records → n ≡ fin.len view
    → HasFault l last (length records) t fault → IsFaultAt l texts (n + 1) fault
fault_at {l = l} {texts = texts} {done = done} {t = t} i {records = records} fault f less e k c h = record {
  before = done;
  text = t;
  after = drop (i + 1) texts;
  parts = pieces_at texts done i t f less e;
  number = omega (arith, c, ap fin.len k.learnt, len_learned l records k.reading.good, AllZip-long IsRecord done records k.reading.spelled);
  records = records;
  read = k.reading;
  has_fault = subst (λ o. HasFault l o (length records) t fault) k.ends h;
}

-- a full view has 256 entries
pub full_fault : (l : Interval) (done : List (List ℕ)) (t : List ℕ) (last : Option ℕ) (view : ViewMap) (records : List Record) (entry : ℕ × Stored)
    → Read l done last view records → fin.len view ≤ most_entries
    → IsEntry l last t entry → most_entries < fin.len (put view entry.0 entry.1) → HasFault l last (length records) t Full
full_fault l done t last view records entry k few h over =
    let r = h.0 in
    let is = ap (λ (e : ℕ × Stored). fin.len (put view e.0 e.1)) h.3 ∙ ap (λ v. fin.len (put v r.id (stored_of r))) k.learnt in
    let more = len_more l records r k.reading.good (subst (λ o. IsAbove o r.id) k.ends h.2.0) in
    (r, h.1, h.2, omega (arith, is, more, over, few, ap fin.len k.learnt, len_learned l records k.reading.good))

pub read_more : {l : Interval} {done : List (List ℕ)} (t : List ℕ) {last : Option ℕ} {view new : ViewMap} {records : List Record} (entry : ℕ × Stored)
    → Read l done last view records → (h : IsEntry l last t entry) → new ≡ put view entry.0 entry.1
    → Read l (done ++ (t ∷ [])) (Some entry.0) new (records ++ (h.0 ∷ []))
read_more {l = l} {done = done} t {view = view} {records = records} entry k h p = record {
  reading = reading_push l done records t h.0 k.reading h.1 (subst (λ o. IsGood l o h.0) k.ends h.2);
  learnt = p ∙ ap (λ (e : ℕ × Stored). put view e.0 e.1) h.3 ∙ ap (λ v. put v h.0.id (stored_of h.0)) k.learnt ∙ sym (learned_push fin.empty records h.0);
  ends = ap (λ (e : ℕ × Stored). Some e.0) h.3 ∙ sym (last_push None records h.0);
}

pub not_empty : (n : ℕ) (b : Bool) → b ≡ (n == 0) → b ≡ false → n ≡ 0 → ⊥
not_empty n b e f = eqb-false n 0 (sym e ∙ f)
