-- One turn more of the pump.
use Rattle.std.proofs.Common.{◌≡◌, ◌≢◌, ℕ, zero, suc, ◌+◌, ◌*◌, ◌≤◌, Bool, true, false, List, [], ◌∷◌, ◌++◌, map, length, take, replicate, refl}
use Rattle.std.proofs.Common.{sym, ap, ◌∙◌, subst, arith, Option, Some, None, Ok, inl, inr, length-append, append_assoc, append-nil, add-one}
use Rattle.std.proofs.lemmas.List.{map-append, replicate-append-replicate}
use Rattle.std.specs.Int.{from_bool}
use Rattle.std.specs.Prelude.{slice_set}
use mathlib.Core.Option.{some-injective, some-ne-none}
use lib.ListN.{get_elem?}
use Rattle.atomic_table.proofs.Lists.{set_else}
use Rattle.q_session.specs.declared.job.Job.{Job}
use Rattle.q_session.specs.Done.{Finished}
use Rattle.q_board.specs.declared.found.Look.{Look}
use Rattle.q_board.specs.declared.found.Found.{Found}
use Rattle.q_board.specs.declared.found.Found.TheVariants as found
use Rattle.q_board.specs.Plays.{look}
use Rattle.q_board.specs.AskerModel.{AskerModel}
use Rattle.q_board.specs.Places.{jobs}
use Rattle.q_board.specs.Calls.{is_at, row_place, Receives}
use Rattle.q_desk.specs.declared.journal.Entry.{Entry}
use Rattle.q_desk.specs.declared.journal.Call.TheVariants as call
use Rattle.q_desk.specs.declared.journal.Entry.TheVariants as entry
use Rattle.q_book.specs.State.{BookState}
use Rattle.q_book.specs.Books.{handed_out}
use Rattle.q_book.specs.Noted.{PostsAreNoted, HandOutsAreNoted}
use Rattle.q_board.specs.Looks.{slots_of, is_finished, showing}
use Rattle.q_board.specs.Pumped.{open_slots, Posts, HandsOut, post_of}
use Rattle.q_board.specs.Turns.{PostsOne, Polls, Receiving, OffersNext, Offering}
use Rattle.q_board.proofs.Looks.{showing-append}

-- ---- lists

not_shown : (f : Found) → f ≢ found.Finished → is_finished f ≡ 0
not_shown found.Empty n = refl
not_shown found.Ready n = refl
not_shown found.Finished n = absurd (n refl)
not_shown (found.Claimed r) n = refl

-- what stands behind a list that has grown twice
pub grown : {A : Type 0} {y z : List A} (x first more : List A) → y ≡ x ++ first → z ≡ y ++ more → z ≡ x ++ (first ++ more)
grown x first more e f = f ∙ ap (λ l. l ++ more) e ∙ append_assoc x first more

open_none : (i k : ℕ) (row : List (Option Job)) → is_at row k None → open_slots i (take (suc k) row) ≡ open_slots i (take k row)
open_none i k [] e = absurd (some-ne-none None (sym e))
open_none i zero (None ∷ row) e = refl
open_none i zero (Some j ∷ row) e = let x : ◌≡◌ {A = Option Job} (Some j) None = some-injective (Some j) None e in absurd (cc)
open_none i (suc k) (None ∷ row) e = open_none (i + 1) k row e
open_none i (suc k) (Some j ∷ row) e = ap (λ (l : List ℕ). i ∷ l) (open_none (i + 1) k row e)

open_some : (i k n : ℕ) (row : List (Option Job)) (j : Job) → n ≡ i + k → is_at row k (Some j)
    → open_slots i (take (suc k) row) ≡ open_slots i (take k row) ++ n ∷ []
open_some i k n [] j is e = absurd (some-ne-none (Some j) (sym e))
open_some i zero n (None ∷ row) j is e = let x : ◌≡◌ {A = Option Job} None (Some j) = some-injective None (Some j) e in absurd (cc)
open_some i zero n (Some h ∷ row) j is e = let same : i ≡ n = omega arith in ap (λ (x : ℕ). x ∷ []) same
open_some i (suc k) n (None ∷ row) j is e = open_some (i + 1) k n row j (omega arith) e
open_some i (suc k) n (Some h ∷ row) j is e = ap (λ (l : List ℕ). i ∷ l) (open_some (i + 1) k n row j (omega arith) e)

-- ---- posts and hand-outs in turn

abbrev pub kept : Bool → Finished → List Finished
kept true d = d ∷ []
kept false d = []

posts_one : (b c : BookState) (d : Finished) (is : Bool) → PostsOne is b d c → Posts b (d ∷ []) (kept is d) c
posts_one b c d true q = inl (c, [], q, refl, (refl, refl))
posts_one b c d false q = inr (q.0, q.1, q.2, (refl, q.3))

posts_append : (b m c : BookState) (ds xs es ys : List Finished) → Posts b ds xs m → Posts m es ys c → Posts b (ds ++ es) (xs ++ ys) c
posts_append b m c [] xs es ys p q = subst (λ (x : List Finished × BookState). Posts x.1 es (x.0 ++ ys) c) (λ i. (sym p.0 i, p.1 i)) q
posts_append b m c (d ∷ ds) xs es ys (inl p) q = inl (p.0, p.1 ++ ys, p.2, ap (λ (l : List Finished). l ++ ys) p.3, posts_append p.0 m c ds p.1 es ys p.4 q)
posts_append b m c (d ∷ ds) xs es ys (inr p) q = inr (p.0, p.1, p.2, posts_append b m c ds xs es ys p.3 q)

pub hands_more : (b m c : BookState) (js : List Job) (j : Job) → HandsOut b js m → handed_out m ≡ Ok (Some j, c) → HandsOut b (js ++ j ∷ []) c
hands_more b m c [] j h e = (c, subst (λ (x : BookState). handed_out x ≡ Ok (Some j, c)) h e, refl)
hands_more b m c (i ∷ js) j h e = (h.0, h.1, hands_more h.0 m c js j h.2 e)

-- ---- results in

pub begins_receiving : (a : AskerModel) (b : BookState) → Receiving a b 0 0 a b
begins_receiving a b = record {
  looks = [];
  results = [];
  accepted = [];
  looked = sym (append-nil a.looks);
  received = sym (append-nil a.received);
  offered = refl;
  slots = refl;
  behind = λ i h. refl;
  shown = refl;
  posts = (refl, refl);
  journal = sym (append-nil b.desk.journal);
  balance = omega arith;
  count = refl;
  same = (refl, refl);
}

pub from_bool_small : (is : Bool) → from_bool is ≤ 1
from_bool_small true = omega arith
from_bool_small false = omega arith

kept_one : (is : Bool) (d : Finished) → length (kept is d) ≡ from_bool is
kept_one true d = refl
kept_one false d = refl

module _ (a a₁ a₂ : AskerModel) (b b₁ b₂ : BookState) (k n : ℕ) (is : Bool) (r : Receiving a b k n a₁ b₁) where
  -- what was looked at, received and posted at one place more
  with_place : (looks : List Look) (results accepted : List Finished) (row : List (Option Job))
      → a₂ ≡ record a₁ { looks = a₁.looks ++ looks; received = a₁.received ++ results; row = row }
      → open_slots (8 * a.number) (take (suc k) a.row) ≡ open_slots (8 * a.number) (take k a.row) ++ slots_of looks
      → ((i : ℕ) → suc k ≤ i → get_elem? row i ≡ get_elem? a₁.row i) → showing is_finished looks ≡ length results → Posts b₁ results accepted b₂
      → b₂.desk.journal ≡ b₁.desk.journal ++ map post_of accepted → jobs a₂.row + length results ≡ jobs a₁.row → length accepted ≡ from_bool is
      → Receiving a b (suc k) (n + from_bool is) a₂ b₂
  with_place looks results accepted row now slots behind shown posts journal balance count = record {
    looks = r.looks ++ looks;
    results = r.results ++ results;
    accepted = r.accepted ++ accepted;
    looked = grown a.looks r.looks looks r.looked (ap (λ (x : AskerModel). x.looks) now);
    received = grown a.received r.results results r.received (ap (λ (x : AskerModel). x.received) now);
    offered = ap (λ (x : AskerModel). x.offered) now ∙ r.offered;
    slots = map-append (λ l. l.slot) r.looks looks ∙ ap (λ (l : List ℕ). l ++ slots_of looks) r.slots ∙ sym slots;
    behind = λ i h. ap (λ (x : AskerModel). get_elem? x.row i) now ∙ behind i h ∙ r.behind i (omega arith);
    shown = omega (arith, showing-append is_finished r.looks looks, r.shown, shown, length-append r.results results);
    posts = posts_append b b₁ b₂ r.results r.accepted results accepted r.posts posts;
    journal =
        grown b.desk.journal (map post_of r.accepted) (map post_of accepted) r.journal journal
        ∙ ap (λ (l : List Entry). b.desk.journal ++ l) (sym (map-append post_of r.accepted accepted));
    balance = omega (arith, balance, r.balance, length-append r.results results);
    count = omega (arith, length-append r.accepted accepted, count, r.count);
    same = (ap (λ (x : AskerModel). x.table) now ∙ r.same.0, ap (λ (x : AskerModel). x.number) now ∙ r.same.1);
  }

  -- nothing was received there
  with_looks : (looks : List Look) → a₂ ≡ record a₁ { looks = a₁.looks ++ looks }
      → open_slots (8 * a.number) (take (suc k) a.row) ≡ open_slots (8 * a.number) (take k a.row) ++ slots_of looks
      → showing is_finished looks ≡ 0 → b₂ ≡ b₁ → is ≡ false → Receiving a b (suc k) (n + from_bool is) a₂ b₂
  with_looks looks now slots none same refused =
      with_place looks [] [] a₁.row (now ∙ (λ i. record a₁ { looks = a₁.looks ++ looks; received = sym (append-nil a₁.received) i }))
      slots (λ i h. refl) none (refl, same) (ap (λ (x : BookState). x.desk.journal) same ∙ sym (append-nil b₁.desk.journal))
      (omega (arith, ap (λ (x : AskerModel). jobs x.row) now)) (sym (ap from_bool refused))

  at_place : (x : Option Job) → is_at a₁.row k x → is_at a.row k x
  at_place x e = sym (r.behind k (omega arith)) ∙ e

  slot_more : (j : Job) → is_at a₁.row k (Some j)
      → open_slots (8 * a.number) (take (suc k) a.row) ≡ open_slots (8 * a.number) (take k a.row) ++ (8 * a₁.number + k) ∷ []
  slot_more j e = open_some (8 * a.number) k (8 * a₁.number + k) a.row j (omega (arith, r.same.1)) (at_place (Some j) e)

  noted_one : (d : Finished) (was : Bool) → PostsAreNoted → PostsOne was b₁ d b₂ → b₂.desk.journal ≡ b₁.desk.journal ++ map post_of (kept was d)
  noted_one d true noted q = noted b₁ d.job d.ran b₂ q
  noted_one d false noted q = ap (λ (x : BookState). x.desk.journal) q.3 ∙ sym (append-nil b₁.desk.journal)

  polled_place : PostsAreNoted → Polls a₁ b₁ k is a₂ b₂ → Receiving a b (suc k) (n + from_bool is) a₂ b₂
  polled_place noted (inl q) =
      with_looks [] (q.1 ∙ (λ i. record a₁ { looks = sym (append-nil a₁.looks) i }))
      (open_none (8 * a.number) k a.row (at_place None q.0) ∙ sym (append-nil (open_slots (8 * a.number) (take k a.row)))) refl q.2 q.3
  polled_place noted (inr (inl q)) =
      let f = q.1.0 in with_looks (look (8 * a₁.number + k) f ∷ []) q.1.2 (slot_more q.0.0 q.0.1) (omega (arith, not_shown f q.1.1)) q.2 q.3
  polled_place noted (inr (inr q)) =
      let d = q.0 in let p = row_place a₁ (8 * a₁.number + k) in let at : p ≡ k = omega arith in
      with_place (look (8 * a₁.number + k) found.Finished ∷ []) (d ∷ []) (kept is d) (slice_set a₁.row p None) q.1.1
      (slot_more d.job (subst (λ (x : ℕ). is_at a₁.row x (Some d.job)) at q.1.0))
      (λ i h. set_else a₁.row p i None (λ e. omega (arith, at, h, e))) (omega arith)
      (posts_one b₁ b₂ d is q.3) (noted_one d is noted q.3) (omega (arith, q.2)) (kept_one is d)

  pub polled : PostsAreNoted → Polls a₁ b₁ k is a₂ b₂ → Receiving a b (k + 1) (n + from_bool is) a₂ b₂
  polled noted p = subst (λ (x : ℕ). Receiving a b x (n + from_bool is) a₂ b₂) (sym (add-one k)) (polled_place noted p)

-- ---- jobs out

abbrev pub begins_offering : (a : AskerModel) (b : BookState) → Offering a b 0 a b
begins_offering a b = record {
  handed = [];
  offered = sym (append-nil a.offered);
  looked = refl;
  received = refl;
  hands = refl;
  journal = sym (append-nil b.desk.journal);
  balance = omega arith;
  count = refl;
  same = (refl, refl);
}

pub offers_one : (a a₁ a₂ : AskerModel) (b b₁ b₂ : BookState) (n : ℕ) → Offering a b n a₁ b₁ → HandOutsAreNoted → OffersNext a₁ b₁ true a₂ b₂
    → Offering a b (suc n) a₂ b₂
offers_one a a₁ a₂ b b₁ b₂ n r noted o = let j = o.0 in let now = o.3.1 in record {
  handed = r.handed ++ j ∷ [];
  offered = grown a.offered r.handed (j ∷ []) r.offered (ap (λ (x : AskerModel). x.offered) now);
  looked = ap (λ (x : AskerModel). x.looks) now ∙ r.looked;
  received = ap (λ (x : AskerModel). x.received) now ∙ r.received;
  hands = hands_more b b₁ b₂ r.handed j r.hands o.2;
  journal =
      grown b.desk.journal (replicate (length r.handed) (entry.Call call.HandOut)) (entry.Call call.HandOut ∷ []) r.journal (noted b₁ j b₂ o.2)
      ∙ ap (λ (l : List Entry). b.desk.journal ++ l) (replicate-append-replicate (length r.handed) 1 (entry.Call call.HandOut))
      ∙ ap (λ (n : ℕ). b.desk.journal ++ replicate n (entry.Call call.HandOut)) (sym (length-append r.handed (j ∷ [])));
  balance = omega (arith, r.balance, o.4);
  count = omega (arith, length-append r.handed (j ∷ []), r.count);
  same = (ap (λ (x : AskerModel). x.table) now ∙ r.same.0, ap (λ (x : AskerModel). x.number) now ∙ r.same.1);
}

-- ---- one place

pub polls_received : (a a' : AskerModel) (b b' : BookState) (k i : ℕ) (is : Bool) (d : Finished) → i ≡ 8 * a.number + k → Receives a i d a'
    → jobs a'.row + 1 ≡ jobs a.row → PostsOne is b d b' → Polls a b k is a' b'
polls_received a a' b b' k i is d at t fewer q = inr (inr (d, subst (λ (x : ℕ). Receives a x d a') at t, fewer, q))
