-- The numbers of messages after one more is sent.
use Rattle.std.proofs.Common.{◌≡◌, ◌<◌, ℕ, Bool, true, false, cond, List, [], ◌∷◌, ◌++◌, refl, sym, ap, ◌∙◌, subst, inl, inr, arith, true≢false}
use Rattle.std.specs.Prelude.{bytes_eq, length, Option, Some, None, is_some, slice_get}
use Rattle.std.proofs.lemmas.Option.{slice_get_within}
use Rattle.std.proofs.lemmas.Slice.Eq.{bytes_eq-Decides}
use Rattle.forms.proofs.Appended.{slice_get_front, slice_get_last}
use Rattle.sc_msg.specs.declared.message.Message.{Message}
use Rattle.sc_msg.specs.declared.version.Version.TheVariants.{Second}
use Rattle.sc_msg.specs.Messages.{message_bytes, IsMessage}
use Rattle.q_desk.proofs.Lists.{get-snoc}
use Rattle.q_history.proofs.Lists.{none-some, get_snoc}
use Rattle.q_gather.specs.Numbers.{NumberList, number_of, added, IsLeastNumber, AreNumbers}
use Rattle.q_gather.proofs.Table.{none_there}

-- a message has one spelling
abbrev pub OneSpelling : Type 0
OneSpelling = (m n : Message) → IsMessage Second m → IsMessage Second n → message_bytes Second m ≡ message_bytes Second n → m ≡ n

-- of two alternatives
last_by : (b : Bool) (k : ℕ) (rest more want : Option ℕ) → cond b (Some k) rest ≡ None → (rest ≡ None → more ≡ want) → cond b (Some k) more ≡ want
last_by true k rest more want h f = absurd (none-some k (sym h))
last_by false k rest more want h f = f h

first_by : (b : Bool) (k n : ℕ) (rest more : Option ℕ) → cond b (Some k) rest ≡ Some n → (rest ≡ Some n → more ≡ Some n) → cond b (Some k) more ≡ Some n
first_by true k n rest more h f = h
first_by false k n rest more h f = f h

-- what stands at the end is found where nothing before it is
number_last : (bytes other : List ℕ) (n : ℕ) (es : NumberList) → number_of bytes es ≡ None
    → number_of bytes (es ++ (other, n) ∷ []) ≡ cond (bytes_eq bytes other) (Some n) None
number_last bytes other n [] none = refl
number_last bytes other n (e ∷ es) none =
    last_by (bytes_eq bytes e.0) e.1 (number_of bytes es) (number_of bytes (es ++ (other, n) ∷ []))
    (cond (bytes_eq bytes other) (Some n) None) none (λ h. number_last bytes other n es h)

-- what is found stays found
number_first : (bytes other : List ℕ) (n k : ℕ) (es : NumberList) → number_of bytes es ≡ Some k → number_of bytes (es ++ (other, n) ∷ []) ≡ Some k
number_first bytes other n k [] h = absurd (none-some k h)
number_first bytes other n k (e ∷ es) h =
    first_by (bytes_eq bytes e.0) e.1 k (number_of bytes es) (number_of bytes (es ++ (other, n) ∷ [])) h (λ rest. number_first bytes other n k es rest)

earlier : (xs : List Message) (y : Message) (k : ℕ) → k < length xs → slice_get (xs ++ y ∷ []) k ≡ Some y → slice_get xs k ≡ Some y
earlier xs y k less at = elim (get-snoc xs y k y at) [ inl old ↦ old | inr new ↦ absurd (omega (arith, less, new.0)) ]

module _ (one : OneSpelling) (sent : List Message) (es : NumberList) (are : AreNumbers sent es) (m : Message) (legal : IsMessage Second m) where
  -- a message that had a number keeps it
  kept : (x : Message) (n : ℕ) → IsLeastNumber sent x (Some n) → IsLeastNumber (sent ++ m ∷ []) x (Some n)
  kept x n h = (
    slice_get_front sent (m ∷ []) n x h.0,
    λ k less at. elim (get-snoc sent m k x at) [
      | inl old ↦ h.1 k less old
      | inr new ↦ let within : n < length sent = slice_get_within sent n x h.0 in absurd (omega (arith, new.0))
    ],
  )

  -- one that was not sent is still not sent, unless it is this
  not_sent : (x : Message) → IsLeastNumber sent x None → (m ≡ x → ⊥) → IsLeastNumber (sent ++ m ∷ []) x None
  not_sent x h other k at = elim (get_snoc sent m k x at) [ inl old ↦ h k old | inr new ↦ other new ]

  first_sent : IsLeastNumber sent m None → IsLeastNumber (sent ++ m ∷ []) m (Some (length sent))
  first_sent h = (slice_get_last sent m, λ k less at. h k (earlier sent m k less at))

  there_by : (x : Message) → IsMessage Second x → (o : Option ℕ) → number_of (message_bytes Second x) es ≡ o
      → is_some (number_of (message_bytes Second m) es) ≡ true → IsLeastNumber (sent ++ m ∷ []) x o
  there_by x good (Some n) at some = kept x n (subst (IsLeastNumber sent x) at (are x good))
  there_by x good None at some =
      not_sent x (subst (IsLeastNumber sent x) at (are x good))
      (λ same. true≢false (sym some ∙ (λ i. is_some (number_of (message_bytes Second (same i)) es)) ∙ (λ i. is_some (at i))))

  new_by : (x : Message) → IsMessage Second x → (o : Option ℕ) → number_of (message_bytes Second x) es ≡ o → number_of (message_bytes Second m) es ≡ None
      → IsLeastNumber (sent ++ m ∷ []) x (number_of (message_bytes Second x) (es ++ (message_bytes Second m, length sent) ∷ []))
  new_by x good (Some n) at none =
      subst (IsLeastNumber (sent ++ m ∷ []) x) (sym (number_first (message_bytes Second x) (message_bytes Second m) (length sent) n es at))
      (kept x n (subst (IsLeastNumber sent x) at (are x good)))
  new_by x good None at none =
      subst (IsLeastNumber (sent ++ m ∷ []) x) (sym (number_last (message_bytes Second x) (message_bytes Second m) (length sent) es at))
      (go (bytes_eq (message_bytes Second x) (message_bytes Second m)) refl)
    where
      go : (b : Bool) → bytes_eq (message_bytes Second x) (message_bytes Second m) ≡ b → IsLeastNumber (sent ++ m ∷ []) x (cond b (Some (length sent)) None)
      go true is =
          let same : m ≡ x = one m x legal good (sym ((bytes_eq-Decides (message_bytes Second x) (message_bytes Second m)).0 is)) in
          subst (λ (y : Message). IsLeastNumber (sent ++ m ∷ []) y (Some (length sent))) same (first_sent (subst (IsLeastNumber sent m) none (are m legal)))
      go false is =
          not_sent x (subst (IsLeastNumber sent x) at (are x good))
          (λ same. true≢false (sym ((bytes_eq-Decides (message_bytes Second x) (message_bytes Second m)).1 (ap (message_bytes Second) (sym same))) ∙ is))

  by_test : (b : Bool) → is_some (number_of (message_bytes Second m) es) ≡ b
      → AreNumbers (sent ++ m ∷ []) (cond b es (es ++ (message_bytes Second m, length sent) ∷ []))
  by_test true is x good = there_by x good (number_of (message_bytes Second x) es) refl is
  by_test false is x good = new_by x good (number_of (message_bytes Second x) es) refl (none_there (number_of (message_bytes Second m) es) is)

  pub numbers_on : AreNumbers (sent ++ m ∷ []) (added (message_bytes Second m) (length sent) es)
  numbers_on = by_test (is_some (number_of (message_bytes Second m) es)) refl

pub no_numbers : AreNumbers [] []
no_numbers m legal k at = absurd (none-some m at)
