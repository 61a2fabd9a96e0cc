-- SPDX-License-Identifier: GPL-2.0-only
-- A line in which the seats of the strands have the strands' numbers.
use Rattle.shr_deferred.proofs.Common.{◌≡◌, ◌≢◌, ◌⊎◌, ℕ, zero, suc, ◌<◌, cond, List, [], ◌∷◌, map, length, sym, refl, ap, subst, ◌∙◌, arith, eq-eqb, ne_eqb, dite, ℕ_discrete, dec_lt, some, some-injective, some-ne-none, get_elem?, Deed, by_seat, part, state_after, AreSo, View, Move, Moves, AreStrands, Amounts, TakesAll, amounts_next, strands_in, strand_at, inl, inr}
use Rattle.shr_deferred.proofs.Strands.{at_past}

-- ---- which of the first numbers has a name
abbrev Named : (ℕ → ℕ) → ℕ → ℕ → Type 0
Named name n j = (k : ℕ) × (k < n) × (name k ≡ j)

abbrev Unnamed : (ℕ → ℕ) → ℕ → ℕ → Type 0
Unnamed name n j = (k : ℕ) → k < n → name k ≢ j

found_more : (name : ℕ → ℕ) (n j : ℕ) → name n ≢ j → Named name n j ⊎ Unnamed name n j → Named name (suc n) j ⊎ Unnamed name (suc n) j
found_more name n j differ (inl t) = let low = t.1 in inl (t.0, omega (arith, low), t.2)
found_more name n j differ (inr h) = inr (λ k low. dite (ℕ_discrete k n) (λ (e : k ≡ n). subst (λ i. name i ≢ j) (sym e) differ) (λ ne. h k (omega (arith, low, ne))))

find : (name : ℕ → ℕ) (n j : ℕ) → Named name n j ⊎ Unnamed name n j
find name zero j = inr (λ k low. absurd (omega (arith, low)))
find name (suc n) j = dite (ℕ_discrete (name n) j) (λ e. inl (n, omega arith, e)) (λ no. found_more name n j no (find name n j))

-- that number, or else n
number : (name : ℕ → ℕ) (n j : ℕ) → Named name n j ⊎ Unnamed name n j → ℕ
number name n j (inl t) = t.0
number name n j (inr h) = n

has_part : (l : List (Deed Move)) (i : ℕ) (d : Deed Move) → get_elem? l i ≡ some d → part d.seat l ≢ []
has_part [] i d e none = absurd (some-ne-none d (sym e))
has_part (x ∷ xs) zero d e none = let same : (d.seat ≡ x.seat) = ap (λ (y : Deed Move). y.seat) (sym (some-injective x d e)) in
    let filled : x ∷ part d.seat xs ≡ [] = sym (ap (λ b. cond b (x ∷ part d.seat xs) (part d.seat xs)) (eq-eqb x.seat d.seat (sym same))) ∙ none in cc
has_part (x ∷ xs) (suc i) d e none = dite (ℕ_discrete x.seat d.seat)
    (λ same. let filled : x ∷ part d.seat xs ≡ [] = sym (ap (λ b. cond b (x ∷ part d.seat xs) (part d.seat xs)) (eq-eqb x.seat d.seat same)) ∙ none in cc)
    (λ no. has_part xs i d e (sym (ap (λ b. cond b (x ∷ part d.seat xs) (part d.seat xs)) (ne_eqb x.seat d.seat no)) ∙ none))

module _ {views : List View} {id : ℕ} {v : View} (t : AreStrands views id v) where
  abbrev n : ℕ
  n = length (strands_in v)

  -- the number of the strand of a seat
  pub label : ℕ → ℕ
  label j = number t.name n j (find t.name n j)

  named_number : (k j : ℕ) → k < n → t.name k ≡ j → (w : Named t.name n j ⊎ Unnamed t.name n j) → number t.name n j w ≡ k
  unfolding number
  named_number k j low e (inl x) = t.apart x.0 k x.1 low (x.2 ∙ sym e)
  named_number k j low e (inr h) = absurd (h k low e)

  number_named : (k j : ℕ) → k < n → (w : Named t.name n j ⊎ Unnamed t.name n j) → number t.name n j w ≡ k → t.name k ≡ j
  unfolding number
  number_named k j low (inl x) e = ap t.name (sym e) ∙ x.2
  number_named k j low (inr h) e = absurd (omega (arith, low, e))

  number_low : (j : ℕ) (w : Named t.name n j ⊎ Unnamed t.name n j) → (Unnamed t.name n j → ⊥) → number t.name n j w < n
  unfolding number
  number_low j (inl x) h = x.1
  number_low j (inr u) h = absurd (h u)

  label_is : (k j : ℕ) → k < n → t.name k ≡ j → label j ≡ k
  unfolding label
  label_is k j low e = named_number k j low e (find t.name n j)

  label_back : (k j : ℕ) → k < n → label j ≡ k → t.name k ≡ j
  unfolding label
  label_back k j low e = number_named k j low (find t.name n j) e

  label_low : (j : ℕ) → (Unnamed t.name n j → ⊥) → label j < n
  unfolding label
  label_low j h = number_low j (find t.name n j) h

  abbrev pub rename : Deed Move → Deed Move
  rename d = record { seat = label d.seat; act = d.act }

  abbrev pub renamed : List (Deed Move) → List (Deed Move)
  renamed l = map rename l

  part_renamed : (k : ℕ) → k < n → (l : List (Deed Move)) → part k (renamed l) ≡ renamed (part (t.name k) l)
  part_renamed k low [] = refl
  part_renamed k low (d ∷ ds) = dite (ℕ_discrete d.seat (t.name k))
      (λ e. ap (λ b. cond b (rename d ∷ part k (renamed ds)) (part k (renamed ds))) (eq-eqb (label d.seat) k (label_is k d.seat low (sym e)))
      ∙ (ap (λ (l : List (Deed Move)). rename d ∷ l) (part_renamed k low ds) ∙ sym (ap (λ b. renamed (cond b (d ∷ part (t.name k) ds) (part (t.name k) ds))) (eq-eqb d.seat (t.name k) e))))
      (λ no. ap (λ b. cond b (rename d ∷ part k (renamed ds)) (part k (renamed ds))) (ne_eqb (label d.seat) k (λ e. no (sym (label_back k d.seat low e))))
      ∙ (part_renamed k low ds ∙ sym (ap (λ b. renamed (cond b (d ∷ part (t.name k) ds) (part (t.name k) ds))) (ne_eqb d.seat (t.name k) no))))

  rename_by : (j k : ℕ) → label j ≡ k → (ms : Moves) → renamed (by_seat j ms) ≡ by_seat k ms
  rename_by j k e [] = refl
  rename_by j k e (m ∷ ms) = ap (λ i. record { seat = i; act = m } ∷ renamed (by_seat j ms)) e ∙ ap (λ (l : List (Deed Move)). record { seat = k; act = m } ∷ l) (rename_by j k e ms)

  none_past : (k : ℕ) → (k < n → ⊥) → (l : List (Deed Move)) → ((i : ℕ) (d : Deed Move) → get_elem? l i ≡ some d → label d.seat < n) → part k (renamed l) ≡ []
  none_past k past [] low = refl
  none_past k past (d ∷ ds) low = ap (λ b. cond b (rename d ∷ part k (renamed ds)) (part k (renamed ds))) (ne_eqb (label d.seat) k (λ e. past (subst (λ i. i < n) e (low 0 d refl))))
      ∙ none_past k past ds (λ i x at. low (suc i) x at)

  module _ (line : List (Deed Move)) where
    -- it has the strands, and nothing else
    pub parts_renamed : ((j : ℕ) → part j v.did ≡ part j line) → (k : ℕ) → part k (renamed line) ≡ by_seat k (strand_at (strands_in v) k)
    parts_renamed parts k = dite (dec_lt k n)
        (λ low. part_renamed k low line ∙ (ap renamed (sym (parts (t.name k)) ∙ t.theirs k low) ∙ rename_by (t.name k) k (label_is k (t.name k) low refl) (strand_at (strands_in v) k)))
        (λ past. none_past k past line (λ i d at. label_low d.seat (λ h. has_part line i d at (sym (parts d.seat) ∙ t.others d.seat h))) ∙ sym (ap (by_seat k) (at_past (strands_in v) k past)))

  -- each take takes what it took
  pub so_renamed : (w : Amounts) (l : List (Deed Move)) → AreSo amounts_next (λ u d. TakesAll u d.act) w l → AreSo amounts_next (λ u d. TakesAll u d.act) w (renamed l)
  so_renamed w [] all = tt
  so_renamed w (d ∷ ds) all = (all.0, so_renamed (amounts_next w d) ds all.1)

  -- and as much is left
  pub after_renamed : (w : Amounts) (l : List (Deed Move)) → state_after amounts_next w (renamed l) ≡ state_after amounts_next w l
  after_renamed w [] = refl
  after_renamed w (d ∷ ds) = after_renamed (amounts_next w d) ds
