-- SPDX-License-Identifier: GPL-2.0-only
-- A charge history in which each refused up is taken back ends within the limit.
use Rattle.shr_lawful.proofs.Common.{◌≡◌, ℕ, ◌+◌, ◌≤◌, ◌≢◌, ◌⊎◌, inl, inr, ⊎_elim, Bool, true, false, not, cond, List, [], ◌∷◌, ◌++◌, length, length-append, take, drop, sym, refl, ap, subst, ◌∙◌, arith, eqb, append_assoc, slice_get, Some, find, filter, pos, ◌-ℤ◌, MatchOption, AllByRecursion, and_parts, and_from, cases_lt, cases_Bool, sum_by-append, sum_by-cons, append-nil, take_at, ints, UseStep, Serial, ups, downs, usage_after, is_by, IsDownNext, AreTakenBack, IsChargeHistory, is_serial, AreApart, each_weaker, Has, filter_has, each_has, serial_itself, drop_at, AreApart_filter}
pub use Rattle.shr_model.proofs.Weights.{is_serial_same as serial_same}
use Rattle.shr_model.proofs.ChargeLaws.{ups_push}

-- the serials that wait for their down, and those without one
abbrev waits_not : Serial → Serial → Bool
waits_not b c = not (is_serial b c)

-- one that waits is one of them, or none is it
waiting : (b : Serial) (p : List Serial) → Has p b ⊎ AllByRecursion (λ c. is_serial b c ≡ false) p
waiting b [] = inr tt
waiting b (c ∷ p) = elim (cases_Bool (is_serial b c)) [
  | inl same ↦ inl (inl (sym (serial_same b c same)))
  | inr other ↦ ⊎_elim (λ h. inl (inr h)) (λ h. inr (other, h)) (waiting b p)
]

none_out : (b : Serial) (p : List Serial) → AllByRecursion (λ c. is_serial b c ≡ false) p → length (filter (waits_not b) p) ≡ length p
none_out b [] h = refl
none_out b (c ∷ p) h = ap (λ t. length (cond (not t) (c ∷ filter (waits_not b) p) (filter (waits_not b) p))) h.0 ∙ omega (arith, none_out b p h.1)

apart_out : (b : Serial) (p : List Serial) → AllByRecursion (λ c. b ≢ c) p → AllByRecursion (λ c. is_serial b c ≡ false) p
apart_out b p h = each_weaker (λ c. b ≢ c) (λ c. is_serial b c ≡ false) (λ c ne. elim (cases_Bool (is_serial b c)) [
  | inl same ↦ absurd (ne (serial_same b c same))
  | inr other ↦ other
]) p h

-- without one that waited there is one fewer
one_out : (b : Serial) (p : List Serial) → AreApart p → Has p b → length p ≡ length (filter (waits_not b) p) + 1
one_out b [] apart has = absurd has
one_out b (c ∷ p) apart (inl here) = let e : is_serial b c ≡ true = ap (is_serial b) here ∙ serial_itself b in
    omega (arith, ap (λ t. length (cond (not t) (c ∷ filter (waits_not b) p) (filter (waits_not b) p))) e, none_out b p (apart_out b p (subst (λ z. AllByRecursion (λ d. z ≢ d) p) here apart.0)))
one_out b (c ∷ p) apart (inr later) = elim (cases_Bool (is_serial b c)) [
  | inl same ↦ absurd (each_has (λ d. c ≢ d) p b apart.0 later (sym (serial_same b c same)))
  | inr other ↦ omega (arith, ap (λ t. length (cond (not t) (c ∷ filter (waits_not b) p) (filter (waits_not b) p))) other, one_out b p apart.1 later)
]

-- who waits after an operation
still_waits : (c : Serial) (o : UseStep) (rest : List UseStep) → is_serial o.by c ≡ false → IsDownNext c (o ∷ rest) → IsDownNext c rest
still_waits c o rest other h = subst (λ b. MatchOption (cond b (Some o) (find (is_by c) rest)) ⊥ (λ q. q.up ≡ false)) (not_by) h where
  not_by : is_by c o ≡ false
  not_by = elim (cases_Bool (is_by c o)) [
    | inl same ↦ let t = and_parts (eqb o.by.worker c.worker) (eqb o.by.command c.command) same in let f : true ≡ false = sym (and_from (eqb o.by.worker c.worker) (eqb o.by.command c.command) t.0 t.1) ∙ other in cc
    | inr no_it ↦ no_it
  ]

waits_no_more : (o : UseStep) (rest : List UseStep) → IsDownNext o.by (o ∷ rest) → o.up ≡ false
waits_no_more o rest h = subst (λ b. MatchOption (cond b (Some o) (find (is_by o.by) rest)) ⊥ (λ q. q.up ≡ false)) (serial_itself o.by) h

downs_push : (xs : List UseStep) (o : UseStep) → downs (xs ++ o ∷ []) ≡ downs xs + cond (not o.up) 1 0
downs_push xs o = omega (arith, sum_by-append (λ (q : UseStep). cond (not q.up) 1 0) xs (o ∷ []), sum_by-cons (λ (q : UseStep). cond (not q.up) 1 0) o [])

module _ (g limit : ℕ) (ops : List UseStep) (history : IsChargeHistory g ops) (taken : AreTakenBack (Some limit) ops) where
  -- from any point on
  within_from : (before rest : List UseStep) (p : List Serial) → ops ≡ before ++ rest → AreApart p → AllByRecursion (λ c. IsDownNext c rest) p → ups before ≤ downs before + limit + length p → ups ops ≤ downs ops + limit
  within_from before [] [] e apart waits most = let same : ops ≡ before = e ∙ append-nil before in omega (arith, ap ups same, ap downs same, most)
  within_from before [] (c ∷ p) e apart waits most = absurd waits.0
  within_from before (o ∷ rest) p e apart waits most = ⊎_elim
      (λ has. let p' = filter (waits_not o.by) p in
      within_from (before ++ o ∷ []) rest p' longer (AreApart_filter (waits_not o.by) p apart)
      (waits_of p' (λ c h. let f = filter_has (waits_not o.by) p c h in still_waits c o rest (not_serial o.by c f.1) (each_has (λ z. IsDownNext z (o ∷ rest)) p c waits f.0)))
      (let down : o.up ≡ false = waits_no_more o rest (each_has (λ z. IsDownNext z (o ∷ rest)) p o.by waits has) in
      omega (arith, most, one_out o.by p apart has, ups_push before o, downs_push before o, ap (λ b. cond {A = ℕ} b 1 0) down, ap (λ b. cond {A = ℕ} (not b) 1 0) down)))
      (λ none. let kept : AllByRecursion (λ c. IsDownNext c rest) p = waits_of p (λ c h. still_waits c o rest (each_has (λ z. is_serial o.by z ≡ false) p c none h) (each_has (λ z. IsDownNext z (o ∷ rest)) p c waits h)) in
      elim (cases_Bool o.up) [
        | inl up ↦ ⊎_elim
            (λ below. within_from (before ++ o ∷ []) rest p longer apart kept (omega (arith, below, ups_push before o, downs_push before o, ap (λ b. cond {A = ℕ} b 1 0) up, ap (λ b. cond {A = ℕ} (not b) 1 0) up)))
            (λ full. within_from (before ++ o ∷ []) rest (o.by ∷ p) longer (each_weaker (λ c. is_serial o.by c ≡ false) (λ c. o.by ≢ c) (λ c f same. let t : true ≡ false = sym (ap (is_serial o.by) (sym same) ∙ serial_itself o.by) ∙ f in cc) p none, apart)
            (next up full, kept) (omega (arith, most, ups_push before o, downs_push before o, ap (λ b. cond {A = ℕ} b 1 0) up, ap (λ b. cond {A = ℕ} (not b) 1 0) up)))
            (cases_lt (ups before) (downs before + limit))
        | inr down ↦ within_from (before ++ o ∷ []) rest p longer apart kept (omega (arith, most, ups_push before o, downs_push before o, ap (λ b. cond {A = ℕ} b 1 0) down, ap (λ b. cond {A = ℕ} (not b) 1 0) down))
      ])
      (waiting o.by p) where
        longer : ops ≡ (before ++ o ∷ []) ++ rest
        longer = e ∙ sym (append_assoc before (o ∷ []) rest)

        here : slice_get ops (length before) ≡ Some o
        here = ap (λ l. slice_get l (length before)) e ∙ at_end before where
          at_end : (xs : List UseStep) → slice_get (xs ++ o ∷ rest) (length xs) ≡ Some o
          at_end [] = refl
          at_end (x ∷ xs) = at_end xs

        found : o.found ≡ pos (ups before) -ℤ pos (downs before)
        found = (history (length before) o here).found ∙ ap usage_after (ap (take (length before)) e ∙ take_at before (o ∷ rest) (length before) refl)

        after : drop (length before + 1) ops ≡ rest
        after = ap (drop (length before + 1)) longer ∙ drop_at (before ++ o ∷ []) rest (length before + 1) (length-append before (o ∷ []))

        next : o.up ≡ true → downs before + limit ≤ ups before → IsDownNext o.by rest
        next up full = subst (IsDownNext o.by) after (taken (length before) o here up (λ below. omega (arith, ints, below, found, full)))

        not_serial : (b c : Serial) → waits_not b c ≡ true → is_serial b c ≡ false
        not_serial b c h = elim (cases_Bool (is_serial b c)) [
          | inl same ↦ let f : false ≡ true = sym (ap not same) ∙ h in cc
          | inr other ↦ other
        ]

        waits_of : (q : List Serial) → ((c : Serial) → Has q c → IsDownNext c rest) → AllByRecursion (λ c. IsDownNext c rest) q
        waits_of [] h = tt
        waits_of (c ∷ q) h = (h c (inl refl), waits_of q (λ d has. h d (inr has)))

  pub within_limit : ups ops ≤ downs ops + limit
  within_limit = within_from [] ops [] refl tt tt (omega arith)
