-- SPDX-License-Identifier: GPL-2.0-only
-- Where the deeds of one seat stand in a line, and where the events of one kind stand among others.
use Rattle.shr_lawful.proofs.Common.{◌≡◌, ℕ, zero, suc, ◌<◌, ◌≤◌, inl, Bool, true, false, cond, List, [], ◌∷◌, ◌++◌, length, sym, refl, ap, subst, ◌∙◌, arith, ◌==◌, some, some-injective, some-ne-none, get_elem?, Has, Deed, part, among, Event}

-- ---- the deeds of a seat
-- where in a line the deed of a seat with this number stands
abbrev pub spot_of : ℕ → List (Deed Event) → ℕ → ℕ
spot_of j [] p = 0
spot_of j (d ∷ ds) zero = cond (d.seat == j) 0 (suc (spot_of j ds zero))
spot_of j (d ∷ ds) (suc p) = suc (spot_of j ds (cond (d.seat == j) p (suc p)))

pub spot_there : (j : ℕ) (line : List (Deed Event)) (p : ℕ) (d : Deed Event) → get_elem? (part j line) p ≡ some d → get_elem? line (spot_of j line p) ≡ some d
spot_there j [] p d e = absurd (some-ne-none d (sym e))
spot_there j (x ∷ xs) zero d e = one (x.seat == j) (spot_there j xs zero d) e where
  one : (b : Bool) → (get_elem? (part j xs) zero ≡ some d → get_elem? xs (spot_of j xs zero) ≡ some d)
      → get_elem? (cond b (x ∷ part j xs) (part j xs)) zero ≡ some d → get_elem? (x ∷ xs) (cond b 0 (suc (spot_of j xs zero))) ≡ some d
  one true rest h = h
  one false rest h = rest h
spot_there j (x ∷ xs) (suc p) d e = one (x.seat == j) (λ q. spot_there j xs q d) e where
  one : (b : Bool) → ((q : ℕ) → get_elem? (part j xs) q ≡ some d → get_elem? xs (spot_of j xs q) ≡ some d)
      → get_elem? (cond b (x ∷ part j xs) (part j xs)) (suc p) ≡ some d → get_elem? xs (spot_of j xs (cond b p (suc p))) ≡ some d
  one true rest h = rest p h
  one false rest h = rest (suc p) h

pub spots_rise : (j : ℕ) (line : List (Deed Event)) (p q : ℕ) (d : Deed Event) → get_elem? (part j line) q ≡ some d → p < q → spot_of j line p < spot_of j line q
spots_rise j [] p q d e lt = absurd (some-ne-none d (sym e))
spots_rise j (x ∷ xs) p zero d e lt = absurd (omega (arith, lt))
spots_rise j (x ∷ xs) zero (suc q) d e lt = one (x.seat == j) (λ h. spots_rise j xs zero (suc q) d h (omega arith)) e where
  one : (b : Bool) → (get_elem? (part j xs) (suc q) ≡ some d → spot_of j xs zero < spot_of j xs (suc q))
      → get_elem? (cond b (x ∷ part j xs) (part j xs)) (suc q) ≡ some d → cond b 0 (suc (spot_of j xs zero)) < suc (spot_of j xs (cond b q (suc q)))
  one true rest h = omega arith
  one false rest h = let less = rest h in omega (arith, less)
spots_rise j (x ∷ xs) (suc p) (suc q) d e lt = one (x.seat == j) (λ m n. spots_rise j xs m n d) e where
  one : (b : Bool) → ((m n : ℕ) → get_elem? (part j xs) n ≡ some d → m < n → spot_of j xs m < spot_of j xs n)
      → get_elem? (cond b (x ∷ part j xs) (part j xs)) (suc q) ≡ some d → suc (spot_of j xs (cond b p (suc p))) < suc (spot_of j xs (cond b q (suc q)))
  one true rest h = let less = rest p q h (omega (arith, lt)) in omega (arith, less)
  one false rest h = let less = rest (suc p) (suc q) h (omega (arith, lt)) in omega (arith, less)

-- ---- the first that passes a test
abbrev pub first_of : (Event → Bool) → List (Deed Event) → ℕ
first_of test [] = 0
first_of test (d ∷ ds) = cond (test d.act) 0 (suc (first_of test ds))

abbrev pub Passes : (Event → Bool) → List (Deed Event) → ℕ → Type 0
Passes test line i = (d : Deed Event) × (get_elem? line i ≡ some d) × (test d.act ≡ true)

pub first_there : (test : Event → Bool) (line : List (Deed Event)) (i : ℕ) → Passes test line i → Passes test line (first_of test line)
first_there test [] i h = absurd (some-ne-none h.0 (sym h.1))
first_there test (x ∷ xs) i h = one (test x.act) refl (first_there test xs) i h where
  one : (b : Bool) → test x.act ≡ b → ((k : ℕ) → Passes test xs k → Passes test xs (first_of test xs)) → (k : ℕ) → Passes test (x ∷ xs) k → Passes test (x ∷ xs) (cond b 0 (suc (first_of test xs)))
  one true t rest k p = (x, refl, t)
  one false t rest zero p = let both : true ≡ false = sym p.2 ∙ (ap (λ (z : Deed Event). test z.act) (sym (some-injective x p.0 p.1)) ∙ t) in absurd (cc)
  one false t rest (suc k) p = rest k p

-- ---- the events of one kind, of which each event gives at most one
-- where the one with this number stands, by what the first event gives
abbrev pub behind : {A : Type 0} → List A → (ℕ → ℕ) → ℕ → ℕ
behind [] rest i = suc (rest i)
behind (y ∷ ys) rest zero = 0
behind (y ∷ ys) rest (suc i) = suc (rest i)

abbrev pub kind_spot : {A : Type 0} → (Event → List A) → List Event → ℕ → ℕ
kind_spot f [] i = 0
kind_spot f (e ∷ es) i = behind (f e) (λ k. kind_spot f es k) i

module _ {A : Type 0} (f : Event → List A) (single : (e : Event) → length (f e) ≤ 1) where
  abbrev IsThere : List Event → ℕ → A → Type 0
  IsThere es i y = (e : Event) × (get_elem? es i ≡ some e) × Has (f e) y

  pub kind_there : (es : List Event) (i : ℕ) (y : A) → get_elem? (among f es) i ≡ some y → IsThere es (kind_spot f es i) y
  kind_there [] i y at = absurd (some-ne-none y (sym at))
  kind_there (e ∷ es) i y at = one (f e) refl (λ k. kind_there es k y) i at where
    one : (l : List A) → f e ≡ l → ((k : ℕ) → get_elem? (among f es) k ≡ some y → IsThere es (kind_spot f es k) y) → (k : ℕ) → get_elem? (l ++ among f es) k ≡ some y → IsThere (e ∷ es) (behind l (λ n. kind_spot f es n) k) y
    one [] is rest k h = rest k h
    one (z ∷ zs) is rest zero h = (e, refl, subst (λ l. Has l y) (sym is) (inl (some-injective z y h)))
    one (z ∷ []) is rest (suc k) h = rest k h
    one (z ∷ u ∷ zs) is rest (suc k) h = absurd (omega (arith, single e, ap length is))

  pub kinds_rise : (es : List Event) (i j : ℕ) → i < j → j < length (among f es) → kind_spot f es i < kind_spot f es j
  kinds_rise [] i j lt less = absurd (omega (arith, less))
  kinds_rise (e ∷ es) i j lt less = one (f e) refl (kinds_rise es) i j lt less where
    one : (l : List A) → f e ≡ l → ((m n : ℕ) → m < n → n < length (among f es) → kind_spot f es m < kind_spot f es n) → (m n : ℕ) → m < n → n < length (l ++ among f es)
        → behind l (λ k. kind_spot f es k) m < behind l (λ k. kind_spot f es k) n
    one [] is rest m n lt less = let up = rest m n lt less in omega (arith, up)
    one (z ∷ zs) is rest m zero lt less = absurd (omega (arith, lt))
    one (z ∷ zs) is rest zero (suc n) lt less = omega arith
    one (z ∷ []) is rest (suc m) (suc n) lt less = let up = rest m n (omega (arith, lt)) (omega (arith, less)) in omega (arith, up)
    one (z ∷ u ∷ zs) is rest (suc m) (suc n) lt less = absurd (omega (arith, single e, ap length is))

  -- one behind those of a beginning stands behind it
  pub kind_from : (es fs : List Event) (i : ℕ) → length (among f es) ≤ i → i < length (among f (es ++ fs)) → length es ≤ kind_spot f (es ++ fs) i
  kind_from [] fs i le less = omega arith
  kind_from (e ∷ es) fs i le less = one (f e) refl (kind_from es fs) i le less where
    one : (l : List A) → f e ≡ l → ((k : ℕ) → length (among f es) ≤ k → k < length (among f (es ++ fs)) → length es ≤ kind_spot f (es ++ fs) k)
        → (k : ℕ) → length (l ++ among f es) ≤ k → k < length (l ++ among f (es ++ fs)) → suc (length es) ≤ behind l (λ n. kind_spot f (es ++ fs) n) k
    one [] is rest k le less = let up = rest k le less in omega (arith, up)
    one (z ∷ zs) is rest zero le less = absurd (omega (arith, le))
    one (z ∷ []) is rest (suc k) le less = let up = rest k (omega (arith, le)) (omega (arith, less)) in omega (arith, up)
    one (z ∷ u ∷ zs) is rest (suc k) le less = absurd (omega (arith, single e, ap length is))

  -- and one of a beginning stands in it
  pub kind_within : (es fs : List Event) (i : ℕ) → i < length (among f es) → kind_spot f (es ++ fs) i < length es
  kind_within [] fs i less = absurd (omega (arith, less))
  kind_within (e ∷ es) fs i less = one (f e) refl (kind_within es fs) i less where
    one : (l : List A) → f e ≡ l → ((k : ℕ) → k < length (among f es) → kind_spot f (es ++ fs) k < length es) → (k : ℕ) → k < length (l ++ among f es) → behind l (λ n. kind_spot f (es ++ fs) n) k < suc (length es)
    one [] is rest k less = let up = rest k less in omega (arith, up)
    one (z ∷ zs) is rest zero less = omega arith
    one (z ∷ []) is rest (suc k) less = let up = rest k (omega (arith, less)) in omega (arith, up)
    one (z ∷ u ∷ zs) is rest (suc k) less = absurd (omega (arith, single e, ap length is))
