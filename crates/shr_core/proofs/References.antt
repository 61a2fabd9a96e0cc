-- SPDX-License-Identifier: GPL-2.0-only
-- A load that shows no reference stands behind the puts of all lookups before it.
use Rattle.shr_core.proofs.Common.{◌≡◌, ◌⊎◌, ℕ, zero, suc, ◌+◌, ◌<◌, ◌≤◌, ◌-◌, inl, inr, ⊎_elim, Bool, cond, List, [], ◌∷◌, ◌++◌, length, sym, refl, ap, subst, ◌∙◌, arith, eq-eqb, ne_eqb, length-append, dite, ℕ_discrete, some, some-injective, some-ne-none, get_elem?, Deed, AreSo, times, without, times-push_same, times-push_le, times-without_other, Event, Tried, Loaded, counted, made, looked, loaded, turned, put_back, raised, cleared, mapped, Moment, at_start, moment_after, moment_next, IsSo, AreEvents, Holders, no_holders, holders_after, holders_next, IsOwn, AreOwn}

-- as many are left as don't stand there
length_without : (k : ℕ) (xs : List ℕ) → length (without k xs) + times k xs ≡ length xs
length_without k [] = refl
length_without k (x ∷ xs) = let F : Bool → Type 0 = λ b. length (cond b (without k xs) (x ∷ without k xs)) + (cond b 1 0 + times k xs) ≡ length (x ∷ xs) in
    dite (ℕ_discrete x k) (λ e. subst F (sym (eq-eqb x k e)) (omega (arith, length_without k xs))) (λ n. subst F (sym (ne_eqb x k n)) (omega (arith, length_without k xs)))

times_within : (k : ℕ) (xs : List ℕ) → times k xs ≤ length xs
times_within k xs = omega (arith, length_without k xs)

-- the references of a moment are those of the seats
abbrev AreAll : Moment → Holders → Type 0
AreAll t h = (i : ℕ) → length (h i) ≡ t.refs i

stay_all : (t : Moment) (h : Holders) (seat : ℕ) (e : Event) → AreAll t h → IsOwn h seat e → AreAll (moment_after t e) (holders_after h seat e)
stay_all t h seat (counted x) all own i = all i
stay_all t h seat (made x) all own i = all i
stay_all t h seat (looked x) all own i = dite (ℕ_discrete i x.id)
    (λ e. omega (
      arith,
      ap (λ b. length (cond b (h i ++ seat ∷ []) (h i))) (eq-eqb i x.id e),
      ap (λ b. cond b (t.refs i + 1) (t.refs i)) (eq-eqb i x.id e),
      length-append (h i) (seat ∷ []),
      all i,
    ))
    (λ n. omega (arith, ap (λ b. length (cond b (h i ++ seat ∷ []) (h i))) (ne_eqb i x.id n), ap (λ b. cond b (t.refs i + 1) (t.refs i)) (ne_eqb i x.id n), all i))
stay_all t h seat (loaded x) all own i = all i
stay_all t h seat (turned x) all own i = all i
stay_all t h seat (put_back j) all own i = dite (ℕ_discrete i j)
    (λ e. omega (
      arith,
      ap (λ b. length (cond b (without seat (h i)) (h i))) (eq-eqb i j e),
      ap (λ b. cond b (t.refs i - 1) (t.refs i)) (eq-eqb i j e),
      length_without seat (h i),
      ap (λ (n : ℕ). times seat (h n)) e,
      own,
      all i,
    ))
    (λ n. omega (arith, ap (λ b. length (cond b (without seat (h i)) (h i))) (ne_eqb i j n), ap (λ b. cond b (t.refs i - 1) (t.refs i)) (ne_eqb i j n), all i))
stay_all t h seat (raised k) all own i = all i
stay_all t h seat (cleared k) all own i = all i
stay_all t h seat (mapped x) all own i = all i

-- what a seat has stays until it gives it back
stays_or_put : (h : Holders) (j i : ℕ) (d : Deed Event) → 0 < times j (h i) → (0 < times j (holders_next h d i)) ⊎ (d ≡ record { seat = j; act = put_back i })
stays_or_put h j i d has = by_event d.seat d.act refl where
  by_event : (seat : ℕ) (e : Event) → d ≡ record { seat = seat; act = e } → (0 < times j (holders_after h seat e i)) ⊎ (d ≡ record { seat = j; act = put_back i })
  by_event seat (counted x) is = inl has
  by_event seat (made x) is = inl has
  by_event seat (looked x) is = inl (dite (ℕ_discrete i x.id)
      (λ e. omega (arith, has, times-push_le j seat (h i), ap (λ b. times j (cond b (h i ++ seat ∷ []) (h i))) (eq-eqb i x.id e)))
      (λ n. omega (arith, has, ap (λ b. times j (cond b (h i ++ seat ∷ []) (h i))) (ne_eqb i x.id n))))
  by_event seat (loaded x) is = inl has
  by_event seat (turned x) is = inl has
  by_event seat (put_back k) is = dite (ℕ_discrete i k)
      (λ e. dite (ℕ_discrete j seat)
      (λ s. inr (is ∙ (ap (λ (n : ℕ). record { seat = n; act = put_back k }) (sym s) ∙ ap (λ (n : ℕ). record { seat = j; act = put_back n }) (sym e))))
      (λ n. inl (omega (arith, has, ap (λ b. times j (cond b (without seat (h i)) (h i))) (eq-eqb i k e), times-without_other j seat (h i) n))))
      (λ n. inl (omega (arith, has, ap (λ b. times j (cond b (without seat (h i)) (h i))) (ne_eqb i k n))))
  by_event seat (raised k) is = inl has
  by_event seat (cleared k) is = inl has
  by_event seat (mapped x) is = inl has

-- the seat gives its reference to the id back somewhere between these two places of the line
pub record IsGivenBack (line : List (Deed Event)) (j i a b : ℕ) : Type 0 where
  pub at : ℕ
  pub after : a < at
  pub before : at < b
  pub stands : get_elem? line at ≡ some (record { seat = j; act = put_back i })

-- the seat gives it back before this place
record IsPutBefore (line : List (Deed Event)) (j i b : ℕ) : Type 0 where
  at : ℕ
  before : at < b
  stands : get_elem? line at ≡ some (record { seat = j; act = put_back i })

-- a seat that has a reference gives it back before a load that shows none
put_before : (ids : ℕ) (t : Moment) (h : Holders) (line : List (Deed Event)) → AreAll t h → AreSo moment_next (λ u d. IsSo ids u d.act) t line → AreSo holders_next (λ g d. IsOwn g d.seat d.act) h line
    → (j i b : ℕ) (d : Deed Event) (x : Loaded) → 0 < times j (h i) → get_elem? line b ≡ some d → d.act ≡ loaded x → x.id ≡ i → x.word.refs ≡ 0 → IsPutBefore line j i b
put_before ids t h [] all so own j i b d x has at is same none = absurd (some-ne-none d (sym at))
put_before ids t h (y ∷ ys) all so own j i zero d x has at is same none = let now : IsSo ids t (loaded x) = subst (IsSo ids t) (ap (λ (z : Deed Event). z.act) (some-injective y d at) ∙ is) so.0 in
    absurd (omega (arith, has, times_within j (h i), all i, now.2, none, ap t.refs same))
put_before ids t h (y ∷ ys) all so own j i (suc b) d x has at is same none = ⊎_elim
    (λ more. let p = put_before ids (moment_next t y) (holders_next h y) ys (stay_all t h y.seat y.act all own.0) so.1 own.1 j i b d x more at is same none in
    record { at = suc p.at; before = omega (arith, p.before); stands = p.stands })
    (λ put. record { at = zero; before = omega arith; stands = ap some put })
    (stays_or_put h j i y has)

given : (ids : ℕ) (t : Moment) (h : Holders) (line : List (Deed Event)) → AreAll t h → AreSo moment_next (λ u d. IsSo ids u d.act) t line → AreSo holders_next (λ g d. IsOwn g d.seat d.act) h line
    → (a b j s : ℕ) (x : Tried) (y : Loaded) → get_elem? line a ≡ some (record { seat = j; act = looked x }) → get_elem? line b ≡ some (record { seat = s; act = loaded y }) → y.id ≡ x.id → y.word.refs ≡ 0 → a < b → IsGivenBack line j x.id a b
given ids t h [] all so own a b j s x y at there same none less = absurd (some-ne-none (record { seat = j; act = looked x }) (sym at))
given ids t h (z ∷ zs) all so own a zero j s x y at there same none less = absurd (omega (arith, less))
given ids t h (z ∷ zs) all so own zero (suc b) j s x y at there same none less =
    let is : z ≡ record { seat = j; act = looked x } = some-injective z (record { seat = j; act = looked x }) at in
    let has : 0 < times j (holders_next h z x.id) = omega (
      arith,
      ap (λ (d : Deed Event). times j (holders_next h d x.id)) is,
      ap (λ c. times j (cond c (h x.id ++ j ∷ []) (h x.id))) (eq-eqb x.id x.id refl),
      times-push_same j (h x.id),
    ) in
    let p = put_before ids (moment_next t z) (holders_next h z) zs (stay_all t h z.seat z.act all own.0) so.1 own.1 j x.id b (record { seat = s; act = loaded y }) y has there refl same none in
    record { at = suc p.at; after = omega arith; before = omega (arith, p.before); stands = p.stands }
given ids t h (z ∷ zs) all so own (suc a) (suc b) j s x y at there same none less =
    let p = given ids (moment_next t z) (holders_next h z) zs (stay_all t h z.seat z.act all own.0) so.1 own.1 a b j s x y at there same none (omega (arith, less)) in
    record { at = suc p.at; after = omega (arith, p.after); before = omega (arith, p.before); stands = p.stands }

-- Between a lookup of a seat and a load that shows no reference to its id, the seat gave it back.
pub given_back : (ids first : ℕ) (line : List (Deed Event)) → AreEvents ids first line → AreOwn line → (a b j s : ℕ) (x : Tried) (y : Loaded) → get_elem? line a ≡ some (record { seat = j; act = looked x }) → get_elem? line b ≡ some (record { seat = s; act = loaded y })
    → y.id ≡ x.id → y.word.refs ≡ 0 → a < b → IsGivenBack line j x.id a b
given_back ids first line events own = given ids (at_start first) no_holders line (λ i. refl) events own
