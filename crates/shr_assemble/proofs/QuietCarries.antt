-- SPDX-License-Identifier: GPL-2.0-only
-- What carrying a group's deferred work took and gave, by what was noted of it.
use Rattle.shr_assemble.proofs.Common.{◌≡◌, ℕ, ◌+◌, ◌<◌, Bool, true, false, cond, ◌==◌, ◌&&◌, List, [], ◌∷◌, ◌++◌, map, length, refl, sym, ap, ◌∙◌, arith, eqb, eq-eqb, ne_eqb, sum_by, flat_map, map-append, AllByRecursion, eqb-true, lt-ltb, dite, ℕ_discrete, parent_of, is_child, PlaceAmount, Place, Serial, Carry, sum_at, amount_at, given_at, taken_at, is_below, is_place, total, total-append, Shape, amount_of, takes_of, gives_of, takes_both, gives_both, Script, parents_of, WordStep, steps_handed, told_step, carry_moves, carry_noted, carries_noted, sum_total, above_of, took, place_of_parent}
use Rattle.shr_deferred.specs.Moves.{gave}
use Rattle.shr_laws.specs.Takes.{gave as told_gave}
use Rattle.shr_model.proofs.Numbers.{zero_plus}

-- a weight of what was noted of each take
noted_total : (f : Carry → ℕ) (h : PlaceAmount → ℕ) (by : Serial) → ((a : PlaceAmount) → (b : Bool) → (a.amount == 0) ≡ b → total f (cond b [] (record { by = by; place = a.place; amount = a.amount } ∷ [])) ≡ h a) → (amounts : List PlaceAmount) → total f (carries_noted by amounts) ≡ total h amounts
noted_total f h by same [] = refl
noted_total f h by same (a ∷ more) = omega (arith, total-append f (carry_noted by a) (carries_noted by more), same a (a.amount == 0) refl, noted_total f h by same more)

-- a give that there may be takes nothing, and is what it gives
no_take : (b : Bool) (x : PlaceAmount) → takes_of (cond b [] (gave x ∷ [])) ≡ []
no_take true x = refl
no_take false x = refl

one_give : (b : Bool) (x : PlaceAmount) → gives_of (cond b [] (gave x ∷ [])) ≡ cond b [] (x ∷ [])
one_give true x = refl
one_give false x = refl

pub takes_are : (shape : Shape) (amounts : List PlaceAmount) → takes_of (carry_moves shape amounts) ≡ amounts
takes_are shape [] = refl
takes_are shape (a ∷ more) = let above = amount_of (above_of shape a.place) a.amount in
    ap (λ l. a ∷ l) (takes_both (cond (a.amount == 0) [] (gave above ∷ [])) (carry_moves shape more) ∙ (ap (λ l. l ++ takes_of (carry_moves shape more)) (no_take (a.amount == 0) above) ∙ takes_are shape more))

gives_more : (shape : Shape) (a : PlaceAmount) (more : List PlaceAmount) → gives_of (carry_moves shape (a ∷ more)) ≡ cond (a.amount == 0) [] (amount_of (above_of shape a.place) a.amount ∷ []) ++ gives_of (carry_moves shape more)
gives_more shape a more = let above = amount_of (above_of shape a.place) a.amount in
    gives_both (cond (a.amount == 0) [] (gave above ∷ [])) (carry_moves shape more) ∙ ap (λ l. l ++ gives_of (carry_moves shape more)) (one_give (a.amount == 0) above)

-- what was taken at a place is what was noted of it
pub carried_taken : (shape : Shape) (by : Serial) (amounts : List PlaceAmount) (p : Place) → sum_at p (takes_of (carry_moves shape amounts)) ≡ taken_at [] (carries_noted by amounts) p
carried_taken shape by amounts p = ap (sum_at p) (takes_are shape amounts) ∙ (sum_total (amount_at p) amounts ∙ (sym (noted_total (λ (c : Carry). cond (is_place p c.place) c.amount 0) (amount_at p) by one amounts)
    ∙ (sym (sum_total (λ (c : Carry). cond (is_place p c.place) c.amount 0) (carries_noted by amounts)) ∙ zero_plus (sum_by (λ (c : Carry). cond (is_place p c.place) c.amount 0) (carries_noted by amounts))))) where
      same_zero : (b : Bool) (n : ℕ) → n ≡ 0 → 0 ≡ cond b n 0
      same_zero true n e = sym e
      same_zero false n e = refl

      one : (a : PlaceAmount) (b : Bool) → (a.amount == 0) ≡ b → total (λ (c : Carry). cond (is_place p c.place) c.amount 0) (cond b [] (record { by = by; place = a.place; amount = a.amount } ∷ [])) ≡ amount_at p a
      one a true e = same_zero (is_place p a.place) a.amount (eqb-true a.amount 0 e)
      one a false e = omega arith

eqb_flip : (a b : ℕ) → eqb a b ≡ eqb b a
eqb_flip a b = dite (ℕ_discrete a b) (λ e. eq-eqb a b e ∙ sym (eq-eqb b a (sym e))) (λ n. ne_eqb a b n ∙ sym (ne_eqb b a (λ e. n (sym e))))

-- the place above one of a group below the root is the one that the group's place is below
above_below : (shape : Shape) (p q : Place) → 0 < q.group → q.group < length shape.parents.items → is_place p (above_of shape q) ≡ is_below shape.parents.items p q
above_below shape p q low there =
    let parents = shape.parents.items in
    let a = eqb_flip p.id q.id in
    let b = eqb_flip p.node q.node in
    let c : (p.group == parent_of parents q.group) ≡ is_child parents p.group q.group = eqb_flip p.group (parent_of parents q.group) ∙ sym (λ i. lt-ltb 0 q.group low i && lt-ltb q.group (length parents) there i && (parent_of parents q.group == p.group)) in
    λ i. a i && b i && c i

abbrev AreOf : ℕ → List PlaceAmount → Type 0
AreOf group amounts = AllByRecursion (λ (a : PlaceAmount). a.place.group ≡ group) amounts

abbrev below_weight : List ℕ → Place → Carry → ℕ
below_weight parents p c = cond (is_below parents p c.place) c.amount 0

-- what was given to a place is what was noted of its children's
pub carried_given : (shape : Shape) (by : Serial) (group : ℕ) (amounts : List PlaceAmount) (p : Place) → 0 < group → group < length shape.parents.items → AreOf group amounts → sum_at p (gives_of (carry_moves shape amounts)) ≡ given_at shape.parents.items [] (carries_noted by amounts) p
carried_given shape by group amounts p low there of = sum_total (amount_at p) (gives_of (carry_moves shape amounts)) ∙ (each amounts of ∙ (sym (sum_total (below_weight shape.parents.items p) (carries_noted by amounts)) ∙ zero_plus (sum_by (below_weight shape.parents.items p) (carries_noted by amounts)))) where
  one : (a : PlaceAmount) → a.place.group ≡ group → (b : Bool) → total (amount_at p) (cond b [] (record { place = above_of shape a.place; amount = a.amount } ∷ [])) ≡ total (below_weight shape.parents.items p) (cond b [] (record { by = by; place = a.place; amount = a.amount } ∷ []))
  one a here true = refl
  one a here false = ap (λ (t : Bool). cond t a.amount 0 + 0) (above_below shape p a.place (omega (arith, here, low)) (omega (arith, here, there)))

  each : (more : List PlaceAmount) → AreOf group more → total (amount_at p) (gives_of (carry_moves shape more)) ≡ total (below_weight shape.parents.items p) (carries_noted by more)
  each [] h = refl
  each (a ∷ more) h = omega (arith, ap (λ l. total (amount_at p) l) (gives_more shape a more), each more h.1, one a h.0 (a.amount == 0), total-append (amount_at p) (cond (a.amount == 0) [] (record { place = above_of shape a.place; amount = a.amount } ∷ [])) (gives_of (carry_moves shape more)), total-append (below_weight shape.parents.items p) (carry_noted by a) (carries_noted by more))

-- what was moved is what a report tells of it
pub told_handed : (shape : Shape) (s : Script) → shape.parents.items ≡ parents_of s → (amounts : List PlaceAmount) → map told_step (carry_moves shape amounts) ≡ flat_map (steps_handed s) amounts
told_handed shape s e [] = refl
told_handed shape s e (a ∷ more) = ap (λ (l : List WordStep). took a ∷ l) (map-append told_step (cond (a.amount == 0) [] (gave (amount_of (above_of shape a.place) a.amount) ∷ [])) (carry_moves shape more)
    ∙ (ap (λ (l : List WordStep). l ++ map told_step (carry_moves shape more)) (one (a.amount == 0))
    ∙ ap (λ (l : List WordStep). cond (a.amount == 0) [] (told_gave (amount_of (place_of_parent s a.place) a.amount) ∷ []) ++ l) (told_handed shape s e more))) where
      one : (b : Bool) → map told_step (cond b [] (gave (amount_of (above_of shape a.place) a.amount) ∷ [])) ≡ cond b [] (told_gave (amount_of (place_of_parent s a.place) a.amount) ∷ [])
      one true = refl
      one false = ap (λ (ps : List ℕ). told_gave (amount_of (record a.place { group = parent_of ps a.place.group }) a.amount) ∷ []) e
