-- SPDX-License-Identifier: GPL-2.0-only
-- What each command did in each group, operation by operation from the last.
use Rattle.shr_audit_charges.proofs.Common.{◌≡◌, ◌≢◌, ℕ, zero, suc, ◌+◌, ◌-◌, ◌<◌, ◌≤◌, ◌⊎◌, inl, inr, Bool, true, false, not, ◌&&◌, cond, List, [], ◌∷◌, length, get_or, map, drop, Option, Some, None, refl, sym, ap, subst, ◌∙◌, arith, ne_eqb, eq-eqb, pos, filter, find, slice_get, cases_eq, nat_tests, Serial, UseStep, ups, group_uses, limit_in, AreOwnRight, own_key, MayStandBefore, own_in_group, T, int_lt, MatchOption, at_drop_all, drop_more, ops_by, is_by, is_refused, IsBelow, IsDownNext, AreTakenBack, IsDownBetween, IsKeyed, few_ups, own_with, some_injective}
use Rattle.std.specs.BTreeMap.{BTreeMap, get, is_at, Updates}
use Rattle.std.specs.Ordering.{nat_cmp}
use Rattle.std.specs.Map.{lookup}
use Rattle.shr_audit_charges.specs.declared.own.Own.{Own}
use Rattle.shr_audit_charges.proofs.Pushed.{none_some}
use Rattle.shr_model.proofs.Booleans.{is_true}
use Rattle.shr_model.proofs.ChargeLaws.{is_by_same, ups_cons}
use Rattle.shr_model.proofs.Numbers.{apart}

-- the operations of a command in a group
abbrev pub own : ℕ → Serial → List UseStep → List UseStep
own g by us = ops_by by (group_uses us g)

-- each operation may stand before those of its command in its group
pub AreFollowed : List (Option ℕ) → List UseStep → Type 0
AreFollowed limits [] = Unit {0}
AreFollowed limits (o ∷ os) = MayStandBefore (limit_in limits o.group) o (own_in_group (own o.group o.by os)) × AreFollowed limits os

-- ---- of a command and a group, or not

own_yes : (g : ℕ) (by : Serial) (o : UseStep) (os : List UseStep) → o.group ≡ g → is_by by o ≡ true → own g by (o ∷ os) ≡ o ∷ own g by os
own_yes g by o os e t = ap (λ (b : Bool). ops_by by (cond b (o ∷ group_uses os g) (group_uses os g))) (eq-eqb o.group g e) ∙ ap (λ (b : Bool). cond b (o ∷ own g by os) (own g by os)) t

own_apart : (g : ℕ) (by : Serial) (o : UseStep) (os : List UseStep) → o.group ≢ g → own g by (o ∷ os) ≡ own g by os
own_apart g by o os ne = ap (λ (b : Bool). ops_by by (cond b (o ∷ group_uses os g) (group_uses os g))) (ne_eqb o.group g ne)

own_not : (g : ℕ) (by : Serial) (o : UseStep) (os : List UseStep) → o.group ≡ g → is_by by o ≡ false → own g by (o ∷ os) ≡ own g by os
own_not g by o os e f = ap (λ (b : Bool). ops_by by (cond b (o ∷ group_uses os g) (group_uses os g))) (eq-eqb o.group g e) ∙ ap (λ (b : Bool). cond b (o ∷ own g by os) (own g by os)) f

pub same_serial : (w n w' n' : ℕ) → w ≡ w' → n ≡ n' → ◌≡◌ {A = Serial} (record { worker = w; command = n }) (record { worker = w'; command = n' })
same_serial w n w' n' e f = rw (e, f) refl

serial_is : (a b : Serial) → a.worker ≡ b.worker → a.command ≡ b.command → a ≡ b
serial_is a b w n = same_serial a.worker a.command b.worker b.command w n

own_by : (o : UseStep) → is_by o.by o ≡ true
own_by o = grind (arith, nat_tests)

-- an operation is of a command and a group, and these are its own, or it isn't and changes nothing there
abbrev pub IsOwn : ℕ → Serial → UseStep → List UseStep → Type 0
IsOwn g by o os = ((o.group ≡ g) × ((o.by ≡ by) × (own g by (o ∷ os) ≡ o ∷ own g by os))) ⊎ ((own g by (o ∷ os) ≡ own g by os) × ((o.group ≡ g → o.by ≡ by → ⊥)))

pub own_or_not : (g : ℕ) (by : Serial) (o : UseStep) (os : List UseStep) → IsOwn g by o os
own_or_not g by o os = by_group (cases_eq o.group g)
  where
    by_command : o.group ≡ g → (b : Bool) → is_by by o ≡ b → IsOwn g by o os
    by_command e true t = inl (e, (is_by_same by o t, own_yes g by o os e t))
    by_command e false f = inr (own_not g by o os e f, λ _ same. let t : is_by by o ≡ true = subst (λ (s : Serial). is_by s o ≡ true) same (own_by o) in let no : true ≡ false = sym t ∙ f in cc)

    by_group : (o.group ≡ g) ⊎ (o.group ≢ g) → IsOwn g by o os
    by_group (inl e) = by_command e (is_by by o) refl
    by_group (inr ne) = inr (own_apart g by o os ne, λ e _. ne e)

own_at : (limits : List (Option ℕ)) (g : ℕ) (by : Serial) (o : UseStep) (os : List UseStep) → o.group ≡ g → o.by ≡ by → MayStandBefore (limit_in limits o.group) o (own_in_group (own o.group o.by os)) → MayStandBefore (limit_in limits g) o (own_in_group (own g by os))
own_at limits g by o os e f h = subst (λ (k : ℕ). MayStandBefore (limit_in limits k) o (own_in_group (own k by os))) e (subst (λ (s : Serial). MayStandBefore (limit_in limits o.group) o (own_in_group (own o.group s os))) f h)

-- ---- how many go up

up_or_down : (o : UseStep) → ((o.up ≡ true) × (◌≡◌ {A = ℕ} (cond o.up 1 0) 1)) ⊎ ((o.up ≡ false) × (◌≡◌ {A = ℕ} (cond o.up 1 0) 0))
up_or_down o = by_bool o.up refl
  where
    by_bool : (b : Bool) → o.up ≡ b → ((o.up ≡ true) × (◌≡◌ {A = ℕ} (cond o.up 1 0) 1)) ⊎ ((o.up ≡ false) × (◌≡◌ {A = ℕ} (cond o.up 1 0) 0))
    by_bool true e = inl (e, ap {B = ℕ} (λ (b : Bool). cond b 1 0) e)
    by_bool false e = inr (e, ap {B = ℕ} (λ (b : Bool). cond b 1 0) e)

few_more : (limit : Option ℕ) (o : UseStep) (ops : List UseStep) → MayStandBefore limit o (own_in_group ops) → ups ops ≤ 14 → ups (o ∷ ops) ≤ 14
few_more limit o [] h few = elim (up_or_down o) as (λ _. ups (o ∷ []) ≤ 14) [ inl t ↦ (let c = ups_cons o [] in let u = t.1 in omega (arith, c, u)) | inr f ↦ (let c = ups_cons o [] in let u = f.1 in omega (arith, c, u)) ]
few_more limit o (x ∷ xs) h few = elim (up_or_down o) as (λ _. ups (o ∷ x ∷ xs) ≤ 14) [ inl t ↦ (let c = ups_cons o (x ∷ xs) in let u = t.1 in let low = (h t.0).1 in omega (arith, c, u, low)) | inr f ↦ (let c = ups_cons o (x ∷ xs) in let u = f.1 in omega (arith, c, u, few)) ]

pub few_own : (limits : List (Option ℕ)) (us : List UseStep) (g : ℕ) (by : Serial) → AreFollowed limits us → ups (own g by us) ≤ 14
unfolding AreFollowed
few_own limits [] g by h = omega arith
few_own limits (o ∷ os) g by h = elim (own_or_not g by o os) as (λ _. ups (own g by (o ∷ os)) ≤ 14) [
  | inl y ↦ subst (λ (l : List UseStep). ups l ≤ 14) (sym y.1.1) (few_more (limit_in limits g) o (own g by os) (own_at limits g by o os y.0 y.1.0 h.0) (few_own limits os g by h.1))
  | inr n ↦ subst (λ (l : List UseStep). ups l ≤ 14) (sym n.0) (few_own limits os g by h.1)
]

-- ---- no two in a row go up

IsDownFirst : List UseStep → Type 0
IsDownFirst [] = Unit {0}
IsDownFirst (x ∷ xs) = x.up ≡ false

NoTwo : List UseStep → Type 0
NoTwo [] = Unit {0}
NoTwo (o ∷ os) = (o.up ≡ true → IsDownFirst os) × NoTwo os

down_first : (limit : Option ℕ) (o : UseStep) (ops : List UseStep) → MayStandBefore limit o (own_in_group ops) → o.up ≡ true → IsDownFirst ops
unfolding IsDownFirst
down_first limit o [] h up = tt
down_first limit o (x ∷ xs) h up = (h up).0

none_in_row : (limits : List (Option ℕ)) (us : List UseStep) (g : ℕ) (by : Serial) → AreFollowed limits us → NoTwo (own g by us)
unfolding AreFollowed NoTwo
none_in_row limits [] g by h = tt
none_in_row limits (o ∷ os) g by h = elim (own_or_not g by o os) as (λ _. NoTwo (own g by (o ∷ os))) [
  | inl y ↦ subst NoTwo (sym y.1.1) (down_first (limit_in limits g) o (own g by os) (own_at limits g by o os y.0 y.1.0 h.0), none_in_row limits os g by h.1)
  | inr n ↦ subst NoTwo (sym n.0) (none_in_row limits os g by h.1)
]

abbrev ways : List UseStep → List Bool
ways ops = map (λ (o : UseStep). o.up) ops

abbrev Between : List UseStep → ℕ → ℕ → Type 0
Between ops n m = (k : ℕ) × (n < k) × (k < m) × (slice_get (ways ops) k ≡ Some false)

between : (ops : List UseStep) → NoTwo ops → (n m : ℕ) → n < m → slice_get (ways ops) n ≡ Some true → slice_get (ways ops) m ≡ Some true → Between ops n m
unfolding NoTwo IsDownFirst
between [] h n m lt a b = absurd (none_some true a)
between (o ∷ os) h n zero lt a b = absurd (omega arith)
between (o ∷ []) h zero (suc m) lt a b = absurd (none_some true b)
between (o ∷ x ∷ xs) h zero (suc zero) lt a b = absurd (let down : x.up ≡ false = h.0 (some_injective o.up true a) in let up : x.up ≡ true = some_injective x.up true b in cc)
between (o ∷ x ∷ xs) h zero (suc (suc m)) lt a b = (1, omega arith, omega arith, ap (λ (v : Bool). Some v) (h.0 (some_injective o.up true a)))
between (o ∷ os) h (suc n) (suc m) lt a b = let t = between os h.1 n m (omega (arith, lt)) a b in (suc t.0, (let low = t.1 in omega (arith, low)), (let high = t.2 in omega (arith, high)), t.3)

no_two : (ops : List UseStep) → IsDownBetween (ways ops) → NoTwo ops
unfolding NoTwo IsDownFirst
no_two [] h = tt
no_two (o ∷ []) h = (λ up. tt, tt)
no_two (o ∷ x ∷ xs) h = (λ up. first up x.up refl, no_two (x ∷ xs) later)
  where
    first : o.up ≡ true → (b : Bool) → x.up ≡ b → x.up ≡ false
    first up true e = absurd (let t = h 0 1 (omega arith) (ap (λ (v : Bool). Some v) up) (ap (λ (v : Bool). Some v) e) in let low = t.1 in let high = t.2 in omega (arith, low, high))
    first up false e = e

    down : (n m : ℕ) → (k : ℕ) × (suc n < k) × (k < suc m) × (slice_get (ways (o ∷ x ∷ xs)) k ≡ Some false) → (k : ℕ) × (n < k) × (k < m) × (slice_get (ways (x ∷ xs)) k ≡ Some false)
    down n m (zero, low, high, at) = absurd (omega (arith, low))
    down n m (suc k, low, high, at) = (k, omega (arith, low), omega (arith, high), at)

    later : IsDownBetween (ways (x ∷ xs))
    later n m lt a b = down n m (h (suc n) (suc m) (omega (arith, lt)) a b)

-- ---- what was refused is taken back

first_of : List UseStep → Option UseStep
first_of [] = None
first_of (x ∷ xs) = Some x

find_first : (p : UseStep → Bool) (l : List UseStep) → find p l ≡ first_of (filter p l)
unfolding first_of
find_first p [] = refl
find_first p (x ∷ xs) = by_bool (p x) (find_first p xs)
  where
    by_bool : (b : Bool) → find p xs ≡ first_of (filter p xs) → cond b (Some x) (find p xs) ≡ first_of (cond b (x ∷ filter p xs) (filter p xs))
    by_bool true e = refl
    by_bool false e = e

truth : (b : Bool) → b ≡ true → T b
truth true e = tt
truth false e = absurd (let no : false ≡ true = e in cc)

not_below : (limit : Option ℕ) (o : UseStep) → o.up ≡ true → is_refused limit o ≡ false → IsBelow limit o
not_below None o up f = tt
not_below (Some l) o up f = record { lt = truth (int_lt o.found (pos l)) (not_false (int_lt o.found (pos l)) (sym (ap (λ (b : Bool). b && not (int_lt o.found (pos l))) up) ∙ f)) }
  where
    not_false : (b : Bool) → (true && not b) ≡ false → b ≡ true
    not_false true e = refl
    not_false false e = absurd (let no : true ≡ false = e in cc)

below_not : (limit : Option ℕ) (o : UseStep) → is_refused limit o ≡ true → (o.up ≡ true) × (IsBelow limit o → ⊥)
below_not None o t = absurd (let no : false ≡ true = t in cc)
below_not (Some l) o t = (left o.up t, λ below. right o.up (int_lt o.found (pos l)) (is_true (int_lt o.found (pos l)) below.lt) t)
  where
    left : (a : Bool) → (a && not (int_lt o.found (pos l))) ≡ true → a ≡ true
    left true e = refl
    left false e = absurd (let no : false ≡ true = e in cc)

    right : (a b : Bool) → b ≡ true → (a && not b) ≡ true → ⊥
    right true true e f = let no : false ≡ true = f in cc
    right false true e f = let no : false ≡ true = f in cc
    right a false e f = cc

down_next : (limit : Option ℕ) (o : UseStep) (l : List UseStep) → MayStandBefore limit o (own_in_group (ops_by o.by l)) → o.up ≡ true → (IsBelow limit o → ⊥) → IsDownNext o.by l
unfolding first_of
down_next limit o l h up over = subst (λ (x : Option UseStep). MatchOption x ⊥ (λ y. y.up ≡ false)) (sym (find_first (is_by o.by) l)) (by_ops (ops_by o.by l) h)
  where
    by_ops : (ops : List UseStep) → MayStandBefore limit o (own_in_group ops) → MatchOption (first_of ops) ⊥ (λ y. y.up ≡ false)
    by_ops [] h = over (not_below limit o up h)
    by_ops (x ∷ xs) h = (h up).0

may_stand : (limit : Option ℕ) (o : UseStep) (l : List UseStep) → (o.up ≡ true → (IsBelow limit o → ⊥) → IsDownNext o.by l) → NoTwo (o ∷ ops_by o.by l) → ups (o ∷ ops_by o.by l) ≤ 14 → MayStandBefore limit o (own_in_group (ops_by o.by l))
unfolding first_of NoTwo IsDownFirst
may_stand limit o l back two few = by_ops (ops_by o.by l) (λ up over. subst (λ (x : Option UseStep). MatchOption x ⊥ (λ y. y.up ≡ false)) (find_first (is_by o.by) l) (back up over)) two few
  where
    none : (b : Bool) → is_refused limit o ≡ b → (o.up ≡ true → (IsBelow limit o → ⊥) → ⊥) → is_refused limit o ≡ false
    none true t back = let u = below_not limit o t in absurd (back u.0 u.1)
    none false f back = f

    by_ops : (ops : List UseStep) → (o.up ≡ true → (IsBelow limit o → ⊥) → MatchOption (first_of ops) ⊥ (λ y. y.up ≡ false)) → NoTwo (o ∷ ops) → ups (o ∷ ops) ≤ 14 → MayStandBefore limit o (own_in_group ops)
    by_ops [] back two few = none (is_refused limit o) refl back
    by_ops (x ∷ xs) back two few = λ up. (two.0 up, let c = ups_cons o (x ∷ xs) in let u = ap {B = ℕ} (λ (b : Bool). cond b 1 0) up in omega (arith, c, u, few))

taken_back : (limits : List (Option ℕ)) (us : List UseStep) (g : ℕ) → AreFollowed limits us → AreTakenBack (limit_in limits g) (group_uses us g)
unfolding AreFollowed
taken_back limits [] g h = λ n o at up over. absurd (none_some o at)
taken_back limits (x ∷ xs) g h = by_group (taken_back limits xs g h.1) (cases_eq x.group g)
  where
    by_index : AreTakenBack (limit_in limits g) (group_uses xs g) → x.group ≡ g → AreTakenBack (limit_in limits g) (x ∷ group_uses xs g)
    by_index more e zero o at up over =
        let same : x ≡ o = some_injective x o at in
        subst (λ (y : UseStep). y.up ≡ true → (IsBelow (limit_in limits g) y → ⊥) → IsDownNext y.by (group_uses xs g)) same
        (down_next (limit_in limits g) x (group_uses xs g) (subst (λ (k : ℕ). MayStandBefore (limit_in limits k) x (own_in_group (own k x.by xs))) e h.0)) up over
    by_index more e (suc n) o at up over = subst (λ (k : ℕ). IsDownNext o.by (drop k (x ∷ group_uses xs g))) (let z : suc (n + 1) ≡ suc n + 1 = omega arith in z) (more n o at up over)

    by_group : AreTakenBack (limit_in limits g) (group_uses xs g) → (x.group ≡ g) ⊎ (x.group ≢ g) → AreTakenBack (limit_in limits g) (group_uses (x ∷ xs) g)
    by_group more (inl e) = subst (AreTakenBack (limit_in limits g)) (sym (ap (λ (b : Bool). cond b (x ∷ group_uses xs g) (group_uses xs g)) (eq-eqb x.group g e))) (by_index more e)
    by_group more (inr ne) = subst (AreTakenBack (limit_in limits g)) (sym (ap (λ (b : Bool). cond b (x ∷ group_uses xs g) (group_uses xs g)) (ne_eqb x.group g ne))) more

-- ---- all together

pub right_of : (limits : List (Option ℕ)) (us : List UseStep) → AreFollowed limits us → AreOwnRight limits us
right_of limits us h = record { taken_back = λ g. taken_back limits us g h; fourteen = λ by g. few_own limits us g by h; between = λ by g n m lt a b. between (own g by us) (none_in_row limits us g by h) n m lt a b }

later_right : (limits : List (Option ℕ)) (o : UseStep) (os : List UseStep) → AreOwnRight limits (o ∷ os) → AreOwnRight limits os
unfolding NoTwo
later_right limits o os h = record { taken_back = λ g. by_group g (cases_eq o.group g); fourteen = few; between = apart }
  where
    by_group : (g : ℕ) → (o.group ≡ g) ⊎ (o.group ≢ g) → AreTakenBack (limit_in limits g) (group_uses os g)
    by_group g (inl e) = λ n x at up over.
        let whole : AreTakenBack (limit_in limits g) (o ∷ group_uses os g) = subst (AreTakenBack (limit_in limits g)) (ap (λ (b : Bool). cond b (o ∷ group_uses os g) (group_uses os g)) (eq-eqb o.group g e)) (h.taken_back g) in
        subst (λ (k : ℕ). IsDownNext x.by (drop k (o ∷ group_uses os g))) (let z : suc n + 1 ≡ suc (n + 1) = omega arith in z) (whole (suc n) x at up over)
    by_group g (inr ne) = subst (AreTakenBack (limit_in limits g)) (ap (λ (b : Bool). cond b (o ∷ group_uses os g) (group_uses os g)) (ne_eqb o.group g ne)) (h.taken_back g)

    few : (by : Serial) (g : ℕ) → ups (own g by os) ≤ 14
    few by g = elim (own_or_not g by o os) as (λ _. ups (own g by os) ≤ 14) [
      | inl y ↦ (let f : ups (o ∷ own g by os) ≤ 14 = subst (λ (l : List UseStep). ups l ≤ 14) y.1.1 (h.fourteen by g) in let c = ups_cons o (own g by os) in omega (arith, f, c))
      | inr n ↦ subst (λ (l : List UseStep). ups l ≤ 14) n.0 (h.fourteen by g)
    ]

    tail : (ops : List UseStep) → NoTwo (o ∷ ops) → NoTwo ops
    tail ops h = h.1

    apart : (by : Serial) (g : ℕ) → IsDownBetween (ways (own g by os))
    apart by g = elim (own_or_not g by o os) as (λ _. IsDownBetween (ways (own g by os))) [
      | inl y ↦ (λ n m lt a b. between (own g by os) (tail (own g by os) (no_two (o ∷ own g by os) (subst (λ (l : List UseStep). IsDownBetween (ways l)) y.1.1 (h.between by g)))) n m lt a b)
      | inr n ↦ subst (λ (l : List UseStep). IsDownBetween (ways l)) n.0 (h.between by g)
    ]

pub here_right : (limits : List (Option ℕ)) (o : UseStep) (os : List UseStep) → AreOwnRight limits (o ∷ os) → MayStandBefore (limit_in limits o.group) o (own_in_group (own o.group o.by os))
here_right limits o os h =
    let own_is = own_yes o.group o.by o os refl (own_by o) in
    let whole : AreTakenBack (limit_in limits o.group) (o ∷ group_uses os o.group) = subst (AreTakenBack (limit_in limits o.group)) (ap (λ (b : Bool). cond b (o ∷ group_uses os o.group) (group_uses os o.group)) (eq-eqb o.group o.group refl)) (h.taken_back o.group) in
    may_stand (limit_in limits o.group) o (group_uses os o.group) (whole 0 o refl)
    (no_two (o ∷ own o.group o.by os) (subst (λ (l : List UseStep). IsDownBetween (ways l)) own_is (h.between o.by o.group)))
    (subst (λ (l : List UseStep). ups l ≤ 14) own_is (h.fourteen o.by o.group))

-- a part behind is right where the whole is
pub behind_right : (limits : List (Option ℕ)) (us : List UseStep) (n : ℕ) → AreOwnRight limits us → AreOwnRight limits (drop n us)
behind_right limits us zero h = h
behind_right limits [] (suc n) h = h
behind_right limits (o ∷ os) (suc n) h = behind_right limits os n (later_right limits o os h)

-- ---- what stands behind, for each command and group

-- a map has what each command did in each group among these
pub record AreLater (us : List UseStep) (m : BTreeMap ℕ Own) : Type 0 where
  pub each : (g worker command : ℕ) → IsKeyed g worker command → get nat_cmp m (own_key g worker command) ≡ own_in_group (own g (record { worker = worker; command = command }) us)

one_key : (g w n g' w' n' : ℕ) → IsKeyed g w n → IsKeyed g' w' n' → own_key g w n ≡ own_key g' w' n' → (g ≡ g') × ((w ≡ w') × (n ≡ n'))
one_key g w n g' w' n' h k e =
    let a = h.worker in let b = h.command in let c = k.worker in let d = k.command in
    let gs : g ≡ g' = omega (arith, a, b, c, d, e) in
    let ws : w ≡ w' = omega (arith, a, b, c, d, e, gs) in
    (gs, (ws, omega (arith, e, gs, ws)))

own_put : (o : UseStep) (ops : List UseStep) → Some (own_with o (own_in_group ops)) ≡ own_in_group (o ∷ ops)
own_put o ops = ap (λ (n : ℕ). Some (let x : Own = record { up = o.up; ups = n } in x)) (by_ops ops)
  where
    by_ops : (ops : List UseStep) → few_ups (own_in_group ops) + cond o.up 1 0 ≡ ups (o ∷ ops)
    by_ops [] = let c = ups_cons o [] in omega (arith, c)
    by_ops (x ∷ xs) = let c = ups_cons o (x ∷ xs) in omega (arith, c)

pub later_none : (m : BTreeMap ℕ Own) → m.entries ≡ [] → AreLater [] m
later_none m e = record { each = λ g w n h. ap (lookup (is_at (nat_cmp (own_key g w n)))) e }

pub later_more : (o : UseStep) (os : List UseStep) (m m' : BTreeMap ℕ Own) (key : ℕ) (next : Option Own) → key ≡ own_key o.group o.by.worker o.by.command → IsKeyed o.group o.by.worker o.by.command → next ≡ own_in_group (own o.group o.by os) → Updates nat_cmp m m' key (Some (own_with o next)) → AreLater os m → AreLater (o ∷ os) m'
later_more o os m m' key next key_is keyed next_is new h = record {
  each = λ g w n k. elim (own_or_not g (record { worker = w; command = n }) o os) as (λ _. get nat_cmp m' (own_key g w n) ≡ own_in_group (own g (record { worker = w; command = n }) (o ∷ os))) [
    | inl y ↦
        let by : Serial = record { worker = w; command = n } in
        let w_is : o.by.worker ≡ w = ap (λ (s : Serial). s.worker) y.1.0 in
        let n_is : o.by.command ≡ n = ap (λ (s : Serial). s.command) y.1.0 in
        let same : own_key g w n ≡ key = let g_is = y.0 in omega (arith, key_is, g_is, w_is, n_is) in
        let ops_is : own o.group o.by os ≡ own g by os = ap (λ (j : ℕ). own j o.by os) y.0 ∙ ap (λ (s : Serial). own g s os) y.1.0 in
        ap (get nat_cmp m') same ∙ new.1 ∙ ap (λ (x : Option Own). Some (own_with o x)) (next_is ∙ ap own_in_group ops_is) ∙ own_put o (own g by os) ∙ ap own_in_group (sym y.1.1)
    | inr x ↦
        let by : Serial = record { worker = w; command = n } in
        let other : key ≢ own_key g w n = λ e. let t = one_key o.group o.by.worker o.by.command g w n keyed k (sym key_is ∙ e) in x.1 t.0 (serial_is o.by by t.1.0 t.1.1) in
        new.2 (own_key g w n) (apart key (own_key g w n) other) ∙ h.each g w n k ∙ ap own_in_group (sym x.0)
  ];
}

-- ---- the loop

pub start : (limits : List (Option ℕ)) (us : List UseStep) (m : BTreeMap ℕ Own) → m.entries ≡ [] → AreFollowed limits (drop (length us) us) × AreLater (drop (length us) us) m
start limits us m e = subst (λ (l : List UseStep). AreFollowed limits l × AreLater l m) (sym (at_drop_all (λ (l : List UseStep). l) us (length us) (omega arith))) (none, later_none m e)
  where
    none : AreFollowed limits []
    none = unfold AreFollowed in tt

split : (us : List UseStep) (left : ℕ) (d : UseStep) → 0 < left → left ≤ length us → drop (left - 1) us ≡ get_or us (left - 1) d ∷ drop left us
split us left d low high = drop_more us (left - 1) d (omega (arith, low, high)) ∙ ap (λ (k : ℕ). get_or us (left - 1) d ∷ drop k us) (let z : left - 1 + 1 ≡ left = omega (arith, low) in z)

next_is : (o : UseStep) (os : List UseStep) (m : BTreeMap ℕ Own) (key : ℕ) → key ≡ own_key o.group o.by.worker o.by.command → IsKeyed o.group o.by.worker o.by.command → AreLater os m → get nat_cmp m key ≡ own_in_group (own o.group o.by os)
next_is o os m key key_is keyed h = ap (get nat_cmp m) key_is ∙ h.each o.group o.by.worker o.by.command keyed

pub step_back : (limits : List (Option ℕ)) (us : List UseStep) (left : ℕ) (d : UseStep) (m m' : BTreeMap ℕ Own) (key : ℕ) (limit : Option ℕ) (next : Option Own) (put : Own) → 0 < left → left ≤ length us → AreFollowed limits (drop left us) → AreLater (drop left us) m
    → key ≡ own_key (get_or us (left - 1) d).group (get_or us (left - 1) d).by.worker (get_or us (left - 1) d).by.command → IsKeyed (get_or us (left - 1) d).group (get_or us (left - 1) d).by.worker (get_or us (left - 1) d).by.command
    → limit ≡ limit_in limits (get_or us (left - 1) d).group → next ≡ get nat_cmp m key → MayStandBefore limit (get_or us (left - 1) d) next → put ≡ own_with (get_or us (left - 1) d) next → Updates nat_cmp m m' key (Some put)
    → AreFollowed limits (drop (left - 1) us) × AreLater (drop (left - 1) us) m'
step_back limits us left d m m' key limit next put low high followed kept key_is keyed limit_is next_got may put_is new =
    let o = get_or us (left - 1) d in
    let next_own = next_got ∙ next_is o (drop left us) m key key_is keyed kept in
    let may' : MayStandBefore (limit_in limits o.group) o (own_in_group (own o.group o.by (drop left us))) = subst (λ (l : Option ℕ). MayStandBefore l o (own_in_group (own o.group o.by (drop left us)))) limit_is (subst (λ (x : Option Own). MayStandBefore limit o x) next_own may) in
    subst (λ (l : List UseStep). AreFollowed limits l × AreLater l m') (sym (split us left d low high))
    (more o may', later_more o (drop left us) m m' key next key_is keyed next_own (subst (λ (x : Own). Updates nat_cmp m m' key (Some x)) put_is new) kept)
  where
    more : (o : UseStep) → MayStandBefore (limit_in limits o.group) o (own_in_group (own o.group o.by (drop left us))) → AreFollowed limits (o ∷ drop left us)
    more o may = unfold AreFollowed in (may, followed)

pub not_back : (limits : List (Option ℕ)) (us : List UseStep) (left : ℕ) (d : UseStep) (m : BTreeMap ℕ Own) (key : ℕ) (limit : Option ℕ) (next : Option Own) → 0 < left → left ≤ length us → AreLater (drop left us) m
    → key ≡ own_key (get_or us (left - 1) d).group (get_or us (left - 1) d).by.worker (get_or us (left - 1) d).by.command → IsKeyed (get_or us (left - 1) d).group (get_or us (left - 1) d).by.worker (get_or us (left - 1) d).by.command
    → limit ≡ limit_in limits (get_or us (left - 1) d).group → next ≡ get nat_cmp m key → AreOwnRight limits us → MayStandBefore limit (get_or us (left - 1) d) next
not_back limits us left d m key limit next low high kept key_is keyed limit_is next_got law =
    let o = get_or us (left - 1) d in
    let next_own = next_got ∙ next_is o (drop left us) m key key_is keyed kept in
    let here = here_right limits o (drop left us) (subst (AreOwnRight limits) (split us left d low high) (behind_right limits us (left - 1) law)) in
    subst (λ (l : Option ℕ). MayStandBefore l o next) (sym limit_is) (subst (λ (x : Option Own). MayStandBefore (limit_in limits o.group) o x) (sym next_own) here)

pub few_next : (limits : List (Option ℕ)) (us : List UseStep) (left : ℕ) (d : UseStep) (m : BTreeMap ℕ Own) (key : ℕ) (next : Option Own) → AreFollowed limits (drop left us) → AreLater (drop left us) m → key ≡ own_key (get_or us (left - 1) d).group (get_or us (left - 1) d).by.worker (get_or us (left - 1) d).by.command → IsKeyed (get_or us (left - 1) d).group (get_or us (left - 1) d).by.worker (get_or us (left - 1) d).by.command
    → next ≡ get nat_cmp m key → few_ups next ≤ 14
few_next limits us left d m key next followed kept key_is keyed next_got =
    let o = get_or us (left - 1) d in
    let e = ap few_ups (next_got ∙ next_is o (drop left us) m key key_is keyed kept) in
    let f = few_own limits (drop left us) o.group o.by followed in
    let g = by_ops (own o.group o.by (drop left us)) in omega (arith, e, f, g)
  where
    by_ops : (ops : List UseStep) → few_ups (own_in_group ops) ≡ ups ops
    by_ops [] = refl
    by_ops (x ∷ xs) = refl

pub all_right : (limits : List (Option ℕ)) (us : List UseStep) (left : ℕ) → left ≤ 0 → AreFollowed limits (drop left us) → AreOwnRight limits us
all_right limits us left low h = right_of limits us (subst (λ (k : ℕ). AreFollowed limits (drop k us)) (let z : left ≡ 0 = omega (arith, low) in z) h)
