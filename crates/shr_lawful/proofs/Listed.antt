-- SPDX-License-Identifier: GPL-2.0-only
-- Elements of lists, and what the report and the steps of its workers have in common: operations, answers, walks, pairs.
use Rattle.shr_lawful.proofs.Common.{◌≡◌, ℕ, zero, suc, ◌<◌, inl, inr, Bool, true, false, ◌||◌, List, [], ◌∷◌, ◌++◌, length, sym, refl, ap, subst, ◌∙◌, arith, slice_get, Some, All, Contains, AllByRecursion, cases_Bool, same_Some, none-some, slice_get_within, get_or_from_slice_get, slice_get-get_or, Entry, Closed, is_closing, is_closed, Begins, IsAmong, at_some, by_slices, some_at, closed_at, ⊎_elim, cond, eqb, eq-eqb, ◌==◌, filter, AllPairs, and_from, eqb-true, length-take-le, Contains-permutation, IsPermutation-sym, UseStep, Serial, Script, is_by, ops_by, IsChargeHistory, Has, Has_from_Contains, Contains_from_Has, each_has, Has_filter, filter_has, AreRising, IsLaterThan, WorkerState, Report, uses_at, serial_of, Step, steps_of, AreStepsChained, ops_at, all_ops, IsRun, ◌+◌, length-append, take, Option, None, flat_map, map, WorkerPart, WalkRecord, all_walks, all_carries, answers_of, walk_at, gathered, steps_in, DidWalk, IsStep, walks_in, carries_in, list_any, ◌≤◌, length-map, range_with_len, length-range_with_len, get_or-range_with_len, total, total-append}
pub use Rattle.shr_lawful.proofs.UnitLists.{slice_begins as begins_slice}
use Rattle.shr_model.proofs.ChargeLaws.{is_by_same}
use Rattle.shr_lawful.proofs.Gathering.{HasStep, has_step, gathered_has, same_step, work_of, flat_at, flat_there}

-- what holds of all elements holds of one
pub all_among : {A : Type 0} (P : A → Type 0) (xs : List A) (x : A) → All P xs → IsAmong x xs → P x
all_among P xs x all (j, e) = let at = at_some xs j x e in subst P (get_or_from_slice_get xs j x x at) (all j x (slice_get_within xs j x at))

pub all_slice : {A : Type 0} (P : A → Type 0) (xs : List A) (j : ℕ) (x : A) → All P xs → slice_get xs j ≡ Some x → P x
all_slice P xs j x all at = subst P (get_or_from_slice_get xs j x x at) (all j x (slice_get_within xs j x at))

-- the ways to say that an element is there
pub contains_slice : {A : Type 0} (xs : List A) (x : A) → Contains xs x → (n : ℕ) × (slice_get xs n ≡ Some x)
contains_slice xs x (k, within, at) = (k, slice_get-get_or xs k x within ∙ ap Some at)

pub slice_contains : {A : Type 0} (xs : List A) (n : ℕ) (x : A) → slice_get xs n ≡ Some x → Contains xs x
slice_contains xs n x at = (n, slice_get_within xs n x at, get_or_from_slice_get xs n x x at)

pub contains_among : {A : Type 0} (xs : List A) (x : A) → Contains xs x → IsAmong x xs
contains_among xs x h = let t = contains_slice xs x h in (t.0, some_at xs t.0 x t.1)

pub has_number : (xs : List ℕ) (g : ℕ) → Has xs g → list_any (λ (h : ℕ). h == g) xs ≡ true
has_number [] g h = absurd h
has_number (x ∷ xs) g (inl e) = ap (λ (b : Bool). b || list_any (λ (h : ℕ). h == g) xs) (eq-eqb x g e)
has_number (x ∷ xs) g (inr h) = ap (λ (b : Bool). (x == g) || b) (has_number xs g h) ∙ (elim (x == g) as (λ (b : Bool). (b || true) ≡ true) [ true ↦ refl | false ↦ refl ])

pub take_next : {A : Type 0} (xs : List A) (n : ℕ) (x : A) → slice_get xs n ≡ Some x → take (suc n) xs ≡ take n xs ++ x ∷ []
take_next [] n x e = absurd (none-some x e)
take_next (y ∷ xs) zero x e = ap (λ z. z ∷ []) (same_Some y x e)
take_next (y ∷ xs) (suc n) x e = ap (λ l. y ∷ l) (take_next xs n x e)

-- the numbers below a bound
pub has_range : (n k : ℕ) → k < n → Has (range_with_len 0 n) k
has_range n k lt = Has_from_Contains (range_with_len 0 n) k (k, (let l = length-range_with_len 0 n in omega (arith, l, lt)), get_or-range_with_len 0 n k k lt ∙ omega arith)

pub range_has : (n k : ℕ) → Has (range_with_len 0 n) k → k < n
range_has n k has = let c = Contains_from_Has (range_with_len 0 n) k has in
    let l = length-range_with_len 0 n in let lt = c.1 in
    let at : 0 + c.0 ≡ k = sym (get_or-range_with_len 0 n c.0 k (omega (arith, l, lt))) ∙ c.2 in omega (arith, l, lt, at)

pub number_in : (n i : ℕ) → i < n → slice_get (range_with_len 0 n) i ≡ Some i
number_in n i lt = slice_get-get_or (range_with_len 0 n) i 0 (let long = length-range_with_len 0 n in omega (arith, long, lt)) ∙ ap Some (get_or-range_with_len 0 n i 0 lt ∙ (let is : 0 + i ≡ i = omega arith in is))

-- the list of one number weighs no more than those of all together
pub weight_in : {A : Type 0} (h : A → ℕ) (g : ℕ → List A) (ns : List ℕ) (m i : ℕ) → slice_get ns m ≡ Some i → total h (g i) ≤ total h (flat_map g ns)
weight_in h g [] m i e = absurd (none-some i e)
weight_in h g (n ∷ ns) zero i e = let same : n ≡ i = cc in let is = ap (λ k. total h (g k)) same in omega (arith, is, total-append h (g n) (flat_map g ns))
weight_in h g (n ∷ ns) (suc m) i e = omega (arith, weight_in h g ns m i e, total-append h (g n) (flat_map g ns))

-- what stands in the whole with a number of a beginning is the beginning's
pub slice_begins : {A : Type 0} (xs ys : List A) (n : ℕ) (x : A) → Begins xs ys → n < length xs → slice_get ys n ≡ Some x → slice_get xs n ≡ Some x
slice_begins {A} xs ys n x b lt at = there xs b.0 n x lt (subst (λ (l : List A). slice_get l n ≡ Some x) b.1 at) where
  there : (l m : List A) (n : ℕ) (x : A) → n < length l → slice_get (l ++ m) n ≡ Some x → slice_get l n ≡ Some x
  there [] m n x lt e = absurd (omega arith)
  there (y ∷ l) m zero x lt e = e
  there (y ∷ l) m (suc n) x lt e = there l m n x (omega arith) e

-- a journal that has one is closed
pub at_closed : (es : List Entry) (n : ℕ) → slice_get es n ≡ Some Closed → is_closed es ≡ true
at_closed [] n h = absurd (none-some Closed h)
at_closed (e ∷ es) zero h = ap (λ x. is_closing x || is_closed es) (same_Some e Closed h)
at_closed (e ∷ es) (suc n) h = elim (cases_Bool (is_closing e)) [
  | inl closing ↦ ap (λ b. b || is_closed es) closing
  | inr not ↦ ap (λ b. b || is_closed es) not ∙ at_closed es n h
]

pub closed_begins : (es fs : List Entry) → Begins es fs → is_closed es ≡ true → is_closed fs ≡ true
closed_begins es fs b closed = let t = closed_at es closed in at_closed fs t.0 (begins_slice es fs t.0 Closed b t.1)

-- ---- pairs of a list, by recursion
abbrev pub PairsRec : {A : Type 0} → (A → A → Type 0) → List A → Type 0
PairsRec R [] = Unit {0}
PairsRec R (x ∷ xs) = AllByRecursion (R x) xs × PairsRec R xs

pub pairs_rec : {A : Type 0} (R : A → A → Type 0) (xs : List A) → AllPairs R xs → PairsRec R xs
pairs_rec R [] h = tt
pairs_rec {A} R (x ∷ xs) h = (
  by_slices (R x) xs (λ j y e. subst (R x) (get_or_from_slice_get xs j y y e) (h 0 (suc j) y (omega arith) (omega (arith, slice_get_within xs j y e)))),
  pairs_rec R xs (λ i j d lt lj. h (suc i) (suc j) d (omega (arith, lt)) (omega (arith, lj))),
)

pub pairs_by_slices : {A : Type 0} (R : A → A → Type 0) (xs : List A) → ((i j : ℕ) (x y : A) → i < j → slice_get xs i ≡ Some x → slice_get xs j ≡ Some y → R x y) → PairsRec R xs
pairs_by_slices R [] h = tt
pairs_by_slices R (x ∷ xs) h = (by_slices (R x) xs (λ j y e. h 0 (suc j) x y (omega arith) refl e), pairs_by_slices R xs (λ i j y z lt a b. h (suc i) (suc j) y z (omega (arith, lt)) a b))

pub pairs_right : {A : Type 0} (R : A → A → Type 0) (xs ys : List A) → PairsRec R (xs ++ ys) → PairsRec R ys
pairs_right R [] ys h = h
pairs_right R (x ∷ xs) ys h = pairs_right R xs ys h.1

all_filter : {A : Type 0} (P : A → Type 0) (p : A → Bool) (xs : List A) → AllByRecursion P xs → AllByRecursion P (filter p xs)
all_filter P p [] h = tt
all_filter P p (x ∷ xs) h = (elim (p x) as (λ (b : Bool). AllByRecursion P (filter p xs) → AllByRecursion P (cond b (x ∷ filter p xs) (filter p xs))) [ true ↦ λ rest. (h.0, rest) | false ↦ λ rest. rest ]) (all_filter P p xs h.1)

pub pairs_filter : {A : Type 0} (R : A → A → Type 0) (p : A → Bool) (xs : List A) → PairsRec R xs → PairsRec R (filter p xs)
pairs_filter R p [] h = tt
pairs_filter R p (x ∷ xs) h = (elim (p x) as (λ (b : Bool). PairsRec R (filter p xs) → PairsRec R (cond b (x ∷ filter p xs) (filter p xs))) [ true ↦ λ rest. (all_filter (R x) p xs h.0, rest) | false ↦ λ rest. rest ]) (pairs_filter R p xs h.1)

-- pairs of elements that are both in the list
pub pairs_weaker : {A : Type 0} (R S : A → A → Type 0) (xs : List A) → ((x y : A) → Has xs x → Has xs y → R x y → S x y) → PairsRec R xs → PairsRec S xs
pairs_weaker R S [] f h = tt
pairs_weaker {A} R S (x ∷ xs) f h = (heads x xs (λ y has. f x y (inl refl) (inr has)) h.0, pairs_weaker R S xs (λ y z a b. f y z (inr a) (inr b)) h.1) where
  heads : (x : A) (ys : List A) → ((y : A) → Has ys y → R x y → S x y) → AllByRecursion (R x) ys → AllByRecursion (S x) ys
  heads x [] f h = tt
  heads x (y ∷ ys) f h = (f y (inl refl) h.0, heads x ys (λ z has. f z (inr has)) h.1)

abbrev IsLess : UseStep → UseStep → Type 0
IsLess o q = o.operation < q.operation

-- two lists of rising numbers that have the same elements are one
pub same_rising : (xs ys : List UseStep) → PairsRec IsLess xs → PairsRec IsLess ys → ((o : UseStep) → Has xs o → Has ys o) → ((o : UseStep) → Has ys o → Has xs o) → xs ≡ ys
same_rising [] [] a b to from = refl
same_rising [] (y ∷ ys) a b to from = absurd (from y (inl refl))
same_rising (x ∷ xs) [] a b to from = absurd (to x (inl refl))
same_rising (x ∷ xs) (y ∷ ys) a b to from = let rest : xs ≡ ys = same_rising xs ys a.1 b.1 (λ o has. past x y xs ys (sym first) o a.0 has (to o (inr has))) (λ o has. past y x ys xs first o b.0 has (from o (inr has))) in λ i. first i ∷ rest i where
  less : (z : UseStep) (zs : List UseStep) (o : UseStep) → AllByRecursion (IsLess z) zs → Has zs o → z.operation < o.operation
  less z zs o all has = each_has (IsLess z) zs o all has

  first : x ≡ y
  first = ⊎_elim (λ e. sym e) (λ later. ⊎_elim (λ e. e) (λ later'. let p = less y ys x b.0 later in let q = less x xs y a.0 later' in absurd (omega (arith, p, q))) (from y (inl refl))) (to x (inl refl))

  past : (u v : UseStep) (us vs : List UseStep) → v ≡ u → (o : UseStep) → AllByRecursion (IsLess u) us → Has us o → Has (v ∷ vs) o → Has vs o
  past u v us vs e o all has (inl here) = let p = less u us o all has in absurd (omega (arith, p, ap (λ (z : UseStep). z.operation) (sym e ∙ here)))
  past u v us vs e o all has (inr later) = later

-- ---- the operations of a step
pub is_by_own : (by : Serial) (o : UseStep) → o.by ≡ by → is_by by o ≡ true
is_by_own by o e = and_from (eqb o.by.worker by.worker) (eqb o.by.command by.command) (eq-eqb o.by.worker by.worker (ap (λ (z : Serial). z.worker) e)) (eq-eqb o.by.command by.command (ap (λ (z : Serial). z.command) e))

pub has_among : {A : Type 0} (xs : List A) (x : A) → Has xs x → IsAmong x xs
has_among xs x h = contains_among xs x (Contains_from_Has xs x h)

pub among_has : {A : Type 0} (xs : List A) (x : A) → IsAmong x xs → Has xs x
among_has xs x (j, e) = Has_from_Contains xs x (slice_contains xs j x (at_some xs j x e))

-- the numbers of each group's operations rise along a chain
pub rise_along : (t : WorkerState) (mine : List Step) (k : ℕ) (x : Step) → AreStepsChained t mine → AreRising t.uses.ops → slice_get mine k ≡ Some x → AreRising x.after.uses.ops
rise_along t [] k x c h e = absurd (none-some x e)
rise_along t (y ∷ mine) zero x c h e = subst (λ (z : Step). AreRising z.after.uses.ops) (same_Some y x e) (c.1.rise (subst (λ (u : WorkerState). AreRising u.uses.ops) (sym c.0) h))
rise_along t (y ∷ mine) (suc k) x c h e = rise_along y.after mine k x c.2 (c.1.rise (subst (λ (u : WorkerState). AreRising u.uses.ops) (sym c.0) h)) e

pub history_rises : (g : ℕ) (ops : List UseStep) → IsChargeHistory g ops → PairsRec IsLess ops
history_rises g ops h = pairs_by_slices IsLess ops (λ i j x y lt a b. let n = number i x a in let m = number j y b in omega (arith, n, m, lt)) where
  number : (n : ℕ) (o : UseStep) → slice_get ops n ≡ Some o → o.operation ≡ n
  number n o e = let lt = slice_get_within ops n o e in (h n o e).number ∙ length-take-le n ops (omega (arith, lt))

module _ (s : Script) (r : Report) (workers : List (List Step)) (run : IsRun s r workers) where
  -- an operation of the report is one of a step, and the other way round
  pub op_of : (o : UseStep) → Has r.uses.items o → HasStep (λ (x : Step). x.work.ops) workers o
  op_of o has = has_step (λ (x : Step). x.work.ops) workers o (contains_among (all_ops workers) o (Contains-permutation r.uses.items (all_ops workers) o run.uses.same (Contains_from_Has r.uses.items o has)))

  pub op_there : (worker k : ℕ) (x : Step) (o : UseStep) → slice_get (steps_of workers worker) k ≡ Some x → IsAmong o x.work.ops → Has r.uses.items o
  op_there worker k x o at among = Has_from_Contains r.uses.items o (Contains-permutation (all_ops workers) r.uses.items o (IsPermutation-sym r.uses.items (all_ops workers) run.uses.same)
      (Contains_from_Has (all_ops workers) o (among_has (all_ops workers) o (gathered_has (λ (y : Step). y.work.ops) workers worker k x o at among))))

  -- an operation is by its step's command
  pub op_by : (worker k : ℕ) (x : Step) (o : UseStep) → slice_get (steps_of workers worker) k ≡ Some x → IsAmong o x.work.ops → o.by ≡ x.by
  op_by worker k x o at among = all_among (λ (z : UseStep). z.by ≡ x.by) x.work.ops o (run.steps.each worker k x at).did.charges.own among

  -- two steps of one command are one
  pub one_by : (v i w j : ℕ) (x y : Step) → slice_get (steps_of workers v) i ≡ Some x → slice_get (steps_of workers w) j ≡ Some y → x.by ≡ y.by → x ≡ y
  one_by v i w j x y at_x at_y same = let e : serial_of v i ≡ serial_of w j = sym (run.steps.each v i x at_x).by ∙ (same ∙ (run.steps.each w j y at_y).by) in
      same_step workers v i w j x y at_x at_y (ap (λ (z : Serial). z.worker) e) (ap (λ (z : Serial). z.command) e)

  step_rises : (worker k : ℕ) (x : Step) (g : ℕ) → slice_get (steps_of workers worker) k ≡ Some x → PairsRec IsLess (ops_at g x.work.ops)
  step_rises worker k x g at =
      let none : AreRising (run.steps.first worker).uses.ops = subst AreRising (sym (run.steps.new worker).ops) (λ i j d lt lj. absurd (omega (arith, lj))) in
      let all = rise_along (run.steps.first worker) (steps_of workers worker) k x (run.steps.chained worker) none at in
      let whole : PairsRec (λ a b. IsLaterThan b a) (x.before.uses.ops ++ x.work.ops) = subst (PairsRec (λ a b. IsLaterThan b a)) (ap (λ u. u.ops) (work_of s r workers run worker k x at).uses) (pairs_rec (λ a b. IsLaterThan b a) x.after.uses.ops all) in
      pairs_weaker (λ a b. IsLaterThan b a) IsLess (ops_at g x.work.ops) (λ a b has_a has_b later. later (group a has_a ∙ sym (group b has_b)))
      (pairs_filter (λ a b. IsLaterThan b a) (λ (o : UseStep). eqb o.group g) x.work.ops (pairs_right (λ a b. IsLaterThan b a) x.before.uses.ops x.work.ops whole)) where
        group : (o : UseStep) → Has (ops_at g x.work.ops) o → o.group ≡ g
        group o has = eqb-true o.group g (filter_has (λ (z : UseStep). eqb z.group g) x.work.ops o has).1

  -- the operations of a command in a group
  pub ops_are : (worker k : ℕ) (x : Step) (g : ℕ) → slice_get (steps_of workers worker) k ≡ Some x → ops_by x.by (uses_at r g) ≡ ops_at g x.work.ops
  ops_are worker k x g at = same_rising (ops_by x.by (uses_at r g)) (ops_at g x.work.ops) (pairs_filter IsLess (is_by x.by) (uses_at r g) (history_rises g (uses_at r g) (run.uses.histories g))) (step_rises worker k x g at) to from where
    to : (o : UseStep) → Has (ops_by x.by (uses_at r g)) o → Has (ops_at g x.work.ops) o
    to o has =
        let a = filter_has (is_by x.by) (uses_at r g) o has in
        let b = filter_has (λ (z : UseStep). eqb z.group g) r.uses.items o a.0 in
        let of = op_of o b.0 in
        let same : of.step ≡ x = one_by of.worker of.k worker k of.step x of.at at (sym (op_by of.worker of.k of.step o of.at of.has) ∙ is_by_same x.by o a.1) in
        Has_filter (λ (z : UseStep). eqb z.group g) x.work.ops o (among_has x.work.ops o (subst (λ (z : Step). IsAmong o z.work.ops) same of.has)) b.1

    from : (o : UseStep) → Has (ops_at g x.work.ops) o → Has (ops_by x.by (uses_at r g)) o
    from o has =
        let a = filter_has (λ (z : UseStep). eqb z.group g) x.work.ops o has in
        let among = has_among x.work.ops o a.0 in
        Has_filter (is_by x.by) (uses_at r g) o (Has_filter (λ (z : UseStep). eqb z.group g) r.uses.items o (op_there worker k x o at among) a.1) (is_by_own x.by o (op_by worker k x o at among))

  -- a command that no step is of has none
  pub ops_none : (by : Serial) (g : ℕ) → ((worker k : ℕ) (x : Step) → slice_get (steps_of workers worker) k ≡ Some x → x.by ≡ by → ⊥) → ops_by by (uses_at r g) ≡ []
  ops_none by g never = empty (ops_by by (uses_at r g)) (λ o has. let a = filter_has (is_by by) (uses_at r g) o has in let b = filter_has (λ (z : UseStep). eqb z.group g) r.uses.items o a.0 in let of = op_of o b.0 in
      never of.worker of.k of.step of.at (sym (op_by of.worker of.k of.step o of.at of.has) ∙ is_by_same by o a.1)) where
        empty : (xs : List UseStep) → ((o : UseStep) → Has xs o → ⊥) → xs ≡ []
        empty [] h = refl
        empty (x ∷ xs) h = absurd (h x (inl refl))

-- an element and one of the list behind it
pub across : {A : Type 0} (R : A → A → Type 0) (xs ys : List A) (x y : A) → PairsRec R (xs ++ ys) → Has xs x → Has ys y → R x y
across R [] ys x y h has of_y = absurd has
across R (z ∷ xs) ys x y h (inl e) of_y = subst (λ w. R w y) e (each_has (R z) ys y (right xs ys h.0) of_y) where
  right : (us vs : List _) → AllByRecursion (R z) (us ++ vs) → AllByRecursion (R z) vs
  right [] vs all = all
  right (u ∷ us) vs all = right us vs all.1
across R (z ∷ xs) ys x y h (inr has) of_y = across R xs ys x y h.1 has of_y

-- an element of a beginning is one of the whole
pub Has_begins : {A : Type 0} (xs ys : List A) (x : A) → Begins xs ys → Has xs x → Has ys x
Has_begins xs ys x b has = subst (λ l. Has l x) (sym b.1) (left xs b.0 has) where
  left : (us vs : List _) → Has us x → Has (us ++ vs) x
  left [] vs h = absurd h
  left (u ∷ us) vs (inl e) = inl e
  left (u ∷ us) vs (inr h) = inr (left us vs h)

-- what follows where an element is of the one list, and where it is of the other
pub either : {A C : Type 0} (xs ys : List A) (x : A) → Has (xs ++ ys) x → (Has xs x → C) → (Has ys x → C) → C
either [] ys x h f g = g h
either (y ∷ xs) ys x (inl e) f g = f (inl e)
either (y ∷ xs) ys x (inr h) f g = either xs ys x h (λ a. f (inr a)) g

pub all_has : {A : Type 0} (P : A → Type 0) (xs : List A) → ((x : A) → Has xs x → P x) → AllByRecursion P xs
all_has P [] h = tt
all_has P (x ∷ xs) h = (h x (inl (λ i. x)), all_has P xs (λ y has. h y (inr has)))

-- two lists whose parts are the same by number flatten to one
pub same_flat : {A B C : Type 0} (f : A → List C) (g : B → List C) (xs : List A) (ys : List B) (f' : Option A → List C) (g' : Option B → List C)
    → (f' None ≡ []) → (g' None ≡ []) → ((x : A) → f' (Some x) ≡ f x) → ((y : B) → g' (Some y) ≡ g y) → ((i : ℕ) → f' (slice_get xs i) ≡ g' (slice_get ys i)) → flat_map f xs ≡ flat_map g ys
same_flat f g [] [] f' g' nf ng sf sg h = refl
same_flat f g (x ∷ xs) [] f' g' nf ng sf sg h = ap (λ l. l ++ flat_map f xs) (sym (sf x) ∙ (h 0 ∙ ng)) ∙ same_flat f g xs [] f' g' nf ng sf sg (λ i. h (suc i))
same_flat f g [] (y ∷ ys) f' g' nf ng sf sg h = same_flat f g [] ys f' g' nf ng sf sg (λ i. h (suc i)) ∙ ap (λ l. l ++ flat_map g ys) (sym (sym (sg y) ∙ (sym (h 0) ∙ nf)))
same_flat f g (x ∷ xs) (y ∷ ys) f' g' nf ng sf sg h = ap (λ l. l ++ flat_map f xs) (sym (sf x) ∙ (h 0 ∙ sg y)) ∙ ap (λ l. g y ++ l) (same_flat f g xs ys f' g' nf ng sf sg (λ i. h (suc i)))

-- an element that passes, where one does
pub any_has : {A : Type 0} (test : A → Bool) (xs : List A) → list_any test xs ≡ true → (x : A) × Has xs x × (test x ≡ true)
any_has test [] h = absurd (let f : false ≡ true = h in cc)
any_has test (x ∷ xs) h = elim (cases_Bool (test x)) [
  | inl here ↦ (x, inl refl, here)
  | inr not_it ↦ let t = any_has test xs (sym (ap (λ b. b || list_any test xs) not_it) ∙ h) in (t.0, inr t.1, t.2)
]

pub most_one : (b : Bool) → cond {A = ℕ} b 1 0 ≤ 1
most_one true = omega arith
most_one false = omega arith

-- a list by its elements
pub same_by_slices : {A : Type 0} (xs ys : List A) → length xs ≡ length ys → ((i : ℕ) (y : A) → slice_get ys i ≡ Some y → slice_get xs i ≡ Some y) → xs ≡ ys
same_by_slices [] [] e h = refl
same_by_slices (x ∷ xs) [] e h = absurd (omega (arith, e))
same_by_slices [] (y ∷ ys) e h = absurd (omega (arith, e))
same_by_slices {A} (x ∷ xs) (y ∷ ys) e h = let first : x ≡ y = same_Some x y (h 0 y refl) in let later : xs ≡ ys = same_by_slices xs ys (omega (arith, e)) (λ i z at. h (suc i) z at) in λ i. first i ∷ later i

pub slice_map : {A B : Type 0} (f : A → B) (xs : List A) (i : ℕ) (y : B) → slice_get (map f xs) i ≡ Some y → (x : A) × (slice_get xs i ≡ Some x) × (f x ≡ y)
slice_map f [] i y e = absurd (none-some y e)
slice_map f (x ∷ xs) zero y e = (x, refl, same_Some (f x) y e)
slice_map f (x ∷ xs) (suc i) y e = slice_map f xs i y e

module _ (s : Script) (r : Report) (workers : List (List Step)) (run : IsRun s r workers) where
  pub all_walks_are : all_walks r ≡ gathered (λ x. x.work.walks) workers
  all_walks_are = same_flat (λ (part : WorkerPart). part.walks.items) (λ (mine : List Step). flat_map (λ (x : Step). x.work.walks) mine) r.workers.items workers walks_in (λ (o : Option (List Step)). flat_map (λ (x : Step). x.work.walks) (steps_in o))
      refl refl (λ part. refl) (λ mine. refl) run.steps.walks

  pub all_carries_are : all_carries r ≡ gathered (λ x. x.work.carries) workers
  all_carries_are = same_flat (λ (part : WorkerPart). part.carries.items) (λ (mine : List Step). flat_map (λ (x : Step). x.work.carries) mine) r.workers.items workers carries_in (λ (o : Option (List Step)). flat_map (λ (x : Step). x.work.carries) (steps_in o))
      refl refl (λ part. refl) (λ mine. refl) run.steps.carries

  pub answers_are : (worker : ℕ) → answers_of r worker ≡ map (λ (x : Step). x.answered) (steps_of workers worker)
  answers_are worker = same_by_slices (answers_of r worker) (map (λ (x : Step). x.answered) (steps_of workers worker)) (run.steps.answers worker ∙ sym (length-map (steps_of workers worker) (λ (x : Step). x.answered)))
      (λ i a at. let t = slice_map (λ (x : Step). x.answered) (steps_of workers worker) i a at in (run.steps.each worker i t.0 t.1).answered ∙ ap Some t.2)

  -- how many walks a worker had before a step
  walks_before : (t : WorkerState) (mine : List Step) (k : ℕ) (x : Step) → AreStepsChained t mine → slice_get mine k ≡ Some x → length x.before.walks ≡ length t.walks + length (flat_map (λ (y : Step). y.work.walks) (take k mine))
  walks_before t [] k x c e = absurd (none-some x e)
  walks_before t (y ∷ mine) zero x c e = omega (arith, ap (λ (z : Step). length z.before.walks) (sym (same_Some y x e)), ap (λ (u : WorkerState). length u.walks) c.0)
  walks_before t (y ∷ mine) (suc k) x c e = omega (
    arith,
    walks_before y.after mine k x c.2 e,
    ap length c.1.walks,
    ap (λ (u : WorkerState). length u.walks) c.0,
    length-append y.before.walks y.work.walks,
    length-append y.work.walks (flat_map (λ (z : Step). z.work.walks) (take k mine)),
  )

  -- the step of a walk of the report
  pub record WalkOf (worker n : ℕ) (w : WalkRecord) : Type 0 where
    pub k : ℕ
    pub i : ℕ
    pub step : Step
    pub at : slice_get (steps_of workers worker) k ≡ Some step
    pub own : slice_get step.work.walks i ≡ Some w
    pub number : n ≡ length step.before.walks + i
    pub is : IsStep s r worker k step
    pub did : DidWalk s step n w

  pub walk_of : (worker n : ℕ) (w : WalkRecord) → walk_at r worker n ≡ Some w → WalkOf worker n w
  walk_of worker n w at =
      let f : Step → List WalkRecord = λ x. x.work.walks in
      let t = flat_at f (steps_of workers worker) n w (ap (λ l. slice_get l n) (sym (run.steps.walks worker)) ∙ at) in
      let is = run.steps.each worker t.k t.x t.at in
      let none : length (run.steps.first worker).walks ≡ 0 = ap length (run.steps.new worker).walks in
      let number : n ≡ length t.x.before.walks + t.i = omega (arith, t.number, none, walks_before (run.steps.first worker) (steps_of workers worker) t.k t.x (run.steps.chained worker) t.at) in
      record { k = t.k; i = t.i; step = t.x; at = t.at; own = t.own; number = number; is = is; did = subst (λ m. DidWalk s t.x m w) (sym number) (is.did.walks.each t.i w t.own) }

  -- and a step's walk in the report
  pub walk_there : (worker k i : ℕ) (x : Step) (w : WalkRecord) → slice_get (steps_of workers worker) k ≡ Some x → slice_get x.work.walks i ≡ Some w → walk_at r worker (length x.before.walks + i) ≡ Some w
  walk_there worker k i x w at own =
      let f : Step → List WalkRecord = λ y. y.work.walks in
      let none : length (run.steps.first worker).walks ≡ 0 = ap length (run.steps.new worker).walks in
      ap (λ l. slice_get l (length x.before.walks + i)) (run.steps.walks worker)
      ∙ flat_there f (steps_of workers worker) k i (length x.before.walks + i) x w at own (omega (arith, none, walks_before (run.steps.first worker) (steps_of workers worker) k x (run.steps.chained worker) at))
