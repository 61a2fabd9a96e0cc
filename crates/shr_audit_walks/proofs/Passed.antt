-- SPDX-License-Identifier: GPL-2.0-only
-- A key is among those of the passes of a report if and only if there is such a pass.
use Rattle.shr_audit_walks.proofs.ScansCommon.{◌≡◌, ℕ, zero, suc, ◌+◌, ◌^◌, ◌<◌, Bool, true, false, cond, List, [], ◌∷◌, length, Option, Some, None, refl, sym, ap, subst, ◌∙◌, inl, inr, arith, Contains, filter_map, slice_get, enumerate_from, cases_Bool, slice_get_within, WorkerPart, Place, Attempt, WalkRecord, is_place, is_place_same, is_place_itself, Report, HasNumbers, IsNumbered, each_in, key_of, key_if, keys_at, keys_in, keys_of_part, keys_of_report, ◌↔◌, filter, IsPartNumbered, IsWalkNumbered, IsAttemptNumbered}
use Rattle.std.specs.Option.{IsSomeAnd}
use Rattle.shr_base.specs.declared.walks.PassRecord.{PassRecord}
use Rattle.shr_model.specs.Attempts.{pass_of}
use Rattle.shr_model.specs.Walks.{passes_at, place_in}
use Rattle.shr_model.proofs.Members.{Has, Has_from_Contains, Contains_from_Has, Has_flat_map, flat_map_has, each_has}
use Rattle.shr_laws.specs.Parts.{walk_at, walks_in}
use Rattle.shr_audit_walks.proofs.Keyed.{one_pass}

-- the walk with this number of this worker made a pass at the place
abbrev pub IsPassAt : Report → ℕ → ℕ → Place → Type 0
IsPassAt r worker n place = IsSomeAnd (walk_at r worker n) (λ w. 0 < length (passes_at place w))

-- ---- items with their numbers

numbered_at : {X : Type 0} (m : ℕ) (xs : List X) (x : ℕ × X) → Has (enumerate_from m xs) x → (k : ℕ) × ((x.0 ≡ m + k) × (slice_get xs k ≡ Some x.1))
numbered_at m [] x h = absurd h
numbered_at {X} m (y ∷ ys) x (inl e) = (0, (omega (arith, ap (λ (z : ℕ × X). z.0) e), ap (λ (z : ℕ × X). Some z.1) e))
numbered_at m (y ∷ ys) x (inr h) = let rest = numbered_at (m + 1) ys x h in (suc rest.0, (omega (arith, rest.1.0), rest.1.1))

-- each item with its number stands at it
item_at : {X : Type 0} (xs : List X) (x : ℕ × X) → Has (enumerate_from 0 xs) x → slice_get xs x.0 ≡ Some x.1
item_at {X} xs x h =
    let at = numbered_at 0 xs x h in
    let is : at.0 ≡ x.0 = omega (arith, at.1.0) in
    subst (λ (k : ℕ). slice_get xs k ≡ Some x.1) is at.1.1

has_numbered : {X : Type 0} (m : ℕ) (xs : List X) (k : ℕ) (x : X) → slice_get xs k ≡ Some x → Has (enumerate_from m xs) (m + k, x)
has_numbered m [] k x at = absurd (let lt = slice_get_within [] k x at in omega arith)
has_numbered {X} m (y ∷ ys) zero x at = inl (let same : y ≡ x = cc in let here : m ≡ m + 0 = omega arith in λ i. (here i, same i))
has_numbered {X} m (y ∷ ys) (suc k) x at = inr (let next : (m + 1) + k ≡ m + suc k = omega arith in subst (λ (n : ℕ). Has (enumerate_from (m + 1) ys) (n, x)) next (has_numbered (m + 1) ys k x at))

has_item : {X : Type 0} (xs : List X) (k : ℕ) (x : X) → slice_get xs k ≡ Some x → Has (enumerate_from 0 xs) (k, x)
has_item {X} xs k x at = let none : 0 + k ≡ k = omega arith in subst (λ (n : ℕ). Has (enumerate_from 0 xs) (n, x)) none (has_numbered 0 xs k x at)

-- ---- attempts

-- a walk with an attempt at a place that passed has a pass there
passed : (w : WalkRecord) (place : Place) (all : List Attempt) (a : Attempt) (p : PassRecord) → Has all a → place_in w a.id ≡ place → pass_of a.outcome ≡ Some p
    → 0 < length (filter_map (λ (x : Attempt). pass_of x.outcome) (filter (λ (x : Attempt). is_place place (place_in w x.id)) all))
passed w place [] a p h at ran = absurd h
passed w place (x ∷ xs) a p (inl e) at ran =
    let own : is_place place (place_in w x.id) ≡ true = ap (λ (y : Attempt). is_place place (place_in w y.id)) e ∙ ap (is_place place) at ∙ is_place_itself place in
    let one : pass_of x.outcome ≡ Some p = ap (λ (y : Attempt). pass_of y.outcome) e ∙ ran in
    rw (own, one) (omega arith)
passed w place (x ∷ xs) a p (inr h) at ran = by_test (is_place place (place_in w x.id)) (passed w place xs a p h at ran)
  where
    by_pass : (o : Option PassRecord) → pass_of x.outcome ≡ o → 0 < length (filter_map (λ (y : Attempt). pass_of y.outcome) (filter (λ (y : Attempt). is_place place (place_in w y.id)) xs))
        → 0 < length (filter_map (λ (y : Attempt). pass_of y.outcome) (x ∷ filter (λ (y : Attempt). is_place place (place_in w y.id)) xs))
    by_pass None e more = rw e more
    by_pass (Some q) e more = rw e (omega arith)

    by_test : (b : Bool) → 0 < length (filter_map (λ (y : Attempt). pass_of y.outcome) (filter (λ (y : Attempt). is_place place (place_in w y.id)) xs))
        → 0 < length (filter_map (λ (y : Attempt). pass_of y.outcome) (cond b (x ∷ filter (λ (y : Attempt). is_place place (place_in w y.id)) xs) (filter (λ (y : Attempt). is_place place (place_in w y.id)) xs)))
    by_test true more = by_pass (pass_of x.outcome) refl more
    by_test false more = more

-- and the other way round
record IsPassed (w : WalkRecord) (place : Place) (all : List Attempt) (a : Attempt) (p : PassRecord) : Type 0 where
  has : Has all a
  at : place_in w a.id ≡ place
  ran : pass_of a.outcome ≡ Some p

who_passed : (w : WalkRecord) (place : Place) (all : List Attempt) → 0 < length (filter_map (λ (x : Attempt). pass_of x.outcome) (filter (λ (x : Attempt). is_place place (place_in w x.id)) all))
    → (a : Attempt) × ((p : PassRecord) × IsPassed w place all a p)
who_passed w place [] some = absurd (omega arith)
who_passed w place (x ∷ xs) some = elim (cases_Bool (is_place place (place_in w x.id))) [
  | inl own ↦ by_pass own (pass_of x.outcome) refl (rw own at some) (λ more. who_passed w place xs more)
  | inr other ↦ later (who_passed w place xs (rw other at some))
] where
  later : ((a : Attempt) × ((p : PassRecord) × IsPassed w place xs a p)) → (a : Attempt) × ((p : PassRecord) × IsPassed w place (x ∷ xs) a p)
  later found = (found.0, (found.1.0, record { has = inr found.1.1.has; at = found.1.1.at; ran = found.1.1.ran }))

  by_pass : is_place place (place_in w x.id) ≡ true → (o : Option PassRecord) → pass_of x.outcome ≡ o
      → 0 < length (filter_map (λ (y : Attempt). pass_of y.outcome) (x ∷ filter (λ (y : Attempt). is_place place (place_in w y.id)) xs))
      → (0 < length (filter_map (λ (y : Attempt). pass_of y.outcome) (filter (λ (y : Attempt). is_place place (place_in w y.id)) xs)) → (a : Attempt) × ((p : PassRecord) × IsPassed w place xs a p))
      → (a : Attempt) × ((p : PassRecord) × IsPassed w place (x ∷ xs) a p)
  by_pass own None e some more = later (more (rw e at some))
  by_pass own (Some p) e some more = (x, (p, record { has = inl refl; at = sym (is_place_same place (place_in w x.id) own); ran = e }))

has_key_if : (key k : ℕ) (o : Option PassRecord) → Has (key_if key o) k → (p : PassRecord) × ((o ≡ Some p) × (key ≡ k))
has_key_if key k None h = absurd h
has_key_if key k (Some p) (inl e) = (p, (refl, e))
has_key_if key k (Some p) (inr h) = absurd h

-- ---- the whole report

part_numbered : (r : Report) (worker : ℕ) (part : WorkerPart) → HasNumbers r → slice_get r.workers.items worker ≡ Some part → IsPartNumbered part
part_numbered r worker part numbers at = each_in IsPartNumbered r.workers.items numbers.workers worker part at

walk_numbered : (r : Report) (worker n : ℕ) (part : WorkerPart) (w : WalkRecord) → HasNumbers r → slice_get r.workers.items worker ≡ Some part → slice_get part.walks.items n ≡ Some w → IsWalkNumbered w
walk_numbered r worker n part w numbers at here = each_in IsWalkNumbered part.walks.items (part_numbered r worker part numbers at).walks n w here

place_numbered : (w : WalkRecord) (a : Attempt) → IsWalkNumbered w → Has w.attempts.items a → IsNumbered (place_in w a.id)
place_numbered w a numbers h = record { id = (each_has IsAttemptNumbered w.attempts.items a numbers.attempts h).id; node = numbers.node; group = numbers.group }

few_workers : (r : Report) (worker : ℕ) (part : WorkerPart) → HasNumbers r → slice_get r.workers.items worker ≡ Some part → worker < 2 ^ 16
few_workers r worker part numbers at = let lt = slice_get_within r.workers.items worker part at in let few = numbers.few_parts in omega arith

pass_of_key : (r : Report) (worker n : ℕ) (place : Place) → HasNumbers r → worker < 2 ^ 16 → IsNumbered place → Contains (keys_of_report r) (key_of worker n place) → IsPassAt r worker n place
pass_of_key r worker n place numbers few np c =
    let key = key_of worker n place in
    let by_part = flat_map_has (λ (x : ℕ × WorkerPart). keys_of_part x.0 x.1.walks.items) (enumerate_from 0 r.workers.items) key (Has_from_Contains (keys_of_report r) key c) in
    let k = by_part.0.0 in
    let part = by_part.0.1 in
    let here = item_at r.workers.items by_part.0 by_part.1 in
    let by_walk = flat_map_has (λ (x : ℕ × WalkRecord). keys_in k x.0 x.1) (enumerate_from 0 part.walks.items) key by_part.2 in
    let m = by_walk.0.0 in
    let w = by_walk.0.1 in
    let there = item_at part.walks.items by_walk.0 by_walk.1 in
    let by_attempt = flat_map_has (keys_at k m w) w.attempts.items key by_walk.2 in
    let a = by_attempt.0 in
    let ran = has_key_if (key_of k m (place_in w a.id)) key (pass_of a.outcome) by_attempt.2 in
    let one = one_pass k m worker n (place_in w a.id) place (few_workers r k part numbers here) few (place_numbered w a (walk_numbered r k m part w numbers here there) by_attempt.1) np ran.1.1 in
    let found : walk_at r k m ≡ Some w = ap (λ (x : Option WorkerPart). slice_get (walks_in x) m) here ∙ there in
    let same : walk_at r worker n ≡ Some w = sym (ap (λ (x : ℕ). walk_at r x n) one.0) ∙ sym (ap (λ (x : ℕ). walk_at r k x) one.1.0) ∙ found in
    subst (λ (o : Option WalkRecord). IsSomeAnd o (λ x. 0 < length (passes_at place x))) (sym same) (passed w place w.attempts.items a ran.0 by_attempt.1 one.1.1 ran.1.0)

no_walk : (n : ℕ) (P : WalkRecord → Type 0) → IsSomeAnd (slice_get [] n) P → ⊥
no_walk zero P h = h
no_walk (suc n) P h = h

key_of_pass : (r : Report) (worker n : ℕ) (place : Place) → IsPassAt r worker n place → Contains (keys_of_report r) (key_of worker n place)
key_of_pass r worker n place h = by_part (slice_get r.workers.items worker) refl h
  where
    by_part : (o : Option WorkerPart) → slice_get r.workers.items worker ≡ o → IsSomeAnd (slice_get (walks_in o) n) (λ w. 0 < length (passes_at place w)) → Contains (keys_of_report r) (key_of worker n place)
    by_part None at h = absurd (no_walk n (λ w. 0 < length (passes_at place w)) h)
    by_part (Some part) at h = by_walk (slice_get part.walks.items n) refl h
      where
        by_walk : (o : Option WalkRecord) → slice_get part.walks.items n ≡ o → IsSomeAnd o (λ w. 0 < length (passes_at place w)) → Contains (keys_of_report r) (key_of worker n place)
        by_walk None here h = absurd h
        by_walk (Some w) here h =
            let key = key_of worker n place in
            let found = who_passed w place w.attempts.items h in
            let a = found.0 in
            let is = found.1.1 in
            let own : Has (keys_at worker n w a) key =
            subst (λ (o : Option PassRecord). Has (key_if (key_of worker n (place_in w a.id)) o) key) (sym is.ran) (inl (ap (key_of worker n) is.at)) in
            let in_walk = Has_flat_map (keys_at worker n w) w.attempts.items a key is.has own in
            let in_part = Has_flat_map (λ (x : ℕ × WalkRecord). keys_in worker x.0 x.1) (enumerate_from 0 part.walks.items) (n, w) key (has_item part.walks.items n w here) in_walk in
            let in_report = Has_flat_map (λ (x : ℕ × WorkerPart). keys_of_part x.0 x.1.walks.items) (enumerate_from 0 r.workers.items) (worker, part) key (has_item r.workers.items worker part at) in_part in
            Contains_from_Has (keys_of_report r) key in_report

pub is_passed : (r : Report) (worker n : ℕ) (place : Place) → HasNumbers r → worker < 2 ^ 16 → IsNumbered place → Contains (keys_of_report r) (key_of worker n place) ↔ IsPassAt r worker n place
is_passed r worker n place numbers few np = (pass_of_key r worker n place numbers few np, key_of_pass r worker n place)
