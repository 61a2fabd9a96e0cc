-- SPDX-License-Identifier: GPL-2.0-only
-- The law of deferred words, of a run.
use Rattle.shr_lawful.proofs.Common.{◌≡◌, ℕ, suc, ◌+◌, ◌<◌, ◌⊎◌, inl, inr, ⊎_elim, Bool, true, false, ◌&&◌, cond, List, [], ◌∷◌, ◌++◌, length, take, get_or, sym, refl, ap, subst, ◌∙◌, arith, slice_get, Option, Some, sum_by, flat_map, filter, filter_map, AllPairs, ◌==◌, AllByRecursion, dite, ℕ_discrete, IsSomeAnd, cases_lt, and_parts, eqb-true, same_Some, slice_get_within, get_or_from_slice_get, sum_by-append, sum_by-cons, flat_map-append, Place, PlaceAmount, Script, Attempt, Carry, PassRecord, WalkRecord, pass_of, sum_at, amount_at, deferred_word, is_below, given_at, taken_at, is_place, place_in, passes_at, is_place_same, IsTree, is_child, child_takes, child_higher, takes_of, gives_of, Serial, Reply, Report, parents_of, all_walks, all_carries, IsThere, serial_of, command_at, reply_at, HasCarried, IsBefore, Step, IsAmong, gathered, steps_of, Did, DidCarry, all_takes, all_gives, IsRun, by_slices, some_at, flat_zero, printed_at, IsCarryRight, IsDeferredLawful, carries_of, no_test}
use Rattle.shr_lawful.proofs.Gathering.{each_step, has_step, flat_at, reply_is}
use Rattle.shr_lawful.proofs.Listed.{all_among, all_slice, all_walks_are, all_carries_are}

-- ---- sums over all steps
amounts_both : (p : Place) (of_pass : PassRecord → ℕ) (test : Place → Bool) (ws vs : List WalkRecord) (cs ds : List Carry)
    → sum_by of_pass (flat_map (passes_at p) (ws ++ vs)) + sum_by (λ (c : Carry). cond (test c.place) c.amount 0) (cs ++ ds)
    ≡ (sum_by of_pass (flat_map (passes_at p) ws) + sum_by (λ (c : Carry). cond (test c.place) c.amount 0) cs) + (sum_by of_pass (flat_map (passes_at p) vs) + sum_by (λ (c : Carry). cond (test c.place) c.amount 0) ds)
amounts_both p of_pass test ws vs cs ds = omega (arith, ap (sum_by of_pass) (flat_map-append (passes_at p) ws vs), sum_by-append of_pass (flat_map (passes_at p) ws) (flat_map (passes_at p) vs), sum_by-append (λ (c : Carry). cond (test c.place) c.amount 0) cs ds)

sum_both : (p : Place) (xs ys : List PlaceAmount) → sum_at p (xs ++ ys) ≡ sum_at p xs + sum_at p ys
sum_both p xs ys = sum_by-append (amount_at p) xs ys

-- where each step has the amount that its walks and its carries tell of, so have all together
module _ (p : Place) (f : Step → List PlaceAmount) (amount : List WalkRecord → List Carry → ℕ) (none : amount [] [] ≡ 0)
    (both : (ws vs : List WalkRecord) (cs ds : List Carry) → amount (ws ++ vs) (cs ++ ds) ≡ amount ws cs + amount vs ds) where
  sum_mine : (mine : List Step) → AllByRecursion (λ (x : Step). sum_at p (f x) ≡ amount x.work.walks x.work.carries) mine
      → amount (flat_map (λ (x : Step). x.work.walks) mine) (flat_map (λ (x : Step). x.work.carries) mine) ≡ sum_at p (flat_map f mine)
  sum_mine [] h = none
  sum_mine (x ∷ mine) h = omega (
    arith,
    h.0,
    sum_mine mine h.1,
    both x.work.walks (flat_map (λ (y : Step). y.work.walks) mine) x.work.carries (flat_map (λ (y : Step). y.work.carries) mine),
    sum_both p (f x) (flat_map f mine),
  )

  sum_all : (workers : List (List Step)) → AllByRecursion (λ (mine : List Step). AllByRecursion (λ (x : Step). sum_at p (f x) ≡ amount x.work.walks x.work.carries) mine) workers
      → amount (gathered (λ x. x.work.walks) workers) (gathered (λ x. x.work.carries) workers) ≡ sum_at p (gathered f workers)
  sum_all [] h = none
  sum_all (mine ∷ ws) h = omega (
    arith,
    sum_mine mine h.0,
    sum_all ws h.1,
    both (flat_map (λ (y : Step). y.work.walks) mine) (gathered (λ y. y.work.walks) ws) (flat_map (λ (y : Step). y.work.carries) mine) (gathered (λ y. y.work.carries) ws),
    sum_both p (flat_map f mine) (gathered f ws),
  )

pub filter_none : {A : Type 0} (p : A → Bool) (xs : List A) → ((k : ℕ) (x : A) → slice_get xs k ≡ Some x → p x ≡ false) → filter p xs ≡ []
filter_none p [] h = refl
filter_none p (x ∷ xs) h = ap (λ b. cond b (x ∷ filter p xs) (filter p xs)) (h 0 x refl) ∙ filter_none p xs (λ k y e. h (suc k) y e)

sum_none : {A : Type 0} (f : A → ℕ) (xs : List A) → ((k : ℕ) (x : A) → slice_get xs k ≡ Some x → f x ≡ 0) → sum_by f xs ≡ 0
sum_none f [] h = refl
sum_none f (x ∷ xs) h = omega (arith, sum_by-cons f x xs, h 0 x refl, sum_none f xs (λ k y e. h (suc k) y e))

-- a place is one of the script, or not
pub there_or_not : (s : Script) (p : Place) → IsThere s p ⊎ (IsThere s p → ⊥)
there_or_not s p = ⊎_elim (λ i. ⊎_elim (λ n. ⊎_elim (λ g. inl (record { id = i; node = n; group = g })) (λ g. inr (λ t. let h = t.group in omega (arith, h, g))) (cases_lt p.group (length (parents_of s))))
    (λ n. inr (λ t. let h = t.node in omega (arith, h, n))) (cases_lt p.node s.nodes)) (λ i. inr (λ t. let h = t.id in omega (arith, h, i))) (cases_lt p.id s.ids)

module _ (s : Script) (tree : IsTree (parents_of s)) (p : Place) (out : IsThere s p → ⊥) (x : Step) (did : Did s x) where
  passes_none : (i : ℕ) (w : WalkRecord) → slice_get x.work.walks i ≡ Some w → passes_at p w ≡ []
  passes_none i w at = let d = did.walks.each i w at in
      ap (filter_map (λ (a : Attempt). pass_of a.outcome)) (filter_none (λ (a : Attempt). is_place p (place_in w a.id)) w.attempts.items
      (λ k a e. no_test (is_place p (place_in w a.id)) (λ same. out (subst (IsThere s) (sym (is_place_same p (place_in w a.id) same)) (record { id = (d.attempts k a e).id; node = d.node; group = d.group })))))

  amounts_none : (of_pass : PassRecord → ℕ) (test : Place → Bool) → ((q : Place) → IsThere s q → test q ≡ true → IsThere s p) → sum_by of_pass (flat_map (passes_at p) x.work.walks) + sum_by (λ (c : Carry). cond (test c.place) c.amount 0) x.work.carries ≡ 0
  amounts_none of_pass test there = omega (
    arith,
    ap (sum_by of_pass) (flat_zero (passes_at p) x.work.walks passes_none),
    sum_none (λ (c : Carry). cond (test c.place) c.amount 0) x.work.carries
        (λ k c e. ap (λ b. cond {A = ℕ} b c.amount 0) (no_test (test c.place) (λ same. out (there c.place (all_slice (DidCarry s x) x.work.carries k c did.moves.carries e).there same)))),
  )

  below_there : (q : Place) → IsThere s q → is_below (parents_of s) p q ≡ true → IsThere s p
  below_there q there h =
      let parts = and_parts ((q.id == p.id) && (q.node == p.node)) (is_child (parents_of s) p.group q.group) h in
      let first = and_parts (q.id == p.id) (q.node == p.node) parts.0 in
      let child = child_takes (parents_of s) p.group q.group parts.1 in
      let id = eqb-true q.id p.id first.0 in
      let node = eqb-true q.node p.node first.1 in
      let near = child.there in
      let higher = child_higher (parents_of s) p.group q.group tree child in
      let i = there.id in
      let n = there.node in
      record { id = omega (arith, id, i); node = omega (arith, node, n); group = omega (arith, near, higher) }

  taken_none : taken_at x.work.walks x.work.carries p ≡ 0
  taken_none = amounts_none (λ (q : PassRecord). q.nr) (is_place p) (λ q there same. subst (IsThere s) (sym (is_place_same p q same)) there)

  given_none : given_at (parents_of s) x.work.walks x.work.carries p ≡ 0
  given_none = amounts_none (λ (q : PassRecord). q.next) (is_below (parents_of s) p) below_there

-- sums of nothing are nothing
sums_none : (p : Place) (f : Step → List PlaceAmount) (workers : List (List Step)) → AllByRecursion (λ (mine : List Step). AllByRecursion (λ (x : Step). sum_at p (f x) ≡ 0) mine) workers → sum_at p (gathered f workers) ≡ 0
sums_none p f workers h = sym (sum_all p f (λ ws cs. 0) refl (λ ws vs cs ds. refl) workers h)

module _ (s : Script) (r : Report) (workers : List (List Step)) (run : IsRun s r workers) where
  given_is : (p : Place) → given_at (parents_of s) (all_walks r) (all_carries r) p ≡ sum_at p (all_gives workers)
  given_is p = ap (λ l. given_at (parents_of s) l (all_carries r) p) (all_walks_are s r workers run) ∙ (ap (λ l. given_at (parents_of s) (gathered (λ x. x.work.walks) workers) l p) (all_carries_are s r workers run)
      ∙ sum_all p (λ x. gives_of x.work.moves) (λ ws cs. given_at (parents_of s) ws cs p) refl (amounts_both p (λ (q : PassRecord). q.next) (is_below (parents_of s) p)) workers (each_step (λ (x : Step). sum_at p (gives_of x.work.moves) ≡ given_at (parents_of s) x.work.walks x.work.carries p) workers (λ worker k x at. (run.steps.each worker k x at).did.moves.given p)))

  taken_is : (p : Place) → taken_at (all_walks r) (all_carries r) p ≡ sum_at p (all_takes workers)
  taken_is p = ap (λ l. taken_at l (all_carries r) p) (all_walks_are s r workers run) ∙ (ap (λ l. taken_at (gathered (λ x. x.work.walks) workers) l p) (all_carries_are s r workers run)
      ∙ sum_all p (λ x. takes_of x.work.moves) (λ ws cs. taken_at ws cs p) refl (amounts_both p (λ (q : PassRecord). q.nr) (is_place p)) workers (each_step (λ (x : Step). sum_at p (takes_of x.work.moves) ≡ taken_at x.work.walks x.work.carries p) workers (λ worker k x at. (run.steps.each worker k x at).did.moves.taken p)))

  words : (p : Place) → printed_at r p ≡ deferred_word (given_at (parents_of s) (all_walks r) (all_carries r) p) (taken_at (all_walks r) (all_carries r) p)
  words p = ⊎_elim
      (λ there. run.deferred.words p there ∙ (ap (λ n. deferred_word n (sum_at p (all_takes workers))) (sym (given_is p)) ∙ ap (λ n. deferred_word (given_at (parents_of s) (all_walks r) (all_carries r) p) n) (sym (taken_is p))))
      (λ out. let given : sum_at p (all_gives workers) ≡ 0 = sums_none p (λ x. gives_of x.work.moves) workers (each_step (λ (x : Step). sum_at p (gives_of x.work.moves) ≡ 0) workers
      (λ worker k x at. let d = (run.steps.each worker k x at).did in d.moves.given p ∙ given_none s run.journals.parents p out x d)) in
      let taken : sum_at p (all_takes workers) ≡ 0 = sums_none p (λ x. takes_of x.work.moves) workers (each_step (λ (x : Step). sum_at p (takes_of x.work.moves) ≡ 0) workers
      (λ worker k x at. let d = (run.steps.each worker k x at).did in d.moves.taken p ∙ taken_none s run.journals.parents p out x d)) in
      run.deferred.elsewhere p out ∙ (ap (λ n. deferred_word n 0) (sym (given_is p ∙ given)) ∙ ap (λ n. deferred_word (given_at (parents_of s) (all_walks r) (all_carries r) p) n) (sym (taken_is p ∙ taken))))
      (there_or_not s p)

  -- a carry is one of a step
  carry_right : (c : Carry) → IsAmong c (all_carries r) → IsCarryRight s r c
  carry_right c among =
      let of = has_step (λ (x : Step). x.work.carries) workers c (subst (λ l. IsAmong c l) (all_carries_are s r workers run) among) in
      let is = run.steps.each of.worker of.k of.step of.at in
      let d = all_among (DidCarry s of.step) of.step.work.carries c is.did.moves.carries of.has in
      let by : c.by ≡ serial_of of.worker of.k = d.by ∙ is.by in
      record {
        there = d.there;
        command = ap (command_at s) by ∙ (is.command ∙ d.command);
        answer = subst (λ (o : Option Reply). IsSomeAnd o HasCarried) (sym (ap (reply_at r) by ∙ reply_is s r workers run of.worker of.k of.step of.at)) d.answer;
      }

  once : (worker n m : ℕ) (c d : Carry) → slice_get (carries_of r worker) n ≡ Some c → slice_get (carries_of r worker) m ≡ Some d → c.by ≡ d.by → c.place ≡ d.place → n ≡ m
  once worker n m c d at_c at_d by place =
      let f : Step → List Carry = λ x. x.work.carries in
      let u = flat_at f (steps_of workers worker) n c (ap (λ l. slice_get l n) (sym (run.steps.carries worker)) ∙ at_c) in
      let v = flat_at f (steps_of workers worker) m d (ap (λ l. slice_get l m) (sym (run.steps.carries worker)) ∙ at_d) in
      let is_u = run.steps.each worker u.k u.x u.at in
      let is_v = run.steps.each worker v.k v.x v.at in
      let by_u : c.by ≡ serial_of worker u.k = (all_slice (DidCarry s u.x) u.x.work.carries u.i c is_u.did.moves.carries u.own).by ∙ is_u.by in
      let by_v : d.by ≡ serial_of worker v.k = (all_slice (DidCarry s v.x) v.x.work.carries v.i d is_v.did.moves.carries v.own).by ∙ is_v.by in
      let same_k : u.k ≡ v.k = ap (λ (z : Serial). z.command) (sym by_u ∙ (by ∙ by_v)) in
      let same_x : v.x ≡ u.x = same_Some v.x u.x (sym v.at ∙ (ap (λ k. slice_get (steps_of workers worker) k) (sym same_k) ∙ u.at)) in
      let own : slice_get u.x.work.carries v.i ≡ Some d = ap (λ (z : Step). slice_get z.work.carries v.i) (sym same_x) ∙ v.own in
      let offset : length (flat_map f (take u.k (steps_of workers worker))) ≡ length (flat_map f (take v.k (steps_of workers worker))) = ap (λ k. length (flat_map f (take k (steps_of workers worker)))) same_k in
      let equal : u.i ≡ v.i = dite (ℕ_discrete u.i v.i) (λ e. e) (λ ne. ⊎_elim (λ lt. absurd (apart u.x.work.carries is_u.did.moves.rise u.i v.i c d lt u.own own place)) (λ le. absurd (apart u.x.work.carries is_u.did.moves.rise v.i u.i d c (omega (arith, ne, le)) own u.own (sym place))) (cases_lt u.i v.i)) in
      omega (arith, u.number, v.number, offset, equal) where
        apart : (xs : List Carry) → AllPairs (λ (a b : Carry). IsBefore a.place.id a.place.node b.place.id b.place.node) xs → (i j : ℕ) (a b : Carry) → i < j → slice_get xs i ≡ Some a → slice_get xs j ≡ Some b → a.place ≡ b.place → ⊥
        apart xs rise i j a b lt at_a at_b place =
            let before : IsBefore a.place.id a.place.node b.place.id b.place.node = subst (λ (z : Carry). IsBefore z.place.id z.place.node b.place.id b.place.node) (get_or_from_slice_get xs i a b at_a)
            (subst (λ (z : Carry). IsBefore (get_or xs i b).place.id (get_or xs i b).place.node z.place.id z.place.node) (get_or_from_slice_get xs j b b at_b) (rise i j b lt (slice_get_within xs j b at_b))) in
            let ids = ap (λ (q : Place). q.id) place in
            let nodes = ap (λ (q : Place). q.node) place in
            ⊎_elim (λ h. omega (arith, h, ids)) (λ h. omega (arith, h.1, nodes)) before

  pub deferred_lawful : IsDeferredLawful s r
  deferred_lawful = record {
    words = words;
    shown = run.deferred.shown;
    carries = by_slices (IsCarryRight s r) (all_carries r) (λ j c e. carry_right c (j, some_at (all_carries r) j c e));
    once = once;
  }
