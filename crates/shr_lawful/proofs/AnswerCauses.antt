-- SPDX-License-Identifier: GPL-2.0-only
-- The causes of answers that speak of what their worker knew.
use Rattle.shr_lawful.proofs.Common.{◌≡◌, ℕ, zero, suc, ◌+◌, ◌≤◌, inl, inr, Bool, true, false, cond, List, [], ◌∷◌, length, take, drop, refl, sym, ap, subst, ◌∙◌, arith, take_all, length-take-le, slice_get, Some, filter, count_by, nat_lt, pos, slice_get_within, Registered, Done, UseStep, Script, ups, is_by, ops_by, IsChargeHistory, is_live_decl, lowest_idle, undone_child, Has, Has_filter, filter_has, Report, uses_at, IsOver, IsUncached, IsCached, IsFull, IsInTheWay, StandsInTree, Step, steps_of, ops_at, IsOverBy, IsDoneKnown, IsRun, done_at, count_total, some_at, IsUncachedBy, IsCachedBy, IsFullBy, IsInTheWayBy, IsRegisteredBy, script_hierarchy, no_test}
use Rattle.std.proofs.Common.{lt-ltb}
use Rattle.shr_lawful.proofs.Gathering.{weighs}
use Rattle.shr_lawful.proofs.Listed.{ops_are, has_among, among_has}
use Rattle.shr_lawful.proofs.JournalsLaw.{turn_stands, pool_known, pool_length, tree_known, tree_length, tree_stands, op_stands}

-- none of a list passes a test
count_none : {A : Type 0} (p : A → Bool) (xs : List A) → ((x : A) → Has xs x → p x ≡ false) → count_by p xs ≡ 0
count_none p [] h = refl
count_none p (x ∷ xs) h = omega (arith, count_total p (x ∷ xs), count_total p xs, ap (λ b. cond {A = ℕ} b 1 0) (h x (inl refl)), count_none p xs (λ y has. h y (inr has)))

-- what is left of a list is in it, at a later place
dropped_at : {A : Type 0} (xs : List A) (k : ℕ) (x : A) → Has (drop k xs) x → (n : ℕ) × (slice_get xs n ≡ Some x) × (k ≤ n)
dropped_at xs zero x has = by_has xs x has where
  by_has : {A : Type 0} (ys : List A) (x : A) → Has ys x → (n : ℕ) × (slice_get ys n ≡ Some x) × (0 ≤ n)
  by_has [] x h = absurd h
  by_has (y ∷ ys) x (inl e) = (0, ap Some e, omega arith)
  by_has (y ∷ ys) x (inr h) = let t = by_has ys x h in (suc t.0, t.1, omega arith)
dropped_at [] (suc k) x has = absurd has
dropped_at (y ∷ xs) (suc k) x has = let t = dropped_at xs k x has in (suc t.0, t.1, omega (arith, t.2))

-- the number of an operation is its place in its history
own_number : (group : ℕ) (ops : List UseStep) → IsChargeHistory group ops → (n : ℕ) (o : UseStep) → slice_get ops n ≡ Some o → o.operation ≡ n
own_number group ops h n o at = omega (arith, (h n o at).number, let lt = slice_get_within ops n o at in length-take-le n ops (omega (arith, lt)))

module _ (s : Script) (r : Report) (workers : List (List Step)) (run : IsRun s r workers) (worker k : ℕ) (x : Step) (at : slice_get (steps_of workers worker) k ≡ Some x) where
  -- ---- charges
  pub over_caused : (group operation usage : ℕ) (h : IsOverBy s x group operation usage) → IsOver s r x.by h.own group operation usage
  over_caused group operation usage h = record {
    up = op_stands s r workers run worker k x at (record { group = group; operation = operation; up = true; found = pos usage; by = x.by }) h.up;
    full = h.full;
    last = count_none (λ (o : UseStep). o.up) (ops_by x.by (drop (operation + 1) (uses_at r group))) none_up;
    tried = ap ups (ops_are s r workers run worker k x h.own at) ∙ h.tried;
  } where
    later_none : (o : UseStep) → Has (filter (λ (z : UseStep). nat_lt operation z.operation) (ops_at group x.work.ops)) o → o.up ≡ false
    later_none o has = no_test o.up (λ up. absurd (omega (
      arith,
      h.last,
      count_total (λ (z : UseStep). z.up) (filter (λ (z : UseStep). nat_lt operation z.operation) (ops_at group x.work.ops)),
      ap (λ b. cond {A = ℕ} b 1 0) up,
      weighs (λ (z : UseStep). cond z.up 1 0) (filter (λ (z : UseStep). nat_lt operation z.operation) (ops_at group x.work.ops)) o (has_among (filter (λ (z : UseStep). nat_lt operation z.operation) (ops_at group x.work.ops)) o has),
    )))

    none_up : (o : UseStep) → Has (ops_by x.by (drop (operation + 1) (uses_at r group))) o → o.up ≡ false
    none_up o has =
        let f = filter_has (is_by x.by) (drop (operation + 1) (uses_at r group)) o has in
        let d = dropped_at (uses_at r group) (operation + 1) o f.0 in
        let number : o.operation ≡ d.0 = own_number group (uses_at r group) (run.uses.histories group) d.0 o d.1 in
        let there : Has (ops_by x.by (uses_at r group)) o = Has_filter (is_by x.by) (uses_at r group) o (among_has (uses_at r group) o (d.0, some_at (uses_at r group) d.0 o d.1)) f.1 in
        let own : Has (ops_at group x.work.ops) o = subst (λ l. Has l o) (ops_are s r workers run worker k x group at) there in
        later_none o (Has_filter (λ (z : UseStep). nat_lt operation z.operation) (ops_at group x.work.ops) o own (lt-ltb operation o.operation (omega (arith, number, d.2))))

  -- ---- registrations
  pub uncached : (entry : ℕ) (h : IsUncachedBy s x entry) → IsUncached s r h.decl entry
  uncached entry h = record { known = omega (arith, h.known, pool_length s r workers run worker k x at); none = ap (is_live_decl s.ids h.decl) (sym (pool_known s r workers run worker k x at entry h.known)) ∙ h.none }

  pub cached : (entry : ℕ) (h : IsCachedBy s x entry) → IsCached s r h.decl entry
  cached entry h = record { known = omega (arith, h.known, pool_length s r workers run worker k x at); live = ap (is_live_decl s.ids h.decl) (sym (pool_known s r workers run worker k x at entry h.known)) ∙ h.live }

  pub full : (entry : ℕ) (h : IsFullBy s x entry) → IsFull s r h.uncached.decl entry
  full entry h = let u = uncached entry h.uncached in record { known = u.known; none = u.none; ids = ap (lowest_idle s.ids) (sym (pool_known s r workers run worker k x at entry h.uncached.known)) ∙ h.ids }

  pub registered : (id entry : ℕ) (h : IsRegisteredBy x id entry) → slice_get r.pool.items entry ≡ Some (Registered h.decl id h.from)
  registered id entry h = turn_stands s r workers run worker k x (record { number = entry; entry = Registered h.decl id h.from }) at h.made

  -- ---- offlining
  pub was_done : (entry : ℕ) (h : IsDoneKnown x entry) → StandsInTree r entry (Done h.group)
  was_done entry h = tree_stands s r workers run worker k x at entry (Done h.group) (done_at x.after.tree.known h.group entry h.done)

  pub in_the_way : (child entry : ℕ) (h : IsInTheWayBy s x child entry) → IsInTheWay s r h.group child entry
  in_the_way child entry h =
      let same : take entry r.tree.items ≡ x.after.tree.known = sym (tree_known s r workers run worker k x at entry (omega (arith, h.all))) ∙ (ap (λ n. take n x.after.tree.known) h.all ∙ take_all (length x.after.tree.known) x.after.tree.known (omega arith)) in
      record { known = omega (arith, h.all, tree_length s r workers run worker k x at); child_is = ap (λ es. undone_child (script_hierarchy s) es h.group) same ∙ h.lowest }
