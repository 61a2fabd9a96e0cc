-- SPDX-License-Identifier: GPL-2.0-only
-- The final usage of a group is the number of the listed objects born at or below it.
use Rattle.shr_lawful.proofs.Common.{◌≡◌, ℕ, suc, ◌+◌, ◌<◌, ◌≤◌, ⊎_elim, true, not, cond, List, [], ◌∷◌, ◌++◌, length, sym, refl, ap, subst, ◌∙◌, arith, eqb, slice_get, Some, None, Option, sum_by, option_and_then, pos, IfSome, AllByRecursion, enumerate_from, ints, take_all, length-map, sum_by-IsPermutation, none-some, slice_get_past, cases_lt, UseStep, Entry, Add, Object, Place, Serial, GroupDecl, Script, serials_of, added_by, added_by_all, added_in, freed_at, listed_in, ups, downs, usage_after, AreTakenBack, lists_moved_at, items_at, items_of, is_at_or_above, born_below, freed_by, items_from, total, total-append, Made, Report, parents_of, limits_of, limit_of, journals_of, places_of, uses_at, items_left, Step, gathered, ops_at, added_below, made_freed_below, all_made, all_ops, IsRun, count_total, sum_total, listed_below, AreChargesLawful, total_flat}
use Rattle.shr_model.specs.Bag as bags
use Rattle.shr_lawful.proofs.Gathering.{each_step, total_gathered, total_same_on}
use Rattle.shr_lawful.proofs.Recounting.{journals_are}
use Rattle.shr_lawful.proofs.BagLaw.{bag}
use Rattle.shr_lawful.proofs.FamilyObjects.{items_at_kept, frees_kept, freed_sum}
use Rattle.shr_lawful.proofs.LimitsLaw.{within_limit}
use Rattle.shr_lawful.proofs.ChargesLaw.{total_filter, total_map, born_total, weight_serial, Weighs, add_weighs, added_weigh, there, puts, fourteen, between, taken_back, nets}

-- four numbers of each step that add up do so in all
four_sums : (a b c d : Step → ℕ) (workers : List (List Step)) → AllByRecursion (λ (mine : List Step). AllByRecursion (λ (x : Step). a x + b x ≡ c x + d x) mine) workers
    → total (λ mine. total a mine) workers + total (λ mine. total b mine) workers ≡ total (λ mine. total c mine) workers + total (λ mine. total d mine) workers
four_sums a b c d [] h = refl
four_sums a b c d (mine ∷ ws) h = omega (arith, four_sums a b c d ws h.1, one mine h.0) where
  one : (xs : List Step) → AllByRecursion (λ (x : Step). a x + b x ≡ c x + d x) xs → total a xs + total b xs ≡ total c xs + total d xs
  one [] h = refl
  one (x ∷ xs) h = omega (arith, h.0, one xs h.1)

-- a sum of what each step has is that of all
all_steps : {A : Type 0} (h : A → ℕ) (f : Step → List A) (g : Step → ℕ) (workers : List (List Step)) → ((x : Step) → g x ≡ total h (f x)) → total (λ mine. total g mine) workers ≡ total h (gathered f workers)
all_steps h f g workers e = total_same_on (λ mine. total g mine) (λ mine. total (λ x. total h (f x)) mine) workers (λ mine. total_same_on g (λ x. total h (f x)) mine e) ∙ sym (total_gathered h f workers)

total_weaker : (P : Object → Type 0) (g h : Object → ℕ) (xs : List Object) → ((o : Object) → P o → g o ≡ h o) → AllByRecursion P xs → total g xs ≡ total h xs
total_weaker P g h [] e all = refl
total_weaker P g h (x ∷ xs) e all = omega (arith, e x all.0, total_weaker P g h xs e all.1)

module _ (s : Script) (r : Report) (workers : List (List Step)) (run : IsRun s r workers) (g : ℕ) where
  abbrev w : Serial → ℕ
  w by = weight_serial s r workers run g by

  abbrev born : Object → ℕ
  born o = cond (is_at_or_above (parents_of s) g o.birth) 1 0

  -- ---- operations
  up_weight : UseStep → ℕ
  up_weight o = cond (eqb o.group g) (cond o.up 1 0) 0

  down_weight : UseStep → ℕ
  down_weight o = cond (eqb o.group g) (cond (not o.up) 1 0) 0

  ups_of : (ops : List UseStep) → ups (ops_at g ops) ≡ total up_weight ops
  unfolding up_weight
  ups_of ops = count_total (λ (o : UseStep). o.up) (ops_at g ops) ∙ total_filter (λ (o : UseStep). cond o.up 1 0) (λ (o : UseStep). eqb o.group g) ops

  downs_of : (ops : List UseStep) → downs (ops_at g ops) ≡ total down_weight ops
  unfolding down_weight
  downs_of ops = count_total (λ (o : UseStep). not o.up) (ops_at g ops) ∙ total_filter (λ (o : UseStep). cond (not o.up) 1 0) (λ (o : UseStep). eqb o.group g) ops

  same_uses : (h : UseStep → ℕ) → total h r.uses.items ≡ total h (all_ops workers)
  same_uses h = sym (sum_total h r.uses.items) ∙ (sym (sum_by-IsPermutation h r.uses.items (all_ops workers) run.uses.same) ∙ sum_total h (all_ops workers))

  -- ---- objects
  added_entry : (p : Place) (n : ℕ) (e : Entry) → slice_get (journals_of r p) n ≡ Some e → added_below (parents_of s) g e ≡ total w (added_by e)
  added_entry p n (Add by birth true key value) stands = let t = add_weighs s r workers run g p n by birth key value true stands in omega (arith, t)
  added_entry p n e stands = refl

  added_journal : (p : Place) (i : ℕ) (es : List Entry) → ((j : ℕ) (e : Entry) → slice_get es j ≡ Some e → slice_get (journals_of r p) (i + j) ≡ Some e) → total (λ (e : ℕ × Entry). added_below (parents_of s) g e.1) (enumerate_from i es) ≡ total w (added_by_all es)
  added_journal p i [] at = refl
  added_journal p i (e ∷ es) at = omega (
    arith,
    added_entry p (i + 0) e (at 0 e refl),
    added_journal p (i + 1) es (λ j d h. ap (slice_get (journals_of r p)) (let z : i + 1 + j ≡ i + suc j = omega arith in z) ∙ at (suc j) d h),
    total-append w (added_by e) (added_by_all es),
  )

  added_is : total (λ (m : Made). added_below (parents_of s) g m.entry) (all_made workers) ≡ total w (added_in (places_of r) (journals_of r))
  added_is = sym (journals_are s r workers run (λ (m : Made). added_below (parents_of s) g m.entry) (λ p n e. added_below (parents_of s) g e) (λ m p place stands items. refl))
      ∙ (total_same_on (λ (p : Place). total (λ (e : ℕ × Entry). added_below (parents_of s) g e.1) (enumerate_from 0 (journals_of r p))) (λ (p : Place). total w (added_by_all (journals_of r p))) (places_of r)
      (λ p. added_journal p 0 (journals_of r p) (λ j e h. ap (slice_get (journals_of r p)) (let z : 0 + j ≡ j = omega arith in z) ∙ h))
      ∙ sym (total_flat w (λ (p : Place). added_by_all (journals_of r p)) (places_of r)))

  items_weigh : (p : Place) (n : ℕ) → AllByRecursion (Weighs s r workers run g) (items_at (parents_of s) (journals_of r) p n)
  items_weigh p n = items_at_kept (Weighs s r workers run g) (λ o h. h) (λ o h. h) (λ pinned o h. h) (parents_of s) (journals_of r) (added_weigh s r workers run g) p n

  freed_entry : (p : Place) (e : ℕ × Entry) → born_below (parents_of s) g (freed_by (items_at (parents_of s) (journals_of r) p e.0) e.1) ≡ total (λ (o : Object). w o.serial) (freed_by (items_at (parents_of s) (journals_of r) p e.0) e.1)
  freed_entry p e = born_total s r workers run g (freed_by (items_at (parents_of s) (journals_of r) p e.0) e.1)
      ∙ total_weaker (Weighs s r workers run g) born (λ (o : Object). w o.serial) (freed_by (items_at (parents_of s) (journals_of r) p e.0) e.1) (λ o h. sym h)
      (frees_kept (Weighs s r workers run g) (λ o h. h) (λ o h. h) (λ pinned o h. h) (items_at (parents_of s) (journals_of r) p e.0) e.1 (items_weigh p e.0))

  freed_is : total (made_freed_below (parents_of s) g) (all_made workers) ≡ total w (bags.freed_in (places_of r) (parents_of s) (journals_of r))
  freed_is = sym (journals_are s r workers run (made_freed_below (parents_of s) g) (λ p n e. born_below (parents_of s) g (freed_by (items_at (parents_of s) (journals_of r) p n) e)) (λ m p place stands items. ap (λ (l : List Object). born_below (parents_of s) g (freed_by l m.entry)) items))
      ∙ (total_same_on (λ (p : Place). total (λ (e : ℕ × Entry). born_below (parents_of s) g (freed_by (items_at (parents_of s) (journals_of r) p e.0) e.1)) (enumerate_from 0 (journals_of r p)))
      (λ (p : Place). total w (serials_of (freed_at (parents_of s) (journals_of r) p))) (places_of r)
      (λ p. total_same_on (λ (e : ℕ × Entry). born_below (parents_of s) g (freed_by (items_at (parents_of s) (journals_of r) p e.0) e.1)) (λ (e : ℕ × Entry). total (λ (o : Object). w o.serial) (freed_by (items_at (parents_of s) (journals_of r) p e.0) e.1)) (enumerate_from 0 (journals_of r p)) (freed_entry p)
      ∙ (sym (freed_sum (λ (o : Object). w o.serial) (parents_of s) (journals_of r) p) ∙ sym (total_map w (λ (o : Object). o.serial) (freed_at (parents_of s) (journals_of r) p))))
      ∙ sym (total_flat w (λ (p : Place). serials_of (freed_at (parents_of s) (journals_of r) p)) (places_of r)))

  left_is : (p : Place) → items_at (parents_of s) (journals_of r) p (length (journals_of r p)) ≡ items_left s r p
  left_is p = ap (items_from (lists_moved_at (parents_of s) (journals_of r) p) []) (take_all (length (journals_of r p)) (journals_of r p) (omega arith))

  listed_is : listed_below s r g ≡ total w (listed_in (places_of r) (parents_of s) (journals_of r))
  listed_is = sum_total (λ (p : Place). born_below (parents_of s) g (items_left s r p)) (places_of r)
      ∙ (total_same_on (λ (p : Place). born_below (parents_of s) g (items_left s r p)) (λ (p : Place). total w (serials_of (items_of (parents_of s) (journals_of r) p))) (places_of r)
      (λ p. born_total s r workers run g (items_left s r p)
      ∙ (total_weaker (Weighs s r workers run g) born (λ (o : Object). w o.serial) (items_left s r p) (λ o h. sym h) (subst (AllByRecursion (Weighs s r workers run g)) (left_is p) (items_weigh p (length (journals_of r p))))
      ∙ sym (total_map w (λ (o : Object). o.serial) (items_left s r p))))
      ∙ sym (total_flat w (λ (p : Place). serials_of (items_of (parents_of s) (journals_of r) p)) (places_of r)))

  -- what was added is what was freed and what is listed
  bag_weighs : total w (added_in (places_of r) (journals_of r)) ≡ total w (bags.freed_in (places_of r) (parents_of s) (journals_of r)) + total w (listed_in (places_of r) (parents_of s) (journals_of r))
  bag_weighs = omega (
    arith,
    sum_total w (added_in (places_of r) (journals_of r)),
    sum_total w (bags.freed_in (places_of r) (parents_of s) (journals_of r) ++ listed_in (places_of r) (parents_of s) (journals_of r)),
    total-append w (bags.freed_in (places_of r) (parents_of s) (journals_of r)) (listed_in (places_of r) (parents_of s) (journals_of r)),
    sum_by-IsPermutation w (added_in (places_of r) (journals_of r)) (bags.freed_in (places_of r) (parents_of s) (journals_of r) ++ listed_in (places_of r) (parents_of s) (journals_of r)) (bag s r workers run).parts,
  )

  -- ---- the final usage
  pub counts : g < length (parents_of s) → ups (uses_at r g) ≡ downs (uses_at r g) + listed_below s r g
  counts lt = omega (
    arith,
    four_sums (λ x. ups (ops_at g x.work.ops)) (λ x. sum_by (made_freed_below (parents_of s) g) x.work.core.made) (λ x. downs (ops_at g x.work.ops)) (λ x. sum_by (λ (m : Made). added_below (parents_of s) g m.entry) x.work.core.made) workers
        (each_step (λ (x : Step). ups (ops_at g x.work.ops) + sum_by (made_freed_below (parents_of s) g) x.work.core.made ≡ downs (ops_at g x.work.ops) + sum_by (λ (m : Made). added_below (parents_of s) g m.entry) x.work.core.made) workers
        (λ worker k x at. let d = (run.steps.each worker k x at).did.charges in omega (arith, ints, d.nets g lt, d.added g))),
    all_steps up_weight (λ (x : Step). x.work.ops) (λ x. ups (ops_at g x.work.ops)) workers (λ x. ups_of x.work.ops),
    all_steps down_weight (λ (x : Step). x.work.ops) (λ x. downs (ops_at g x.work.ops)) workers (λ x. downs_of x.work.ops),
    all_steps (made_freed_below (parents_of s) g) (λ (x : Step). x.work.core.made) (λ x. sum_by (made_freed_below (parents_of s) g) x.work.core.made) workers (λ x. sum_total (made_freed_below (parents_of s) g) x.work.core.made),
    all_steps (λ (m : Made). added_below (parents_of s) g m.entry) (λ (x : Step). x.work.core.made) (λ x. sum_by (λ (m : Made). added_below (parents_of s) g m.entry) x.work.core.made) workers (λ x. sum_total (λ (m : Made). added_below (parents_of s) g m.entry) x.work.core.made),
    ups_of r.uses.items,
    downs_of r.uses.items,
    same_uses up_weight,
    same_uses down_weight,
    added_is,
    freed_is,
    listed_is,
    bag_weighs,
  )

  pub final : g < length (parents_of s) → usage_after (uses_at r g) ≡ pos (listed_below s r g)
  final lt = omega (arith, ints, counts lt)

  pub limits : IfSome (limit_of s g) (λ limit. listed_below s r g ≤ limit)
  limits = by_limit (limit_of s g) refl where
    near : (limit : ℕ) → limit_of s g ≡ Some limit → g < length (parents_of s)
    near limit e = ⊎_elim (λ lt. omega (arith, lt, length-map s.groups.items (λ (d : GroupDecl). d.limit), length-map s.groups.items (λ (d : GroupDecl). d.parent)))
        (λ past. absurd (none-some limit (sym (ap (option_and_then (λ (l : Option ℕ). l)) (slice_get_past (limits_of s) g past)) ∙ e))) (cases_lt g (length (limits_of s)))

    by_limit : (o : Option ℕ) → limit_of s g ≡ o → IfSome o (λ limit. listed_below s r g ≤ limit)
    by_limit None e = tt
    by_limit (Some limit) e = let t = within_limit g limit (uses_at r g) (run.uses.histories g) (subst (λ o. AreTakenBack o (uses_at r g)) e (taken_back s r workers run g)) in omega (arith, t, counts (near limit e))

module _ (s : Script) (r : Report) (workers : List (List Step)) (run : IsRun s r workers) where
  pub charges_lawful : AreChargesLawful s r
  charges_lawful = record {
    tree = run.uses.tree;
    there = there s r workers run;
    histories = run.uses.histories;
    taken_back = taken_back s r workers run;
    puts = puts s r workers run;
    fourteen = fourteen s r workers run;
    between = between s r workers run;
    nets = nets s r workers run;
    final = λ group lt. final s r workers run group lt;
    limits = λ group. limits s r workers run group;
  }
