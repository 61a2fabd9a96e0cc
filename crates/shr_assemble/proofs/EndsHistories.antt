-- SPDX-License-Identifier: GPL-2.0-only
-- The operations of each group, and the journal of the tree, of a run whose workers are done.
use Rattle.shr_assemble.proofs.Common.{◌≡◌, ℕ, ◌+◌, ◌≤◌, ⊎_elim, Bool, true, false, ◌&&◌, cond, List, [], ◌∷◌, length, sym, refl, ap, subst, ◌∙◌, arith, eqb, slice_get, Some, filter, IsPermutation, nat_lt, eqb-true, sum_by-IsPermutation, Contains-permutation, TreeEntry, UseStep, IsChargeHistory, Hierarchy, IsTreeJournal, hierarchy_of, Has, Contains_from_Has, filter_has, total, Shared, Ends, Report, uses_at, WorkerLog, AreEndsOf, IsMadeOf, StandsBefore, count_total, some_at, sum_total, le-ltb, AreUsesAndTree, times_at, StandsInHistory}
use Rattle.shr_charge.specs.Offlining as offlining
use Rattle.shr_charge.specs.Views as charge
use Rattle.shr_laws.specs.Parts as report
use Rattle.shr_assemble.proofs.EndsGathered.{last, ops_are, entries_are, same}
use Rattle.shr_assemble.proofs.EndsSteps.{workers}
use Rattle.shr_assemble.proofs.EndsPlaces.{AreNumbered, numbers, sorted_history}
use Rattle.shr_lawful.proofs.Listed.{all_among, contains_among, PairsRec, pairs_by_slices, pairs_filter, pairs_weaker, among_has}
use Rattle.shr_lawful.proofs.Gathering.{below_one}
use Rattle.shr_assemble.proofs.ScriptGroups.{is_hierarchy}
use Rattle.shr_assemble.proofs.Rows.{DidEach}

-- how many operations of a group have a number, by the list of the group's
numbers_filter : (g n : ℕ) (os : List UseStep) → numbers n (filter (λ (o : UseStep). eqb o.group g) os) ≡ total (λ (o : UseStep). cond (eqb o.group g && eqb o.operation n) 1 0) os
numbers_filter g n [] = refl
numbers_filter g n (o ∷ os) = choose (eqb o.group g) (numbers_filter g n os) where
  choose : (b : Bool) → numbers n (filter (λ (p : UseStep). eqb p.group g) os) ≡ total (λ (p : UseStep). cond (eqb p.group g && eqb p.operation n) 1 0) os
      → numbers n (cond b (o ∷ filter (λ (p : UseStep). eqb p.group g) os) (filter (λ (p : UseStep). eqb p.group g) os)) ≡ cond (b && eqb o.operation n) 1 0 + total (λ (p : UseStep). cond (eqb p.group g && eqb p.operation n) 1 0) os
  choose true h = omega (arith, h)
  choose false h = omega (arith, h)

module _ (x : Shared) (did : DidEach x) (logs : List WorkerLog) (e : Ends) (ends : AreEndsOf x logs e) (r : Report) (made : IsMadeOf x.script logs e r) where
  ours : IsPermutation r.uses.items (last x did logs e ends r made).uses.ops
  ours = subst (IsPermutation r.uses.items) (sym (ops_are x did logs e ends r made)) (same x did logs e ends r made)

  counted : (g n : ℕ) → numbers n (uses_at r g) ≡ times_at g n (last x did logs e ends r made).uses.ops
  counted g n = let f : UseStep → ℕ = λ o. cond (eqb o.group g && eqb o.operation n) 1 0 in let ops = (last x did logs e ends r made).uses.ops in
      numbers_filter g n r.uses.items ∙ (sym (sum_total f r.uses.items) ∙ (sym (sum_by-IsPermutation f r.uses.items ops ours) ∙ (sum_total f ops ∙ sym (count_total (λ (o : UseStep). eqb o.group g && eqb o.operation n) ops))))

  numbered : (g : ℕ) → AreNumbered 0 (length (ends.charge.history g)) (uses_at r g)
  numbered g = record {
    ordered = omega arith;
    once = λ n a b. counted g n ∙ (ends.charge.operations.once g n ∙ below_one n (length (ends.charge.history g)) b);
    before = λ n a. absurd (omega (arith, a));
    past = λ n a. counted g n ∙ (ends.charge.operations.once g n ∙ ap (λ b. cond b 1 0) (le-ltb n (length (ends.charge.history g)) a));
  }

  of_group : (g : ℕ) (o : UseStep) → Has (uses_at r g) o → Has r.uses.items o × (o.group ≡ g)
  of_group g o has = let t = filter_has (λ (z : UseStep). eqb z.group g) r.uses.items o has in (t.0, eqb-true o.group g t.1)

  sorted : (g : ℕ) → PairsRec (λ (o p : UseStep). o.operation ≤ p.operation) (uses_at r g)
  sorted g = pairs_weaker StandsBefore (λ (o p : UseStep). o.operation ≤ p.operation) (uses_at r g)
      (λ o p a b before. let s = (of_group g o a).1 in let t = (of_group g p b).1 in ⊎_elim (λ lt. absurd (omega (arith, lt, s, t))) (λ h. h.1) before)
      (pairs_filter StandsBefore (λ (z : UseStep). eqb z.group g) r.uses.items (pairs_by_slices StandsBefore r.uses.items made.sorted))

  -- the operations of a group in the report are its history
  pub history_is : (g : ℕ) → uses_at r g ≡ ends.charge.history g
  history_is g = sorted_history (ends.charge.history g) (uses_at r g) (sorted g) (numbered g) (λ i o at.
      let of = of_group g o (among_has (uses_at r g) o (i, some_at (uses_at r g) i o at)) in
      let among = contains_among (last x did logs e ends r made).uses.ops o (Contains-permutation r.uses.items (last x did logs e ends r made).uses.ops o ours (Contains_from_Has r.uses.items o of.0)) in
      let there = all_among (StandsInHistory ends.charge.history) (last x did logs e ends r made).uses.ops o ends.charge.operations.there among in
      subst (λ (h : ℕ). slice_get (ends.charge.history h) o.operation ≡ Some o) of.1 there)

  -- the groups of the charge table are those of the script
  charged_hierarchy : hierarchy_of x.charge.shape ≡ report.script_hierarchy x.script
  charged_hierarchy = λ i. record { parents = (ends.shared.charged ∙ ap (λ t. t.parents) ends.shared.tree) i; later = (ends.shared.charged_later ∙ ap (λ t. t.later) ends.shared.tree) i }

  pub uses_and_tree : AreUsesAndTree x.script r (workers x did logs e ends r made)
  uses_and_tree = record {
    hierarchy = is_hierarchy x ends.shared;
    tree = subst (λ (es : List TreeEntry). IsTreeJournal (report.script_hierarchy x.script) es) (sym made.tree) (subst (λ (h : Hierarchy). IsTreeJournal h e.charge.tree.items) charged_hierarchy ends.charge.tree.legal);
    entered = λ n. ap (λ (l : List charge.TreeMade). offlining.times_noted n l) (sym (entries_are x did logs e ends r made)) ∙ (ends.charge.tree.once n ∙ ap (λ (l : List TreeEntry). cond (nat_lt n (length l)) 1 0) (sym made.tree));
    histories = λ g. subst (IsChargeHistory g) (sym (history_is g)) (ends.charge.operations.legal g);
    same = same x did logs e ends r made;
  }
