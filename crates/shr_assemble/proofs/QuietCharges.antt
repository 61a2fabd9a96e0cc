-- SPDX-License-Identifier: GPL-2.0-only
-- What a command charged that made uncharges alone, one of each of some objects.
use Rattle.shr_assemble.proofs.Common.{◌≡◌, ℕ, ◌+◌, ◌<◌, ◌≤◌, pos, ◌-ℤ◌, Bool, true, false, cond, ◌==◌, ◌||◌, List, [], length, refl, sym, ap, subst, ◌∙◌, arith, Some, None, slice_index_or, sum_by, nat_le, AllByRecursion, length-map, All-from_recursion, UseStep, Object, Serial, Script, ups, downs, born_below, IsTree, Made, AreDowns, Spent, spent_by, Uses, Shared, WorkerState, Work, no_work, Does, does_none, Uncharges, paths_of, parents_of, charged, Step, DidCharges, ops_at, added_below, made_freed_below, use_group, ◌⊎◌, inl, inr, none-some, Reply, Command, asks_online, Family, cited_by, MayBeOffline, pool_told, pool_made, IsReply, IsCausedBy, KnowsOnline, MeetsGroups, leb-true, AreChargesWorn, AreRising, ◌^◌, count_by, all_slice_by}
use Rattle.shr_base.specs.declared.replies.Spent.TheVariants as spent
use Rattle.shr_charge.specs.Seat.{counted}
use Rattle.shr_assemble.proofs.PutTries.{of_groups}
use Rattle.shr_assemble.proofs.PutWays.{not_both}
use Rattle.shr_assemble.proofs.WalkingCharges.{GoesDown, all_down, count_downs, down_at, every_down, no_ups, paths_count, paths_many, paths_within, rec_of}
use Rattle.shr_assemble.proofs.QuietTenant.{brings_of, without, no_entries, unfound_lookups}
use Rattle.shr_assemble.proofs.Spending.{spent_is}
use Rattle.shr_assemble.proofs.QuietSteps.{step_of, HasDid, IsCalm, still_charges, still_pool, still_tree, IsToldOnce, quiet_did}

-- it uncharged each of these objects once, which its entries freed, and added none
pub record Uncharged (s : Script) (z : Step) (objects : List Object) : Type 0 where
  pub born : AllByRecursion (λ (o : Object). o.birth < length (parents_of s)) objects
  pub downs : AreDowns z.by (paths_of (parents_of s) objects) z.work.ops
  pub charges : z.work.charges ≡ 0
  pub uncharges : z.work.uncharges ≡ length objects
  pub freed : (g : ℕ) → sum_by (made_freed_below (parents_of s) g) z.work.core.made ≡ born_below (parents_of s) g objects
  pub added : (g : ℕ) → sum_by (λ (m : Made). added_below (parents_of s) g m.entry) z.work.core.made ≡ 0
  pub charged : (g : ℕ) → charged (parents_of s) g z.command (Some z.answered.reply) ≡ 0

pub uncharged_charges : (s : Script) (z : Step) (objects : List Object) → IsTree (parents_of s) → Uncharged s z objects → DidCharges s z
uncharged_charges s z objects tree h = record {
  own = λ k d lt. (h.downs.each k d lt).made;
  there = All-from_recursion (λ (o : UseStep). o.group < length (parents_of s)) z.work.ops
      (of_groups (λ g. g < length (parents_of s)) z.work.ops (subst (AllByRecursion (λ g. g < length (parents_of s))) (sym h.downs.at) (paths_within (parents_of s) tree objects h.born)));
  taken_back = λ group n o at up above. not_both o.up up (all_slice_by GoesDown (ops_at group z.work.ops) n o (all_down group z.work.ops down) at);
  puts = λ k d lt up. not_both (slice_index_or z.work.ops k d).up up (h.downs.each k d lt).down;
  fourteen = λ group. let none = no_ups group z.work.ops down in omega (arith, none);
  between = λ group n m lt first second. absurd (down_at (ops_at group z.work.ops) (all_down group z.work.ops down) n first);
  nets = λ group near. let u : ups (ops_at group z.work.ops) ≡ charged (parents_of s) group z.command (Some z.answered.reply) = no_ups group z.work.ops down ∙ sym (h.charged group) in
      let d : downs (ops_at group z.work.ops) ≡ sum_by (made_freed_below (parents_of s) group) z.work.core.made = count_downs group z.work.ops down ∙ (ap (count_by (λ (y : ℕ). y == group)) h.downs.at ∙ (paths_count (parents_of s) tree group objects h.born ∙ sym (h.freed group))) in
      λ i. pos (u i) -ℤ pos (d i);
  added = λ group. h.added group ∙ sym (h.charged group);
  charges = let none = h.charges in omega (arith, none);
  uncharges = let n = h.uncharges in let all = every_down z.work.ops down in let long = paths_many (parents_of s) tree objects h.born in let same = ap (λ (l : List ℕ). length l) h.downs.at in omega (arith, n, all, long, same, length-map z.work.ops use_group);
} where
  down : AllByRecursion GoesDown z.work.ops
  down = rec_of GoesDown z.work.ops (λ k d lt. (h.downs.each k d lt).down)

-- ---- one object that was uncharged

-- operations that one call to uncharge made
abbrev pub uncharging : List UseStep → Work
uncharging ops = record no_work { ops = ops; uncharges = 1 }

pub does_uncharge : (x : Shared) (by : Serial) (group : ℕ) (s t : WorkerState) (h : Uncharges x by group s t) → s.uses.uncharges < 4194304 → Does s t (uncharging h.ops)
does_uncharge x by group s t h low = let few : s.uses.uncharges < 2 ^ 25 → s.uses.uncharges + 1 < 2 ^ 25 = λ lt. omega (arith, low) in
    subst (λ (u : WorkerState). Does s u (uncharging h.ops)) (sym h.rest) (assumption (subst (λ (u : WorkerState). AreRising s.uses.ops → AreRising u.uses.ops) h.rest h.rise, few, does_none s))

-- nothing was done, and the answer tells of nothing
pub nothing_did : (s : Script) (by : Serial) (c : Command) (r : Reply) (before after : WorkerState) → after ≡ before → IsCalm c → ((family : Family) → IsReply (parents_of s) family by c None r) → cited_by r ≡ None
    → ((g : ℕ) → charged (parents_of s) g (Some c) (Some r) ≡ 0) → pool_told r ≡ [] → pool_made r ≡ []
    → ((group : ℕ) → asks_online c ≡ Some group → 0 < group → MayBeOffline r ⊎ KnowsOnline before.tree group) → MeetsGroups s (step_of by c (without r) before after no_work)
    → IsCausedBy s (step_of by c (without r) before after no_work) r → HasDid s by c (without r) before after
nothing_did s by c r before after same calm row uncited uncharged untold unmade online meets cause =
    let z : Step = step_of by c (without r) before after no_work in
    let does : Does before after no_work = subst (λ (u : WorkerState). Does before u no_work) (sym same) (does_none before) in
    quiet_did no_work calm (record { walks = refl; seen = refl; maps = refl; cleared = refl; takes = refl; gives = refl; carries = refl })
    (brings_of does) (no_entries s z refl refl row uncited) (unfound_lookups s z refl refl)
    (still_charges s z (record { ops = refl; charges = refl; uncharges = refl; freed = λ g. refl; added = λ g. refl; charged = uncharged }))
    (still_pool s z does.core.pool (record { turns = refl; made = unmade }) (subst (IsToldOnce z) (sym untold) tt))
    (still_tree s z refl online meets) cause

-- ---- charges that are used up

abbrev charges_in : Spent → ℕ
charges_in (spent.Charges charges uncharges) = charges
charges_in x = 0

abbrev uncharges_in : Spent → ℕ
uncharges_in (spent.Charges charges uncharges) = uncharges
uncharges_in x = 0

either : (a b : Bool) (x y : Spent) → cond (a || b) (Some x) None ≡ Some y → (a ≡ true) ⊎ (b ≡ true)
either true b x y e = inl refl
either false true x y e = inr refl
either false false x y e = absurd (none-some y e)

reached : (n l c : ℕ) → c ≡ counted n → l ≤ n → l ≤ 4194304 → l ≤ c
reached n l c e le small = omega (arith, e, le, small)

pub charges_worn : (z : Step) (charges uncharges : ℕ) → spent_by z.after.uses ≡ Some (spent.Charges charges uncharges) → AreChargesWorn z charges uncharges
charges_worn z charges uncharges e =
    let u : Uses = z.after.uses in
    let is = spent_is u (spent.Charges charges uncharges) e in
    let c : charges ≡ counted u.charges = ap charges_in is in
    let d : uncharges ≡ counted u.uncharges = ap uncharges_in is in
    record {
      over = by_either u.charges u.uncharges c d (either (nat_le 1048576 u.charges) (nat_le 4194304 u.uncharges) (spent.Charges (counted u.charges) (counted u.uncharges)) (spent.Charges charges uncharges) e);
      charged = omega (arith, c);
      uncharged = omega (arith, d);
    } where
      by_either : (n m : ℕ) → charges ≡ counted n → uncharges ≡ counted m → (nat_le 1048576 n ≡ true) ⊎ (nat_le 4194304 m ≡ true) → (1048576 ≤ charges) ⊎ (4194304 ≤ uncharges)
      by_either n m c d (inl t) = inl (reached n 1048576 charges c (leb-true 1048576 n t) (omega arith))
      by_either n m c d (inr t) = inr (reached m 4194304 uncharges d (leb-true 4194304 m t) (omega arith))
