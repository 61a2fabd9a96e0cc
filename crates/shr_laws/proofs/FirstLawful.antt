-- SPDX-License-Identifier: GPL-2.0-only
-- The first whole report is lawful for its script.
use Rattle.shr_laws.proofs.Common.{◌≡◌, ℕ, zero, suc, ◌+◌, ◌<◌, ◌≤◌, Bool, true, false, cond, ◌&&◌, nat_lt, count_by, flat_map, List, [], ◌∷◌, ◌++◌, length, take, Some, None, slice_get, refl, Contains, arith, sym, ap, subst, Place, at_group, parent_of, is_closed, moved_in, items_given, MayStand, cons_option, map, ◌%◌, UseStep, ops_by, versions_at, ◌==◌, if◌then◌else◌, Registered, Found, decl_named, lookups_at, IsFoundRight, AreLookupsLawful, IsDeferredLawful, AreBitsLawful, pos, ◌-ℤ◌, IfSome, IsSomeAnd, ups, usage_after, IsNextUse, IsChargeHistory, AreTakenBack, is_put, command_at, reply_at, IsDownBetween, charged, freed_below, listed_below, AreChargesLawful, ◌||◌, list_any, PoolEntry, Answered, WalkRecord, answers_of, pool_seen, pool_made, tree_seen, of_answer, shown_by, is_begin_at, is_done_at, AreBelow, AreCausesLawful, IsLawful, IsOfIsolation, isolations_told, AreIsolationsLawful, AreNotFalling, IsOfPass, uses_at, walks_of, parents_of, serial_of, cited_at, journals_of, items_left, at, AreRepliesLawful, AreJournalsLawful, AreWalksLawful, IsBagLawful, Serial, At, PlainWalk, IsThere, is_set_at, ArePoolsLawful, plain_at, units_cited_at, walk_at}
use Rattle.shr_model.specs.Groups.{path_within, preorder_within}
use Rattle.shr_model.specs.Items.{items_from, freed_from, AreOutcomes}
use Rattle.shr_model.specs.Families.{lists_moved, items_within}
use Rattle.shr_model.specs.Bag.{AreDistinct}
use Rattle.shr_model.specs.Pool.{decl_at, registrations, end_of, phase_of, decl_from, from_from}
use Rattle.shr_model.specs.Commands.{rounds_from}
use Rattle.shr_base.specs.declared.replies.Reply.TheVariants as reply
use Rattle.shr_laws.proofs.QuietIsolations.{quiet_isolations}
use Rattle.shr_laws.proofs.SecondReport.{by, place, use_step}
use Rattle.shr_laws.proofs.FirstReport.{script, report, end}
use Rattle.shr_laws.proofs.SmallReports.{below_two, born, drawn, each_answer, each_entry, each_journal, each_serial, each_worker, last_low, never_refused, no_limit, none_carried, none_fall, pool_journal}
use Rattle.shr_laws.proofs.QuietPools.{quiet_pools}
use Rattle.shr_laws.proofs.QuietSweep.{quiet_counts, quiet_last, quiet_sweep}
use Rattle.shr_model.proofs.Booleans.{not_zero}
use Rattle.shr_model.proofs.Lists.{each_at}

no_walk : (worker n : ℕ) (w : WalkRecord) → walk_at report worker n ≡ Some w → ⊥
no_walk zero n w e = absurd (cc)
no_walk (suc worker) n w e = absurd (cc)

-- the one command that cites an entry cites the first
cites : (worker k : ℕ) (p : Place) (n : ℕ) → cited_at report (serial_of worker k) ≡ Some (at p n) → (n ≡ k) × (k < 1) × (p ≡ place)
cites zero zero p n e = let same : at place 0 ≡ at p n = cc in (ap (λ c. c.entry) (sym same), omega arith, ap (λ c. c.place) (sym same))
cites zero (suc k) p n e = absurd (cc)
cites (suc worker) k p n e = absurd (cc)

replies : AreRepliesLawful script report
replies = record {
  version = refl;
  nodes = refl;
  ids = refl;
  paths = refl;
  names = refl;
  pools = refl;
  counts = quiet_counts script report refl (each_worker _ refl (λ worker. refl));
  last = quiet_last script report (each_worker _ refl (λ worker. refl));
  answered = each_answer script report (λ worker. refl) _ (record { id_is = refl; node_is = refl; stands = refl }, tt);
  cited = each_entry report end refl (λ p n e. (x : Serial) → Rattle.shr_model.specs.Tenants.by_of e ≡ Some x → cited_at report x ≡ Some (at p n))
      ((λ x e. let same : by 0 ≡ x = cc in subst (λ y. cited_at report y ≡ Some (at place 0)) same refl), tt);
  rise = λ worker k later p n m before e f. omega (arith, before, (cites worker k p n e).1, (cites worker later p m f).1);
}

not_moved : (p : Place) (g : ℕ) → Contains (moved_in (journals_of report p)) g → ⊥
not_moved p g c = let h : c.0 < length (moved_in (journals_of report p)) = c.1 in let n : length (moved_in (journals_of report p)) ≡ 0 = ap (λ (xs : List ℕ). length xs) (each_journal report end refl (λ p es. moved_in es ≡ []) (λ p. refl) refl p) in omega (arith, h, n)

journals : AreJournalsLawful script report
unfolding AreOutcomes items_from lists_moved
journals = record {
  there = λ n end e. each_at (λ n (end : Rattle.shr_base.specs.declared.ends.PlaceEnd.PlaceEnd). IsThere script end.place) report.places.items (record { id = omega arith; node = omega arith; group = omega arith }, tt) n end e;
  legal = λ p. record {
    there = each_journal report end refl (λ p es. 0 < length es → p.group < 2) (λ p z. absurd (omega (arith, z))) (λ z. omega arith) p;
    stands = λ n e s. each_entry report end refl (λ p n e. MayStand (parents_of script) p.group (take n (journals_of report p)) e) (record { «open» = refl; allowed = born [] }, tt) p n e s;
    outcomes = each_journal report end refl (λ p es. AreOutcomes (lists_moved (items_given (parents_of script) (journals_of report) p) es) [] es) (λ p. tt) (refl, tt) p;
  };
  paired = λ p low high. ((λ closed. absurd (let no = each_journal report end refl (λ p es. is_closed es ≡ false) (λ p. refl) refl p in cc)), (λ moved. absurd (not_moved (at_group p (parent_of (parents_of script) p.group)) p.group moved)));
  once = λ n m x y e f same. omega (arith, each_at (λ n (z : Rattle.shr_base.specs.declared.ends.PlaceEnd.PlaceEnd). n ≡ 0) report.places.items (refl, tt) n x e, each_at (λ n (z : Rattle.shr_base.specs.declared.ends.PlaceEnd.PlaceEnd). n ≡ 0) report.places.items (refl, tt) m y f);
  items = λ n end e. each_at (λ n (z : Rattle.shr_base.specs.declared.ends.PlaceEnd.PlaceEnd). z.items.items ≡ items_left script report z.place) report.places.items (refl, tt) n end e;
  begun = λ p closed. absurd (let no = each_journal report end refl (λ p es. is_closed es ≡ false) (λ p. refl) refl p in cc);
  done = λ p there done. absurd (let h : done.0 < 0 = done.1 in omega (arith, h));
}

bag : IsBagLawful script report
unfolding items_from freed_from lists_moved items_within AreDistinct
bag = record { bag = record { distinct = (tt, tt); parts = record { moves = []; below = tt; is = refl } }; added = refl; freed = refl; listed = refl }

walks : AreWalksLawful script report
unfolding rounds_from preorder_within
walks = record {
  each = λ worker n w e. absurd (no_walk worker n w e);
  no_others = each_entry report end refl (λ p n e. IsOfPass report p e) (tt, tt);
  walks = each_answer script report (λ worker. refl) _ (record { rounds = []; refused = record { few = omega arith; above = tt; refusals = λ h. sym (never_refused script (refl, (refl, tt)) h (ops_by (by 0) (uses_at report h))); all = λ g o u e. absurd (cc) }; made = refl }, tt);
  told = each_answer script report (λ worker. refl) _ (tt, tt);
  versions = each_worker (λ worker. (p : Place) → AreNotFalling (flat_map (versions_at p) (walks_of report worker))) (λ p. none_fall) (λ worker p. none_fall);
  later = λ worker n w e. absurd (no_walk worker n w e);
  bits = λ worker n w e. absurd (no_walk worker n w e);
}

pub zero_not : (n : ℕ) → (suc n == 0) ≡ false
zero_not n = grind (arith)

number_of_first : (number : ℕ) → count_by (λ n. n == number) (0 ∷ []) ≡ (if nat_lt number 1 then 1 else 0)
number_of_first zero = refl
number_of_first (suc n) = grind (arith)

found_right : IsFoundRight report 0 (record { id = 0; number = 0; entry = 1 })
unfolding phase_of decl_from from_from end_of
found_right = record { there = omega arith; live = refl; decl_is = refl; from = omega arith; to = refl }

lookups : AreLookupsLawful script report
unfolding decl_at registrations end_of items_from lists_moved items_within phase_of
lookups = record {
  pool = pool_journal;
  opened = λ n decl e. each_at (λ n decl. slice_get report.pool.items n ≡ Some (Registered decl n 0)) (0 ∷ []) (refl, tt) n decl e;
  printed = refl;
  last = λ id live. last_low id (lookups_at report id);
  numbers = drawn report number_of_first (λ id. ap (λ b. (cons_option (if b then Some 0 else None) [] ++ []) ++ []) (not_zero id)) (λ id. refl);
  met = λ worker n w e. absurd (no_walk worker n w e);
  found = each_answer script report (λ worker. refl) (λ x c a. (decl : ℕ) (f : Found) → decl_named c ≡ Some decl → a.found ≡ Some f → IsFoundRight report decl f)
      (λ decl f e g. let d : 0 ≡ decl = cc in let same : record { id = 0; number = 0; entry = 1 } ≡ f = cc in subst (λ y. IsFoundRight report decl y) same (subst (λ x. IsFoundRight report x (record { id = 0; number = 0; entry = 1 })) d found_right), tt);
  idle = each_journal report end refl (λ p es. phase_of p.id report.pool.items % 3 ≡ 0 → items_from (lists_moved (items_given (parents_of script) (journals_of report) p) es) [] es ≡ []) (λ p e. refl) (λ e. absurd (omega (arith, e)));
}

bits : AreBitsLawful script report
unfolding items_from lists_moved
bits = record {
  set = λ p below some live. each_journal report end refl (λ p es. (items_from (lists_moved (items_given (parents_of script) (journals_of report) p) es) [] es ≡ [] → ⊥) → is_set_at report p ≡ true) (λ p no. absurd (no refl)) (λ no. refl) p some;
}

deferred : IsDeferredLawful script report
deferred = record { words = λ p. refl; shown = tt; carries = tt; once = none_carried report (each_worker _ refl (λ worker. refl)) }

none_there : (P : ℕ → List UseStep → Type 0) → ((group : ℕ) → P group []) → (group : ℕ) (b c : Bool) → b ≡ false → c ≡ false
    → P group (cond b (use_step 0 0 true 0 0 ∷ cond c (use_step 1 0 true 0 0 ∷ []) []) (cond c (use_step 1 0 true 0 0 ∷ []) []))
none_there P none group true c e f = absurd (cc)
none_there P none group false true e f = absurd (cc)
none_there P none group false false e f = none group

each_group : (P : ℕ → List UseStep → Type 0) → P 0 (use_step 0 0 true 0 0 ∷ []) → P 1 (use_step 1 0 true 0 0 ∷ []) → ((group : ℕ) → P group []) → (group : ℕ) → P group (uses_at report group)
each_group P root below none zero = root
each_group P root below none (suc zero) = below
each_group P root below none (suc (suc group)) = none_there P none (suc (suc group)) (0 == suc (suc group)) (1 == suc (suc group)) (grind (arith)) (grind (arith))

one_way : (b : Bool) (o : UseStep) → IsDownBetween (map (λ (x : UseStep). x.up) (cond b (o ∷ []) []))
one_way true o n zero before x y = absurd (omega (arith, before))
one_way true o n (suc m) before x y = absurd (cc)
one_way false o n m before x y = absurd (cc)

few_ups : (b : Bool) (o : UseStep) → o.up ≡ true → ups (cond b (o ∷ []) []) ≤ 14
few_ups true o up = let a : cond o.up 1 0 ≡ 1 = ap (λ b. cond {A = ℕ} b 1 0) up in omega (arith, a)
few_ups false o up = omega arith

idle_net : (b d : Bool) → b ≡ false → (o : UseStep) → usage_after (cond b (o ∷ []) []) ≡ pos 0 -ℤ pos (0 + (0 + cond d 0 0))
idle_net true d e o = absurd (cc)
idle_net false true e o = refl
idle_net false false e o = refl

charges : AreChargesLawful script report
unfolding items_from lists_moved items_within path_within
charges = record {
  tree = λ n e at. absurd (cc);
  there = (omega arith, (omega arith, tt));
  histories = each_group IsChargeHistory
      (each_at (λ n o. IsNextUse 0 (take n (use_step 0 0 true 0 0 ∷ [])) o) (use_step 0 0 true 0 0 ∷ []) (record { group = refl; number = refl; found = refl }, tt))
      (each_at (λ n o. IsNextUse 1 (take n (use_step 1 0 true 0 0 ∷ [])) o) (use_step 1 0 true 0 0 ∷ []) (record { group = refl; number = refl; found = refl }, tt))
      (λ g n o at. absurd (cc));
  taken_back = λ group. subst (λ limit. AreTakenBack limit (uses_at report group)) (sym (no_limit script (refl, (refl, tt)) group)) (λ n o at up no. absurd (no tt));
  puts = λ n o at up. each_at (λ n o. o.up ≡ true → IsSomeAnd (command_at script o.by) (λ c. is_put c ≡ true)) report.uses.items ((λ u. refl), ((λ u. refl), tt)) n o at up;
  fourteen = λ x group. each_group (λ g ops. ups (ops_by x ops) ≤ 14) (few_ups _ (use_step 0 0 true 0 0) refl) (few_ups _ (use_step 1 0 true 0 0) refl) (λ g. omega arith) group;
  between = λ x group. each_group (λ g ops. IsDownBetween (map (λ (o : UseStep). o.up) (ops_by x ops))) (one_way _ (use_step 0 0 true 0 0)) (one_way _ (use_step 1 0 true 0 0)) (λ g n m before a b. absurd (cc)) group;
  nets = λ x. each_serial 1 (λ worker k. (group : ℕ) → group < 2 → usage_after (ops_by (serial_of worker k) (uses_at report group)) ≡ pos (charged (parents_of script) group (command_at script (serial_of worker k)) (reply_at report (serial_of worker k))) -ℤ pos (freed_below script report (serial_of worker k) group))
      (below_two _ refl refl, tt)
      (λ k. below_two _ (idle_net (0 == suc k) (suc k == 0) (not_zero k) (use_step 0 0 true 0 0)) (idle_net (0 == suc k) (suc k == 0) (not_zero k) (use_step 1 0 true 0 0)))
      (λ worker k. below_two _ (idle_net ((0 == suc worker) && (0 == k)) ((suc worker == 0) && (k == 0)) (ap (λ b. b && (0 == k)) (not_zero worker)) (use_step 0 0 true 0 0)) (idle_net ((0 == suc worker) && (0 == k)) ((suc worker == 0) && (k == 0)) (ap (λ b. b && (0 == k)) (not_zero worker)) (use_step 1 0 true 0 0)))
      x.worker x.command;
  final = below_two (λ group. usage_after (uses_at report group) ≡ pos (listed_below script report group)) refl refl;
  limits = λ group. subst (λ limit. IfSome limit (λ l. listed_below script report group ≤ l)) (sym (no_limit script (refl, (refl, tt)) group)) tt;
}

one_stays : AreNotFalling (1 ∷ [])
one_stays k d h = absurd (omega (arith, h))

later_pool : (n : ℕ) (e : PoolEntry) → 1 ≤ n → slice_get report.pool.items n ≡ Some e → ⊥
later_pool zero e low at = omega (arith, low)
later_pool (suc n) e low at = absurd (cc)

no_plain : (worker n : ℕ) (w : PlainWalk) → plain_at report worker n ≡ Some w → ⊥
no_plain zero n w e = absurd (cc)
no_plain (suc worker) n w e = absurd (cc)

causes : AreCausesLawful script report
causes = let none_shown : (worker k : ℕ) → shown_by report (serial_of worker k) ≡ [] = each_serial 1 (λ worker k. shown_by report (serial_of worker k) ≡ []) (refl, tt) (λ k. refl) (λ worker k. refl) in record {
  rows = each_answer script report (λ worker. refl) _ (tt, tt);
  walks = λ worker n w e. absurd (no_walk worker n w e);
  attempts = λ worker n w e. absurd (no_walk worker n w e);
  passes = λ worker n w e. absurd (no_walk worker n w e);
  plain = λ worker n w at. absurd (no_plain worker n w at);
  begins = λ n group at. absurd (cc);
  dones = λ n group at. absurd (cc);
  mades = λ n group at. absurd (cc);
  pool = λ n e low at. absurd (later_pool n e low at);
  drained = each_entry report end refl _ ((λ x n e. absurd (cc)), tt);
  fresh = record {
    pool = each_worker (λ worker. AreNotFalling (flat_map pool_seen (answers_of report worker))) one_stays (λ worker. none_fall);
    pool_own = λ worker k later before. subst (λ (ns : List ℕ). AreBelow ns (of_answer report (serial_of worker later) pool_seen)) (sym (each_serial 1 (λ worker k. of_answer report (serial_of worker k) (λ (a : Answered). pool_made a.reply) ≡ []) (refl, tt) (λ k. refl) (λ worker k. refl) worker k)) tt;
    pool_on = each_answer script report (λ worker. refl) _ ((omega arith, tt), tt);
    tree = each_worker (λ worker. AreNotFalling (flat_map tree_seen (answers_of report worker))) none_fall (λ worker. none_fall);
    tree_shown = λ worker k later before. subst (λ (ns : List ℕ). AreBelow ns (of_answer report (serial_of worker later) tree_seen)) (sym (none_shown worker k)) tt;
    refused = λ worker k later group before shows at. absurd (let none = ap (λ (ns : List ℕ). list_any (is_begin_at report group) ns || list_any (is_done_at report group) ns) (none_shown worker k) in cc);
    first = λ worker k group all. ap (λ (ns : List ℕ). list_any (is_begin_at report group) ns) (none_shown worker k);
    made = λ worker k later group before shows unmade. each_serial 1 (λ worker k. reply_at report (serial_of worker k) ≡ Some (reply.NotMade group) → ⊥) ((λ e. absurd (cc)), tt) (λ k e. absurd (cc)) (λ worker k e. absurd (cc)) worker later unmade;
  };
}

pools : ArePoolsLawful script report
pools = quiet_pools script report refl refl refl (each_worker _ refl (λ worker. refl)) refl (each_answer script report (λ worker. refl) _ (tt, tt)) (each_serial 1 (λ worker k. (c : At) → units_cited_at report (serial_of worker k) ≡ Some c → ⊥) ((λ c e. absurd (cc)), tt) (λ k c e. absurd (cc)) (λ worker k c e. absurd (cc)))

isolations : AreIsolationsLawful script report
isolations = quiet_isolations script report (each_worker _ refl (λ worker. refl)) (each_entry report end refl (λ p n e. IsOfIsolation report p e) (tt, tt)) (each_answer script report (λ worker. refl) (λ by c a. isolations_told by c a ≡ []) (refl, tt))

-- The report is lawful.
pub lawful : IsLawful script report
lawful = record { replies = replies; journals = journals; bag = bag; walks = walks; lookups = lookups; charges = charges; deferred = deferred; bits = bits; causes = causes; pools = pools; isolations = isolations; sweep = quiet_sweep script report refl }
