-- SPDX-License-Identifier: GPL-2.0-only
-- The second whole report is lawful for its script.
use Rattle.shr_laws.proofs.Common.{◌≡◌, ◌⊎◌, ℕ, zero, suc, ◌+◌, ◌<◌, ◌≤◌, Bool, true, false, cond, ◌&&◌, nat_lt, count_by, flat_map, List, [], ◌∷◌, ◌++◌, length, take, Some, None, slice_get, refl, Contains, arith, sym, ap, subst, inl, inr, cases_Bool, Place, Attempt, PassRecord, at_group, is_place, parent_of, is_closed, moved_in, items_given, MayStand, pass_of, AllByRecursion, cons_option, map, option_and_then, is_place_same, UseStep, ops_by, versions_at, ◌==◌, if◌then◌else◌, filter_map, sum_by, Registered, Found, decl_named, deferred_word, lookups_at, IsFoundRight, AreLookupsLawful, IsDeferredLawful, AreBitsLawful, pos, ◌-ℤ◌, IfSome, IsSomeAnd, ups, usage_after, IsNextUse, IsChargeHistory, AreTakenBack, is_put, command_at, reply_at, IsDownBetween, charged, freed_below, listed_below, AreChargesLawful, ◌||◌, list_any, PoolEntry, Answered, WalkRecord, At, PlainWalk, answers_of, pool_seen, pool_made, tree_seen, of_answer, shown_by, is_begin_at, is_done_at, AreBelow, AreCausesLawful, IsLawful, IsOfIsolation, isolations_told, AreIsolationsLawful, AreNotFalling, IsOfPass, FillsPlace, was_cleared, uses_at, walks_of, cited_by, parents_of, serial_of, cited_at, journals_of, items_left, at, AreRepliesLawful, AreJournalsLawful, IsLawfulWalk, AreWalksLawful, IsBagLawful, ArePoolsLawful, plain_at, units_cited_at, Count, counts_of, is_some, number_of, is_held, attempt_at, passes_at, EachAttempt, walk_cited}
use Rattle.shr_model.specs.Groups.{path_within, preorder_within}
use Rattle.shr_model.specs.Items.{items_from, freed_from, AreOutcomes}
use Rattle.shr_model.specs.Families.{lists_moved, items_within}
use Rattle.shr_model.specs.Bag.{AreDistinct}
use Rattle.shr_model.specs.Pool.{decl_at, registrations, end_of, phase_of, decl_from, from_from}
use Rattle.shr_model.specs.Commands.{rounds_from}
use Rattle.shr_base.specs.declared.replies.Reply.TheVariants as reply
use Rattle.shr_laws.proofs.QuietIsolations.{quiet_isolations}
use Rattle.shr_laws.proofs.SecondReport.{use_step, script, report, by, place, cleared, first_walk, second_walk}
use Rattle.shr_laws.proofs.SecondCases.{each_answer, each_walk, each_entry, each_journal}
use Rattle.shr_laws.proofs.QuietPools.{quiet_pools}
use Rattle.shr_laws.proofs.QuietSweep.{quiet_counts, quiet_last, quiet_sweep}
use Rattle.shr_laws.proofs.SmallReports.{below_two, born, drawn, each_serial, each_worker, last_low, never_refused, no_limit, none_carried, none_fall, pool_journal}
use Rattle.shr_laws.proofs.FirstLawful.{zero_not}
use Rattle.shr_model.proofs.Booleans.{not_zero}
use Rattle.shr_model.proofs.Lists.{each_at}

-- a command that cites an entry cites the one of its own number
cites : (worker k : ℕ) (p : Place) (n : ℕ) → cited_at report (serial_of worker k) ≡ Some (at p n) → (n ≡ k) × (k < 2) × (p ≡ place)
cites zero zero p n e = let same : at place 0 ≡ at p n = cc in (ap (λ c. c.entry) (sym same), omega arith, ap (λ c. c.place) (sym same))
cites zero (suc zero) p n e = let same : at place 1 ≡ at p n = cc in (ap (λ c. c.entry) (sym same), omega arith, ap (λ c. c.place) (sym same))
cites zero (suc (suc zero)) p n e = absurd (cc)
cites zero (suc (suc (suc zero))) p n e = absurd (cc)
cites zero (suc (suc (suc (suc k)))) p n e = absurd (cc)
cites (suc worker) k p n e = absurd (cc)

pub replies : AreRepliesLawful script report
replies = record {
  version = refl;
  nodes = refl;
  ids = refl;
  paths = refl;
  names = refl;
  pools = refl;
  counts = quiet_counts script report refl (each_worker _ refl (λ worker. refl));
  last = quiet_last script report (each_worker _ refl (λ worker. refl));
  answered = each_answer _ (record { id_is = refl; node_is = refl; stands = refl }, (record { id_is = refl; node_is = refl; stands = refl }, (tt, (tt, tt))));
  cited = each_entry (λ p n e. (x : Rattle.shr_base.specs.declared.places.Serial.Serial) → Rattle.shr_model.specs.Tenants.by_of e ≡ Some x → cited_at report x ≡ Some (at p n))
      ((λ x e. let same : by 0 ≡ x = cc in subst (λ y. cited_at report y ≡ Some (at place 0)) same refl), ((λ x e. let same : by 1 ≡ x = cc in subst (λ y. cited_at report y ≡ Some (at place 1)) same refl), tt));
  rise = λ worker k later p n m before e f. omega (arith, before, (cites worker k p n e).0, (cites worker later p m f).0);
}

nothing_left : (p : Place) → items_left script report p ≡ []
unfolding items_from lists_moved
nothing_left = each_journal (λ p es. items_from (lists_moved (items_given (parents_of script) (journals_of report) p) es) [] es ≡ []) (λ p. refl) refl

not_moved : (p : Place) (g : ℕ) → Contains (moved_in (journals_of report p)) g → ⊥
not_moved p g c = let h : c.0 < length (moved_in (journals_of report p)) = c.1 in let n : length (moved_in (journals_of report p)) ≡ 0 = ap (λ (xs : List ℕ). length xs) (each_journal (λ p es. moved_in es ≡ []) (λ p. refl) refl p) in omega (arith, h, n)

pub journals : AreJournalsLawful script report
unfolding AreOutcomes items_from lists_moved
journals = record {
  there = λ n end e. each_at (λ n (end : Rattle.shr_base.specs.declared.ends.PlaceEnd.PlaceEnd). Rattle.shr_laws.specs.Parts.IsThere script end.place) report.places.items (record { id = omega arith; node = omega arith; group = omega arith }, tt) n end e;
  legal = λ p. record {
    there = each_journal (λ p es. 0 < length es → p.group < 2) (λ p z. absurd (omega (arith, z))) (λ z. omega arith) p;
    stands = λ n e s. each_entry (λ p n e. MayStand (parents_of script) p.group (take n (journals_of report p)) e) (record { «open» = refl; allowed = born [] }, (record { «open» = refl; allowed = born _ }, tt)) p n e s;
    outcomes = each_journal (λ p es. AreOutcomes (lists_moved (items_given (parents_of script) (journals_of report) p) es) [] es) (λ p. tt) (refl, (refl, tt)) p;
  };
  paired = λ p low high. ((λ closed. absurd (let no = each_journal (λ p es. is_closed es ≡ false) (λ p. refl) refl p in cc)), (λ moved. absurd (not_moved (at_group p (parent_of (parents_of script) p.group)) p.group moved)));
  once = λ n m x y e f same. omega (arith, each_at (λ n (z : Rattle.shr_base.specs.declared.ends.PlaceEnd.PlaceEnd). n ≡ 0) report.places.items (refl, tt) n x e, each_at (λ n (z : Rattle.shr_base.specs.declared.ends.PlaceEnd.PlaceEnd). n ≡ 0) report.places.items (refl, tt) m y f);
  items = λ n end e. each_at (λ n (z : Rattle.shr_base.specs.declared.ends.PlaceEnd.PlaceEnd). z.items.items ≡ items_left script report z.place) report.places.items (sym (nothing_left place), tt) n end e;
  begun = λ p closed. absurd (each_journal (λ p es. is_closed es ≡ true → ⊥) (λ p z. absurd (cc)) (λ z. absurd (cc)) p closed);
  done = λ p there done. absurd (let h : done.0 < 0 = done.1 in omega (arith, h));
}

pub bag : IsBagLawful script report
unfolding items_from freed_from lists_moved items_within AreDistinct
bag = record { bag = record { distinct = (tt, tt); parts = record { moves = []; below = tt; is = refl } }; added = refl; freed = refl; listed = refl }

first_lawful : IsLawfulWalk script report 0 0 first_walk
unfolding items_from lists_moved items_within decl_at registrations end_of
first_lawful = record {
  offline = λ entry e. absurd (cc);
  mapped = λ freed e g. (refl, refl);
  root = λ z. absurd (omega (arith, z));
  memory = ((λ z. absurd (cc)), (λ k a p e f. absurd (each_at (λ k (a : Attempt). pass_of a.outcome ≡ Some p → ⊥) (cleared ∷ []) ((λ z. absurd (cc)), tt) k a e f)));
  counts = each_at _ (cleared ∷ []) ((record { there = omega arith; len = refl }, (record { there = omega arith; len = refl }, tt)), tt);
  kinds = each_at _ (cleared ∷ []) ((λ z. tt), tt);
  placed = each_at _ (cleared ∷ []) (((λ z. omega (arith, z)), omega arith), tt);
  scans = each_at _ (cleared ∷ []) ((λ d p e f. absurd (cc)), tt);
  stops = each_at _ (cleared ∷ []) ((λ d p e f. absurd (cc)), tt);
  freed = refl;
}

second_lawful : IsLawfulWalk script report 0 1 second_walk
second_lawful = record {
  offline = λ entry e. absurd (cc);
  mapped = λ freed e g. (refl, refl);
  root = λ z. absurd (omega (arith, z));
  memory = ((λ z. absurd (cc)), (λ k a p e f. absurd (cc)));
  counts = λ k a e. absurd (cc);
  kinds = λ k a e. absurd (cc);
  placed = λ k a e. absurd (cc);
  scans = λ k a e. absurd (cc);
  stops = λ k a e. absurd (cc);
  freed = refl;
}

-- the versions at a place are those of the one attempt, where it is its place
versions_are : (p : Place) → ((p ≡ place) × (versions_at p first_walk ≡ 2 ∷ 2 ∷ [])) ⊎ (versions_at p first_walk ≡ [])
versions_are p = elim (cases_Bool (is_place p place)) [
  | inl own ↦ inl (is_place_same p place own, ap (λ b. flat_map (λ (a : Attempt). map (λ (c : Count). c.version) (counts_of a.outcome)) (cond b (cleared ∷ []) [])) own)
  | inr other ↦ inr (ap (λ b. flat_map (λ (a : Attempt). map (λ (c : Count). c.version) (counts_of a.outcome)) (cond b (cleared ∷ []) [])) other)
]

two_stay : AreNotFalling (2 ∷ 2 ∷ [])
two_stay zero d h = omega arith
two_stay (suc k) d h = absurd (omega (arith, h))

not_falling : (p : Place) → AreNotFalling (versions_at p first_walk ++ [])
not_falling p = elim (versions_are p) [
  | inl own ↦ subst (λ (vs : List ℕ). AreNotFalling (vs ++ [])) (sym own.1) two_stay
  | inr other ↦ subst (λ (vs : List ℕ). AreNotFalling (vs ++ [])) (sym other) none_fall
]

later_than : (k n : ℕ) (p : Place) → k < 2 → cited_at report (serial_of 0 k) ≡ Some (at p n) → AllByRecursion (λ version. n < version) (versions_at p first_walk)
later_than k n p early e = let here = cites 0 k p n e in let low : n < 2 = omega (arith, here.0, here.1) in elim (versions_are p) [
  | inl own ↦ subst (λ (vs : List ℕ). AllByRecursion (λ version. n < version) vs) (sym own.1) (low, (low, tt))
  | inr other ↦ subst (λ (vs : List ℕ). AllByRecursion (λ version. n < version) vs) (sym other) tt
]

-- what a reply filled was cleared
filled : (worker k : ℕ) (p : Place) → FillsPlace script report (serial_of worker k) p → was_cleared report p ≡ true
filled worker k p f = let here = cites worker k p f.entry (ap (option_and_then cited_by) f.added) in subst (λ q. was_cleared report q ≡ true) (sym here.2) refl

pub walks : AreWalksLawful script report
unfolding rounds_from preorder_within
walks = record {
  each = each_walk (IsLawfulWalk script report) first_lawful second_lawful;
  no_others = each_entry (λ p n e. IsOfPass report p e) (tt, (tt, tt));
  walks = each_answer _ (
    record { rounds = []; refused = record { few = omega arith; above = tt; refusals = λ h. sym (never_refused script (refl, (refl, tt)) h (ops_by (by 0) (uses_at report h))); all = λ g o u e. absurd (cc) }; made = refl },
    (record { rounds = []; refused = refl; made = refl }, (record { rounds = []; refused = refl; made = refl }, (record { rounds = []; refused = refl; made = refl }, tt))),
  );
  told = each_answer _ (tt, (tt, (refl, (refl, tt))));
  versions = each_worker (λ worker. (p : Place) → AreNotFalling (flat_map (versions_at p) (walks_of report worker))) not_falling (λ worker p. none_fall);
  later = each_walk (λ worker n w. (k entry : ℕ) (p : Place) → k < w.by.command → cited_at report (serial_of worker k) ≡ Some (at p entry) → AllByRecursion (λ version. entry < version) (versions_at p w))
      (λ k entry p early e. later_than k entry p early e) (λ k entry p early e. tt);
  bits = λ worker n w e i k m p f covers early fills kept. absurd (let was = filled worker k p fills in cc);
}

-- the lookups of an id are three of the first, and none of another
numbers_of_first : (number : ℕ) → count_by (λ n. n == number) (0 ∷ 1 ∷ 2 ∷ []) ≡ (if nat_lt number 3 then 1 else 0)
numbers_of_first zero = refl
numbers_of_first (suc zero) = refl
numbers_of_first (suc (suc zero)) = refl
numbers_of_first (suc (suc (suc n))) = grind (arith)

found_of : (number : ℕ) → number < 3 → IsFoundRight report 0 (record { id = 0; number = number; entry = 1 })
unfolding phase_of decl_from from_from end_of
found_of number low = record { there = omega arith; live = refl; decl_is = refl; from = omega arith; to = refl }

pub lookups : AreLookupsLawful script report
unfolding decl_at registrations end_of
lookups = record {
  pool = pool_journal;
  opened = λ n decl e. each_at (λ n decl. slice_get report.pool.items n ≡ Some (Registered decl n 0)) (0 ∷ []) (refl, tt) n decl e;
  printed = refl;
  last = λ id live. last_low id (lookups_at report id);
  numbers = drawn report numbers_of_first (λ id. ap (λ b. cons_option (if b then Some 0 else None) (cons_option (if b then Some 1 else None) []) ++ [] ++ (filter_map (λ (a : Attempt). number_of a.outcome) (cond b (cleared ∷ []) []) ++ [])) (not_zero id)) (λ id. refl);
  met = each_walk (λ worker n w. EachAttempt w (λ a. (number : ℕ) → number_of a.outcome ≡ Some number → is_held a.outcome ≡ is_some (attempt_at a.id number (lookups_at report a.id) report.pool.items)))
      (each_at _ (cleared ∷ []) ((λ number e. let same : 2 ≡ number = cc in subst (λ m. true ≡ is_some (attempt_at 0 m 3 report.pool.items)) same refl), tt)) (λ k a e. absurd (cc));
  found = each_answer (λ x c a. (decl : ℕ) (f : Found) → decl_named c ≡ Some decl → a.found ≡ Some f → IsFoundRight report decl f) (
    (λ decl f e g. let d : 0 ≡ decl = cc in let same : record { id = 0; number = 0; entry = 1 } ≡ f = cc in subst (λ y. IsFoundRight report decl y) same (subst (λ x. IsFoundRight report x (record { id = 0; number = 0; entry = 1 })) d (found_of 0 (omega arith)))),
    (
      (λ decl f e g. let d : 0 ≡ decl = cc in let same : record { id = 0; number = 1; entry = 1 } ≡ f = cc in subst (λ y. IsFoundRight report decl y) same (subst (λ x. IsFoundRight report x (record { id = 0; number = 1; entry = 1 })) d (found_of 1 (omega arith)))),
      ((λ decl f e g. absurd (cc)), ((λ decl f e g. absurd (cc)), tt)),
    ),
  );
  idle = λ p e. nothing_left p;
}

pub bits : AreBitsLawful script report
bits = record { set = λ p below there live. absurd (there (nothing_left p)) }

-- no pass ran, so nothing was given or taken
no_passes : (p : Place) → passes_at p first_walk ≡ []
no_passes p = elim (cases_Bool (is_place p place)) [
  | inl own ↦ ap (λ b. filter_map (λ (a : Attempt). pass_of a.outcome) (cond b (cleared ∷ []) [])) own
  | inr other ↦ ap (λ b. filter_map (λ (a : Attempt). pass_of a.outcome) (cond b (cleared ∷ []) [])) other
]

pub deferred : IsDeferredLawful script report
deferred = record {
  words = λ p. subst (λ (ps : List PassRecord). 0 ≡ deferred_word (sum_by (λ (x : PassRecord). x.next) (ps ++ []) + 0) (sum_by (λ (x : PassRecord). x.nr) (ps ++ []) + 0)) (sym (no_passes p)) refl;
  shown = tt;
  carries = tt;
  once = none_carried report (each_worker _ refl (λ worker. refl));
}

none_there : (P : ℕ → List UseStep → Type 0) → ((group : ℕ) → P group []) → (group : ℕ) (b c : Bool) → b ≡ false → c ≡ false
    → P group (cond b (use_step 0 0 true 0 0 ∷ cond b (use_step 0 1 false 1 1 ∷ cond c (use_step 1 0 true 0 0 ∷ cond c (use_step 1 1 false 1 1 ∷ []) []) (cond c (use_step 1 1 false 1 1 ∷ []) []))
    (cond c (use_step 1 0 true 0 0 ∷ cond c (use_step 1 1 false 1 1 ∷ []) []) (cond c (use_step 1 1 false 1 1 ∷ []) [])))
    (cond b (use_step 0 1 false 1 1 ∷ cond c (use_step 1 0 true 0 0 ∷ cond c (use_step 1 1 false 1 1 ∷ []) []) (cond c (use_step 1 1 false 1 1 ∷ []) []))
    (cond c (use_step 1 0 true 0 0 ∷ cond c (use_step 1 1 false 1 1 ∷ []) []) (cond c (use_step 1 1 false 1 1 ∷ []) []))))
none_there P none group true c e f = absurd (cc)
none_there P none group false true e f = absurd (cc)
none_there P none group false false e f = none group

-- the operations of a group are one up and one down, or none
each_group : (P : ℕ → List UseStep → Type 0) → P 0 (use_step 0 0 true 0 0 ∷ use_step 0 1 false 1 1 ∷ []) → P 1 (use_step 1 0 true 0 0 ∷ use_step 1 1 false 1 1 ∷ [])
    → ((group : ℕ) → P group []) → (group : ℕ) → P group (uses_at report group)
each_group P root below none zero = root
each_group P root below none (suc zero) = below
each_group P root below none (suc (suc group)) = none_there P none (suc (suc group)) (0 == suc (suc group)) (1 == suc (suc group)) (grind (arith)) (grind (arith))

ways : (b c : Bool) (o p : UseStep) → o.up ≡ true → p.up ≡ false → IsDownBetween (map (λ (x : UseStep). x.up) (cond b (o ∷ cond c (p ∷ []) []) (cond c (p ∷ []) [])))
ways true true o p up down zero zero before x y = absurd (omega (arith, before))
ways true true o p up down zero (suc zero) before x y = absurd (cc)
ways true true o p up down zero (suc (suc m)) before x y = absurd (cc)
ways true true o p up down (suc zero) m before x y = absurd (cc)
ways true true o p up down (suc (suc n)) m before x y = absurd (cc)
ways true false o p up down n zero before x y = absurd (omega (arith, before))
ways true false o p up down n (suc m) before x y = absurd (cc)
ways false true o p up down n zero before x y = absurd (omega (arith, before))
ways false true o p up down n (suc m) before x y = absurd (cc)
ways false false o p up down n m before x y = absurd (cc)

few_ups : (b c : Bool) (o p : UseStep) → o.up ≡ true → p.up ≡ false → ups (cond b (o ∷ cond c (p ∷ []) []) (cond c (p ∷ []) [])) ≤ 14
few_ups true true o p up down = let a : cond o.up 1 0 ≡ 1 = ap (λ b. cond {A = ℕ} b 1 0) up in let b : cond p.up 1 0 ≡ 0 = ap (λ b. cond {A = ℕ} b 1 0) down in omega (arith, a, b)
few_ups true false o p up down = let a : cond o.up 1 0 ≡ 1 = ap (λ b. cond {A = ℕ} b 1 0) up in omega (arith, a)
few_ups false true o p up down = let b : cond p.up 1 0 ≡ 0 = ap (λ b. cond {A = ℕ} b 1 0) down in omega (arith, b)
few_ups false false o p up down = omega arith

-- a command that isn't one of these two used nothing, and freed nothing
idle_net : (b c d e : Bool) → b ≡ false → c ≡ false → d ≡ false → e ≡ false → (o p : UseStep)
    → usage_after (cond b (o ∷ cond c (p ∷ []) []) (cond c (p ∷ []) [])) ≡ pos 0 -ℤ pos (0 + (0 + cond d 0 0 + cond e 1 0))
idle_net true c d e f g h i o p = absurd (cc)
idle_net false true d e f g h i o p = absurd (cc)
idle_net false false true e f g h i o p = absurd (cc)
idle_net false false false true f g h i o p = absurd (cc)
idle_net false false false false f g h i o p = refl

later_net : (k : ℕ) (o p : UseStep) → usage_after (cond (0 == suc (suc (suc (suc k)))) (o ∷ cond (1 == suc (suc (suc (suc k)))) (p ∷ []) []) (cond (1 == suc (suc (suc (suc k)))) (p ∷ []) [])) ≡ pos 0 -ℤ pos (0 + (0 + cond (suc (suc (suc (suc k))) == 0) 0 0 + cond (suc (suc (suc (suc k))) == 1) 1 0))
later_net k o p = idle_net (0 == suc (suc (suc (suc k)))) (1 == suc (suc (suc (suc k)))) (suc (suc (suc (suc k))) == 0) (suc (suc (suc (suc k))) == 1) (grind (arith)) (grind (arith)) (grind (arith)) (grind (arith)) o p

other_net : (w k : ℕ) (o p : UseStep) → usage_after (cond ((0 == suc w) && (0 == k)) (o ∷ cond ((0 == suc w) && (1 == k)) (p ∷ []) []) (cond ((0 == suc w) && (1 == k)) (p ∷ []) []))
    ≡ pos 0 -ℤ pos (0 + (0 + cond ((suc w == 0) && (k == 0)) 0 0 + cond ((suc w == 0) && (k == 1)) 1 0))
other_net w k o p = idle_net _ _ _ _ (ap (λ b. b && (0 == k)) (not_zero w)) (ap (λ b. b && (1 == k)) (not_zero w)) (ap (λ b. b && (k == 0)) (zero_not w)) (ap (λ b. b && (k == 1)) (zero_not w)) o p

pub charges : AreChargesLawful script report
unfolding items_from lists_moved items_within path_within
charges = record {
  tree = λ n e at. absurd (cc);
  there = (omega arith, (omega arith, (omega arith, (omega arith, tt))));
  histories = each_group IsChargeHistory
      (each_at (λ n o. IsNextUse 0 (take n (use_step 0 0 true 0 0 ∷ use_step 0 1 false 1 1 ∷ [])) o) (use_step 0 0 true 0 0 ∷ use_step 0 1 false 1 1 ∷ []) (record { group = refl; number = refl; found = refl }, (record { group = refl; number = refl; found = refl }, tt)))
      (each_at (λ n o. IsNextUse 1 (take n (use_step 1 0 true 0 0 ∷ use_step 1 1 false 1 1 ∷ [])) o) (use_step 1 0 true 0 0 ∷ use_step 1 1 false 1 1 ∷ []) (record { group = refl; number = refl; found = refl }, (record { group = refl; number = refl; found = refl }, tt)))
      (λ g n o at. absurd (cc));
  taken_back = λ group. subst (λ limit. AreTakenBack limit (uses_at report group)) (sym (no_limit script (refl, (refl, tt)) group)) (λ n o at up no. absurd (no tt));
  puts = λ n o at up. each_at (λ n o. o.up ≡ true → IsSomeAnd (command_at script o.by) (λ c. is_put c ≡ true)) report.uses.items ((λ u. refl), ((λ u. absurd (cc)), ((λ u. refl), ((λ u. absurd (cc)), tt)))) n o at up;
  fourteen = λ x group. each_group (λ g ops. ups (ops_by x ops) ≤ 14) (few_ups _ _ (use_step 0 0 true 0 0) (use_step 0 1 false 1 1) refl refl) (few_ups _ _ (use_step 1 0 true 0 0) (use_step 1 1 false 1 1) refl refl) (λ g. omega arith) group;
  between = λ x group. each_group (λ g ops. IsDownBetween (map (λ (o : UseStep). o.up) (ops_by x ops))) (ways _ _ (use_step 0 0 true 0 0) (use_step 0 1 false 1 1) refl refl) (ways _ _ (use_step 1 0 true 0 0) (use_step 1 1 false 1 1) refl refl) (λ g n m before a b. absurd (cc)) group;
  nets = λ x. each_serial 4 (λ worker k. (group : ℕ) → group < 2 → usage_after (ops_by (serial_of worker k) (uses_at report group)) ≡ pos (charged (parents_of script) group (command_at script (serial_of worker k)) (reply_at report (serial_of worker k))) -ℤ pos (freed_below script report (serial_of worker k) group))
      (below_two _ refl refl, (below_two _ refl refl, (below_two _ refl refl, (below_two _ refl refl, tt))))
      (λ k. below_two _ (later_net k (use_step 0 0 true 0 0) (use_step 0 1 false 1 1)) (later_net k (use_step 1 0 true 0 0) (use_step 1 1 false 1 1)))
      (λ worker k. below_two _ (other_net worker k (use_step 0 0 true 0 0) (use_step 0 1 false 1 1)) (other_net worker k (use_step 1 0 true 0 0) (use_step 1 1 false 1 1)))
      x.worker x.command;
  final = below_two (λ group. usage_after (uses_at report group) ≡ pos (listed_below script report group)) refl refl;
  limits = λ group. subst (λ limit. IfSome limit (λ l. listed_below script report group ≤ l)) (sym (no_limit script (refl, (refl, tt)) group)) tt;
}

either_walk : (b c : Bool) → flat_map (λ (w : WalkRecord). walk_cited w.answer) (cond b (first_walk ∷ cond c (second_walk ∷ []) []) (cond c (second_walk ∷ []) [])) ≡ []
either_walk true true = refl
either_walk true false = refl
either_walk false true = refl
either_walk false false = refl

two_ones : AreNotFalling (1 ∷ 1 ∷ [])
two_ones zero d h = omega arith
two_ones (suc k) d h = absurd (omega (arith, h))

later_pool : (n : ℕ) (e : PoolEntry) → 1 ≤ n → slice_get report.pool.items n ≡ Some e → ⊥
later_pool zero e low at = omega (arith, low)
later_pool (suc n) e low at = absurd (cc)

no_plain : (worker n : ℕ) (w : PlainWalk) → plain_at report worker n ≡ Some w → ⊥
no_plain zero n w e = absurd (cc)
no_plain (suc worker) n w e = absurd (cc)

pub causes : AreCausesLawful script report
causes = let none_shown : (worker k : ℕ) → shown_by report (serial_of worker k) ≡ [] = each_serial 4 (λ worker k. shown_by report (serial_of worker k) ≡ []) (refl, (refl, (refl, (refl, tt)))) (λ k. either_walk (suc (suc (suc (suc k))) == 2) (suc (suc (suc (suc k))) == 3)) (λ worker k. refl) in record {
  rows = each_answer _ (tt, (tt, (tt, (tt, tt))));
  walks = each_walk _ (λ entry e. absurd (cc)) (λ entry e. absurd (cc));
  attempts = each_walk _ (each_at _ (cleared ∷ []) ((λ seen e. absurd (cc)), tt)) (λ k a e. absurd (cc));
  passes = each_walk _ (each_at _ (cleared ∷ []) ((λ p e. absurd (cc)), tt)) (λ k a e. absurd (cc));
  plain = λ worker n w at. absurd (no_plain worker n w at);
  begins = λ n group at. absurd (cc);
  dones = λ n group at. absurd (cc);
  mades = λ n group at. absurd (cc);
  pool = λ n e low at. absurd (later_pool n e low at);
  drained = each_entry _ ((λ x n e. absurd (cc)), ((λ x n e. absurd (cc)), tt));
  fresh = record {
    pool = each_worker (λ worker. AreNotFalling (flat_map pool_seen (answers_of report worker))) two_ones (λ worker. none_fall);
    pool_own = λ worker k later before. subst (λ (ns : List ℕ). AreBelow ns (of_answer report (serial_of worker later) pool_seen)) (sym (each_serial 4 (λ worker k. of_answer report (serial_of worker k) (λ (a : Answered). pool_made a.reply) ≡ []) (refl, (refl, (refl, (refl, tt)))) (λ k. refl) (λ worker k. refl) worker k)) tt;
    pool_on = each_answer _ ((omega arith, tt), ((omega arith, tt), (tt, (tt, tt))));
    tree = each_worker (λ worker. AreNotFalling (flat_map tree_seen (answers_of report worker))) none_fall (λ worker. none_fall);
    tree_shown = λ worker k later before. subst (λ (ns : List ℕ). AreBelow ns (of_answer report (serial_of worker later) tree_seen)) (sym (none_shown worker k)) tt;
    refused = λ worker k later group before shows at. absurd (let none = ap (λ (ns : List ℕ). list_any (is_begin_at report group) ns || list_any (is_done_at report group) ns) (none_shown worker k) in cc);
    first = λ worker k group all. ap (λ (ns : List ℕ). list_any (is_begin_at report group) ns) (none_shown worker k);
    made = λ worker k later group before shows unmade. each_serial 4 (λ worker k. reply_at report (serial_of worker k) ≡ Some (reply.NotMade group) → ⊥) ((λ e. absurd (cc)), ((λ e. absurd (cc)), ((λ e. absurd (cc)), ((λ e. absurd (cc)), tt)))) (λ k e. absurd (cc)) (λ worker k e. absurd (cc)) worker later unmade;
  };
}

pools : ArePoolsLawful script report
pools = quiet_pools script report refl refl refl (each_worker _ refl (λ worker. refl)) refl (each_answer _ (tt, (tt, (tt, (tt, tt))))) (each_serial 4 (λ worker k. (c : At) → units_cited_at report (serial_of worker k) ≡ Some c → ⊥) ((λ c e. absurd (cc)), ((λ c e. absurd (cc)), ((λ c e. absurd (cc)), ((λ c e. absurd (cc)), tt)))) (λ k c e. absurd (cc)) (λ worker k c e. absurd (cc)))

isolations : AreIsolationsLawful script report
isolations = quiet_isolations script report (each_worker _ refl (λ worker. refl)) (each_entry (λ p n e. IsOfIsolation report p e) (tt, (tt, tt))) (each_answer (λ by c a. isolations_told by c a ≡ []) (refl, (refl, (refl, (refl, tt)))))

-- The report is lawful: no sentence asks what a run of this script doesn't give.
pub lawful : IsLawful script report
lawful = record { replies = replies; journals = journals; bag = bag; walks = walks; lookups = lookups; charges = charges; deferred = deferred; bits = bits; causes = causes; pools = pools; isolations = isolations; sweep = quiet_sweep script report refl }
