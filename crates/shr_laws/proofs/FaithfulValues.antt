-- SPDX-License-Identifier: GPL-2.0-only
-- The second whole report is faithful, and for each sentence of that a report of a run, changed in one place, isn't.
use Rattle.shr_laws.proofs.Common.{◌≡◌, ℕ, zero, suc, ◌<◌, ◌≤◌, ◌≢◌, ◌==◌, true, false, cond, if◌then◌else◌, List, [], ◌∷◌, Some, refl, slice_get, arith, sym, ap, subst, ◌∙◌, ⊎_elim, Registered, Unregistered, Idle, Begin, Done, UseStep, Answered, last_number, Has_from_Contains, IsSomeAnd, Report, is_done_by, serial_of, reply_at, lookups_at, of_answer, pool_made_by, shows_offline}
use Rattle.shr_base.specs.declared.replies.Reply.TheVariants as reply
use Rattle.shr_base.specs.declared.scripts.Command.TheVariants as command
use Rattle.shr_model.specs.Groups.{path_within}
use Rattle.shr_model.specs.Pool.{number_from, phase_of}
use Rattle.shr_laws.specs.Faithful.{pool_reached, tree_reached, tree_made, AreNotAbove, IsOverOnPath, IsFaithful}
use Rattle.shr_laws.proofs.BitsToldValues as bits
use Rattle.shr_laws.proofs.ClimbsValues.{are_climbing}
use Rattle.shr_laws.proofs.CutsValues.{are_told}
use Rattle.shr_laws.proofs.OneOrderValues.{nothing_made, in_order}
use Rattle.shr_laws.proofs.TakesValues as takes_values
use Rattle.shr_laws.proofs.SecondCases.{each_answer, each_walk}
use Rattle.shr_laws.proofs.SecondReport as second
use Rattle.shr_laws.proofs.SecondReport.{kept, script, report, uses, target}
use Rattle.shr_laws.proofs.NotLawful.{with_answers}
use Rattle.shr_laws.proofs.OverReport as over
use Rattle.shr_laws.proofs.TriesValues.{are_tries}
use Rattle.shr_laws.proofs.ThirdReport as third
use Rattle.shr_model.proofs.Booleans.{not_zero}
use Rattle.shr_model.proofs.Lists.{each_at, AllAt}

-- the second report

reached_of : (id : ℕ) → last_number id report.pool.items ≤ lookups_at report id
unfolding number_from
reached_of zero = omega arith
reached_of (suc id) = let none : (if 0 == suc id then 0 else 0) ≡ 0 = ap (λ b. cond {A = ℕ} b 0 0) (not_zero id) in omega (arith, none)

nothing_shown : (k : ℕ) → k < 3 → shows_offline report (serial_of 0 k) 1 ≡ true → ⊥
nothing_shown zero lt e = let f : false ≡ true = e in absurd (cc)
nothing_shown (suc zero) lt e = let f : false ≡ true = e in absurd (cc)
nothing_shown (suc (suc zero)) lt e = let f : false ≡ true = e in absurd (cc)
nothing_shown (suc (suc (suc k))) lt e = absurd (omega (arith, lt))

none_made : (worker k : ℕ) → pool_made_by report worker k ≡ []
none_made zero zero = refl
none_made zero (suc zero) = refl
none_made zero (suc (suc zero)) = refl
none_made zero (suc (suc (suc zero))) = refl
none_made zero (suc (suc (suc (suc k)))) = refl
none_made (suc worker) k = refl

no_tree_made : (worker k : ℕ) → of_answer report (serial_of worker k) (λ (a : Answered). tree_made a.reply) ≡ []
no_tree_made zero zero = refl
no_tree_made zero (suc zero) = refl
no_tree_made zero (suc (suc zero)) = refl
no_tree_made zero (suc (suc (suc zero))) = refl
no_tree_made zero (suc (suc (suc (suc k)))) = refl
no_tree_made (suc worker) k = refl

pub above_none : (ns : List ℕ) → AreNotAbove ns []
above_none [] = tt
above_none (n ∷ ns) = (tt, above_none ns)

-- an operation has a lower number than each of its group and worker that a later command made
abbrev RisesTo : UseStep → UseStep → Type 0
RisesTo o p = o.group ≡ p.group → o.by.worker ≡ p.by.worker → o.by.command < p.by.command → o.operation < p.operation

rises : (m n : ℕ) (o p : UseStep) → slice_get uses m ≡ Some o → slice_get uses n ≡ Some p → RisesTo o p
rises m n o p at_o at_p = each_at (λ i (q : UseStep). RisesTo o q) uses (each_at (λ i (x : UseStep). AllAt (λ j (q : UseStep). RisesTo x q) uses) uses all m o at_o) n p at_p
  where
    all : AllAt (λ i (x : UseStep). AllAt (λ j (q : UseStep). RisesTo x q) uses) uses
    all = (((λ g w b. absurd (omega (arith, b))), ((λ g w b. omega arith), ((λ g w b. absurd (omega (arith, b))), ((λ g w b. omega arith), tt)))), (((λ g w b. absurd (omega (arith, b))), ((λ g w b. absurd (omega (arith, b))), ((λ g w b. absurd (omega (arith, b))), ((λ g w b. absurd (omega (arith, b))), tt)))), (((λ g w b. absurd (omega (arith, b))), ((λ g w b. omega arith), ((λ g w b. absurd (omega (arith, b))), ((λ g w b. omega arith), tt)))), (((λ g w b. absurd (omega (arith, b))), ((λ g w b. absurd (omega (arith, b))), ((λ g w b. absurd (omega (arith, b))), ((λ g w b. absurd (omega (arith, b))), tt)))), tt))))

faithful : IsFaithful script report
faithful = record {
  reached = reached_of;
  made_once = λ v i w j n e f. absurd (let none = sym (none_made v i) ∙ e in cc);
  made_later = λ worker k n e. absurd (let none = sym (none_made worker k) ∙ e in cc);
  pool_later = λ worker k later before. subst (λ (ms : List ℕ). AreNotAbove (of_answer report (serial_of worker k) pool_reached) ms) (sym (none_made worker later)) (above_none _);
  pool_past = λ worker k later n e before stands made. absurd (nothing_made worker k n e made);
  tree_later = λ worker k later before. subst (λ (ms : List ℕ). AreNotAbove (of_answer report (serial_of worker k) (λ (a : Answered). tree_reached a.reply)) ms) (sym (no_tree_made worker later)) (above_none _);
  walks_refused = each_walk _ (λ k before shows. nothing_shown k (omega (arith, before)) shows) (λ k before shows. nothing_shown k before shows);
  uses_rise = rises;
  over = each_answer _ (tt, (tt, (tt, (tt, tt))));
  below_root = each_answer _ ((λ g c n e f. absurd (cc)), ((λ g c n e f. absurd (cc)), ((λ g c n e f. absurd (cc)), ((λ g c n e f. absurd (cc)), tt))));
  carried = tt;
  order = in_order;
  takes = takes_values.in_order;
  cuts = are_told;
  handed = tt;
  climbs = are_climbing;
  tries = are_tries;
  bits = bits.are_told;
}

-- reports that are not

-- the id's registration ended at a number that its lookups haven't reached, and it isn't live any more
ended_ahead : IsFaithful script (record report { pool = kept (Registered 0 0 0 ∷ Unregistered 0 0 5 ∷ []) }) → ⊥
unfolding phase_of number_from
ended_ahead h = let e : 5 ≤ 3 = h.reached 0 in absurd (omega (arith, e))

-- two answers made one entry of the journal of registrations
made_twice : IsFaithful script (with_answers (second.unheld (reply.Registered 0 1) ∷ second.unheld (reply.Registered 0 1) ∷ [])) → ⊥
made_twice h = let e : 0 ≡ 1 = (h.made_once 0 0 0 1 1 refl refl).1 in absurd (omega (arith, e))

-- an answer made the entry of a cache that is on from the start
made_at_start : IsFaithful script (with_answers (second.unheld (reply.Registered 0 0) ∷ [])) → ⊥
made_at_start h = let e : 1 ≤ 0 = h.made_later 0 0 0 refl in absurd (omega (arith, e))

-- a worker knew of two entries, and then made the one before the last of them
made_before_known : IsFaithful script (with_answers (second.unheld (reply.NoCache 2) ∷ second.unheld (reply.Registered 0 1) ∷ [])) → ⊥
made_before_known h = let e : 2 ≤ 1 = (h.pool_later 0 0 1 (omega arith)).0.0 in absurd (omega (arith, e))

-- a worker made an entry, and a later command of it made an earlier one
made_backwards : IsFaithful script (with_answers (second.unheld (reply.Registered 0 2) ∷ second.unheld (reply.Freed 0 1 0 0 0) ∷ [])) → ⊥
made_backwards h = let e : 3 ≤ 1 = (h.pool_later 0 0 1 (omega arith)).0.0 in absurd (omega (arith, e))

-- an `unregister` was answered freed, and the next command of its worker knows of the journal only up to the Idle
knows_less : IsFaithful script (record (with_answers (second.unheld (reply.Freed 0 1 0 3 0) ∷ second.unheld (reply.NoCache 2) ∷ [])) { pool = kept (Registered 0 0 0 ∷ Unregistered 0 0 3 ∷ Idle 0 ∷ []) }) → ⊥
unfolding phase_of
knows_less h = let e : 2 < 2 = (h.pool_past 0 0 1 2 (Idle 0) (omega arith) refl (refl, omega arith, refl)).0 in absurd (omega (arith, e))

-- a worker knew of four entries of the journal of the tree, and then made one before them
done_before_known : IsFaithful script (with_answers (second.unheld (reply.HasChildren 2 4) ∷ second.unheld (reply.OfflineDone 1 0 0) ∷ [])) → ⊥
done_before_known h = let e : 4 ≤ 1 = (h.tree_later 0 0 1 (omega arith)).0.0 in absurd (omega (arith, e))

-- a worker took the group offline, and its next command walked it as online
walked_offline : IsFaithful script (record report { tree = kept (Begin 1 ∷ Done 1 ∷ []); workers = kept (record second.part { answers = kept (second.unheld (reply.OfflineDone 1 0 0) ∷ second.unheld (reply.Walked 0) ∷ []); walks = kept (second.walk 1 0 [] ∷ []) } ∷ []) }) → ⊥
walked_offline h = h.walks_refused 0 0 (second.walk 1 0 []) refl 0 (omega arith) refl

-- the del's uncharge stands before the put's charge
uses_fall : IsFaithful script (record report { uses = kept (second.use_step 1 0 false 1 1 ∷ second.use_step 1 1 true 0 0 ∷ []) }) → ⊥
uses_fall h = let e : 1 < 0 = h.uses_rise 1 0 (second.use_step 1 1 true 0 0) (second.use_step 1 0 false 1 1) refl refl refl refl (omega arith) in absurd (omega (arith, e))

-- an Over names a group that isn't on the put's path
over_elsewhere : IsOverOnPath over.script (command.Put (target 1 0 0) [] []) (reply.Over 2 28 2) → ⊥
unfolding path_within
over_elsewhere h = ⊎_elim (λ e. absurd (omega (arith, e))) (λ more. ⊎_elim (λ e. absurd (omega (arith, e))) (λ none. none) more) (Has_from_Contains (1 ∷ 0 ∷ []) 2 h)

-- and one that is
over_on_path : IsOverOnPath over.script (command.Put (target 1 0 0) [] []) (reply.Over 1 28 2)
unfolding path_within
over_on_path = (0, omega arith, refl)

-- a child is in the way of the root
root_in_the_way : IsFaithful (record script { workers = kept (record { commands = kept (command.Offline 0 ∷ []) } ∷ []) }) (with_answers (second.unheld (reply.HasChildren 1 0) ∷ [])) → ⊥
root_in_the_way h = let e : 0 < 0 = h.below_root (serial_of 0 0) (command.Offline 0) (second.unheld (reply.HasChildren 1 0)) refl refl 0 1 0 refl refl in absurd (omega (arith, e))

-- a carry of nothing
carried_nothing : IsFaithful third.script (record third.report { workers = kept (record { answers = kept []; walks = kept []; carries = kept (record third.carry { amount = 0 } ∷ []); plain = kept []; isolations = kept [] } ∷ []) }) → ⊥
carried_nothing h = let e : 0 < 0 = h.carried.0 in absurd (omega (arith, e))

-- a worker's `offline` was done and carried nothing, and its next one, which found the group done by the first, carried the work
abbrev carried_late : Report
carried_late = record third.report { tree = kept (Begin 2 ∷ Done 2 ∷ []); workers = kept (record { answers = kept (second.unheld (reply.OfflineDone 1 0 0) ∷ second.unheld (reply.AlreadyDone 1) ∷ []); walks = kept []; carries = kept (record third.carry { by = serial_of 0 1 } ∷ []); plain = kept []; isolations = kept [] } ∷ []) }

none_elsewhere : (v k : ℕ) → v ≢ 0 → IsSomeAnd (reply_at carried_late (serial_of v k)) (λ x. is_done_by 1 x ≡ true) → ⊥
none_elsewhere zero k apart cited = apart refl
none_elsewhere (suc v) k apart cited = cited

handed_late : IsFaithful third.script carried_late → ⊥
handed_late h = let e = h.handed.0 1 refl in none_elsewhere e.by.worker e.by.command e.apart e.cited
