-- SPDX-License-Identifier: GPL-2.0-only
-- Sentences on walks, rounds, offlining and unregistering at the values of further reports.
use Rattle.shr_laws.proofs.Common.{◌≡◌, ℕ, zero, suc, ◌+◌, false, cond, [], ◌∷◌, map, replicate, Some, slice_get, refl, arith, ap, subst, IsAtOrAbove, Idle, Entry, Drained, Attempt, PassRecord, pass_of, scans_by, ◌==◌, fold, count_by, ops_by, is_refused, limit_of, uses_at, job_of, serial_of, parents_of, items_left, walks_by, IsLawfulWalk, AreScansOf, IsStopped, freed_below, listed_below, IsMadeBy, objects_moved_from, drained_of, HasCause, IsFoundRight, over_at, IsLastOfCut, AreWalksOf, balance_reply, Get}
use Rattle.shr_model.specs.Scan.{scan_from}
use Rattle.shr_model.specs.Items.{items_from, freed_from}
use Rattle.shr_model.specs.Families.{lists_moved, items_within}
use Rattle.shr_model.specs.Groups.{path_within, preorder_within}
use Rattle.shr_model.specs.Pass.{due, ask_size}
use Rattle.shr_model.specs.Pool.{decl_at, registrations, end_of, phase_of, decl_from, from_from, is_live_below}
use Rattle.shr_model.specs.Commands.{rounds_from}
use Rattle.shr_base.specs.declared.replies.Reply.TheVariants as reply
use Rattle.shr_base.specs.declared.walks.Ending.TheVariants as ending
use Rattle.shr_base.specs.declared.scripts.Command.TheVariants as command
use Rattle.shr_laws.proofs.SecondCases.{all_replicate}
use Rattle.shr_laws.proofs.SecondReport.{target}
use Rattle.shr_laws.proofs.ScansReport as scans
use Rattle.shr_laws.proofs.OfflineReport as moves
use Rattle.shr_laws.proofs.OverReport as over
use Rattle.shr_laws.proofs.UnregisterReport as leaves
use Rattle.shr_laws.proofs.GoneReport as gone
use Rattle.shr_laws.proofs.SmallReports.{none_refused, only_journal}
use Rattle.shr_model.proofs.Lists.{each_at, some_injective}

-- the walk that skips
skips : IsLawfulWalk scans.script scans.report 0 0 scans.walk_0
unfolding items_from lists_moved items_within decl_at registrations end_of scan_from
skips = record {
  offline = λ entry e. absurd (cc);
  mapped = λ freed e g. (refl, refl);
  root = λ z. absurd (omega (arith, z));
  memory = ((λ z. absurd (cc)), (λ k a p e f. each_at (λ k (a : Attempt). (p : PassRecord) → pass_of a.outcome ≡ Some p → p.ending ≡ ending.NoRoom → IsLastOfCut scans.walk_0 k) scans.walk_0.attempts.items ((λ p f z. absurd (cc)), tt) k a e p f));
  counts = each_at _ scans.walk_0.attempts.items ((record { there = omega arith; len = refl }, tt), tt);
  kinds = each_at _ scans.walk_0.attempts.items ((λ z. (omega arith, omega arith)), tt);
  placed = each_at _ scans.walk_0.attempts.items (tt, tt);
  scans = each_at _ scans.walk_0.attempts.items ((λ d p e f. absurd (cc)), tt);
  stops = each_at _ scans.walk_0.attempts.items ((λ d p e f. absurd (cc)), tt);
  freed = refl;
}

skip_freed : freed_below scans.script scans.report (serial_of 0 3) 1 ≡ 2
unfolding items_from freed_from lists_moved items_within path_within scan_from
skip_freed = refl

-- what the offlining moved
moved_two : objects_moved_from moves.report 2 ≡ 2
moved_two = refl

moved_left : map (λ o. o.birth) (items_left moves.script moves.report (moves.place 0 0 1)) ≡ 2 ∷ 2 ∷ 1 ∷ []
unfolding items_from lists_moved items_within
moved_left = refl

offlined : HasCause moves.script moves.report (serial_of 0 3) (command.Offline 2) (reply.OfflineDone 1 2 0)
offlined = record { made = refl; carried = refl; most = omega arith; whole = λ alone. refl }

found_offline : HasCause moves.script moves.report (serial_of 0 4) (command.On (target 2 0 0) [] Get) (reply.Offline 0)
found_offline = refl

listed_of_child : listed_below moves.script moves.report 2 ≡ 2
unfolding items_from lists_moved items_within path_within
listed_of_child = refl

-- the put that was refused 14 times, the last time at operation 28
refused_last : HasCause over.script over.report (serial_of 0 4) (command.Put (target 1 0 0) [] []) (reply.Over 1 28 2)
refused_last = record { up = refl; full = omega arith; last = refl; tried = refl }

-- its walks are those of thirteen rounds over its own group
thirteen : map job_of (walks_by over.report (serial_of 0 4)) ≡ rounds_from (parents_of over.script) 1 12 (replicate 13 1)
unfolding rounds_from preorder_within
thirteen = refl

drained_three : drained_of leaves.report (serial_of 0 3) ≡ 3
drained_three = refl

freed_three : HasCause leaves.script leaves.report (serial_of 0 3) (command.Unregister 0) (reply.Freed 0 1 0 3 3)
unfolding from_from
freed_three = record { unregistered = record { made = refl; from_is = refl; drained = refl; places = only_journal leaves.list_0 (λ p es. (n : ℕ) (e : Entry) → slice_get es n ≡ Some e → (m : ℕ) → e ≡ Drained (serial_of 0 3) m → p.id ≡ 0) (λ p n e at m d. absurd (cc)) (λ n e at m d. refl) }; idle = refl }

no_cache : HasCause leaves.script leaves.report (serial_of 0 4) (command.Put (target 1 0 0) [] []) (reply.NoCache 3)
unfolding is_live_below phase_of decl_from
no_cache = record { known = omega arith; none = refl }

registered_again : HasCause leaves.script leaves.report (serial_of 0 6) (command.Register 0) (reply.Registered 0 3)
registered_again = (3, refl)

found_again : IsFoundRight leaves.report 0 (record { id = 0; number = 3; entry = 4 })
unfolding phase_of decl_from from_from end_of
found_again = record { there = omega arith; live = refl; decl_is = refl; from = omega arith; to = refl }

idle_of_freed : IsMadeBy leaves.report (Idle 0) 2 (reply.Freed 0 1 0 3 3)
unfolding phase_of
idle_of_freed = (refl, omega arith, refl)

balanced : balance_reply 2 (walks_by gone.report (serial_of 0 3)) ≡ reply.Walked 0
balanced = refl

-- the root's walk
root_walk : IsLawfulWalk gone.script gone.report 0 1 gone.walk_1
unfolding decl_at registrations end_of
root_walk = record {
  offline = λ entry e. absurd (cc);
  mapped = λ freed e g. absurd (g refl);
  root = λ z. (refl, λ w. refl);
  memory = ((λ z. absurd (cc)), (λ k a p e f. each_at (λ k (a : Attempt). (p : PassRecord) → pass_of a.outcome ≡ Some p → p.ending ≡ ending.NoRoom → IsLastOfCut gone.walk_1 k) gone.walk_1.attempts.items ((λ p f z. absurd (cc)), tt) k a e p f));
  counts = each_at _ gone.walk_1.attempts.items (tt, tt);
  kinds = each_at _ gone.walk_1.attempts.items ((λ z. absurd (cc)), tt);
  placed = each_at _ gone.walk_1.attempts.items (refl, tt);
  scans = each_at _ gone.walk_1.attempts.items ((λ d p e f. absurd (cc)), tt);
  stops = each_at _ gone.walk_1.attempts.items ((λ d p e f. absurd (cc)), tt);
  freed = refl;
}

-- the pass of the walk that scans, and its one Scan entry
abbrev ran : PassRecord
ran = record { len = 2; version = 2; nr = 0; asks = 1; closed = 0; scanned = 4; freed = 2; next = 0; ending = ending.Through }

scanned : AreScansOf 0 scans.cache_0 ran (scans_by 0 1 scans.list_0.entries.items)
unfolding due ask_size
scanned = record { asked = refl; number = refl; policy = (refl, tt); freed = refl; later = (omega arith, tt) }

not_stopped : IsStopped scans.walk_1 scans.cache_0 ran
unfolding due ask_size
not_stopped = record { exactly = ((λ e. absurd (cc)), (λ h. absurd (let no = h.0 in cc))); none = λ e. absurd (cc) }

scanning : IsLawfulWalk scans.script scans.report 0 1 scans.walk_1
unfolding items_from lists_moved items_within decl_at registrations end_of scan_from due ask_size
scanning = record {
  offline = λ entry e. absurd (cc);
  mapped = λ freed e g. (refl, refl);
  root = λ z. absurd (omega (arith, z));
  memory = (
    (λ z. absurd (cc)),
    (λ k a p e f. each_at (λ k (a : Attempt). (p : PassRecord) → pass_of a.outcome ≡ Some p → p.ending ≡ ending.NoRoom → IsLastOfCut scans.walk_1 k) scans.walk_1.attempts.items
        ((λ p f z. absurd (let same = some_injective ran p f in let end : ran.ending ≡ p.ending = ap (λ (q : PassRecord). q.ending) same in cc)), tt) k a e p f),
  );
  counts = each_at _ scans.walk_1.attempts.items ((record { there = omega arith; len = refl }, tt), tt);
  kinds = each_at _ scans.walk_1.attempts.items ((λ z. (omega arith, record { made = refl; scanned = refl; next = refl; closed = omega arith })), tt);
  placed = each_at _ scans.walk_1.attempts.items (tt, tt);
  scans = each_at _ scans.walk_1.attempts.items ((λ d p e f. subst (λ p. AreScansOf 0 d p (scans_by 0 1 scans.list_0.entries.items)) (some_injective ran p f) (subst (λ d. AreScansOf 0 d ran (scans_by 0 1 scans.list_0.entries.items)) (some_injective scans.cache_0 d e) scanned)), tt);
  stops = each_at _ scans.walk_1.attempts.items ((λ d p e f. subst (λ p. IsStopped scans.walk_1 d p) (some_injective ran p f) (subst (λ d. IsStopped scans.walk_1 d ran) (some_injective scans.cache_0 d e) not_stopped)), tt);
  freed = refl;
}

-- the put that was refused has the walks of thirteen rounds
count_other : (a n x y : ℕ) → (x == y) ≡ false → fold (λ a (g : ℕ). a + cond (g == y) 1 0) a (replicate n x) ≡ a
count_other a zero x y e = refl
count_other a (suc n) x y e = let none : cond (x == y) 1 0 ≡ 0 = ap (λ b. cond {A = ℕ} b 1 0) e in let later : fold (λ a (g : ℕ). a + cond (g == y) 1 0) (a + cond (x == y) 1 0) (replicate n x) ≡ a + cond (x == y) 1 0 = count_other (a + cond (x == y) 1 0) n x y e in omega (arith, none, later)

refusals : (h : ℕ) → count_by (λ g. g == h) (replicate 13 1) + over_at h (reply.Over 1 28 2) ≡ count_by (is_refused (limit_of over.script h)) (ops_by (serial_of 0 4) (uses_at over.report h))
refusals zero = refl
refusals (suc zero) = refl
refusals (suc (suc h)) =
    let other : (1 == suc (suc h)) ≡ false = grind (arith) in
    let one : count_by (λ g. g == suc (suc h)) (replicate 13 1) ≡ 0 = count_other 0 13 1 (suc (suc h)) other in
    let two : over_at (suc (suc h)) (reply.Over 1 28 2) ≡ 0 = ap (λ b. cond {A = ℕ} b 1 0) other in
    let three : count_by (is_refused (limit_of over.script (suc (suc h)))) (ops_by (serial_of 0 4) (uses_at over.report (suc (suc h)))) ≡ 0 = none_refused 0 (ops_by (serial_of 0 4) (uses_at over.report (suc (suc h)))) in
    omega (arith, one, two, three)

rounds : AreWalksOf over.script over.report (serial_of 0 4) (command.Put (target 1 0 0) [] []) (reply.Over 1 28 2)
unfolding rounds_from preorder_within path_within
rounds = record {
  rounds = replicate 13 1;
  refused = record { few = omega arith; above = all_replicate {X = ℕ} (λ h. IsAtOrAbove (parents_of over.script) h 1) 1 (0, omega arith, refl) 13; refusals = refusals; all = λ g o u e. refl };
  made = refl;
}
