-- SPDX-License-Identifier: GPL-2.0-only
-- The law on isolations, by a report that meets it and changes that break a sentence.
use Rattle.shr_laws.proofs.Common.{◌≡◌, ℕ, zero, suc, Bool, true, false, List, [], ◌∷◌, codes, Some, None, refl, arith, ap, PlaceEnd, Entry, Add, Scan, Plain, Clock, Place, Answered, IsolateEnd, Command, Put, Script, Isolation, Report, entry_by, IsReply, IsOfPass, IsOfIsolation, isolations_told, AreIsolationsLawful, Isolate, EachIsolation, isolations_by}
use Rattle.shr_base.specs.declared.replies.IsolateEnd.TheVariants as isolate
use Rattle.shr_base.specs.declared.replies.Reply.TheVariants as reply
use Rattle.shr_base.specs.declared.replies.Spent.TheVariants as spent
use Rattle.shr_model.specs.Isolations.{ScanSeen, Met, met_one, met_none, IsLawfulIsolation}
use Rattle.shr_laws.proofs.SecondReport.{kept, by, place, put, held, target}
use Rattle.shr_laws.proofs.SmallReports.{each_answer, each_entry}
use Rattle.shr_laws.proofs.FirstReport as first
use Rattle.shr_model.proofs.Lists.{each_at}

-- ---- one isolation by itself

abbrev isolation : ℕ → ℕ → ℕ → IsolateEnd → Isolation
isolation budget visits freed ending = record { by = by 2; place = place; budget = budget; visits = visits; freed = freed; ending = ending }

abbrev visit : ℕ → ScanSeen
visit freed = record { asked = 1; policy = Clock; visits = 1; freed = freed; stopped = false }

abbrev saw_none : ScanSeen
saw_none = record { asked = 1; policy = Clock; visits = 0; freed = 0; stopped = false }

abbrev stop : ScanSeen
stop = record { asked = 1; policy = Clock; visits = 1; freed = 0; stopped = true }

-- a pinned object is met at each of three visits, and the budget is spent
pinned_head : IsLawfulIsolation Clock (visit 0 ∷ visit 0 ∷ visit 0 ∷ []) (isolation 3 3 0 isolate.Spent)
pinned_head = record { policies = (refl, (refl, (refl, tt))); asked = (refl, (refl, (refl, tt))); met = refl; freed = refl; within = omega arith; stopped = λ e. absurd (cc); whole = λ e. refl }

-- the last visit of the budget stopped
stopped_last : IsLawfulIsolation Clock (visit 1 ∷ stop ∷ []) (isolation 2 2 1 isolate.Stop)
stopped_last = record { policies = (refl, (refl, tt)); asked = (refl, (refl, tt)); met = refl; freed = refl; within = omega arith; stopped = λ e. omega arith; whole = λ e. absurd (cc) }

-- a budget of 0 makes no scan
no_budget : IsLawfulIsolation Plain [] (isolation 0 0 0 isolate.Spent)
no_budget = record { policies = tt; asked = tt; met = refl; freed = refl; within = omega arith; stopped = λ e. absurd (cc); whole = λ e. refl }

-- an object more was met than the budget allows
over_budget : IsLawfulIsolation Clock (visit 0 ∷ visit 0 ∷ []) (isolation 1 2 0 isolate.NoRoom) → ⊥
over_budget h = let low = h.within in absurd (omega (arith, low))

-- it says that the budget is spent after one visit of three, and that it stopped at no visit
spent_early : IsLawfulIsolation Clock (visit 0 ∷ []) (isolation 3 1 0 isolate.Spent) → ⊥
spent_early h = let e = h.whole refl in absurd (omega (arith, e))

stopped_nowhere : IsLawfulIsolation Clock (stop ∷ []) (isolation 3 0 0 isolate.Stop) → ⊥
stopped_nowhere h = let low = h.stopped refl in absurd (omega (arith, low))

first_stopped : List Met → Bool
first_stopped [] = false
first_stopped (m ∷ ms) = m.stopped

-- a visit stopped and it is told as spent; it is told as a stop and no visit stopped
stop_as_spent : IsLawfulIsolation Clock (stop ∷ []) (isolation 1 1 0 isolate.Spent) → ⊥
unfolding first_stopped
stop_as_spent h = absurd (let e : true ≡ false = ap first_stopped h.met in cc)

stop_unseen : IsLawfulIsolation Clock (visit 0 ∷ []) (isolation 1 1 0 isolate.Stop) → ⊥
unfolding first_stopped
stop_unseen h = absurd (let e : false ≡ true = ap first_stopped h.met in cc)

-- it ended Bare and each scan met an object; a scan met none and it didn't
bare_unseen : IsLawfulIsolation Clock (visit 1 ∷ []) (isolation 3 1 1 isolate.Bare) → ⊥
bare_unseen h = absurd (let e : met_one ∷ [] ≡ met_one ∷ met_none ∷ [] = h.met in cc)

scanned_again : IsLawfulIsolation Clock (visit 0 ∷ saw_none ∷ []) (isolation 1 1 0 isolate.Spent) → ⊥
scanned_again h = absurd (let e : met_one ∷ met_none ∷ [] ≡ met_one ∷ [] = h.met in cc)

bare_untold : IsLawfulIsolation Clock (saw_none ∷ []) (isolation 3 0 0 isolate.NoRoom) → ⊥
bare_untold h = absurd (let e : met_none ∷ [] ≡ [] = h.met in cc)

-- another policy; two objects at once; other numbers freed
other_policy : IsLawfulIsolation Plain (visit 0 ∷ []) (isolation 1 1 0 isolate.Spent) → ⊥
other_policy h = absurd (let e : Clock ≡ Plain = h.policies.0 in cc)

asked_two : IsLawfulIsolation Clock (record (visit 0) { asked = 2 } ∷ []) (isolation 1 1 0 isolate.Spent) → ⊥
asked_two h = let e : 2 ≡ 1 = h.asked.0 in absurd (omega (arith, e))

freed_other : IsLawfulIsolation Clock (visit 1 ∷ []) (isolation 1 1 0 isolate.Spent) → ⊥
freed_other h = let e : 0 ≡ 1 = h.freed in absurd (omega (arith, e))

-- ---- a report: put k1, put k2, isolate /a 0 dentry 5

abbrev put_two : Command
put_two = Put (target 1 0 0) (codes "k2") (codes "v2")

abbrev commands : List Command
commands = put ∷ put_two ∷ Isolate (target 1 0 0) 5 ∷ []

abbrev script : Script
script = record first.script { version = 2; workers = kept (record { commands = kept commands } ∷ []) }

abbrev answers : List Answered
answers = held (reply.Added (record { place = place; entry = 0 })) 0 ∷ held (reply.Added (record { place = place; entry = 1 })) 1 ∷ held (reply.Isolated 2 2 isolate.Bare) 2 ∷ []

abbrev scan : ℕ → ℕ → Entry
scan visits freed = Scan 0 9223372036854775808 1 Plain visits freed false

abbrev entries : List Entry
entries = Add (by 0) 1 true (codes "k1") (codes "v1") ∷ Add (by 1) 1 true (codes "k2") (codes "v2") ∷ scan 1 1 ∷ scan 1 1 ∷ scan 0 0 ∷ []

abbrev isolated : Isolation
isolated = isolation 5 2 2 isolate.Bare

abbrev end : PlaceEnd
end = record { place = place; entries = kept entries; items = kept [] }

abbrev with : List Answered → List Isolation → List Entry → Report
with answers isolations entries = record first.report {
  workers = kept (record { answers = kept answers; walks = kept []; carries = kept []; plain = kept []; isolations = kept isolations } ∷ []);
  places = kept (record { place = place; entries = kept entries; items = kept [] } ∷ []);
}

abbrev report : Report
report = with answers (isolated ∷ []) entries

each_isolation : (P : ℕ → ℕ → Isolation → Type 0) → P 0 0 isolated → EachIsolation report P
each_isolation P h zero n i e = each_at (P 0) (isolated ∷ []) (h, tt) n i e
each_isolation P h (suc worker) n i e = absurd (cc)

abbrev own_scans : List ScanSeen
own_scans = record { asked = 1; policy = Plain; visits = 1; freed = 1; stopped = false } ∷ record { asked = 1; policy = Plain; visits = 1; freed = 1; stopped = false } ∷ record { asked = 1; policy = Plain; visits = 0; freed = 0; stopped = false } ∷ []

two_freed : IsLawfulIsolation Plain own_scans isolated
two_freed = record { policies = (refl, (refl, (refl, tt))); asked = (refl, (refl, (refl, tt))); met = refl; freed = refl; within = omega arith; stopped = λ e. absurd (cc); whole = λ e. absurd (cc) }

lawful : AreIsolationsLawful script report
lawful = record {
  each = each_isolation _ two_freed;
  closed = each_isolation _ (λ e. absurd (cc));
  worn = each_isolation _ tt;
  scans = each_entry report end refl (λ p n e. IsOfIsolation report p e) (tt, (tt, ((λ low. refl), ((λ low. refl), ((λ low. refl), tt)))));
  commands = each_answer script report (λ worker. refl) (λ x c a. isolations_by report x ≡ isolations_told x c a) (refl, (refl, (refl, tt)));
}

-- an isolation was made by a put
isolated_by_put : AreIsolationsLawful script (with answers (record isolated { by = by 0 } ∷ []) entries) → ⊥
isolated_by_put h = absurd (let e = h.commands (by 0) put _ refl refl in cc)

-- the isolation isn't recorded; it is of another list; it has another budget
unrecorded : AreIsolationsLawful script (with answers [] entries) → ⊥
unrecorded h = absurd (let e = h.commands (by 2) (Isolate (target 1 0 0) 5) _ refl refl in cc)

first_place : List Isolation → Place
first_place [] = place
first_place (i ∷ is) = i.place

other_list : AreIsolationsLawful script (with answers (record isolated { place = record place { group = 0 } } ∷ []) entries) → ⊥
unfolding first_place
other_list h = let e : 0 ≡ 1 = ap (λ is. (first_place is).group) (h.commands (by 2) (Isolate (target 1 0 0) 5) _ refl refl) in absurd (omega (arith, e))

first_budget : List Isolation → ℕ
first_budget [] = 0
first_budget (i ∷ is) = i.budget

other_budget : AreIsolationsLawful script (with answers (record isolated { budget = 6 } ∷ []) entries) → ⊥
unfolding first_budget
other_budget h = let e : 6 ≡ 5 = ap first_budget (h.commands (by 2) (Isolate (target 1 0 0) 5) _ refl refl) in absurd (omega (arith, e))

-- a scan is missing; one is of no isolation
scan_missing : AreIsolationsLawful script (with answers (isolated ∷ []) (scan 1 1 ∷ scan 1 1 ∷ [])) → ⊥
scan_missing h = absurd (let e : met_one ∷ met_one ∷ [] ≡ met_one ∷ met_one ∷ met_none ∷ [] = (h.each 0 0 isolated refl).met in cc)

scanned_by_none : AreIsolationsLawful script (with answers [] (scan 1 1 ∷ [])) → ⊥
scanned_by_none h = h.scans place 0 (scan 1 1) refl (omega arith)

-- it found a list closed that isn't
closed_open : AreIsolationsLawful script (with answers (isolation 5 2 2 isolate.Closed ∷ []) entries) → ⊥
closed_open h = absurd (let e = h.closed 0 0 _ refl refl in cc)

-- it is worn long before a counter is used up
worn_early : AreIsolationsLawful script (with answers (isolation 5 2 2 (isolate.Worn (spent.Lookups 0 3)) ∷ []) entries) → ⊥
worn_early h = let low = (h.worn 0 0 _ refl).0 in absurd (omega (arith, low))

-- ---- which answers an isolation may have, and whose a scan is

-- one that found its cache is told; it is told without one where it was refused
told_found : IsReply (0 ∷ 0 ∷ []) (λ p. []) (by 2) (Isolate (target 1 0 0) 5) (Some 0) (reply.Isolated 2 2 isolate.Bare)
told_found = tt

refused_worn : IsReply (0 ∷ 0 ∷ []) (λ p. []) (by 2) (Isolate (target 1 0 0) 5) None (reply.Worn (spent.Lookups 0 4294967040))
refused_worn = tt

-- it is told without a cache, or as a walk; it is worn by charges without a visit; a put is told so
isolated_unfound : IsReply (0 ∷ 0 ∷ []) (λ p. []) (by 2) (Isolate (target 1 0 0) 5) None (reply.Isolated 2 2 isolate.Bare) → ⊥
isolated_unfound h = h

isolated_as_walked : IsReply (0 ∷ 0 ∷ []) (λ p. []) (by 2) (Isolate (target 1 0 0) 5) (Some 0) (reply.Walked 2) → ⊥
isolated_as_walked h = h

isolated_by_charges : IsReply (0 ∷ 0 ∷ []) (λ p. []) (by 2) (Isolate (target 1 0 0) 5) None (reply.Worn (spent.Charges 1048576 0)) → ⊥
isolated_by_charges h = h

put_isolated : IsReply (0 ∷ 0 ∷ []) (λ p. []) (by 0) put (Some 0) (reply.Isolated 2 2 isolate.Bare) → ⊥
put_isolated h = h

-- a scan with the number of an isolation is by the isolation's command, and of no walk
isolation_owns : entry_by report (scan 1 1) ≡ Some (by 2)
isolation_owns = refl

no_pass_asked : IsOfPass report place (scan 1 1)
no_pass_asked low = absurd (omega (arith, low))
