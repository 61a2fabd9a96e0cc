-- SPDX-License-Identifier: GPL-2.0-only
-- The second whole report is done in the use of its id, and reports of which no order is: a scan behind the drain, and an
-- object that stays on the list of an id that came to be idle.
use Rattle.shr_laws.proofs.Common.{◌≡◌, ℕ, zero, suc, ◌<◌, List, [], ◌∷◌, take, length, Some, None, Contains, refl, codes, true, false, arith, sym, ap, subst, ◌∙◌, ⊎_elim, dite, ℕ_discrete, Entry, Add, Scan, Drained, PoolEntry, Registered, Unregistered, Idle, Plain, Place, Serial, Has_from_Contains, Report, journals_of, entry_by, Told, entry, lookup, turn, count, entries, lookups, turns, looked_by, IsBy, IsInOneOrder, HasAt, IsOfUse, IsDrainedEntry, EndsUse, IsEntryInUse, IsWhileDying, IsWhileEmpty}
use Rattle.shr_base.specs.declared.replies.Reply.TheVariants as reply
use Rattle.shr_base.specs.declared.walks.Outcome.TheVariants as outcome
use Rattle.shr_model.specs.Items.{HasJournal, items_from}
use Rattle.shr_model.specs.Pool.{phase_of, registrations, end_of, decl_at, is_dying}
use Rattle.shr_laws.proofs.SecondCases.{each_entry}
use Rattle.shr_laws.proofs.SecondReport.{kept, report, part, place, by, held, unheld, walk}
use Rattle.shr_model.proofs.Lists.{some_injective}

-- ---- the second report
-- nothing ends the use of an id in it
ends_none : (id : ℕ) (x : Told) → EndsUse report id x → ⊥
ends_none id (entry p n) h = each_entry (λ q m e. IsDrainedEntry e → ⊥) ((λ d. d), ((λ d. d), tt)) p n h.1.0 h.1.1 h.1.2
ends_none id (turn zero) h = let is : Registered 0 0 0 ≡ Idle id = some_injective (Registered 0 0 0) h.0 h.1 ∙ h.2 in cc
ends_none id (turn (suc n)) h = absurd (let e : None ≡ Some h.0 = h.1 in cc)
ends_none id (lookup i n) h = h
ends_none id (count w n) h = h

pub used : (rank : Told → ℕ) → rank (lookup 0 0) < rank (entry place 0) → rank (lookup 0 1) < rank (entry place 1)
    → (p : Place) (n : ℕ) (b : Serial) → HasAt (journals_of report p) n IsOfUse → IsBy report b (entry p n) → IsEntryInUse report rank b p n
unfolding registrations decl_at end_of
used rank first second p n b told own = each_entry (λ q m e. (v : Serial) → entry_by report e ≡ Some v → IsEntryInUse report rank v q m) (
  (λ v is. subst (λ (z : Serial). IsEntryInUse report rank z place 0) (some_injective (by 0) v is) (record { number = 0; looked = (0, omega arith, refl); registered = λ none. cc; behind = first; before = λ x ends less. absurd (ends_none 0 x ends) })),
  ((λ v is. subst (λ (z : Serial). IsEntryInUse report rank z place 1) (some_injective (by 1) v is) (record { number = 1; looked = (0, omega arith, refl); registered = λ none. cc; behind = second; before = λ x ends less. absurd (ends_none 0 x ends) })), tt),
)
    p n own.0 own.1 b own.2

pub drained : (rank : Told → ℕ) (p : Place) (n : ℕ) → HasAt (journals_of report p) n IsDrainedEntry → IsWhileDying report rank p.id (entry p n)
drained rank p n h = absurd (ends_none p.id (entry p n) (refl, h))

pub emptied : (rank : Told → ℕ) (p : Place) (n : ℕ) → HasAt report.pool.items n (λ (e : PoolEntry). e ≡ Idle p.id) → IsWhileEmpty report rank p (turn n)
emptied rank p n h = absurd (ends_none p.id (turn n) h)

-- ---- reports that are in no order
-- an object was put on the list of an id that was unregistered with nothing drained and registered again, and it is listed still
abbrev added : Entry
added = Add (by 0) 1 true (codes "k1") (codes "v1")

leaves_it : HasJournal (added ∷ []) [] → ⊥
unfolding items_from
leaves_it h = let e = h.1.left in cc

abbrev pool_again : List PoolEntry
pool_again = Registered 0 0 0 ∷ Unregistered 0 0 1 ∷ Idle 0 ∷ Registered 1 0 1 ∷ []

abbrev listed_still : Report
listed_still = record report {
  workers = kept (record part { answers = kept (held (reply.Added (record { place = place; entry = 0 })) 0 ∷ unheld (reply.Freed 0 1 0 1 0) ∷ unheld (reply.Registered 0 3) ∷ []); walks = kept [] } ∷ []);
  pool = kept pool_again;
  places = kept (record { place = place; entries = kept (added ∷ []); items = kept [] } ∷ []);
}

-- the journal of one entry that comes before an Idle isn't empty there
not_empty : (r : Report) (rank : Told → ℕ) → journals_of r place ≡ added ∷ [] → IsWhileEmpty r rank place (turn 2) → rank (entry place 0) < rank (turn 2) → ⊥
not_empty r rank one t up = dite (ℕ_discrete t.entries 0)
    (λ none. absurd (omega (arith, up, t.behind.others 0 (omega (arith, none)) (omega (arith, ap (length {A = Entry}) one)))))
    (λ some. leaves_it (subst (λ (m : ℕ). HasJournal (take m (added ∷ [])) []) (let e : t.entries ≡ 1 = omega (arith, some, t.behind.few, ap (length {A = Entry}) one) in e) (subst (λ (es : List Entry). HasJournal (take t.entries es) []) one t.empty)))

left_behind : IsInOneOrder listed_still → ⊥
unfolding phase_of
left_behind h = not_empty listed_still h.rank refl (h.emptied place 2 (Idle 0, refl, refl)) (h.by_worker (entry place 0) (turn 2) 0 0 1 (omega arith) (added, refl, refl) (Idle 0, refl, (refl, omega arith, refl)))

-- the same where another worker unregistered and registered: the put's lookup lies in the registration that was ended
abbrev listed_by_another : Report
listed_by_another = record report {
  workers = kept (record part { answers = kept (held (reply.Added (record { place = place; entry = 0 })) 0 ∷ []); walks = kept [] }
      ∷ record part { answers = kept (unheld (reply.Freed 0 1 0 1 0) ∷ unheld (reply.Registered 0 3) ∷ []); walks = kept [] } ∷ []);
  pool = kept pool_again;
  places = kept (record { place = place; entries = kept (added ∷ []); items = kept [] } ∷ []);
}

only_one : (n : ℕ) → Contains (looked_by listed_by_another (by 0)) (0, n) → n ≡ 0
only_one n h = ⊎_elim (λ e. sym (ap (λ (p : ℕ × ℕ). p.1) e)) (λ none. absurd none) (Has_from_Contains (looked_by listed_by_another (by 0)) (0, n) h)

left_by_another : IsInOneOrder listed_by_another → ⊥
left_by_another h =
    let using = h.used place 0 (by 0) (added, refl, tt) (added, refl, refl) in
    let first : using.number ≡ 0 = only_one using.number using.looked in
    let before = h.by_numbers (lookup 0 0) (turn 1) (by 0, (0, omega arith, refl)) (Unregistered 0 0 1, refl, tt) (λ e. cc) (lookups 0) 0 1 1 1 (refl, refl, refl) (Unregistered 0 0 1, refl, (refl, refl, refl)) (omega arith) in
    let then = h.by_numbers (turn 1) (turn 2) (Unregistered 0 0 1, refl, tt) (Idle 0, refl, tt) (λ e. cc) turns 1 2 2 3 (refl, refl) (refl, refl) (omega arith) in
    not_empty listed_by_another h.rank refl (h.emptied place 2 (Idle 0, refl, refl))
    (using.before (turn 2) (Idle 0, refl, refl) (omega (arith, before, then, ap (λ (n : ℕ). h.rank (lookup 0 n)) first)))

-- a scan of a walk that found the cache live stands behind the drain of its list
abbrev of_second : Serial
of_second = record { worker = 1; command = 0 }

abbrev scan : Entry
scan = Scan 1 0 2 Plain 0 0 false

abbrev scanned_late : Report
scanned_late = record report {
  workers = kept (record part { answers = kept (held (reply.Added (record { place = place; entry = 0 })) 0 ∷ unheld (reply.Freed 0 1 0 2 1) ∷ []); walks = kept [] }
      ∷ record part { answers = kept (unheld (reply.Walked 0) ∷ []); walks = kept (record (walk 0 1 (record { id = 0; outcome = outcome.Cleared 1 1 1 } ∷ [])) { by = of_second } ∷ []) } ∷ []);
  pool = kept (Registered 0 0 0 ∷ Unregistered 0 0 2 ∷ Idle 0 ∷ []);
  places = kept (record { place = place; entries = kept (added ∷ Drained (by 1) 1 ∷ scan ∷ []); items = kept [] } ∷ []);
}

one_try : (n : ℕ) → Contains (looked_by scanned_late of_second) (0, n) → n ≡ 1
one_try n h = ⊎_elim (λ e. sym (ap (λ (p : ℕ × ℕ). p.1) e)) (λ none. absurd none) (Has_from_Contains (looked_by scanned_late of_second) (0, n) h)

-- a list isn't drained before its id's first Unregistered
not_before : (m : ℕ) → is_dying 0 (take m (Registered 0 0 0 ∷ Unregistered 0 0 2 ∷ Idle 0 ∷ [])) ≡ true → 1 < m
unfolding phase_of
not_before zero h = absurd (cc)
not_before (suc zero) h = absurd (cc)
not_before (suc (suc m)) h = omega arith

behind_the_drain : IsInOneOrder scanned_late → ⊥
behind_the_drain h =
    let using = h.used place 2 of_second (scan, refl, tt) (scan, refl, refl) in
    let own : using.number ≡ 1 = one_try using.number using.looked in
    let drain = h.drained place 1 (Drained (by 1) 1, refl, tt) in
    let after = drain.behind.before 1 (not_before drain.turns drain.dying) in
    let before = h.by_numbers (lookup 0 1) (turn 1) (of_second, (0, omega arith, refl)) (Unregistered 0 0 2, refl, tt) (λ e. cc) (lookups 0) 1 2 2 2 (refl, refl, refl) (Unregistered 0 0 2, refl, (refl, refl, refl)) (omega arith) in
    let scanned = using.before (entry place 1) (refl, (Drained (by 1) 1, refl, tt)) (omega (arith, before, after, ap (λ (n : ℕ). h.rank (lookup 0 n)) own)) in
    absurd (omega (arith, scanned, h.by_numbers (entry place 1) (entry place 2) (Drained (by 1) 1, refl, tt) (scan, refl, tt) (λ e. cc) (entries place) 1 2 2 3 (refl, refl, refl) (refl, refl, refl) (omega arith)))
