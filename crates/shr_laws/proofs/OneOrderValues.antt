-- SPDX-License-Identifier: GPL-2.0-only
-- What the second whole report tells is in one order, and reports that are in none.
use Rattle.shr_laws.proofs.Common.{◌≡◌, ◌≢◌, ℕ, zero, suc, ◌+◌, ◌*◌, ◌<◌, ◌≤◌, List, [], ◌∷◌, length, slice_get, Some, Contains, refl, codes, true, false, IsSomeAnd, arith, sym, ap, subst, ◌∙◌, ⊎_elim, dite, ℕ_discrete, Entry, Add, Look, Drained, PoolEntry, Registered, Unregistered, Idle, At, Place, Serial, Answered, WalkRecord, Has_from_Contains, Report, IsMadeBy, serial_of, reply_at, journals_of, entry_by, Told, entry, lookup, turn, count, entries, lookups, turns, looked_by, IsBy, IsInOneOrder, Counting, ToldMeasure, countings_of, ReportTells, TurnTells, TellsOf}
use Rattle.shr_base.specs.declared.replies.Reply.TheVariants as reply
use Rattle.shr_base.specs.declared.walks.Outcome.TheVariants as outcome
use Rattle.shr_laws.proofs.InUseValues.{used, drained, emptied}
use Rattle.shr_laws.proofs.SecondCases.{each_entry}
use Rattle.shr_laws.proofs.SecondReport.{kept, report, part, place, by, held, unheld, walk}
use Rattle.shr_model.proofs.Lists.{each_at, some_injective}

-- ---- the second report
-- ten ranks for each command: its lookup, then its entry or its counts
abbrev rank : Told → ℕ
rank (turn n) = 0
rank (lookup id n) = 10 + n * 10
rank (entry p n) = 11 + n * 10
rank (count worker n) = 31 + n

-- its lookups have their commands' numbers
own_lookup : (worker k id n : ℕ) → Contains (looked_by report (serial_of worker k)) (id, n) → n ≡ k
own_lookup zero zero id n h = ⊎_elim (λ e. sym (ap (λ (p : ℕ × ℕ). p.1) e)) (λ none. absurd none) (Has_from_Contains (looked_by report (serial_of 0 0)) (id, n) h)
own_lookup zero (suc zero) id n h = ⊎_elim (λ e. sym (ap (λ (p : ℕ × ℕ). p.1) e)) (λ none. absurd none) (Has_from_Contains (looked_by report (serial_of 0 1)) (id, n) h)
own_lookup zero (suc (suc zero)) id n h = ⊎_elim (λ e. sym (ap (λ (p : ℕ × ℕ). p.1) e)) (λ none. absurd none) (Has_from_Contains (looked_by report (serial_of 0 2)) (id, n) h)
own_lookup zero (suc (suc (suc zero))) id n h = absurd (Has_from_Contains (looked_by report (serial_of 0 3)) (id, n) h)
own_lookup zero (suc (suc (suc (suc k)))) id n h = absurd (Has_from_Contains [] (id, n) h)
own_lookup (suc worker) k id n h = absurd (Has_from_Contains [] (id, n) h)

few_looked : (worker k : ℕ) → length (looked_by report (serial_of worker k)) ≤ 1
few_looked zero zero = omega arith
few_looked zero (suc zero) = omega arith
few_looked zero (suc (suc zero)) = omega arith
few_looked zero (suc (suc (suc zero))) = omega arith
few_looked zero (suc (suc (suc (suc k)))) = omega arith
few_looked (suc worker) k = omega arith

-- its counts are the first walk's, at version 2
record IsCounted (n : ℕ) (c : Counting) : Type 0 where
  by_is : c.by ≡ by 2
  version : c.seen.version ≡ 2
  low : n < 2

own_count : (worker n : ℕ) (c : Counting) → slice_get (countings_of report worker) n ≡ Some c → IsCounted n c
own_count zero n c at = each_at IsCounted (countings_of report 0) (record { by_is = refl; version = refl; low = omega arith }, (record { by_is = refl; version = refl; low = omega arith }, tt)) n c at
own_count (suc worker) n c at = absurd (cc)

-- its registration is the one of the start
own_turn : (n : ℕ) (e : PoolEntry) → slice_get report.pool.items n ≡ Some e → (n ≡ 0) × (e ≡ Registered 0 0 0)
own_turn zero e at = (refl, sym (some_injective (Registered 0 0 0) e at))
own_turn (suc n) e at = absurd (cc)

starts_at : (i low high : ℕ) (e : PoolEntry) → e ≡ Registered 0 0 0 → TurnTells i low high e → (low ≡ 0) × (high ≡ 0)
starts_at i low high e is tells = let t = subst (TurnTells i low high) is tells in (t.1, t.2)

-- an entry of a command has the command's number
own_entry : (p : Place) (n worker k : ℕ) (e : Entry) → slice_get (journals_of report p) n ≡ Some e → entry_by report e ≡ Some (serial_of worker k) → n ≡ k
own_entry p n worker k e stands is = each_entry (λ q m e. (v j : ℕ) → entry_by report e ≡ Some (serial_of v j) → m ≡ j)
    ((λ v j e. ap (λ (z : Serial). z.command) (some_injective (by 0) (serial_of v j) e)), ((λ v j e. ap (λ (z : Serial). z.command) (some_injective (by 1) (serial_of v j) e)), tt)) p n e stands worker k is

few_entries : (p : Place) (n : ℕ) (e : Entry) → slice_get (journals_of report p) n ≡ Some e → n < 2
few_entries = each_entry (λ q m e. m < 2) (omega arith, (omega arith, tt))

by_numbers : (m : ToldMeasure) (x y : Told) → ReportTells report x → ReportTells report y → x ≢ y → (low high low' high' : ℕ) → TellsOf report m x low high → TellsOf report m y low' high' → low < high' → rank x < rank y
by_numbers (entries p) (entry a i) (entry b j) told told' apart low high low' high' t t' less = dite (ℕ_discrete i j)
    (λ same. let place_is : a ≡ b = t.0 ∙ sym t'.0 in absurd (apart (λ d. entry (place_is d) (same d))))
    (λ other. omega (arith, less, t.1, t'.2, other))
by_numbers (entries p) (entry a i) (count w j) told told' apart low high low' high' t t' less =
    let c = own_count w j t'.0 t'.1 in let v = c.version in let l = t.1 in let h = t'.2.2 in omega (arith, less, l, h, v)
by_numbers (entries p) (count w i) (entry b j) told told' apart low high low' high' t t' less =
    let c = own_count w i t.0 t.1 in let v = c.version in let few = few_entries b j told'.0 told'.1 in let l = t.2.1 in let h = t'.2 in absurd (omega (arith, less, l, h, v, few))
by_numbers (entries p) (count w i) (count v j) told told' apart low high low' high' t t' less =
    let c = own_count w i t.0 t.1 in let d = own_count v j t'.0 t'.1 in let a = c.version in let b = d.version in let l = t.2.1 in let h = t'.2.2 in absurd (omega (arith, less, l, h, a, b))
by_numbers (lookups id) (lookup a i) (lookup b j) told told' apart low high low' high' t t' less = dite (ℕ_discrete i j)
    (λ same. let id_is : a ≡ b = t.0 ∙ sym t'.0 in absurd (apart (λ d. lookup (id_is d) (same d))))
    (λ other. omega (arith, less, t.1, t'.2, other))
by_numbers (lookups id) (lookup a i) (turn j) told told' apart low high low' high' t t' less =
    let e = own_turn j t'.0 t'.1 in let f = starts_at id low' high' t'.0 e.1 t'.2 in let h = f.1 in absurd (omega (arith, less, h))
by_numbers (lookups id) (turn i) (lookup b j) told told' apart low high low' high' t t' less = omega arith
by_numbers (lookups id) (turn i) (turn j) told told' apart low high low' high' t t' less =
    let e = own_turn j t'.0 t'.1 in let f = starts_at id low' high' t'.0 e.1 t'.2 in let h = f.1 in absurd (omega (arith, less, h))
by_numbers turns (turn i) (turn j) told told' apart low high low' high' t t' less =
    let a = (own_turn i told.0 told.1).0 in let b = (own_turn j told'.0 told'.1).0 in absurd (apart (ap turn (a ∙ sym b)))
by_numbers (entries p) (entry a i) y told told' apart low high low' high' t t' less = absurd t'
by_numbers (entries p) (count w i) y told told' apart low high low' high' t t' less = absurd t'
by_numbers (entries p) x y told told' apart low high low' high' t t' less = absurd t
by_numbers (lookups id) (lookup a i) y told told' apart low high low' high' t t' less = absurd t'
by_numbers (lookups id) (turn i) y told told' apart low high low' high' t t' less = absurd t'
by_numbers (lookups id) x y told told' apart low high low' high' t t' less = absurd t
by_numbers turns (turn i) y told told' apart low high low' high' t t' less = absurd t'
by_numbers turns x y told told' apart low high low' high' t t' less = absurd t

-- no answer of it made an entry of that journal
not_by_add : (a : At) (n : ℕ) (e : PoolEntry) → IsMadeBy report e n (reply.Added a) → ⊥
not_by_add a n (Registered decl id since) made = made
not_by_add a n (Unregistered decl id until) made = made
not_by_add a n (Idle id) made = made

not_by_drop : (a : At) (n : ℕ) (e : PoolEntry) → IsMadeBy report e n (reply.Dropped a) → ⊥
not_by_drop a n (Registered decl id since) made = made
not_by_drop a n (Unregistered decl id until) made = made
not_by_drop a n (Idle id) made = made

not_by_walk : (freed n : ℕ) (e : PoolEntry) → IsMadeBy report e n (reply.Walked freed) → ⊥
not_by_walk freed n (Registered decl id since) made = made
not_by_walk freed n (Unregistered decl id until) made = made
not_by_walk freed n (Idle id) made = made

pub nothing_made : (worker k n : ℕ) (e : PoolEntry) → IsSomeAnd (reply_at report (serial_of worker k)) (IsMadeBy report e n) → ⊥
nothing_made zero zero n e made = not_by_add (record { place = place; entry = 0 }) n e made
nothing_made zero (suc zero) n e made = not_by_drop (record { place = place; entry = 1 }) n e made
nothing_made zero (suc (suc zero)) n e made = not_by_walk 0 n e made
nothing_made zero (suc (suc (suc zero))) n e made = not_by_walk 0 n e made
nothing_made zero (suc (suc (suc (suc k)))) n e made = made
nothing_made (suc worker) k n e made = made

-- the ranks of a command
own_rank : (worker k : ℕ) (x : Told) → IsBy report (serial_of worker k) x → (10 + k * 10 ≤ rank x) × (rank x < 20 + k * 10)
own_rank worker k (entry p n) h = let e = own_entry p n worker k h.0 h.1 h.2 in (omega (arith, e), omega (arith, e))
own_rank worker k (lookup id n) h = let e = own_lookup worker k id n h in (omega (arith, e), omega (arith, e))
own_rank worker k (turn n) h = absurd (nothing_made worker k n h.0 h.2)
own_rank worker k (count w n) h =
    let c = own_count w n h.0 h.1 in let low = c.low in
    let second : 2 ≡ k = ap (λ (z : Serial). z.command) (sym c.by_is ∙ h.2) in (omega (arith, second), omega (arith, second, low))

pub in_order : IsInOneOrder report
in_order = record {
  rank = rank;
  by_numbers = λ x y told told' apart m. by_numbers m x y told told' apart;
  by_worker = λ x y worker k later less first second. let a = (own_rank worker k x first).1 in let b = (own_rank worker later y second).0 in omega (arith, less, a, b);
  looked = λ by i j d less within. absurd (omega (arith, less, within, few_looked by.worker by.command));
  counted = λ worker m n less within. omega (arith, less);
  used = used rank (omega arith) (omega arith);
  drained = drained rank;
  emptied = emptied rank;
}

-- ---- reports that are in none
abbrev with : List Answered → List WalkRecord → Report
with answers walks = record report { workers = kept (record part { answers = kept answers; walks = kept walks } ∷ []) }

-- a walk that met an empty list, by the number of its lookup
abbrev looking : ℕ → ℕ → WalkRecord
looking command number = walk command 1 (record { id = 0; outcome = outcome.Cleared number 2 2 } ∷ [])

-- a later walk of one command has a lower number
fall_within : IsInOneOrder (with (unheld (reply.Walked 0) ∷ []) (looking 0 1 ∷ looking 0 0 ∷ [])) → ⊥
fall_within h =
    let up : h.rank (lookup 0 1) < h.rank (lookup 0 0) = h.looked (by 0) 0 1 (0, 0) (omega arith) (omega arith) in
    absurd (omega (arith, up, h.by_numbers (lookup 0 0) (lookup 0 1) (by 0, (1, omega arith, refl)) (by 0, (0, omega arith, refl)) (λ e. cc) (lookups 0) 0 1 1 2 (refl, refl, refl) (refl, refl, refl) (omega arith)))

-- a put drew the number 1, and a later del the number 0
fall : IsInOneOrder (with (held (reply.Added (record { place = place; entry = 0 })) 1 ∷ held (reply.Dropped (record { place = place; entry = 1 })) 0 ∷ []) []) → ⊥
fall h =
    let up = h.by_worker (lookup 0 1) (lookup 0 0) 0 0 1 (omega arith) (0, omega arith, refl) (0, omega arith, refl) in
    absurd (omega (arith, up, h.by_numbers (lookup 0 0) (lookup 0 1) (by 1, (0, omega arith, refl)) (by 0, (0, omega arith, refl)) (λ e. cc) (lookups 0) 0 1 1 2 (refl, refl, refl) (refl, refl, refl) (omega arith)))

-- an `unregister` ended the registration at the number 1, and the next walk of its worker looks the cache up with the number 0
after_its_end : IsInOneOrder (record (with (unheld (reply.Freed 0 1 0 1 0) ∷ unheld (reply.Walked 0) ∷ []) (looking 1 0 ∷ [])) { pool = kept (Registered 0 0 0 ∷ Unregistered 0 0 1 ∷ Idle 0 ∷ []) }) → ⊥
after_its_end h =
    let up = h.by_worker (turn 1) (lookup 0 0) 0 0 1 (omega arith) (Unregistered 0 0 1, refl, refl) (0, omega arith, refl) in
    absurd (omega (arith, up, h.by_numbers (lookup 0 0) (turn 1) (by 1, (0, omega arith, refl)) (Unregistered 0 0 1, refl, tt) (λ e. cc) (lookups 0) 0 1 1 1 (refl, refl, refl) (Unregistered 0 0 1, refl, (refl, refl, refl)) (omega arith)))

-- a `register` began one at the number 2, and the next walk of its worker looks up with the number 1
before_its_start : IsInOneOrder (record (with (unheld (reply.Registered 0 3) ∷ unheld (reply.Walked 0) ∷ []) (looking 1 1 ∷ [])) { pool = kept (Registered 0 0 0 ∷ Unregistered 0 0 1 ∷ Idle 0 ∷ Registered 0 0 2 ∷ []) }) → ⊥
before_its_start h =
    let up = h.by_worker (turn 3) (lookup 0 1) 0 0 1 (omega arith) (Registered 0 0 2, refl, refl) (0, omega arith, refl) in
    absurd (omega (arith, up, h.by_numbers (lookup 0 1) (turn 3) (by 1, (0, omega arith, refl)) (Registered 0 0 2, refl, tt) (λ e. cc) (lookups 0) 1 2 2 2 (refl, refl, refl) (Registered 0 0 2, refl, (refl, refl, refl)) (omega arith)))

-- the report with these entries and walks
abbrev listing : List Entry → List WalkRecord → Report
listing list walks = record report { workers = kept (record part { walks = kept walks } ∷ []); places = kept (record { place = place; entries = kept list; items = kept [] } ∷ []) }

-- the first two commands made an entry each
abbrev first : Entry
first = Add (by 0) 1 true [] []

abbrev second : Entry
second = Drained (by 1) 1

-- a walk that counted this version twice
abbrev counting : ℕ → ℕ → WalkRecord
counting command version = walk command 1 (record { id = 0; outcome = outcome.Cleared 2 version version } ∷ [])

abbrev of_walk : ℕ → ℕ → Counting
of_walk command version = record { by = by command; place = place; seen = record { len = 0; version = version } }

-- the second command's entry stands before the first command's
entries_fall : IsInOneOrder (listing (second ∷ first ∷ []) []) → ⊥
entries_fall h =
    let up = h.by_worker (entry place 1) (entry place 0) 0 0 1 (omega arith) (first, refl, refl) (second, refl, refl) in
    absurd (omega (arith, up, h.by_numbers (entry place 0) (entry place 1) (second, refl, tt) (first, refl, tt) (λ e. cc) (entries place) 0 1 1 2 (refl, refl, refl) (refl, refl, refl) (omega arith)))

-- the third command's walk counted before the second command's entry
counts_too_early : IsInOneOrder (listing (first ∷ second ∷ []) (counting 2 1 ∷ [])) → ⊥
counts_too_early h =
    let up = h.by_worker (entry place 1) (count 0 0) 0 1 2 (omega arith) (second, refl, refl) (of_walk 2 1, refl, refl) in
    absurd (omega (arith, up, h.by_numbers (count 0 0) (entry place 1) (of_walk 2 1, refl, tt) (second, refl, tt) (λ e. cc) (entries place) 1 1 1 2 (of_walk 2 1, refl, (refl, refl, refl)) (refl, refl, refl) (omega arith)))

-- the first command's walk counted after the second command's entry
counts_too_late : IsInOneOrder (listing (first ∷ second ∷ []) (counting 0 2 ∷ [])) → ⊥
counts_too_late h =
    let up = h.by_worker (count 0 0) (entry place 1) 0 0 1 (omega arith) (of_walk 0 2, refl, refl) (second, refl, refl) in
    absurd (omega (arith, up, h.by_numbers (entry place 1) (count 0 0) (second, refl, tt) (of_walk 0 2, refl, tt) (λ e. cc) (entries place) 1 2 2 2 (refl, refl, refl) (of_walk 0 2, refl, (refl, refl, refl)) (omega arith)))

-- a walk's second count is older than its first
counts_fall : IsInOneOrder (listing (first ∷ second ∷ []) (walk 2 1 (record { id = 0; outcome = outcome.Cleared 2 2 1 } ∷ []) ∷ [])) → ⊥
counts_fall h =
    let up = h.counted 0 0 1 (omega arith) (omega arith) in
    absurd (omega (arith, up, h.by_numbers (count 0 1) (count 0 0) (of_walk 2 1, refl, tt) (of_walk 2 2, refl, tt) (λ e. cc) (entries place) 1 1 2 2 (of_walk 2 1, refl, (refl, refl, refl)) (of_walk 2 2, refl, (refl, refl, refl)) (omega arith)))

-- Of two workers and two lists: the first worker put x on the one list and then y on the other, and the second got y, and
-- then didn't find x, before which it stands.
abbrev other_place : Place
other_place = record { id = 0; node = 1; group = 1 }

abbrev of_second : ℕ → Serial
of_second command = record { worker = 1; command = command }

abbrev seen_backwards : Report
seen_backwards = record report {
  nodes = 2;
  workers = kept (record part { answers = kept (held (reply.Added (record { place = place; entry = 1 })) 0 ∷ held (reply.Added (record { place = other_place; entry = 0 })) 1 ∷ []); walks = kept [] }
      ∷ record part { answers = kept (held (reply.Hit (record { place = other_place; entry = 1 }) (codes "1")) 2 ∷ held (reply.Miss (record { place = place; entry = 0 })) 3 ∷ []); walks = kept [] } ∷ []);
  places = kept (record { place = place; entries = kept (Look (of_second 1) 1 (codes "x") false ∷ Add (by 0) 1 true (codes "x") (codes "1") ∷ []); items = kept [] }
      ∷ record { place = other_place; entries = kept (Add (by 1) 1 true (codes "y") (codes "1") ∷ Look (of_second 0) 1 (codes "y") true ∷ []); items = kept [] } ∷ []);
  lookups = kept (4 ∷ []);
}

in_a_circle : IsInOneOrder seen_backwards → ⊥
in_a_circle h =
    let puts = h.by_worker (entry place 1) (entry other_place 0) 0 0 1 (omega arith) (Add (by 0) 1 true (codes "x") (codes "1"), refl, refl) (Add (by 1) 1 true (codes "y") (codes "1"), refl, refl) in
    let gets = h.by_worker (entry other_place 1) (entry place 0) 1 0 1 (omega arith) (Look (of_second 0) 1 (codes "y") true, refl, refl) (Look (of_second 1) 1 (codes "x") false, refl, refl) in
    let hit = h.by_numbers (entry other_place 0) (entry other_place 1) (Add (by 1) 1 true (codes "y") (codes "1"), refl, tt) (Look (of_second 0) 1 (codes "y") true, refl, tt) (λ e. cc) (entries other_place) 0 1 1 2 (refl, refl, refl) (refl, refl, refl) (omega arith) in
    let miss = h.by_numbers (entry place 0) (entry place 1) (Look (of_second 1) 1 (codes "x") false, refl, tt) (Add (by 0) 1 true (codes "x") (codes "1"), refl, tt) (λ e. cc) (entries place) 0 1 1 2 (refl, refl, refl) (refl, refl, refl) (omega arith) in
    absurd (omega (arith, puts, gets, hit, miss))
