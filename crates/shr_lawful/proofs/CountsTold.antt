-- SPDX-License-Identifier: GPL-2.0-only
-- The counts that a report tells of a worker are those of its steps, in the order in which it made them.
use Rattle.shr_lawful.proofs.Common.{◌≡◌, ℕ, zero, suc, ◌+◌, ◌<◌, ◌≤◌, List, [], ◌∷◌, ◌++◌, length, length-append, map, take, sym, refl, ap, subst, ◌∙◌, arith, append_assoc, slice_get, Some, flat_map, flat_map-append, map-append, same_Some, none-some, some, some-ne-none, get_elem?, Serial, Script, Attempt, WalkRecord, Count, counts_of, place_number, place_in, Deed, by_seat, acts_of, part, Begins, among, seen_in, Event, Counted, counted, WorkerState, Report, serial_of, Counting, countings_of, IsRun, Step, steps_of, AreStepsChained, BringsWork, counted_in, some_at, countings_in, among-append}
use Rattle.shr_core.proofs.Unregistering.{there as at_less}
use Rattle.shr_lawful.proofs.Listed.{slice_map}
use Rattle.shr_lawful.proofs.Gathering.{FlatAt, flat_at, work_of}
use Rattle.shr_lawful.proofs.LineOrder.{counted_of}
use Rattle.shr_lawful.proofs.Spots.{kind_spot, kind_there, kind_from, kind_within}
use Rattle.shr_seats.proofs.Sums.{from_map}

-- ---- lists

pub at_behind : {A : Type 0} (xs ys : List A) (i : ℕ) (y : A) → get_elem? ys i ≡ some y → get_elem? (xs ++ ys) (length xs + i) ≡ some y
at_behind [] ys i y e = let z : i ≡ 0 + i = omega arith in subst (λ (n : ℕ). get_elem? ys n ≡ some y) z e
at_behind (x ∷ xs) ys i y e = let z : suc (length xs + i) ≡ suc (length xs) + i = omega arith in subst (λ (n : ℕ). get_elem? (x ∷ xs ++ ys) n ≡ some y) z (at_behind xs ys i y e)

pub at_before : {A : Type 0} (xs ys : List A) (i : ℕ) (y : A) → get_elem? xs i ≡ some y → get_elem? (xs ++ ys) i ≡ some y
at_before [] ys i y e = absurd (some-ne-none y (sym e))
at_before (x ∷ xs) ys zero y e = e
at_before (x ∷ xs) ys (suc i) y e = at_before xs ys i y e

-- ---- events by kind
pub one_seen : (e : Event) → length (seen_in e) ≤ 1
one_seen (counted x) = omega arith
one_seen e = omega arith

pub acts_both : (xs ys : List (Deed Event)) → acts_of (xs ++ ys) ≡ acts_of xs ++ acts_of ys
acts_both xs ys = map-append (λ (d : Deed Event). d.act) xs ys

acts_seat : (j : ℕ) (es : List Event) → acts_of (by_seat j es) ≡ es
acts_seat j [] = refl
acts_seat j (e ∷ es) = ap (λ l. e ∷ l) (acts_seat j es)

-- ---- the counts of a step, with its command
abbrev timed : Step → List (Serial × Counted)
timed x = map (λ (c : Counted). (x.by, c)) x.work.core.seen

abbrev pub pair : Counting → Serial × Counted
pair c = (c.by, record { place = place_number c.place; len = c.seen.len; version = c.seen.version })

module _ (w : WalkRecord) where
  of_counts : (a : Attempt) (cs : List Count) → map pair (map (λ (c : Count). record { by = w.by; place = place_in w a.id; seen = c }) cs)
      ≡ map (λ (c : Counted). (w.by, c)) (map (λ (c : Count). record { place = place_number (place_in w a.id); len = c.len; version = c.version }) cs)
  of_counts a [] = refl
  of_counts a (c ∷ cs) = ap (λ l. pair (record { by = w.by; place = place_in w a.id; seen = c }) ∷ l) (of_counts a cs)

  of_attempts : (tries : List Attempt) → map pair (flat_map (λ (a : Attempt). map (λ (c : Count). record { by = w.by; place = place_in w a.id; seen = c }) (counts_of a.outcome)) tries)
      ≡ map (λ (c : Counted). (w.by, c)) (flat_map (λ (a : Attempt). map (λ (c : Count). record { place = place_number (place_in w a.id); len = c.len; version = c.version }) (counts_of a.outcome)) tries)
  of_attempts [] = refl
  of_attempts (a ∷ tries) =
      let mine : List Counting = map (λ (c : Count). record { by = w.by; place = place_in w a.id; seen = c }) (counts_of a.outcome) in
      let own : List Counted = map (λ (c : Count). record { place = place_number (place_in w a.id); len = c.len; version = c.version }) (counts_of a.outcome) in
      let more : List Counting = flat_map (λ (b : Attempt). map (λ (c : Count). record { by = w.by; place = place_in w b.id; seen = c }) (counts_of b.outcome)) tries in
      let rest : List Counted = flat_map (λ (b : Attempt). map (λ (c : Count). record { place = place_number (place_in w b.id); len = c.len; version = c.version }) (counts_of b.outcome)) tries in
      map-append pair mine more ∙ (ap (λ l. l ++ map pair more) (of_counts a (counts_of a.outcome)) ∙ (ap (λ l. map (λ (c : Counted). (w.by, c)) own ++ l) (of_attempts tries) ∙ sym (map-append (λ (c : Counted). (w.by, c)) own rest)))

of_walks : (by : Serial) (ws : List WalkRecord) → ((i : ℕ) (w : WalkRecord) → slice_get ws i ≡ Some w → w.by ≡ by) → map pair (flat_map countings_in ws) ≡ map (λ (c : Counted). (by, c)) (flat_map counted_in ws)
of_walks by [] own = refl
of_walks by (w ∷ ws) own = map-append pair (countings_in w) (flat_map countings_in ws)
    ∙ (ap (λ l. l ++ map pair (flat_map countings_in ws)) (of_attempts w w.attempts.items ∙ ap (λ (b : Serial). map (λ (c : Counted). (b, c)) (counted_in w)) (own 0 w refl))
    ∙ (ap (λ l. map (λ (c : Counted). (by, c)) (counted_in w) ++ l) (of_walks by ws (λ i v at. own (suc i) v at))
    ∙ sym (map-append (λ (c : Counted). (by, c)) (counted_in w) (flat_map counted_in ws))))

of_steps : (xs : List Step) → ((k : ℕ) (x : Step) → slice_get xs k ≡ Some x → map pair (flat_map countings_in x.work.walks) ≡ timed x)
    → map pair (flat_map countings_in (flat_map (λ (x : Step). x.work.walks) xs)) ≡ flat_map timed xs
of_steps [] each = refl
of_steps (x ∷ xs) each = ap (map pair) (flat_map-append countings_in x.work.walks (flat_map (λ (y : Step). y.work.walks) xs))
    ∙ (map-append pair (flat_map countings_in x.work.walks) (flat_map countings_in (flat_map (λ (y : Step). y.work.walks) xs))
    ∙ (ap (λ l. l ++ map pair (flat_map countings_in (flat_map (λ (y : Step). y.work.walks) xs))) (each 0 x refl) ∙ ap (λ l. timed x ++ l) (of_steps xs (λ k y at. each (suc k) y at))))

-- how many counts a worker had made before a step
counts_done : (y : Step) → BringsWork y.before y.after y.work → length (among seen_in (acts_of y.after.core.did)) ≡ length (among seen_in (acts_of y.before.core.did)) + length (timed y)
counts_done y b =
    let noted : acts_of y.after.core.did ≡ acts_of y.before.core.did ++ b.core.did = ap acts_of b.core.noted ∙ (acts_both y.before.core.did (by_seat y.before.core.seat b.core.did) ∙ ap (λ l. acts_of y.before.core.did ++ l) (acts_seat y.before.core.seat b.core.did)) in
    omega (
      arith,
      ap (λ l. length {A = Counted} (among seen_in l)) noted,
      ap (length {A = Counted}) (among-append seen_in (acts_of y.before.core.did) b.core.did),
      length-append (among seen_in (acts_of y.before.core.did)) (among seen_in b.core.did),
      ap (length {A = Counted}) b.core.kinds.seen,
      length_timed y.by y.work.core.seen,
    ) where
      length_timed : (by : Serial) (cs : List Counted) → length {A = Serial × Counted} (map (λ (c : Counted). (by, c)) cs) ≡ length cs
      length_timed by [] = refl
      length_timed by (c ∷ cs) = let rest = length_timed by cs in omega (arith, rest)

counts_before : (t : WorkerState) (mine : List Step) (k : ℕ) (x : Step) → AreStepsChained t mine → slice_get mine k ≡ Some x
    → length (among seen_in (acts_of x.before.core.did)) ≡ length (among seen_in (acts_of t.core.did)) + length (flat_map timed (take k mine))
counts_before t [] k x c e = absurd (none-some x e)
counts_before t (y ∷ mine) zero x c e = omega (arith, ap (λ (z : Step). length (among seen_in (acts_of z.before.core.did))) (sym (same_Some y x e)), ap (λ (u : WorkerState). length (among seen_in (acts_of u.core.did))) c.0)
counts_before t (y ∷ mine) (suc k) x c e = omega (
  arith,
  counts_before y.after mine k x c.2 e,
  counts_done y c.1,
  ap (λ (u : WorkerState). length (among seen_in (acts_of u.core.did))) c.0,
  length-append (timed y) (flat_map timed (take k mine)),
)

module _ (s : Script) (r : Report) (workers : List (List Step)) (run : IsRun s r workers) where
  -- what the worker did, in order
  abbrev pub mine : ℕ → List (Deed Event)
  mine worker = part (1 + worker) run.order.line

  -- where among it the count with this number stands
  abbrev pub count_spot : ℕ → ℕ → ℕ
  count_spot worker n = kind_spot seen_in (acts_of (mine worker)) n

  pub counts_are : (worker : ℕ) → map pair (countings_of r worker) ≡ flat_map timed (steps_of workers worker)
  counts_are worker = ap (λ ws. map pair (flat_map countings_in ws)) (run.steps.walks worker) ∙ of_steps (steps_of workers worker) (λ k x at.
      let is = run.steps.each worker k x at in
      of_walks x.by x.work.walks (λ i w own. (is.did.walks.each i w own).by) ∙ ap (λ cs. map (λ (c : Counted). (x.by, c)) cs) is.did.walks.seen)

  -- a count that is told, among what the worker did
  pub record CountAt (worker n : ℕ) (c : Counting) : Type 0 where
    pub k : ℕ
    pub step : Step
    pub at : slice_get (steps_of workers worker) k ≡ Some step
    pub by : c.by ≡ serial_of worker k
    pub from : length step.before.core.did ≤ count_spot worker n
    pub to : count_spot worker n < length step.after.core.did
    pub less : n < length (among seen_in (acts_of (mine worker)))
    pub deed : Deed Event
    pub there : get_elem? (mine worker) (count_spot worker n) ≡ some deed
    pub is : deed.act ≡ counted (record { place = place_number c.place; len = c.seen.len; version = c.seen.version })

  pub count_at : (worker n : ℕ) (c : Counting) → slice_get (countings_of r worker) n ≡ Some c → CountAt worker n c
  count_at worker n c told =
      let xs = steps_of workers worker in
      let t : FlatAt timed xs n (pair c) = flat_at timed xs n (pair c) (ap (λ l. slice_get l n) (sym (counts_are worker)) ∙ told_pair (countings_of r worker) n told) in
      let x : Step = t.x in
      let own = slice_map (λ (d : Counted). (x.by, d)) x.work.core.seen t.i (pair c) t.own in
      let b = work_of s r workers run worker t.k x t.at in
      let before = acts_of x.before.core.did in
      let none : length (among seen_in (acts_of (run.steps.first worker).core.did)) ≡ 0 = ap (λ l. length (among seen_in (acts_of l))) (run.steps.new worker).did in
      let number : n ≡ length (among seen_in before) + t.i = omega (arith, t.number, none, counts_before (run.steps.first worker) xs t.k x (run.steps.chained worker) t.at) in
      let p : Begins x.after.core.did (mine worker) = run.order.parts worker t.k x t.at in
      let noted : acts_of x.after.core.did ≡ before ++ b.core.did = ap acts_of b.core.noted ∙ (acts_both x.before.core.did (by_seat x.before.core.seat b.core.did) ∙ ap (λ l. before ++ l) (acts_seat x.before.core.seat b.core.did)) in
      let all : acts_of (mine worker) ≡ (before ++ b.core.did) ++ acts_of p.0 = ap acts_of p.1 ∙ (acts_both x.after.core.did p.0 ∙ ap (λ l. l ++ acts_of p.0) noted) in
      let split : among seen_in (acts_of (mine worker)) ≡ (among seen_in before ++ among seen_in b.core.did) ++ among seen_in (acts_of p.0) =
      ap (among seen_in) all ∙ (among-append seen_in (before ++ b.core.did) (acts_of p.0) ∙ ap (λ l. l ++ among seen_in (acts_of p.0)) (among-append seen_in before b.core.did)) in
      let here : get_elem? (among seen_in b.core.did) t.i ≡ some own.0 = ap (λ l. get_elem? l t.i) b.core.kinds.seen ∙ some_at x.work.core.seen t.i own.0 own.1 in
      let stands : get_elem? (among seen_in (acts_of (mine worker))) n ≡ some own.0 =
      ap (λ l. get_elem? l n) split ∙ at_before (among seen_in before ++ among seen_in b.core.did) (among seen_in (acts_of p.0)) n own.0
      (ap (get_elem? (among seen_in before ++ among seen_in b.core.did)) number ∙ at_behind (among seen_in before) (among seen_in b.core.did) t.i own.0 here) in
      let less : n < length (among seen_in (acts_of (mine worker))) = at_less (among seen_in (acts_of (mine worker))) n own.0 stands in
      let event = kind_there seen_in one_seen (acts_of (mine worker)) n own.0 stands in
      let deed = from_map (λ (d : Deed Event). d.act) (mine worker) (count_spot worker n) event.0 event.1 in
      let tail : acts_of (mine worker) ≡ before ++ (b.core.did ++ acts_of p.0) = all ∙ append_assoc before b.core.did (acts_of p.0) in
      let length_before : length before ≡ length x.before.core.did = length_acts x.before.core.did in
      let length_after : length (before ++ b.core.did) ≡ length x.after.core.did = ap length (sym noted) ∙ length_acts x.after.core.did in
      let in_step : n < length (among seen_in (before ++ b.core.did)) = omega (
        arith,
        number,
        at_less (among seen_in b.core.did) t.i own.0 here,
        ap (length {A = Counted}) (among-append seen_in before b.core.did),
        length-append (among seen_in before) (among seen_in b.core.did),
      ) in
      let low : length before ≤ kind_spot seen_in (before ++ (b.core.did ++ acts_of p.0)) n =
      kind_from seen_in one_seen before (b.core.did ++ acts_of p.0) n (omega (arith, number)) (omega (arith, less, ap (λ l. length (among seen_in l)) tail)) in
      let high : kind_spot seen_in ((before ++ b.core.did) ++ acts_of p.0) n < length (before ++ b.core.did) = kind_within seen_in one_seen (before ++ b.core.did) (acts_of p.0) n in_step in
      record {
        k = t.k;
        step = x;
        at = t.at;
        by = ap (λ (q : Serial × Counted). q.0) (sym own.2) ∙ (run.steps.each worker t.k x t.at).by;
        from = omega (arith, low, length_before, ap (λ l. kind_spot seen_in l n) tail);
        to = omega (arith, high, length_after, ap (λ l. kind_spot seen_in l n) all);
        less = less;
        deed = deed.0;
        there = deed.1;
        is = deed.2 ∙ (counted_of event.0 own.0 event.2 ∙ ap (λ (q : Serial × Counted). counted q.1) own.2);
      } where
        told_pair : (cs : List Counting) (i : ℕ) → slice_get cs i ≡ Some c → slice_get (map pair cs) i ≡ Some (pair c)
        told_pair [] i e = absurd (none-some c e)
        told_pair (d ∷ ds) zero e = ap (λ (z : Counting). Some (pair z)) (same_Some d c e)
        told_pair (d ∷ ds) (suc i) e = told_pair ds i e

        length_acts : (ds : List (Deed Event)) → length (acts_of ds) ≡ length ds
        length_acts [] = refl
        length_acts (d ∷ ds) = let rest = length_acts ds in omega (arith, rest)
