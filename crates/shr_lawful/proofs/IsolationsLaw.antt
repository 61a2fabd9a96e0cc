-- SPDX-License-Identifier: GPL-2.0-only
-- The law of isolations, of a run.
use Rattle.shr_lawful.proofs.Common.{◌≡◌, ℕ, zero, suc, ◌+◌, ◌-◌, ◌<◌, ◌≤◌, ◌⊎◌, ⊎_elim, Bool, true, false, ◌&&◌, cond, List, [], ◌∷◌, length, drop, map, sym, refl, ap, subst, ◌∙◌, arith, eq-eqb, slice_get, Option, Some, None, filter, filter_map, option_and_then, ◌==◌, AllByRecursion, cons_option, IsSomeAnd, and_parts, and_from, eqb-true, same_Some, none-some, Entry, Scan, Place, Serial, Answered, IsolateEnd, Spent, CacheDecl, Command, Script, Isolation, is_serial, decl_named, is_closed, place_number, Has, each_has, isolation_walk, ScanSeen, place_at, Made, Report, command_at, serial_of, journals_of, isolation_at, isolations_told, visitor_of, Placed, placed, placed_scan, Visitor, Step, IsAmong, steps_of, isolations_asked, IsScanned, IsIsolationVisit, MayMakeEntry, isolated_in, isolated_before, IsRun, IsWornBy, by_slices, some_at, IsLawfulIsolation, scan_seen, scans_seen, isolations_by, cache_named, IsEndCaused, IsOfIsolation, AreIsolationsLawful}
use Rattle.shr_lawful.proofs.WalksLaw.{filter_serial}
use Rattle.shr_base.specs.declared.replies.IsolateEnd.TheVariants as isolate
use Rattle.shr_lawful.proofs.Gathering.{each_among, maker, made_stands, back_there, Stepped, stepped}
use Rattle.shr_lawful.proofs.IsolationSteps.{first_told, told_once, told_by, scan_of, isolation_of, IsolationOf, isolation_there, visit_number, visit_there}
use Rattle.shr_lawful.proofs.Listed.{closed_begins, contains_among, PairsRec, pairs_rec, among_has, one_by}
use Rattle.shr_lawful.proofs.WalkCauses.{spent_law}
use Rattle.shr_lawful.proofs.WornLists.{known_begins}

-- ---- the entries of a journal that a function keeps, where these are made in order
module _ {B : Type 0} (f : Entry → Option B) where
  -- an entry that was made stands in the rest of a journal from this number on, and is kept
  record IsKept (i : ℕ) (es : List Entry) (m : Made) : Type 0 where
    late : i ≤ m.number
    stands : slice_get es (m.number - i) ≡ Some m.entry
    kept : B
    is_kept : f m.entry ≡ Some kept

  -- each entry that is kept is one that was made
  abbrev AreAll : ℕ → List Entry → List Made → Type 0
  AreAll i es ms = (j : ℕ) (e : Entry) (b : B) → slice_get es j ≡ Some e → f e ≡ Some b → (m : Made) × Has ms m × (m.number ≡ i + j)

  later_kept : (i : ℕ) (e : Entry) (es : List Entry) (m : Made) → i < m.number → IsKept i (e ∷ es) m → IsKept (i + 1) es m
  later_kept i e es m lt h = record {
    late = omega (arith, lt);
    stands = (let n : m.number - i ≡ suc (m.number - (i + 1)) = omega (arith, lt) in ap (slice_get (e ∷ es)) (sym n) ∙ h.stands);
    kept = h.kept;
    is_kept = h.is_kept;
  }

  all_later : (i : ℕ) (e : Entry) (es : List Entry) (ms : List Made) → AllByRecursion (λ (m : Made). i < m.number) ms → AllByRecursion (IsKept i (e ∷ es)) ms → AllByRecursion (IsKept (i + 1) es) ms
  all_later i e es [] lt h = tt
  all_later i e es (m ∷ ms) lt h = (later_kept i e es m lt.0 h.0, all_later i e es ms lt.1 h.1)

  -- where the first entry isn't kept, all that were made come after it
  past_first : (i : ℕ) (e : Entry) (es : List Entry) (ms : List Made) → f e ≡ None → AllByRecursion (IsKept i (e ∷ es)) ms → AllByRecursion (λ (m : Made). i < m.number) ms
  past_first i e es [] none h = tt
  past_first i e es (m ∷ ms) none h = (by_number (m.number - i) refl h.0.stands, past_first i e es ms none h.1) where
    by_number : (n : ℕ) → m.number - i ≡ n → slice_get (e ∷ es) n ≡ Some m.entry → i < m.number
    by_number zero same at = absurd (none-some h.0.kept (sym (ap f (sym (same_Some e m.entry at)) ∙ none) ∙ h.0.is_kept))
    by_number (suc n) same at = omega (arith, same)

  above_first : (i : ℕ) (m : Made) (ms : List Made) → m.number ≡ i → AllByRecursion (λ (n : Made). m.number < n.number) ms → AllByRecursion (λ (n : Made). i < n.number) ms
  above_first i m ms same h = subst (λ (k : ℕ). AllByRecursion (λ (n : Made). k < n.number) ms) same h

  -- what is so of the entries behind the first is so of all
  kept_step : (i : ℕ) (e : Entry) (es : List Entry)
      → ((ns : List Made) → PairsRec (λ (m n : Made). m.number < n.number) ns → AllByRecursion (IsKept (i + 1) es) ns → AreAll (i + 1) es ns → filter_map f es ≡ filter_map f (map (λ (m : Made). m.entry) ns))
      → (ms : List Made) → PairsRec (λ (m n : Made). m.number < n.number) ms → AllByRecursion (IsKept i (e ∷ es)) ms → AreAll i (e ∷ es) ms → cons_option (f e) (filter_map f es) ≡ filter_map f (map (λ (m : Made). m.entry) ms)
  kept_step i e es more ms rise each all = by_first (f e) refl where
    rest_all : (ns : List Made) → ((m : Made) → Has ms m → i < m.number → Has ns m) → AreAll (i + 1) es ns
    rest_all ns keeps j d b at is = let t = all (suc j) d b at is in let n = t.2 in (t.0, keeps t.0 t.1 (omega (arith, n)), omega (arith, n))

    at_first : (b : B) (xs : List Made) → PairsRec (λ (m n : Made). m.number < n.number) xs → AllByRecursion (IsKept i (e ∷ es)) xs → (m : Made) → Has xs m → m.number ≡ i → ((n : Made) → Has ms n → Has xs n)
        → cons_option (f e) (filter_map f es) ≡ filter_map f (map (λ (z : Made). z.entry) xs)
    at_first b [] r h m has same to = absurd has
    at_first b (x ∷ xs) r h m has same to =
        let first : x.number ≡ i = ⊎_elim (λ here. ap (λ (z : Made). z.number) here ∙ same)
        (λ later. absurd (let lt = each_has (λ (n : Made). x.number < n.number) xs m r.0 later in let le = h.0.late in omega (arith, lt, le, same))) has in
        let entry : e ≡ x.entry = same_Some e x.entry (ap (slice_get (e ∷ es)) (let z : 0 ≡ x.number - i = omega (arith, first) in z) ∙ h.0.stands) in
        let above = above_first i x xs first r.0 in
        let rest = more xs r.1 (all_later i e es xs above h.1) (rest_all xs (λ n has_n lt. ⊎_elim (λ here. absurd (let same_n = ap (λ (z : Made). z.number) here in omega (arith, same_n, first, lt))) (λ later. later) (to n has_n))) in
        ap (cons_option (f e)) rest ∙ ap (λ (d : Entry). cons_option (f d) (filter_map f (map (λ (z : Made). z.entry) xs))) entry

    by_first : (o : Option B) → f e ≡ o → cons_option (f e) (filter_map f es) ≡ filter_map f (map (λ (m : Made). m.entry) ms)
    by_first None none = let lt = past_first i e es ms none each in
        ap (λ (o : Option B). cons_option o (filter_map f es)) none ∙ more ms rise (all_later i e es ms lt each) (rest_all ms (λ m has m_lt. has))
    by_first (Some b) is = let t = all 0 e b refl is in let n = t.2 in at_first b ms rise each t.0 t.1 (omega (arith, n)) (λ m has. has)

  kept_are : (i : ℕ) (es : List Entry) (ms : List Made) → PairsRec (λ (m n : Made). m.number < n.number) ms → AllByRecursion (IsKept i es) ms → AreAll i es ms
      → filter_map f es ≡ filter_map f (map (λ (m : Made). m.entry) ms)
  kept_are i [] [] rise each all = refl
  kept_are i [] (m ∷ ms) rise each all = absurd (none-some m.entry each.0.stands)
  kept_are i (e ∷ es) ms rise each all = kept_step i e es (λ ns r h a. kept_are (i + 1) es ns r h a) ms rise each all

-- what the scans of an isolation are read as
seen_again : (v : Visitor) (z : ScanSeen) (e : Entry) → e ≡ Scan v.by.worker v.walk z.asked z.policy z.visits z.freed z.stopped → scan_seen v.by.worker v.walk e ≡ Some z
seen_again v z e is = ap (scan_seen v.by.worker v.walk) is
    ∙ ap (λ (b : Bool). cond b (Some z) None) (and_from (v.by.worker == v.by.worker) (v.walk == v.walk) (eq-eqb v.by.worker v.by.worker refl) (eq-eqb v.walk v.walk refl))

seen_all : (v : Visitor) (ms : List Made) (zs : List ScanSeen) → map placed ms ≡ map (placed_scan v) zs → filter_map (scan_seen v.by.worker v.walk) (map (λ (m : Made). m.entry) ms) ≡ zs
seen_all v [] [] e = refl
seen_all v [] (z ∷ zs) e = absurd (omega (arith, ap (λ (l : List Placed). length l) e))
seen_all v (m ∷ ms) [] e = absurd (omega (arith, ap (λ (l : List Placed). length l) e))
seen_all v (m ∷ ms) (z ∷ zs) e =
    let first : placed m ≡ placed_scan v z = same_Some (placed m) (placed_scan v z) (ap (λ (l : List Placed). slice_get l 0) e) in
    let rest : map placed ms ≡ map (placed_scan v) zs = ap (λ (l : List Placed). drop 1 l) e in
    let one = seen_again v z m.entry (ap (λ (p : Placed). p.entry) first) in
    ap (λ (o : Option ScanSeen). cons_option o (filter_map (scan_seen v.by.worker v.walk) (map (λ (n : Made). n.entry) ms))) one ∙ ap (λ (l : List ScanSeen). z ∷ l) (seen_all v ms zs rest)

-- a Scan entry that is told apart is of the worker and of the walk
scan_is : (worker walk : ℕ) (e : Entry) (z : ScanSeen) → scan_seen worker walk e ≡ Some z → e ≡ Scan worker walk z.asked z.policy z.visits z.freed z.stopped
scan_is worker walk (Scan w n asked policy visits freed stopped) z h = by_test ((w == worker) && (n == walk)) refl h where
  by_test : (b : Bool) → ((w == worker) && (n == walk)) ≡ b → cond b (Some (record { asked = asked; policy = policy; visits = visits; freed = freed; stopped = stopped })) None ≡ Some z → Scan w n asked policy visits freed stopped ≡ Scan worker walk z.asked z.policy z.visits z.freed z.stopped
  by_test true e k = let t = and_parts (w == worker) (n == walk) e in let own = eqb-true w worker t.0 in let same = eqb-true n walk t.1 in let is = same_Some _ z k in
      λ i. Scan (own i) (same i) (is i).asked (is i).policy (is i).visits (is i).freed (is i).stopped
  by_test false e k = absurd (none-some z k)
scan_is worker walk e z h = absurd (none-some z h)

module _ (s : Script) (r : Report) (workers : List (List Step)) (run : IsRun s r workers) where
  may_make : (worker k : ℕ) (x : Step) (m : Made) → slice_get (steps_of workers worker) k ≡ Some x → IsAmong m x.work.core.made → MayMakeEntry s x m m.entry
  may_make worker k x m at among = each_among (λ (z : Made). MayMakeEntry s x z z.entry) x.work.core.made m (run.steps.each worker k x at).did.entries.each among

  -- ---- the scans of an isolation
  module _ (worker n : ℕ) (i : Isolation) (of : IsolationOf s r workers run worker n i) where
    abbrev made : List Made
    made = of.step.work.core.made

    abbrev visitor : Visitor
    visitor = visitor_of of.step.by n i.place of.did.d

    abbrev seen : Entry → Option ScanSeen
    seen e = scan_seen worker (isolation_walk n) e

    own_worker : of.step.by.worker ≡ worker
    own_worker = ap (λ (z : Serial). z.worker) of.is.by

    -- what the step made stands in the journal of the place, and is read as its scan
    stands : (j : ℕ) (m : Made) → slice_get made j ≡ Some m → IsKept seen 0 (journals_of r i.place) m
    stands j m e =
        let among : IsAmong m made = (j, some_at made j m e) in
        let o = scan_of s of.step n i of.did m among in
        let there = (made_stands s r workers run worker of.k of.step of.at j m (some_at made j m e)).1.entry in
        let here : place_at m.place ≡ i.place = ap place_at o.place ∙ back_there s r workers run i.place of.did.there in
        record {
          late = omega arith;
          stands = ap (slice_get (journals_of r i.place)) (let z : m.number - 0 ≡ m.number = omega arith in z) ∙ (ap (λ (p : Place). slice_get (journals_of r p) m.number) (sym here) ∙ there);
          kept = o.seen;
          is_kept = ap (λ (w : ℕ). scan_seen w (isolation_walk n) m.entry) (sym own_worker) ∙ seen_again visitor o.seen m.entry o.entry;
        }

    -- an entry that is read as a scan of the isolation is one that the step made
    from_step : (j : ℕ) (e : Entry) (z : ScanSeen) → slice_get (journals_of r i.place) j ≡ Some e → seen e ≡ Some z → (m : Made) × Has made m × (m.number ≡ 0 + j)
    from_step j e z at is =
        let m = maker s r workers run i.place j e at in
        let entry = m.entry ∙ scan_is worker (isolation_walk n) e z is in
        let may : IsScanned m.step m.made worker (isolation_walk n) ⊎ IsIsolationVisit m.step m.made worker (isolation_walk n) = subst (MayMakeEntry s m.step m.made) entry (may_make m.worker m.k m.step m.made m.at m.among) in
        ⊎_elim
        (λ t. absurd (let low = ((run.steps.each m.worker m.k m.step m.at).did.walks.each t.index t.walk t.there).low in let number = t.number in omega (arith, low, number)))
        (λ t. let number : n ≡ isolated_before (steps_of workers m.worker) m.k = omega (arith, visit_number s r workers run m.worker m.k m.step m.made worker (isolation_walk n) z.asked z.visits z.freed z.policy z.stopped m.at t m.among entry) in
        let same_worker : m.worker ≡ worker = sym (t.own ∙ ap (λ (y : Serial). y.worker) (run.steps.each m.worker m.k m.step m.at).by) in
        let at_n : isolation_at r worker n ≡ Some t.isolation = subst (λ (v : ℕ). isolation_at r v n ≡ Some t.isolation) same_worker (ap (isolation_at r m.worker) number ∙ isolation_there s r workers run m.worker m.k m.step t.isolation m.at t.told) in
        let same : t.isolation ≡ i = same_Some t.isolation i (sym at_n ∙ at_own) in
        let by : m.step.by ≡ of.step.by = sym (told_by m.step.by m.step.command m.step.answered t.isolation (first_told m.step t.isolation t.told))
        ∙ (ap (λ (y : Isolation). y.by) same ∙ told_by of.step.by of.step.command of.step.answered i (first_told of.step i of.told)) in
        let step : m.step ≡ of.step = one_by s r workers run m.worker m.k worker of.k m.step of.step m.at of.at by in
        (m.made, among_has made m.made (subst (λ (y : Step). IsAmong m.made y.work.core.made) step m.among), m.number ∙ omega arith)) may where
          at_own : isolation_at r worker n ≡ Some i
          at_own = ap (isolation_at r worker) of.number ∙ isolation_there s r workers run worker of.k of.step i of.at of.told

    scans_are : scans_seen worker (isolation_walk n) (journals_of r i.place) ≡ of.did.scans
    scans_are = kept_are seen 0 (journals_of r i.place) made (pairs_rec (λ (a b : Made). a.number < b.number) made of.did.rise) (by_slices (IsKept seen 0 (journals_of r i.place)) made stands) from_step
        ∙ (ap (λ (w : ℕ). filter_map (scan_seen w (isolation_walk n)) (map (λ (m : Made). m.entry) made)) (sym own_worker) ∙ seen_all visitor made of.did.scans of.did.made)

  -- the cache of the command that made it
  cache_is : (worker n : ℕ) (i : Isolation) (of : IsolationOf s r workers run worker n i) → cache_named s i.by ≡ Some of.did.d
  cache_is worker n i of =
      let by : i.by ≡ serial_of worker of.k = told_by of.step.by of.step.command of.step.answered i (first_told of.step i of.told) ∙ of.is.by in
      let command : command_at s i.by ≡ of.step.command = ap (command_at s) by ∙ of.is.command in
      ap (option_and_then (λ (c : Command). option_and_then (slice_get s.caches.items) (decl_named c))) command ∙ (named of.step.command ∙ of.did.cache) where
        named : (c : Option Command) → option_and_then (λ (c : Command). option_and_then (slice_get s.caches.items) (decl_named c)) c ≡ option_and_then (slice_get s.caches.items) (option_and_then decl_named c)
        named (Some c) = refl
        named None = refl

  each : (worker n : ℕ) (i : Isolation) → isolation_at r worker n ≡ Some i → IsSomeAnd (cache_named s i.by) (λ d. IsLawfulIsolation d.policy (scans_seen worker (isolation_walk n) (journals_of r i.place)) i)
  each worker n i at = let of = isolation_of s r workers run worker n i at in
      subst (λ (o : Option CacheDecl). IsSomeAnd o (λ d. IsLawfulIsolation d.policy (scans_seen worker (isolation_walk n) (journals_of r i.place)) i)) (sym (cache_is worker n i of))
      (subst (λ (l : List ScanSeen). IsLawfulIsolation of.did.d.policy l i) (sym (scans_are worker n i of)) of.did.lawful)

  closed : (worker n : ℕ) (i : Isolation) → isolation_at r worker n ≡ Some i → i.ending ≡ isolate.Closed → is_closed (journals_of r i.place) ≡ true
  closed worker n i at e = let of = isolation_of s r workers run worker n i at in let c = of.did.closed e in
      closed_begins c.0 (journals_of r i.place) (known_begins s r workers run worker of.k of.step i.place c.0 of.at of.did.there (contains_among of.step.after.core.traces.known (record { place = place_number i.place; entries = c.0 }) c.1)) c.2

  end_caused : (worker k : ℕ) (x : Step) → slice_get (steps_of workers worker) k ≡ Some x → (e : IsolateEnd) → ((why : Spent) → e ≡ isolate.Worn why → IsWornBy s x why) → IsEndCaused s r worker e
  end_caused worker k x at (isolate.Worn why) h = spent_law s r workers run worker k x why at (h why refl)
  end_caused worker k x at e h = tt

  -- ---- a Scan entry of an isolation
  scan_of_isolation : (place : Place) (e : Entry) (x : Step) (m : Made) (worker k : ℕ) → slice_get (steps_of workers worker) k ≡ Some x → IsAmong m x.work.core.made → place_at m.place ≡ place → m.entry ≡ e → MayMakeEntry s x m e → IsOfIsolation r place e
  scan_of_isolation place (Scan w n asked policy visits freed stopped) x m worker k at among here entry may = λ high. ⊎_elim
      (λ t. absurd (let low = ((run.steps.each worker k x at).did.walks.each t.index t.walk t.there).low in let number = t.number in omega (arith, low, number, high)))
      (λ t. subst (λ (o : Option Isolation). IsSomeAnd o (λ i. i.place ≡ place)) (sym (visit_there s r workers run worker k x m w n asked visits freed policy stopped at t among entry)) (sym t.place ∙ here)) may
  scan_of_isolation place e x m worker k at among here entry may = tt

  scans : (place : Place) (n : ℕ) (e : Entry) → slice_get (journals_of r place) n ≡ Some e → IsOfIsolation r place e
  scans place n e stands = let m = maker s r workers run place n e stands in
      scan_of_isolation place e m.step m.made m.worker m.k m.at m.among m.place_is m.entry (subst (MayMakeEntry s m.step m.made) m.entry (may_make m.worker m.k m.step m.made m.at m.among))

  -- ---- the isolations of a command
  isolations_are : (worker k : ℕ) (x : Step) → slice_get (steps_of workers worker) k ≡ Some x → isolations_by r (serial_of worker k) ≡ isolated_in x
  isolations_are worker k x at = ap (filter (λ (i : Isolation). is_serial (serial_of worker k) i.by)) (run.isolations.told worker)
      ∙ filter_serial (λ (i : Isolation). i.by) isolated_in worker (steps_of workers worker) k x at
      (λ j n y i at_y at_i. let t = told_once y.by y.command y.answered n i at_i in told_by y.by y.command y.answered i (first_told y i t.0) ∙ (run.steps.each worker j y at_y).by)

  commands : (by : Serial) (c : Command) (a : Answered) → Stepped s r workers run by c a → isolations_by r by ≡ isolations_told by c a
  commands by c a t = isolations_are by.worker by.command t.step t.at ∙ (λ j. isolations_asked (t.own j) (t.command j) (t.answered j))

  pub isolations_lawful : AreIsolationsLawful s r
  isolations_lawful = record {
    each = each;
    closed = closed;
    worn = λ worker n i at. let of = isolation_of s r workers run worker n i at in end_caused worker of.k of.step of.at i.ending of.did.worn;
    scans = scans;
    commands = λ by c a command answer. commands by c a (stepped s r workers run by c a command answer);
  }
