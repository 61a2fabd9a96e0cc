-- SPDX-License-Identifier: GPL-2.0-only
-- An isolation's scans are lawful.
use Rattle.shr_drop.proofs.Common.{◌≡◌, ℕ, ◌+◌, ◌<◌, Bool, true, false, List, [], ◌∷◌, ◌++◌, length, sym, refl, ap, subst, ◌∙◌, ◌⊎◌, ⊎_elim, arith, sum, Object, Policy, Serial, Spent, place_number, scan_of, View, shape_of, with_put, WorkerState, Shared, common_steps, Isolation, Isolates, found_place, visitor_of, Visitor, ScansOnce, AreVisits, AreIsolated, MeetsWorn, ◌-◌, map, append_assoc, replicate, RefusedBy}
use Rattle.std.specs.List.{AllByRecursion}
use Rattle.std.proofs.lemmas.List.{append-nil, map-append}
use Rattle.shr_base.specs.declared.journals.Entry.TheVariants.{Scan}
use Rattle.shr_base.specs.declared.replies.Found.{Found}
use Rattle.shr_base.specs.declared.replies.Reply.{Reply}
use Rattle.shr_base.specs.declared.replies.Reply.TheVariants as reply
use Rattle.shr_base.specs.declared.replies.Spent.TheVariants as spent
use Rattle.shr_model.proofs.ScanLaws.{length_scan}
use Rattle.shr_model.specs.Isolations.{ScanSeen, met_of, met_one, met_stop, met_none, IsLawfulIsolation}
use Rattle.shr_core.specs.Parts.{Made}
use Rattle.shr_walk.specs.Shown.{WornSeen}
use Rattle.shr_walk.proofs.ListScanning.{charges_spent}
use Rattle.shr_registry.specs.declared.answers.FindAnswer.{FindAnswer}
use Rattle.shr_registry.specs.declared.answers.FindAnswer.TheVariants as find
use Rattle.shr_charge.specs.declared.answers.GroupState.{GroupState}
use Rattle.shr_charge.specs.declared.answers.GroupState.TheVariants.{Online, Offline, NotMade}
use Rattle.shr_cache.specs.Opening.{LoadsWord, LooksForCache, RefusedAs}
use Rattle.shr_base.specs.declared.replies.IsolateEnd.{IsolateEnd}
use Rattle.shr_base.specs.declared.replies.IsolateEnd.TheVariants as ending
use Rattle.shr_drop.specs.Lawful.{AreScanned, IsolatesByLaw, IsAnsweredByLaw, Placed, placed, placed_scan}
use Rattle.shr_model.proofs.Lists.{sum_push}

-- a scan with a budget of 1
abbrev pub seen_of : Policy → ℕ → ℕ → Bool → ScanSeen
seen_of policy freed visits stopped = record { asked = 1; policy = policy; visits = visits; freed = freed; stopped = stopped }

-- the scans of visits that weren't stopped
abbrev pub seen_each : Policy → List ℕ → List ScanSeen
seen_each policy ns = map (λ (n : ℕ). seen_of policy n 1 false) ns

-- the same and one more
abbrev pub seen_then : Policy → List ℕ → ℕ → ℕ → Bool → List ScanSeen
seen_then policy ns freed visits stopped = seen_each policy ns ++ seen_of policy freed visits stopped ∷ []

module _ (x : Shared) (i : Visitor) where
  scanned_none : (s t : WorkerState) → t.core.traces.made ≡ s.core.traces.made → AreScanned i [] s t
  scanned_none s t e = record { made = []; gained = e ∙ sym (append-nil s.core.traces.made); entries = refl }

  scanned_once : (freed visits : ℕ) (stopped : Bool) (s t : WorkerState) → ScansOnce x i freed visits stopped s t → AreScanned i (seen_of i.policy freed visits stopped ∷ []) s t
  scanned_once freed visits stopped s t h =
      let scan = scan_of i.policy 1 h.scan.old.items in
      let met = sym h.scan.told.met in let halted = sym h.scan.told.halted in
      let few : length scan.freed ≡ freed = ap (λ (l : List Object). length l) (sym h.scan.told.removed) ∙ sym h.count in record {
        made = _;
        gained = h.scan.gains.adds.made;
        entries = λ j. record { place = place_number i.place; entry = Scan i.by.worker i.walk 1 i.policy (met j) (few j) (halted j) } ∷ [];
      }

  scanned_then : (a b : List ScanSeen) (s u t : WorkerState) → AreScanned i a s u → AreScanned i b u t → AreScanned i (a ++ b) s t
  scanned_then a b s u t f g = record {
    made = f.made ++ g.made;
    gained = g.gained ∙ (ap (λ (l : List Made). l ++ g.made) f.gained ∙ append_assoc s.core.traces.made f.made g.made);
    entries = map-append placed f.made g.made ∙ (ap (λ (l : List Placed). l ++ map placed g.made) f.entries ∙ (ap (λ (l : List Placed). map (placed_scan i) a ++ l) g.entries ∙ sym (map-append (placed_scan i) a b)));
  }

  scanned_visits : (ns : List ℕ) (s t : WorkerState) → AreVisits x i ns s t → AreScanned i (seen_each i.policy ns) s t
  scanned_visits [] s t e = scanned_none s t (ap (λ (w : WorkerState). w.core.traces.made) (sym e))
  scanned_visits (n ∷ ns) s t (u, once, more) = scanned_then (seen_of i.policy n 1 false ∷ []) (seen_each i.policy ns) s u t (scanned_once n 1 false s u once) (scanned_visits ns u t more)

policies_each : (policy : Policy) (ns : List ℕ) → AllByRecursion (λ (z : ScanSeen). z.policy ≡ policy) (seen_each policy ns)
policies_each policy [] = tt
policies_each policy (n ∷ ns) = (refl, policies_each policy ns)

asked_each : (policy : Policy) (ns : List ℕ) → AllByRecursion (λ (z : ScanSeen). z.asked ≡ 1) (seen_each policy ns)
asked_each policy [] = tt
asked_each policy (n ∷ ns) = (refl, asked_each policy ns)

policies_then : (policy : Policy) (ns : List ℕ) (freed visits : ℕ) (stopped : Bool) → AllByRecursion (λ (z : ScanSeen). z.policy ≡ policy) (seen_then policy ns freed visits stopped)
policies_then policy [] freed visits stopped = (refl, tt)
policies_then policy (n ∷ ns) freed visits stopped = (refl, policies_then policy ns freed visits stopped)

asked_then : (policy : Policy) (ns : List ℕ) (freed visits : ℕ) (stopped : Bool) → AllByRecursion (λ (z : ScanSeen). z.asked ≡ 1) (seen_then policy ns freed visits stopped)
asked_then policy [] freed visits stopped = (refl, tt)
asked_then policy (n ∷ ns) freed visits stopped = (refl, asked_then policy ns freed visits stopped)

mets_each : (policy : Policy) (ns : List ℕ) → map met_of (seen_each policy ns) ≡ replicate (length ns) met_one
mets_each policy [] = refl
mets_each policy (n ∷ ns) = ap (λ l. met_one ∷ l) (mets_each policy ns)

sum_cons : (n : ℕ) (ns : List ℕ) → sum (n ∷ ns) ≡ n + sum ns
sum_cons n ns = grind (arith, common_steps)

freed_each : (policy : Policy) (ns : List ℕ) → sum ns ≡ sum (map (λ (z : ScanSeen). z.freed) (seen_each policy ns))
freed_each policy [] = refl
freed_each policy (n ∷ ns) = sum_cons n ns ∙ (ap (λ (m : ℕ). n + m) (freed_each policy ns) ∙ sym (sum_cons n (map (λ (z : ScanSeen). z.freed) (seen_each policy ns))))

mets_then : (policy : Policy) (ns : List ℕ) (freed visits : ℕ) (stopped : Bool) → map met_of (seen_then policy ns freed visits stopped) ≡ replicate (length ns) met_one ++ record { visits = visits; stopped = stopped } ∷ []
mets_then policy ns freed visits stopped = map-append met_of (seen_each policy ns) (seen_of policy freed visits stopped ∷ []) ∙ ap (λ l. l ++ record { visits = visits; stopped = stopped } ∷ []) (mets_each policy ns)

freed_then : (policy : Policy) (ns : List ℕ) (freed visits : ℕ) (stopped : Bool) → sum ns + freed ≡ sum (map (λ (z : ScanSeen). z.freed) (seen_then policy ns freed visits stopped))
freed_then policy ns freed visits stopped = ap (λ (m : ℕ). m + freed) (freed_each policy ns)
    ∙ (sym (sum_push (map (λ (z : ScanSeen). z.freed) (seen_each policy ns)) freed)
    ∙ ap (λ (l : List ℕ). sum l) (sym (map-append (λ (z : ScanSeen). z.freed) (seen_each policy ns) (seen_of policy freed visits stopped ∷ []))))

module _ (x : Shared) (i : Visitor) where
  worn_seen : (why : Spent) (s t : WorkerState) → MeetsWorn x i why s t → WornSeen (shape_of x.core) i.place why t
  worn_seen (spent.Charges charges uncharges) s t h = let c = charges_spent s.uses charges uncharges h.numbers in subst (WornSeen (shape_of x.core) i.place (spent.Charges charges uncharges)) (sym h.rest) (let a = c.1 in let b = c.2 in record { over = c.0; charged = omega (arith, a); uncharged = omega (arith, b) })
  worn_seen (spent.List at entries items) s t h = let f = h.list.full in let left = length_scan i.policy 1 h.list.old.items in let then = f.worn.items_then in record {
    here = h.list.here;
    over = subst (λ (m : ℕ). (m < entries) ⊎ ((shape_of x.core).most_items < items)) f.was.most_entries (subst (λ (m : ℕ). (h.list.old.most_entries < entries) ⊎ (m < items)) f.was.most_items f.worn.over);
    known = h.list.old.entries;
    knows = f.known;
    one_more = f.worn.entries_then;
    held = h.list.old.items;
    journal = f.was.journal;
    there = omega (arith, then, left);
  }
  worn_seen (spent.Lookups id seen) s t h = absurd h

  worn_inj : (a b : Spent) → ending.Worn a ≡ ending.Worn b → a ≡ b
  worn_inj a b e = cc

  abbrev record_of : ℕ → ℕ → ℕ → IsolateEnd → Isolation
  record_of budget visits freed e = record { by = i.by; place = i.place; budget = budget; visits = visits; freed = freed; ending = e }

  -- the visits of an isolation and what followed them are lawful
  pub isolated_lawful : (budget visits freed : ℕ) (e : IsolateEnd) (s t : WorkerState) → AreIsolated x i budget visits freed e s t → IsolatesByLaw x i (record_of budget visits freed e) s t
  isolated_lawful budget visits freed ending.Spent s t h = let n = h.ended in let count = n.count in let whole = n.whole in record {
    scans = seen_each i.policy h.each;
    scanned = subst (λ (w : WorkerState). AreScanned i (seen_each i.policy h.each) s w) (sym n.rest) (scanned_visits x i h.each s h.last h.visited);
    lawful = record {
      policies = policies_each i.policy h.each;
      asked = asked_each i.policy h.each;
      met = mets_each i.policy h.each ∙ ap (λ (k : ℕ). replicate k met_one) (sym count);
      freed = n.total ∙ freed_each i.policy h.each;
      within = omega (arith, whole);
      stopped = λ no. cc;
      whole = λ _. whole;
    };
    closed = λ no. cc;
    worn = λ why no. cc;
  }
  isolated_lawful budget visits freed ending.Bare s t h = let n = h.ended in let count = n.count in let left = n.left in let total = n.total in record {
    scans = seen_then i.policy h.each 0 0 false;
    scanned = scanned_then x i (seen_each i.policy h.each) (seen_of i.policy 0 0 false ∷ []) s h.last t (scanned_visits x i h.each s h.last h.visited) (scanned_once x i 0 0 false h.last t n.cause);
    lawful = record {
      policies = policies_then i.policy h.each 0 0 false;
      asked = asked_then i.policy h.each 0 0 false;
      met = mets_then i.policy h.each 0 0 false ∙ ap (λ (k : ℕ). replicate k met_one ++ met_none ∷ []) (sym count);
      freed = let e = freed_then i.policy h.each 0 0 false in omega (arith, total, e);
      within = omega (arith, left);
      stopped = λ no. cc;
      whole = λ no. cc;
    };
    closed = λ no. cc;
    worn = λ why no. cc;
  }
  isolated_lawful budget visits freed ending.Stop s t h = let n = h.ended in let count = n.count in let within = n.within in let total = n.total in record {
    scans = seen_then i.policy h.each n.last 1 true;
    scanned = scanned_then x i (seen_each i.policy h.each) (seen_of i.policy n.last 1 true ∷ []) s h.last t (scanned_visits x i h.each s h.last h.visited) (scanned_once x i n.last 1 true h.last t n.cause);
    lawful = record {
      policies = policies_then i.policy h.each n.last 1 true;
      asked = asked_then i.policy h.each n.last 1 true;
      met = let less : length h.each ≡ visits - 1 = omega (arith, count) in mets_then i.policy h.each n.last 1 true ∙ ap (λ (k : ℕ). replicate k met_one ++ met_stop ∷ []) less;
      freed = let e = freed_then i.policy h.each n.last 1 true in omega (arith, total, e);
      within = within;
      stopped = λ _. omega (arith, count);
      whole = λ no. cc;
    };
    closed = λ no. cc;
    worn = λ why no. cc;
  }
  isolated_lawful budget visits freed ending.Closed s t h = let n = h.ended in let count = n.count in let left = n.left in record {
    scans = seen_each i.policy h.each ++ [];
    scanned = scanned_then x i (seen_each i.policy h.each) [] s h.last t (scanned_visits x i h.each s h.last h.visited) (scanned_none x i h.last t (n.cause.list.gains.adds.made ∙ append-nil h.last.core.traces.made));
    lawful = subst (λ (l : List ScanSeen). IsLawfulIsolation i.policy l (record_of budget visits freed ending.Closed)) (sym (append-nil (seen_each i.policy h.each))) record {
      policies = policies_each i.policy h.each;
      asked = asked_each i.policy h.each;
      met = mets_each i.policy h.each ∙ ap (λ (k : ℕ). replicate k met_one) (sym count);
      freed = n.total ∙ freed_each i.policy h.each;
      within = omega (arith, left);
      stopped = λ no. cc;
      whole = λ no. cc;
    };
    closed = λ _. n.cause.list.closed;
    worn = λ why no. cc;
  }
  isolated_lawful budget visits freed (ending.Worn why) s t h = let n = h.ended in let count = n.count in let left = n.left in record {
    scans = seen_each i.policy h.each ++ [];
    scanned = scanned_then x i (seen_each i.policy h.each) [] s h.last t (scanned_visits x i h.each s h.last h.visited) (scanned_none x i h.last t (worn_made why h.last t n.cause));
    lawful = subst (λ (l : List ScanSeen). IsLawfulIsolation i.policy l (record_of budget visits freed (ending.Worn why))) (sym (append-nil (seen_each i.policy h.each))) record {
      policies = policies_each i.policy h.each;
      asked = asked_each i.policy h.each;
      met = mets_each i.policy h.each ∙ ap (λ (k : ℕ). replicate k met_one) (sym count);
      freed = n.total ∙ freed_each i.policy h.each;
      within = omega (arith, left);
      stopped = λ no. cc;
      whole = λ no. cc;
    };
    closed = λ no. cc;
    worn = λ other same. subst (λ (w : Spent). WornSeen (shape_of x.core) i.place w t) (worn_inj why other same) (worn_seen why h.last t n.cause);
  }
    where
      worn_made : (w : Spent) (u v : WorkerState) → MeetsWorn x i w u v → v.core.traces.made ≡ u.core.traces.made
      worn_made (spent.Charges charges uncharges) u v m = ap (λ (w : WorkerState). w.core.traces.made) m.rest
      worn_made (spent.List at entries items) u v m = m.list.full.gains.adds.made ∙ append-nil u.core.traces.made
      worn_made (spent.Lookups id seen) u v m = absurd m
  isolated_lawful budget visits freed ending.NoRoom s t h = let n = h.ended in let count = n.count in let left = n.left in record {
    scans = seen_each i.policy h.each ++ [];
    scanned = scanned_then x i (seen_each i.policy h.each) [] s h.last t (scanned_visits x i h.each s h.last h.visited) (scanned_none x i h.last t (⊎_elim (λ same. ap (λ (v : View). v.traces.made) same) (λ lacks. lacks.free.gains.adds.made ∙ append-nil h.last.core.traces.made) n.cause.lacks));
    lawful = subst (λ (l : List ScanSeen). IsLawfulIsolation i.policy l (record_of budget visits freed ending.NoRoom)) (sym (append-nil (seen_each i.policy h.each))) record {
      policies = policies_each i.policy h.each;
      asked = asked_each i.policy h.each;
      met = mets_each i.policy h.each ∙ ap (λ (k : ℕ). replicate k met_one) (sym count);
      freed = n.total ∙ freed_each i.policy h.each;
      within = omega (arith, left);
      stopped = λ no. cc;
      whole = λ no. cc;
    };
    closed = λ no. cc;
    worn = λ why no. cc;
  }

module _ (x : Shared) (by : Serial) (group node decl budget : ℕ) where
  finds_made : (answer : FindAnswer) (s t : WorkerState) → LooksForCache x decl answer s t → t.core.traces.made ≡ s.core.traces.made
  finds_made (find.Held id number entry) s t h = h.answers.gains.adds.made ∙ append-nil s.core.traces.made
  finds_made (find.NoCache entry) s t h = h.answers.gains.adds.made ∙ append-nil s.core.traces.made
  finds_made (find.Worn why) s t h = h.answers.gains.adds.made ∙ append-nil s.core.traces.made

  loads_made : (state : GroupState) (s t : WorkerState) → LoadsWord x group state s t → t.core.traces.made ≡ s.core.traces.made
  loads_made state s t h = ap (λ (w : WorkerState). w.core.traces.made) h.rest

  refused_made : (r : Reply) (s t : WorkerState) → RefusedAs x group decl r s t → t.core.traces.made ≡ s.core.traces.made
  refused_made (reply.Offline entry) s t h = loads_made (Offline entry) s t h
  refused_made (reply.NotMade g) s t h = loads_made NotMade s t h.1
  refused_made (reply.NoCache entry) s t h = finds_made (find.NoCache entry) h.loaded t h.misses ∙ loads_made Online s h.loaded h.online
  refused_made (reply.Worn why) s t h = finds_made (find.Worn why) h.loaded t h.misses ∙ loads_made Online s h.loaded h.online
  refused_made r s t h = absurd h

  refused_lawful : (r : Reply) (s t : WorkerState) (before after : List Isolation) → RefusedBy x group decl r s t before after → t.core.traces.made ≡ s.core.traces.made
  refused_lawful reply.Memory s t before after h = ap (λ (w : WorkerState). w.core.traces.made) h.rest
  refused_lawful r s t before after h = refused_made r s t h.refused

  -- what an isolation did that found its cache is lawful
  pub found_lawful : (f : Found) (visits freed : ℕ) (e : IsolateEnd) (s t : WorkerState) (before after : List Isolation) → Isolates x by group node decl budget f visits freed e s t before after → IsAnsweredByLaw x by group node decl budget (length before) f visits freed e s t
  found_lawful f visits freed e s t before after h = let i = visitor_of by (length before) (found_place f node group) h.d in
      let l = isolated_lawful x i budget visits freed e h.held h.visited h.visiting in
      let same = finds_made (find.Held f.id f.number f.entry) h.loaded h.held h.holds ∙ loads_made Online s h.loaded h.online in record {
        d = h.d;
        declared = h.declared;
        isolates = subst (λ (w : WorkerState). IsolatesByLaw x i (record { by = by; place = found_place f node group; budget = budget; visits = visits; freed = freed; ending = e }) s w) (sym h.back) record {
          scans = l.scans;
          scanned = record { made = l.scanned.made; gained = l.scanned.gained ∙ ap (λ (m : List Made). m ++ l.scanned.made) same; entries = l.scanned.entries };
          lawful = l.lawful;
          closed = l.closed;
          worn = λ why is. put_worn i why h.visited (l.worn why is);
        };
      }
    where
      put_worn : (i : Visitor) (why : Spent) (w : WorkerState) → WornSeen (shape_of x.core) i.place why w → WornSeen (shape_of x.core) i.place why (record w { core = with_put w.core })
      put_worn i (spent.Charges charges uncharges) w m = record { over = m.over; charged = m.charged; uncharged = m.uncharged }
      put_worn i (spent.List at entries items) w m = record { here = m.here; over = m.over; known = m.known; knows = m.knows; one_more = m.one_more; held = m.held; journal = m.journal; there = m.there }
      put_worn i (spent.Lookups id seen) w m = absurd m
