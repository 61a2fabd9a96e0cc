-- SPDX-License-Identifier: GPL-2.0-only
-- What the visits of an isolation came to in all: entries of the list, each object that they freed uncharged, and nothing else.
use Rattle.shr_assemble.proofs.Common.{◌≡◌, inl, inr, ⊎_elim, ℕ, ◌+◌, ◌<◌, Bool, true, false, List, [], ◌∷◌, ◌++◌, length, length-append, append_assoc, sym, refl, ap, subst, ◌∙◌, AllByRecursion, flat_map-append, append-nil, All-nil, UseStep, Object, IsolateEnd, Spent, freed_by, place_number, Has, groups_in, Each, Each-append, Each-none, View, Made, shape_of, AreDowns, AreRising, IsDown, calls_with, both_uses, Gains, entry_made, IsScanOf, objects_freed, paths_of, WorkerState, Shared, Visitor, IsAmong, Each-one, AreBorn, scan_entry, gains_none, gains_then, called_none, ScansOnce, AreVisits, AreIsolated, MeetsWorn, EndsAs, shared_parents}
use Rattle.shr_base.specs.declared.replies.IsolateEnd.TheVariants as ending
use Rattle.shr_base.specs.declared.replies.Spent.TheVariants as spent
use Rattle.shr_assemble.proofs.QuietTenant.{called_then}
use Rattle.shr_lawful.proofs.Gathering.{among_left, among_right}
use Rattle.shr_lawful.proofs.Listed.{PairsRec, has_among}
use Rattle.shr_assemble.proofs.WalkingGives.{Freed, freed_then}

-- an entry is a scan of these visits, at their list
abbrev pub IsVisit : Visitor → Made → Type 0
IsVisit i m = (m.place ≡ place_number i.place) × IsScanOf i.by.worker i.walk i.policy m.entry

-- an entry at the list comes after all that were made there before
abbrev IsLast : Visitor → List Made → Made → Type 0
IsLast i before m = Each (λ (d : Made). d.place ≡ place_number i.place → d.number < m.number) before

-- what visits came to between two states
pub record Visits (x : Shared) (i : Visitor) (s t : WorkerState) : Type 0 where
  pub made : List Made
  pub ops : List UseStep
  pub gains : Gains s.core t.core made []
  pub scans : Each (IsVisit i) made
  pub after : Each (IsLast i s.core.traces.made) made
  pub numbers : PairsRec (λ (m n : Made). m.number < n.number) made
  pub downs : Freed x i.by made ops
  pub born : AreBorn (groups_in (shape_of x.core)) (objects_freed made)
  pub rise : AreRising s.uses.ops → AreRising t.uses.ops
  pub rest : t ≡ record s { core = t.core; uses = both_uses s.uses (calls_with ops 0 (length (objects_freed made))); noted = s.noted ++ ops }

module _ (x : Shared) (i : Visitor) where
  -- no visit was made
  visits_none : (s t : WorkerState) → Gains s.core t.core [] [] → t ≡ record s { core = t.core } → Visits x i s t
  visits_none s t g rest = record {
    made = [];
    ops = [];
    gains = g;
    scans = Each-none (IsVisit i);
    after = Each-none (IsLast i s.core.traces.made);
    numbers = tt;
    downs = record { at = refl; each = All-nil (IsDown i.by) };
    born = Each-none (λ (o : Object). o.birth < groups_in (shape_of x.core));
    rise = λ r. subst (λ (u : WorkerState). AreRising u.uses.ops) (sym rest) r;
    rest = rest ∙ (λ j. record s { core = t.core; uses = called_none s.uses j; noted = sym (append-nil s.noted) j });
  }

  -- one visit
  visits_one : (freed visits : ℕ) (stopped : Bool) (s t : WorkerState) → ScansOnce x i freed visits stopped s t → Visits x i s t
  visits_one freed visits stopped s t h =
      let m : Made = entry_made (place_number i.place) h.scan.old (scan_entry h.scan.old i.by.worker i.walk i.policy 1) in
      let same : h.objects ≡ objects_freed (m ∷ []) = h.scan.told.removed ∙ sym (append-nil (freed_by m.items m.entry)) in record {
        made = m ∷ [];
        ops = h.ops;
        gains = h.scan.gains;
        scans = Each-one (IsVisit i) m (refl, (refl, refl, refl));
        after = Each-one (IsLast i s.core.traces.made) m h.scan.was.later.made;
        numbers = (tt, tt);
        downs = subst (λ (l : List Object). AreDowns i.by (paths_of (shared_parents x) l) h.ops) same h.downs;
        born = subst (AreBorn (groups_in (shape_of x.core))) same h.scan.born;
        rise = h.rise;
        rest = subst (λ (l : List Object). t ≡ record s { core = t.core; uses = both_uses s.uses (calls_with h.ops 0 (length l)); noted = s.noted ++ h.ops }) same h.rest;
      }

  -- visits after visits
  visits_then : (s u t : WorkerState) → Visits x i s u → Visits x i u t → Visits x i s t
  visits_then s u t a b = record {
    made = a.made ++ b.made;
    ops = a.ops ++ b.ops;
    gains = gains_then s.core u.core t.core a.made b.made [] [] a.gains b.gains;
    scans = Each-append (IsVisit i) a.made b.made a.scans b.scans;
    after = Each-append (IsLast i s.core.traces.made) a.made b.made a.after (λ j m e k d at same. earlier m (b.after j m e) d (k, at) same);
    numbers = numbers_then a.made b.made a.numbers b.numbers (λ m n in_a in_b. own n (has_among b.made n in_b) m (has_among a.made m in_a));
    downs = freed_then x i.by a.made b.made a.ops b.ops a.downs b.downs;
    born = subst (AreBorn (groups_in (shape_of x.core))) (sym both) (Each-append (λ (o : Object). o.birth < groups_in (shape_of x.core)) (objects_freed a.made) (objects_freed b.made) a.born b.born);
    rise = λ r. b.rise (a.rise r);
    rest = b.rest ∙ (ap (λ (v : WorkerState). record v { core = t.core; uses = both_uses v.uses (calls_with b.ops 0 (length (objects_freed b.made))); noted = v.noted ++ b.ops }) a.rest
        ∙ ((λ j. record s { core = t.core; uses = called_then s.uses a.ops b.ops 0 0 (length (objects_freed a.made)) (length (objects_freed b.made)) j; noted = append_assoc s.noted a.ops b.ops j })
        ∙ ap (λ (n : ℕ). record s { core = t.core; uses = both_uses s.uses (calls_with (a.ops ++ b.ops) 0 n); noted = s.noted ++ (a.ops ++ b.ops) }) long));
  } where
    both : objects_freed (a.made ++ b.made) ≡ objects_freed a.made ++ objects_freed b.made
    both = flat_map-append (λ (m : Made). freed_by m.items m.entry) a.made b.made

    long : length (objects_freed a.made) + length (objects_freed b.made) ≡ length (objects_freed (a.made ++ b.made))
    long = sym (ap (λ (l : List Object). length l) both ∙ length-append (objects_freed a.made) (objects_freed b.made))

    grown : u.core.traces.made ≡ s.core.traces.made ++ a.made
    grown = a.gains.adds.made

    -- an entry of the second visits comes after all that stood before the first
    earlier : (m : Made) → IsLast i u.core.traces.made m → (d : Made) → IsAmong d s.core.traces.made → d.place ≡ place_number i.place → d.number < m.number
    earlier m last d among same = let t = subst (λ (l : List Made). IsAmong d l) (sym grown) (among_left s.core.traces.made a.made d among) in last t.0 d t.1 same

    -- and after those of the first
    own : (n : Made) → IsAmong n b.made → (m : Made) → IsAmong m a.made → m.number < n.number
    own n in_b m in_a = let t = subst (λ (l : List Made). IsAmong m l) (sym grown) (among_right s.core.traces.made a.made m in_a) in (b.after in_b.0 n in_b.1) t.0 m t.1 (a.scans in_a.0 m in_a.1).0

    heads : (P : Made → Type 0) (xs ys : List Made) → AllByRecursion P xs → ((n : Made) → Has ys n → P n) → AllByRecursion P (xs ++ ys)
    heads P [] [] p h = tt
    heads P [] (y ∷ ys) p h = (h y (inl refl), heads P [] ys tt (λ n has. h n (inr has)))
    heads P (z ∷ xs) ys p h = (p.0, heads P xs ys p.1 h)

    numbers_then : (xs ys : List Made) → PairsRec (λ (m n : Made). m.number < n.number) xs → PairsRec (λ (m n : Made). m.number < n.number) ys → ((m n : Made) → Has xs m → Has ys n → m.number < n.number)
        → PairsRec (λ (m n : Made). m.number < n.number) (xs ++ ys)
    numbers_then [] ys p q h = q
    numbers_then (z ∷ xs) ys p q h = (heads (λ (n : Made). z.number < n.number) xs ys p.0 (λ n has. h z n (inl refl) has), numbers_then xs ys p.1 q (λ m n has more. h m n (inr has) more))

  -- the visits of each, and what followed them
  visits_each : (ns : List ℕ) (s t : WorkerState) → AreVisits x i ns s t → Visits x i s t
  visits_each [] s t e = visits_none s t (subst (λ (u : WorkerState). Gains s.core u.core [] []) e (gains_none s.core)) (sym e ∙ ap (λ (u : WorkerState). record s { core = u.core }) e)
  visits_each (n ∷ ns) s t (u, once, more) = visits_then s u t (visits_one n 1 false s u once) (visits_each ns u t more)

  ended_worn : (why : Spent) (s t : WorkerState) → MeetsWorn x i why s t → Visits x i s t
  ended_worn (spent.Charges charges uncharges) s t h = visits_each [] s t (sym h.rest)
  ended_worn (spent.List at entries items) s t h = visits_none s t h.list.full.gains h.rest
  ended_worn (spent.Lookups id seen) s t h = absurd h

  ended : (budget visits freed : ℕ) (each : List ℕ) (e : IsolateEnd) (s t : WorkerState) → EndsAs x i budget visits freed each e s t → Visits x i s t
  ended budget visits freed each ending.Spent s t h = visits_each [] s t (sym h.rest)
  ended budget visits freed each ending.Bare s t h = visits_one 0 0 false s t h.cause
  ended budget visits freed each ending.Stop s t h = visits_one h.last 1 true s t h.cause
  ended budget visits freed each ending.Closed s t h = visits_none s t h.cause.list.gains h.cause.rest
  ended budget visits freed each (ending.Worn why) s t h = ended_worn why s t h.cause
  ended budget visits freed each ending.NoRoom s t h = ⊎_elim
      (λ same. visits_none s t (subst (λ (v : View). Gains s.core v [] []) (sym same) (gains_none s.core)) h.cause.rest)
      (λ lacks. visits_none s t lacks.free.gains h.cause.rest) h.cause.lacks

  -- all visits of an isolation
  pub isolated_visits : (budget visits freed : ℕ) (e : IsolateEnd) (s t : WorkerState) → AreIsolated x i budget visits freed e s t → Visits x i s t
  isolated_visits budget visits freed e s t h = visits_then s h.last t (visits_each h.each s h.last h.visited) (ended budget visits freed h.each e h.last t h.ended)
