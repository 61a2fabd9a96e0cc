-- SPDX-License-Identifier: GPL-2.0-only
-- The isolations of a report are those of the steps, and their scans are what their steps made.
use Rattle.shr_lawful.proofs.Common.{◌≡◌, ℕ, zero, suc, ◌-◌, ◌<◌, ◌≤◌, Bool, true, false, cond, List, [], ◌∷◌, map, sym, refl, ap, subst, ◌∙◌, arith, slice_get, Option, Some, option_map, nat_lt, ltb-true, same_Some, none-some, Entry, Scan, Policy, Serial, Target, Answered, Found, Reply, Command, Isolate, Script, Isolation, WalkRecord, place_number, first_isolation, isolation_walk, ScanSeen, Made, Report, walk_at, isolation_at, Placed, placed, placed_scan, visitor_of, Step, IsAmong, steps_of, isolations_asked, IsScanned, IsIsolationVisit, isolated_in, isolated_before, DidIsolation, IsRun, IsStep, at_some, ltb-false, isolation_told, scanning_command}
use Rattle.shr_base.specs.declared.replies.Reply.TheVariants as reply
use Rattle.shr_lawful.proofs.Listed.{slice_map, walk_there}
use Rattle.shr_lawful.proofs.Gathering.{flat_at, flat_there}
use Rattle.shr_lawful.proofs.VersionsLaw.{among_map}

-- ---- an answer tells of one isolation at most
told_found : (by : Serial) (to : Target) (budget : ℕ) (found : Option Found) (x : Reply) (j : ℕ) (i : Isolation) → slice_get (isolation_told by to budget found x) j ≡ Some i → (isolation_told by to budget found x ≡ i ∷ []) × (j ≡ 0)
told_found by to budget (Some f) (reply.Isolated visits freed ending) zero i at = (ap (λ (z : Isolation). z ∷ []) (same_Some _ i at), refl)
told_found by to budget (Some f) (reply.Isolated visits freed ending) (suc j) i at = absurd (none-some i at)
told_found by to budget found x j i at = absurd (none-some i at)

pub told_once : (by : Serial) (c : Option Command) (a : Answered) (j : ℕ) (i : Isolation) → slice_get (isolations_asked by c a) j ≡ Some i → (isolations_asked by c a ≡ i ∷ []) × (j ≡ 0)
told_once by (Some (Isolate to budget)) a j i at = told_found by to budget a.found a.reply j i at
told_once by c a j i at = absurd (none-some i at)

by_found : (by : Serial) (to : Target) (budget : ℕ) (found : Option Found) (x : Reply) (i : Isolation) → slice_get (isolation_told by to budget found x) 0 ≡ Some i → i.by ≡ by
by_found by to budget (Some f) (reply.Isolated visits freed ending) i at = ap (λ (z : Isolation). z.by) (sym (same_Some _ i at))
by_found by to budget found x i at = absurd (none-some i at)

-- and it is of the command
pub told_by : (by : Serial) (c : Option Command) (a : Answered) (i : Isolation) → slice_get (isolations_asked by c a) 0 ≡ Some i → i.by ≡ by
told_by by (Some (Isolate to budget)) a i at = by_found by to budget a.found a.reply i at
told_by by c a i at = absurd (none-some i at)

pub first_told : (x : Step) (i : Isolation) → isolated_in x ≡ i ∷ [] → slice_get (isolated_in x) 0 ≡ Some i
first_told x i told = ap (λ (l : List Isolation). slice_get l 0) told

-- ---- the number in a Scan entry
abbrev walk_in : Entry → ℕ
walk_in (Scan worker n asked policy visits freed stopped) = n
walk_in e = 0

-- each entry that an isolation's command made is a scan of it, at its place
pub record IsScanOf (x : Step) (number : ℕ) (i : Isolation) (policy : Policy) (m : Made) : Type 0 where
  pub seen : ScanSeen
  pub place : m.place ≡ place_number i.place
  pub entry : m.entry ≡ Scan x.by.worker (isolation_walk number) seen.asked seen.policy seen.visits seen.freed seen.stopped

pub scan_of : (s : Script) (x : Step) (number : ℕ) (i : Isolation) (d : DidIsolation s x number i) (m : Made) → IsAmong m x.work.core.made → IsScanOf x number i d.d.policy m
scan_of s x number i d m among =
    let t = among_map placed x.work.core.made m among in
    let at : slice_get (map (placed_scan (visitor_of x.by number i.place d.d)) d.scans) t.0 ≡ Some (placed m) = ap (λ (l : List Placed). slice_get l t.0) (sym d.made) ∙ at_some (map placed x.work.core.made) t.0 (placed m) t.1 in
    let z = slice_map (placed_scan (visitor_of x.by number i.place d.d)) d.scans t.0 (placed m) at in
    record { seen = z.0; place = ap (λ (p : Placed). p.place) (sym z.2); entry = ap (λ (p : Placed). p.entry) (sym z.2) }

module _ (s : Script) (r : Report) (workers : List (List Step)) (run : IsRun s r workers) where
  -- a step's isolation in the report
  pub isolation_there : (worker k : ℕ) (x : Step) (i : Isolation) → slice_get (steps_of workers worker) k ≡ Some x → isolated_in x ≡ i ∷ [] → isolation_at r worker (isolated_before (steps_of workers worker) k) ≡ Some i
  isolation_there worker k x i at told = ap (λ (l : List Isolation). slice_get l (isolated_before (steps_of workers worker) k)) (run.isolations.told worker)
      ∙ flat_there isolated_in (steps_of workers worker) k 0 (isolated_before (steps_of workers worker) k) x i at (first_told x i told) (omega arith)

  -- and the step of an isolation of the report
  pub record IsolationOf (worker n : ℕ) (i : Isolation) : Type 0 where
    pub k : ℕ
    pub step : Step
    pub at : slice_get (steps_of workers worker) k ≡ Some step
    pub told : isolated_in step ≡ i ∷ []
    pub number : n ≡ isolated_before (steps_of workers worker) k
    pub is : IsStep s r worker k step
    pub did : DidIsolation s step n i

  pub isolation_of : (worker n : ℕ) (i : Isolation) → isolation_at r worker n ≡ Some i → IsolationOf worker n i
  isolation_of worker n i at =
      let t = flat_at isolated_in (steps_of workers worker) n i (ap (λ (l : List Isolation). slice_get l n) (sym (run.isolations.told worker)) ∙ at) in
      let once = told_once t.x.by t.x.command t.x.answered t.i i t.own in
      let number : n ≡ isolated_before (steps_of workers worker) t.k = omega (arith, t.number, once.1) in
      record {
        k = t.k;
        step = t.x;
        at = t.at;
        told = once.0;
        number = number;
        is = run.steps.each worker t.k t.x t.at;
        did = subst (λ (m : ℕ). DidIsolation s t.x m i) (sym number) (run.isolations.did worker t.k t.x t.at i once.0);
      }

  -- a visit's number is that of its isolation
  pub visit_number : (worker k : ℕ) (x : Step) (m : Made) (w n asked visits freed : ℕ) (policy : Policy) (stopped : Bool) → slice_get (steps_of workers worker) k ≡ Some x → (t : IsIsolationVisit x m w n) → IsAmong m x.work.core.made → m.entry ≡ Scan w n asked policy visits freed stopped
      → n ≡ isolation_walk (isolated_before (steps_of workers worker) k)
  visit_number worker k x m w n asked visits freed policy stopped at t among entry =
      let d = run.isolations.did worker k x at t.isolation t.told in
      let o = scan_of s x (isolated_before (steps_of workers worker) k) t.isolation d m among in
      ap walk_in (sym entry ∙ o.entry)

  pub visit_there : (worker k : ℕ) (x : Step) (m : Made) (w n asked visits freed : ℕ) (policy : Policy) (stopped : Bool) → slice_get (steps_of workers worker) k ≡ Some x → (t : IsIsolationVisit x m w n) → IsAmong m x.work.core.made → m.entry ≡ Scan w n asked policy visits freed stopped
      → isolation_at r w (n - first_isolation) ≡ Some t.isolation
  visit_there worker k x m w n asked visits freed policy stopped at t among entry =
      let own : w ≡ worker = t.own ∙ ap (λ (z : Serial). z.worker) (run.steps.each worker k x at).by in
      let is = visit_number worker k x m w n asked visits freed policy stopped at t among entry in
      let number : n - first_isolation ≡ isolated_before (steps_of workers worker) k = omega (arith, is) in
      ap (λ v. isolation_at r v (n - first_isolation)) own ∙ (ap (isolation_at r worker) number ∙ isolation_there worker k x t.isolation at t.told)

  -- a Scan is by the command of its walk, or of its isolation
  pub scanned_by : (worker k : ℕ) (x : Step) (m : Made) (w n : ℕ) → slice_get (steps_of workers worker) k ≡ Some x → IsScanned x m w n → scanning_command r w n ≡ Some x.by
  scanned_by worker k x m w n at t =
      let is = run.steps.each worker k x at in
      let own : w ≡ worker = t.own ∙ ap (λ (z : Serial). z.worker) is.by in
      let did = is.did.walks.each t.index t.walk t.there in
      let walk : walk_at r w n ≡ Some t.walk = ap (λ v. walk_at r v n) own ∙ (ap (walk_at r worker) t.number ∙ walk_there s r workers run worker k t.index x t.walk at t.there) in
      low_by (nat_lt n first_isolation) refl (let few = did.low in let same = t.number in omega (arith, few, same)) (ap (option_map (λ (v : WalkRecord). v.by)) walk ∙ ap Some did.by) where
        low_by : (b : Bool) → nat_lt n first_isolation ≡ b → n < first_isolation → option_map (λ (v : WalkRecord). v.by) (walk_at r w n) ≡ Some x.by
            → cond b (option_map (λ (v : WalkRecord). v.by) (walk_at r w n)) (option_map (λ (i : Isolation). i.by) (isolation_at r w (n - first_isolation))) ≡ Some x.by
        low_by true e low h = h
        low_by false e low h = absurd (let f = ltb-false n first_isolation e in omega (arith, f, low))

  pub visited_by : (worker k : ℕ) (x : Step) (m : Made) (w n asked visits freed : ℕ) (policy : Policy) (stopped : Bool) → slice_get (steps_of workers worker) k ≡ Some x → (t : IsIsolationVisit x m w n) → IsAmong m x.work.core.made → m.entry ≡ Scan w n asked policy visits freed stopped
      → scanning_command r w n ≡ Some x.by
  visited_by worker k x m w n asked visits freed policy stopped at t among entry =
      high_by (nat_lt n first_isolation) refl t.high (ap (option_map (λ (i : Isolation). i.by)) (visit_there worker k x m w n asked visits freed policy stopped at t among entry) ∙ ap Some (told_by x.by x.command x.answered t.isolation (first_told x t.isolation t.told))) where
        high_by : (b : Bool) → nat_lt n first_isolation ≡ b → first_isolation ≤ n → option_map (λ (i : Isolation). i.by) (isolation_at r w (n - first_isolation)) ≡ Some x.by
            → cond b (option_map (λ (v : WalkRecord). v.by) (walk_at r w n)) (option_map (λ (i : Isolation). i.by) (isolation_at r w (n - first_isolation))) ≡ Some x.by
        high_by true e high h = absurd (let lt = ltb-true n first_isolation e in omega (arith, lt, high))
        high_by false e high h = h
