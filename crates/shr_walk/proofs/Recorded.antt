-- SPDX-License-Identifier: GPL-2.0-only
-- What the whole of a charge with its reclaim adds to a worker's state.
use Rattle.shr_walk.proofs.ChargingCommon.{◌≡◌, ℕ, zero, suc, ◌<◌, List, [], ◌∷◌, ◌++◌, length, map, Bool, true, false, refl, sym, ap, subst, ◌∙◌, inl, inr, ⊎_elim, arith, All, Option, flat_map-append, map-append, All-nil, All-append, All-head, All-tail, UseStep, Serial, WalkAnswer, path_of, Job, AreDowns, IsDown, use_group, Shared, Walk, OneGives, lacked_memory, shared_parents, paths_of, objects_freed, WorkerState, Work, no_work, then_work, Does, WalkGives, RootGives, WalkMade, RootMade, IsMade, IsWalkOver, IsWalked, IsRootWalked, does_none, does_then, Visit, IsVisited, AreVisited, VisitHadMemory, walk_for, ◌⊎◌, job_of, WalkParts, IsRecordOf, AreParts, parts_of}
use Rattle.shr_base.specs.declared.objects.Object.{Object}
use Rattle.shr_base.specs.Walks.{Attempt, WalkRecord}
use Rattle.shr_base.specs.declared.walks.Outcome.{Outcome}
use Rattle.shr_base.specs.declared.walks.Outcome.TheVariants as outcome
use Rattle.shr_base.specs.declared.walks.WalkAnswer.TheVariants as answered
use Rattle.shr_base.specs.declared.walks.MapSeen.{MapSeen}
use Rattle.shr_base.specs.declared.ends.LookupWord.{LookupWord}
use Rattle.shr_core.specs.Parts.{Made, Loaded}
use Rattle.shr_walk.specs.Attempts.{Found, MadeNone}
use Rattle.shr_model.specs.Items.{freed_by}

-- ---- the downs of walks: one for each object that was freed, on each level from its birth up

-- these entries freed objects, and these operations uncharged them
abbrev pub AreUncharged : Shared → Serial → List Made → List UseStep → Type 0
AreUncharged x by made ops = AreDowns by (paths_of (shared_parents x) (objects_freed made)) ops

pub freed_then : (x : Shared) (m n : List Made) → paths_of (shared_parents x) (objects_freed (m ++ n)) ≡ paths_of (shared_parents x) (objects_freed m) ++ paths_of (shared_parents x) (objects_freed n)
freed_then x m n = ap (paths_of (shared_parents x)) (flat_map-append (λ (y : Made). freed_by y.items y.entry) m n) ∙ flat_map-append (λ (o : Object). path_of (shared_parents x) o.birth) (objects_freed m) (objects_freed n)

module _ (x : Shared) (by : Serial) where
  uncharged_none : AreUncharged x by [] []
  uncharged_none = record { at = refl; each = All-nil (IsDown by) }

  pub uncharged_both : (m n : List Made) (a b : List UseStep) → AreUncharged x by m a → AreUncharged x by n b → AreUncharged x by (m ++ n) (a ++ b)
  uncharged_both m n a b p q = let objects = paths_of (shared_parents x) in record {
    at = map-append use_group a b ∙ (ap (λ l. l ++ map use_group b) p.at ∙ (ap (λ l. objects (objects_freed m) ++ l) q.at ∙ sym (freed_then x m n)));
    each = All-append (IsDown by) a b p.each q.each;
  }

  none_uncharged : {more : List Loaded} {held : Option ℕ} (made : List Made) (ops : List UseStep) → MadeNone more held made ops → AreUncharged x by made ops
  none_uncharged made ops h = subst (λ (m : List Made). AreUncharged x by m ops) (sym h.no_entry) (subst (λ (l : List UseStep). AreUncharged x by [] l) (sym h.no_use) uncharged_none)

module _ (x : Shared) (walk : Walk) where
  found_uncharged : (id : ℕ) (o : Outcome) (first : LookupWord) (more : List Loaded) (held : Option ℕ) (made : List Made) (ops : List UseStep) → Found x walk id o first more held made ops → AreUncharged x walk.by made ops
  found_uncharged id (outcome.Worn seen) first more held made ops h = none_uncharged x walk.by made ops h.3
  found_uncharged id (outcome.Gone n then) first more held made ops h = none_uncharged x walk.by made ops h.1
  found_uncharged id o first more held made ops h = h.by.downs

  parts_uncharged : (attempts : List Attempt) (p : WalkParts) → AreParts x walk attempts p → AreUncharged x walk.by p.made p.ops
  parts_uncharged [] p h = subst (λ (q : WalkParts). AreUncharged x walk.by q.made q.ops) (sym h) (uncharged_none x walk.by)
  parts_uncharged (a ∷ attempts) p (q, r, both, one, others) = subst (λ (y : WalkParts). AreUncharged x walk.by y.made y.ops) (sym both)
      (uncharged_both x walk.by q.made r.made q.ops r.ops (found_uncharged a.id a.outcome one.first one.more one.held q.made q.ops one.found) (parts_uncharged attempts r others))

-- ---- a walk, and walks one after another

-- what a record says: of which command the walk was, over what, and its answer
pub record Told : Type 0 where
  pub by : Serial
  pub job : Job
  pub answer : WalkAnswer

abbrev pub told_of : WalkRecord → Told
told_of r = record { by = r.by; job = job_of r; answer = r.answer }

abbrev pub told_in : Serial → Visit → Told
told_in by v = record { by = by; job = v.job; answer = v.answer }

-- these walks were recorded, they charged nothing, and they uncharged what they freed
pub record Walked (x : Shared) (by : Serial) (told : List Told) (s t : WorkerState) : Type 0 where
  pub w : Work
  pub does : Does s t w
  pub charges : w.charges ≡ 0
  pub records : map told_of w.walks ≡ told
  pub downs : AreUncharged x by w.core.made w.ops

walked_none : (x : Shared) (by : Serial) (s t : WorkerState) → Does s t no_work → Walked x by [] s t
walked_none x by s t d = record { w = no_work; does = d; charges = refl; records = refl; downs = uncharged_none x by }

pub walked_then : (x : Shared) (by : Serial) (a b : List Told) (s t u : WorkerState) → Walked x by a s t → Walked x by b t u → Walked x by (a ++ b) s u
walked_then x by a b s t u p q = record {
  w = then_work p.w q.w;
  does = does_then s t u p.w q.w p.does q.does;
  charges = let m = p.charges in let n = q.charges in omega (arith, m, n);
  records = map-append told_of p.w.walks q.w.walks ∙ (ap (λ l. l ++ map told_of q.w.walks) p.records ∙ ap (λ l. a ++ l) q.records);
  downs = uncharged_both x by p.w.core.made q.w.core.made p.w.ops q.w.ops p.downs q.downs;
}

module _ (x : Shared) (walk : Walk) where
  abbrev pub told_walk : WalkAnswer → Told
  told_walk a = record { by = walk.by; job = record { group = walk.group; node = walk.node; priority = walk.priority; nofs = walk.nofs }; answer = a }

  -- steps that make no entry and no operation, with these records
  quiet : (s t : WorkerState) (w : Work) (told : List Told) → Does s t w → w.charges ≡ 0 → map told_of w.walks ≡ told → w.core.made ≡ [] → w.ops ≡ [] → Walked x walk.by told s t
  quiet s t w told d e r m o = record { w = w; does = d; charges = e; records = r; downs = subst (λ (l : List Made). AreUncharged x walk.by l w.ops) (sym m) (subst (λ (l : List UseStep). AreUncharged x walk.by [] l) (sym o) (uncharged_none x walk.by)) }

  attempts_walked : (maps : List MapSeen) (attempts : List Attempt) (s t : WorkerState) (w : Work) → Does s t w → IsRecordOf x walk maps attempts w → Walked x walk.by [] s t
  attempts_walked maps attempts s t w d is = record { w = w; does = d; charges = is.charges; records = ap (map told_of) is.walks; downs = parts_uncharged x walk attempts (parts_of w) is.parts }

  over_walked : (whole : Bool) (units ids : List ℕ) (maps : List MapSeen) (attempts : List Attempt) (s t : WorkerState) → IsWalkOver x walk whole units ids maps attempts s t → Walked x walk.by [] s t
  over_walked whole units ids maps attempts s t h = attempts_walked maps attempts s t h.w h.does h.is

  -- a walk that went on was recorded
  noted_walked : (Over : List MapSeen → List Attempt → WorkerState → WorkerState → Type 0) → ((maps : List MapSeen) (attempts : List Attempt) (u v : WorkerState) → Over maps attempts u v → Walked x walk.by [] u v)
      → (a : WalkAnswer) (freed : ℕ) (s t : WorkerState) → IsMade x walk Over a freed s t → Walked x walk.by (told_walk a ∷ []) s t
  noted_walked Over over a freed s t m = walked_then x walk.by [] (told_walk a ∷ []) s m.ended t (over m.maps.items m.attempts.items s m.ended m.walked) (quiet m.ended t _ (told_walk a ∷ []) m.recorded refl refl refl refl)

  made_walked : (whole : Bool) (a : WalkAnswer) (freed : ℕ) (s t : WorkerState) → WalkMade x walk whole a freed s t → Walked x walk.by (told_walk a ∷ []) s t
  made_walked whole a freed s t m = walked_then x walk.by [] (told_walk a ∷ []) s m.begun t (quiet s m.begun _ [] m.loaded refl refl refl refl)
      (noted_walked (IsWalked x walk whole) (λ maps attempts u v h. over_walked whole _ _ maps attempts u v h) a freed m.begun t m.made)

  root_walked : (whole : Bool) (a : WalkAnswer) (freed : ℕ) (s t : WorkerState) → RootMade x walk whole a freed s t → Walked x walk.by (told_walk a ∷ []) s t
  root_walked whole a freed s t m = noted_walked (IsRootWalked x walk whole) (λ maps attempts u v h. over_walked whole _ _ maps attempts u v h) a freed s t m

  -- a walk was recorded, or it did nothing for want of memory
  pub record WalkedOnce (a : WalkAnswer) (s t : WorkerState) : Type 0 where
    pub told : List Told
    pub walked : Walked x walk.by told s t
    pub once : (told ≡ told_walk a ∷ []) ⊎ ((told ≡ []) × (lacked_memory a ≡ true))

  once : (a : WalkAnswer) (s t : WorkerState) → Walked x walk.by (told_walk a ∷ []) s t → WalkedOnce a s t
  once a s t h = record { told = told_walk a ∷ []; walked = h; once = inl refl }

  walk_once : (a : WalkAnswer) (s t : WorkerState) → WalkGives x walk a s t → WalkedOnce a s t
  walk_once (answered.Walked freed) s t m = once (answered.Walked freed) s t (made_walked true (answered.Walked freed) freed s t m)
  walk_once (answered.Offline entry) s t m = once (answered.Offline entry) s t (quiet s t _ (told_walk (answered.Offline entry) ∷ []) m.does refl refl refl refl)
  walk_once (answered.Memory freed) s t m = ⊎_elim (λ none. record { told = []; walked = walked_none x walk.by s t none.1; once = inr (refl, refl) }) (λ made. once (answered.Memory freed) s t (made_walked false (answered.Memory freed) freed s t made)) m

  root_once : (a : WalkAnswer) (s t : WorkerState) → RootGives x walk a s t → WalkedOnce a s t
  root_once (answered.Walked freed) s t m = once (answered.Walked freed) s t (root_walked true (answered.Walked freed) freed s t m)
  root_once (answered.Offline entry) s t m = absurd m
  root_once (answered.Memory freed) s t m = ⊎_elim (λ none. record { told = []; walked = walked_none x walk.by s t none.1; once = inr (refl, refl) }) (λ made. once (answered.Memory freed) s t (root_walked false (answered.Memory freed) freed s t made)) m

  pub one_once : (g : ℕ) → walk.group ≡ g → (a : WalkAnswer) (s t : WorkerState) → OneGives x walk a s t → WalkedOnce a s t
  one_once zero e a s t o = root_once a s t (o.root e)
  one_once (suc g) e a s t o = let below : 0 < walk.group = omega (arith, e) in walk_once a s t (o.below below)

module _ (x : Shared) (by : Serial) where
  pub visit_once : (v : Visit) (s : WorkerState) → IsVisited x by v s → WalkedOnce x (walk_for by (length s.walks) v.job) v.answer s v.after
  visit_once v s one = one_once x (walk_for by (length s.walks) v.job) v.job.group refl v.answer s v.after one

  -- a walk with memory was recorded
  visit_walked : (v : Visit) (s : WorkerState) → IsVisited x by v s → VisitHadMemory v → Walked x by (told_in by v ∷ []) s v.after
  visit_walked v s one had = let h = visit_once v s one in
      ⊎_elim (λ e. subst (λ (l : List Told). Walked x by l s v.after) e h.walked) (λ none. absurd (let no : lacked_memory v.answer ≡ true = none.1 in cc)) h.once

  -- walks that had memory were all recorded, in order
  pub visited_walked : (vs : List Visit) (s t : WorkerState) → AreVisited x by vs s t → All VisitHadMemory vs → Walked x by (map (told_in by) vs) s t
  visited_walked [] s t same had = walked_none x by s t (subst (λ (r : WorkerState). Does s r no_work) same (does_none s))
  visited_walked (v ∷ vs) s t walked had = walked_then x by (told_in by v ∷ []) (map (told_in by) vs) s v.after t
      (visit_walked v s walked.0 (All-head VisitHadMemory v vs had)) (visited_walked vs v.after t walked.1 (All-tail VisitHadMemory v vs had))
