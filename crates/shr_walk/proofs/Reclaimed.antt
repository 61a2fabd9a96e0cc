-- SPDX-License-Identifier: GPL-2.0-only
-- Laws of a whole charge with its reclaim, for the layers above.
use Rattle.shr_walk.proofs.ChargingCommon.{◌≡◌, ℕ, ◌+◌, ◌-◌, ◌≤◌, List, [], ◌∷◌, ◌++◌, length, map, drop, refl, sym, ap, subst, ◌∙◌, ⊎_elim, arith, append_assoc, All, ◌<◌, flat_map, map-append, append-nil, length-map, Serial, IsAtOrAbove, path_of, IsPrefixOf, Job, shape_of, ChargeAnswer, path_to, ups_at, Shared, shared_parents, paths_of, objects_freed, WorkerState, Work, then_work, Does, does_then, Visit, Round, AreVisited, AreRounds, VisitHadMemory, TriesInRounds, WalksFirst, due_in, job_in, IsChargeTried, charge_work}
use Rattle.std.specs.List.{AllByRecursion}
use Rattle.std.proofs.lemmas.List.{length-append}
use Rattle.shr_model.specs.Commands.{rounds_from}
use Rattle.shr_charge.specs.declared.answers.ChargeAnswer.TheVariants as charge
use Rattle.shr_charge.proofs.Ways.{way_whole}
use Rattle.shr_walk.proofs.Netting.{Nets, nets_then, nets_downs, nets_refused, nets_charged, times_of, times_both}
use Rattle.shr_walk.proofs.Refusing.{refused_above, way_few, way_once}
use Rattle.shr_walk.proofs.Recorded.{Told, Walked, told_of, told_in, freed_then, visit_once, visited_walked, walked_then}
use Rattle.shr_walk.proofs.Settling.{Closes, Settles, ways_at, ways_both, closed_settles, closes_then, closes_settles, refused_closes, charged_settles, charged_closes, downs_close}
use Rattle.shr_walk.proofs.VisitsMade.{parted, prefix_of, visited_parts}

-- the group that refused a try, and the groups where a try's charge stands
abbrev pub over_of : ChargeAnswer → List ℕ
over_of charge.Charged = []
over_of (charge.Over group operation usage) = group ∷ []

abbrev pub kept_of : Shared → ℕ → ChargeAnswer → List ℕ
kept_of x group charge.Charged = path_of x.charge.shape.parents.items group
kept_of x group (charge.Over level operation usage) = []

-- how often tries that these groups refused went up in a group, and were taken back there
abbrev pub taken_of : Shared → ℕ → List ℕ → ℕ → ℕ
taken_of x group [] g = 0
taken_of x group (level ∷ levels) g = times_of g (path_to x.charge.shape.parents.items group level) + taken_of x group levels g

taken_both : (x : Shared) (group : ℕ) (a b : List ℕ) (g : ℕ) → taken_of x group (a ++ b) g ≡ taken_of x group a g + taken_of x group b g
taken_both x group [] b g = omega arith
taken_both x group (level ∷ a) b g = let both = taken_both x group a b g in omega (arith, both)

-- Tries of a charge and walks together: so many charges, these records of walks, these groups that refused, and a charge that stands
-- in these groups. Each other up was taken back, and each other down is of an object that was freed.
pub record Reclaims (x : Shared) (by : Serial) (group : ℕ) (told : List Told) (tries : ℕ) (over kept : List ℕ) (s t : WorkerState) : Type 0 where
  pub w : Work
  pub does : Does s t w
  pub charges : w.charges ≡ tries
  pub records : map told_of w.walks ≡ told
  pub nets : (g : ℕ) → Nets x.charge.shape g w.ops (taken_of x group over g + times_of g kept) (taken_of x group over g + times_of g (paths_of (shared_parents x) (objects_freed w.core.made))) (times_of g over)
  -- in each group an up is taken back before the next one, and the last one where no charge stands
  pub ways : (g : ℕ) → (kept ≡ [] → Closes (ways_at g w.ops)) × Settles (ways_at g w.ops)

module _ (x : Shared) (by : Serial) (group : ℕ) (there : group < length x.charge.shape.parents.items) where
  pub of_walks : (told : List Told) (s t : WorkerState) → Walked x by told s t → Reclaims x by group told 0 [] [] s t
  of_walks told s t h = record {
    w = h.w;
    does = h.does;
    charges = h.charges;
    records = h.records;
    nets = λ g. let n = nets_downs x.charge.shape g by (paths_of (shared_parents x) (objects_freed h.w.core.made)) h.w.ops h.downs in record { up = n.up; down = let d = n.down in omega (arith, d); refused = n.refused };
    ways = λ g. let closes = downs_close x.charge.shape by group g (paths_of (shared_parents x) (objects_freed h.w.core.made)) h.w.ops h.downs in ((λ none. closes), closed_settles (ways_at g h.w.ops) closes);
  }

  path_few : (g : ℕ) → times_of g (path_of x.charge.shape.parents.items group) ≤ 1
  path_few g = let one = way_few x.charge.shape.parents.items x.charge.tree 0 g group there in let whole = ap (times_of g) (way_whole x.charge.shape.parents.items group) in omega (arith, one, whole)

  pub of_try : (a : ChargeAnswer) (s t : WorkerState) → IsChargeTried x by group a s t → Reclaims x by group [] 1 (over_of a) (kept_of x group a) s t
  of_try charge.Charged s t h = record {
    w = charge_work h.ops;
    does = h.does;
    charges = refl;
    records = refl;
    nets = λ g. let n = nets_charged x.charge.shape g by group h.ops h.made in record { up = let u = n.up in omega (arith, u); down = n.down; refused = n.refused };
    ways = λ g. ((λ none. charged_closes x.charge.shape by group g h.ops h.made none), charged_settles x.charge.shape by group g h.ops h.made (path_few g));
  }
  of_try (charge.Over level operation usage) s t h = record {
    w = charge_work h.ops;
    does = h.does;
    charges = refl;
    records = refl;
    nets = λ g. let n = nets_refused x.charge.shape g by group level operation usage h.ops h.made in record { up = let u = n.up in omega (arith, u); down = let d = n.down in omega (arith, d); refused = n.refused };
    ways = λ g. let closes = refused_closes x.charge.shape by group g level operation usage h.ops h.made (way_few x.charge.shape.parents.items x.charge.tree level g group there) in ((λ none. closes), closed_settles (ways_at g h.ops) closes);
  }

  pub reclaims_then : (a b : List Told) (m n : ℕ) (over more kept : List ℕ) (s t u : WorkerState) → Reclaims x by group a m over [] s t → Reclaims x by group b n more kept t u → Reclaims x by group (a ++ b) (m + n) (over ++ more) kept s u
  reclaims_then a b m n over more kept s t u p q = let freed = λ (w : Work). paths_of (shared_parents x) (objects_freed w.core.made) in record {
    w = then_work p.w q.w;
    does = does_then s t u p.w q.w p.does q.does;
    charges = let c = p.charges in let d = q.charges in omega (arith, c, d);
    records = map-append told_of p.w.walks q.w.walks ∙ (ap (λ l. l ++ map told_of q.w.walks) p.records ∙ ap (λ l. a ++ l) q.records);
    nets = λ g. let both = nets_then x.charge.shape g p.w.ops q.w.ops _ _ _ _ _ _ (p.nets g) (q.nets g) in
        let over_both = times_both g over more in let taken = taken_both x group over more g in
        let freed_both = ap (times_of g) (freed_then x p.w.core.made q.w.core.made) ∙ times_both g (freed p.w) (freed q.w) in
        record {
          up = let e = both.up in omega (arith, e, taken);
          down = let e = both.down in omega (arith, e, freed_both, taken);
          refused = let e = both.refused in omega (arith, e, over_both);
        };
    ways = λ g. let closed = (p.ways g).0 refl in let all = ways_both g p.w.ops q.w.ops in
        ((λ none. subst Closes (sym all) (closes_then (ways_at g p.w.ops) (ways_at g q.w.ops) closed ((q.ways g).0 none))), subst Settles (sym all) (closes_settles (ways_at g p.w.ops) (ways_at g q.w.ops) closed (q.ways g).1));
  }

-- ---- rounds

-- what the records of a round's walks say
abbrev pub told_by : Serial → Round → List Told
told_by by k = map (told_in by) k.walks

abbrev pub group_in : Round → ℕ
group_in k = k.over.group

abbrev pub job_told : Told → Job
job_told r = r.job

jobs_told : (by : Serial) (vs : List Visit) → map job_told (map (told_in by) vs) ≡ map job_in vs
jobs_told by [] = refl
jobs_told by (v ∷ vs) = ap (λ l. v.job ∷ l) (jobs_told by vs)

module _ (x : Shared) (by : Serial) (group : ℕ) (there : group < length x.charge.shape.parents.items) where
  follow_all : (priority : ℕ) (first : ChargeAnswer) (ks : List Round) (last : ChargeAnswer) (s t : WorkerState) → AreRounds x by group priority first ks last s t
      → (told : List Told) (n : ℕ) (over : List ℕ) (r : WorkerState) → Reclaims x by group told n (over ++ over_of first) (kept_of x group first) r s
      → Reclaims x by group (told ++ flat_map (told_by by) ks) (n + length ks) ((over ++ map group_in ks) ++ over_of last) (kept_of x group last) r t
  follow_all priority first [] last s t same told n over r h =
      subst (λ (l : List Told). Reclaims x by group l (n + 0) ((over ++ []) ++ over_of last) (kept_of x group last) r t) (sym (append-nil told))
      (let none : n ≡ n + 0 = omega arith in subst (λ (m : ℕ). Reclaims x by group told m ((over ++ []) ++ over_of last) (kept_of x group last) r t) none
      (subst (λ (l : List ℕ). Reclaims x by group told n (l ++ over_of last) (kept_of x group last) r t) (sym (append-nil over))
      (subst (λ (a : ChargeAnswer). Reclaims x by group told n (over ++ over_of a) (kept_of x group a) r t) same.0
      (subst (λ (v : WorkerState). Reclaims x by group told n (over ++ over_of first) (kept_of x group first) r v) same.1 h))))
  follow_all priority first (k ∷ ks) last s t (one, others) told n over r h =
      let before = subst (λ (a : ChargeAnswer). Reclaims x by group told n (over ++ over_of a) (kept_of x group a) r s) one.refused_so h in
      let walked = of_walks x by group there (told_by by k) s k.walked (visited_walked x by k.walks s k.walked one.walks.visited one.walks.had) in
      let tried = of_try x by group there k.answer k.walked k.tried one.try in
      let first_two = reclaims_then x by group there told (told_by by k) n 0 (over ++ group_in k ∷ []) [] [] r s k.walked before walked in
      let all = reclaims_then x by group there (told ++ told_by by k) [] (n + 0) 1 ((over ++ group_in k ∷ []) ++ []) (over_of k.answer) (kept_of x group k.answer) r k.walked k.tried first_two tried in
      let tidy = subst (λ (l : List Told). Reclaims x by group l (n + 0 + 1) ((over ++ group_in k ∷ []) ++ over_of k.answer) (kept_of x group k.answer) r k.tried) (append-nil (told ++ told_by by k))
      (subst (λ (l : List ℕ). Reclaims x by group ((told ++ told_by by k) ++ []) (n + 0 + 1) (l ++ over_of k.answer) (kept_of x group k.answer) r k.tried) (append-nil (over ++ group_in k ∷ [])) all) in
      let rest = follow_all (priority - 1) k.answer ks last k.tried t others (told ++ told_by by k) (n + 0 + 1) (over ++ group_in k ∷ []) r tidy in
      let count : n + 0 + 1 + length ks ≡ n + length (k ∷ ks) = omega arith in
      subst (λ (l : List ℕ). Reclaims x by group (told ++ (told_by by k ++ flat_map (told_by by) ks)) (n + length (k ∷ ks)) (l ++ over_of last) (kept_of x group last) r t) (append_assoc over (group_in k ∷ []) (map group_in ks))
      (subst (λ (m : ℕ). Reclaims x by group (told ++ (told_by by k ++ flat_map (told_by by) ks)) m (((over ++ group_in k ∷ []) ++ map group_in ks) ++ over_of last) (kept_of x group last) r t) count
      (subst (λ (l : List Told). Reclaims x by group l (n + 0 + 1 + length ks) (((over ++ group_in k ∷ []) ++ map group_in ks) ++ over_of last) (kept_of x group last) r t) (append_assoc told (told_by by k) (flat_map (told_by by) ks)) rest))

  -- The tries and rounds together: one charge for each try, the walks of all rounds recorded in order, one refusal before each round
  -- and that of the last try, and a charge that stands where the last try wasn't refused.
  pub tries_reclaim : (rounds : List Round) (last : ChargeAnswer) (s t : WorkerState) → TriesInRounds x by group rounds last s t
      → Reclaims x by group (flat_map (told_by by) rounds) (1 + length rounds) (map group_in rounds ++ over_of last) (kept_of x group last) s t
  tries_reclaim rounds last s t h = follow_all 12 h.first rounds last h.tried t h.follow [] 1 [] s (of_try x by group there h.first s h.tried h.try)

module _ (x : Shared) (by : Serial) (group : ℕ) where
  -- the walks of rounds are those that the model asks of rounds over the groups that refused
  rounds_jobs : (priority : ℕ) (first : ChargeAnswer) (ks : List Round) (last : ChargeAnswer) (s t : WorkerState) → AreRounds x by group priority first ks last s t
      → map job_told (flat_map (told_by by) ks) ≡ rounds_from x.tree.parents (shape_of x.core).nodes priority (map group_in ks)
  unfolding rounds_from
  rounds_jobs priority first [] last s t same = refl
  rounds_jobs priority first (k ∷ ks) last s t (one, others) = map-append job_told (told_by by k) (flat_map (told_by by) ks)
      ∙ (ap (λ l. l ++ map job_told (flat_map (told_by by) ks)) (jobs_told by k.walks ∙ (one.walks.all ∙ ap (λ (p : ℕ). due_in x p k.over.group) one.priority_is))
      ∙ ap (λ l. due_in x priority k.over.group ++ l) (rounds_jobs (priority - 1) k.answer ks last k.tried t others))

  pub tries_jobs : (rounds : List Round) (last : ChargeAnswer) (s t : WorkerState) → TriesInRounds x by group rounds last s t
      → map job_told (flat_map (told_by by) rounds) ≡ rounds_from x.tree.parents (shape_of x.core).nodes 12 (map group_in rounds)
  tries_jobs rounds last s t h = rounds_jobs 12 h.first rounds last h.tried t h.follow

-- ---- how often the charged group itself was charged

module _ (x : Shared) (group : ℕ) (there : group < length x.charge.shape.parents.items) where
  own_taken : (over : List ℕ) → taken_of x group over group ≡ length over
  own_taken [] = refl
  own_taken (level ∷ over) = let one = way_once x.charge.shape.parents.items x.charge.tree level group there in let others = own_taken over in omega (arith, one, others)

  own_kept : (a : ChargeAnswer) → length (over_of a) + times_of group (kept_of x group a) ≡ 1
  own_kept charge.Charged = let one = way_once x.charge.shape.parents.items x.charge.tree 0 group there in let whole = ap (times_of group) (way_whole x.charge.shape.parents.items group) in omega (arith, one, whole)
  own_kept (charge.Over level operation usage) = refl

  -- the charged group has one up for each try
  pub own_ups : (by : Serial) (rounds : List Round) (last : ChargeAnswer) (s t : WorkerState) (h : TriesInRounds x by group rounds last s t) → ups_at group (tries_reclaim x by group there rounds last s t h).w.ops ≡ length rounds + 1
  own_ups by rounds last s t h = let r = tries_reclaim x by group there rounds last s t h in let up = (r.nets group).up in
      let taken = own_taken (map group_in rounds ++ over_of last) in let long = length-append (map group_in rounds) (over_of last) in let each = length-map rounds group_in in let own = own_kept last in
      omega (arith, up, taken, long, each, own)

  taken_few : (over : List ℕ) (g : ℕ) → taken_of x group over g ≤ length over
  taken_few [] g = omega arith
  taken_few (level ∷ over) g = let one = way_few x.charge.shape.parents.items x.charge.tree level g group there in let others = taken_few over g in omega (arith, one, others)

  kept_few : (a : ChargeAnswer) (g : ℕ) → length (over_of a) + times_of g (kept_of x group a) ≤ 1
  kept_few charge.Charged g = let one = way_few x.charge.shape.parents.items x.charge.tree 0 g group there in let whole = ap (times_of g) (way_whole x.charge.shape.parents.items group) in omega (arith, one, whole)
  kept_few (charge.Over level operation usage) g = omega arith

  -- and each other group has one at most
  pub few_ups : (by : Serial) (rounds : List Round) (last : ChargeAnswer) (s t : WorkerState) (h : TriesInRounds x by group rounds last s t) (g : ℕ) → ups_at g (tries_reclaim x by group there rounds last s t h).w.ops ≤ length rounds + 1
  few_ups by rounds last s t h g = let r = tries_reclaim x by group there rounds last s t h in let up = (r.nets g).up in
      let taken = taken_few (map group_in rounds ++ over_of last) g in let long = length-append (map group_in rounds) (over_of last) in let each = length-map rounds group_in in let own = kept_few last g in
      omega (arith, up, taken, long, each, own)

-- ---- a round that was cut short

-- the walks that were recorded are a beginning of those that were due
pub record CutWalked (x : Shared) (by : Serial) (jobs : List Job) (s t : WorkerState) : Type 0 where
  pub told : List Told
  pub walked : Walked x by told s t
  pub first : IsPrefixOf (map job_told told) jobs

module _ (x : Shared) (by : Serial) (jobs : List Job) where
  all_recorded : (walks : List Visit) (s t : WorkerState) → AreVisited x by walks s t → All VisitHadMemory walks → IsPrefixOf (map job_in walks) jobs → CutWalked x by jobs s t
  all_recorded walks s t visited had first = record { told = map (told_in by) walks; walked = visited_walked x by walks s t visited had; first = subst (λ l. IsPrefixOf l jobs) (sym (jobs_told by walks)) first }

  -- the last walk was recorded, or did nothing
  last_recorded : (front : List Visit) (v : Visit) (s t : WorkerState) → AreVisited x by (front ++ v ∷ []) s t → All VisitHadMemory front → IsPrefixOf (map job_in (front ++ v ∷ [])) jobs → CutWalked x by jobs s t
  last_recorded front v s t visited had first = let parts = visited_parts x by front (v ∷ []) s t visited in let u = parts.0 in let before = parts.1 in let one = parts.2.0 in let same = parts.2.1 in
      let walked = visited_walked x by front s u before had in
      let once = visit_once x by v u one in
      let whole = map-append job_in front (v ∷ []) in
      ⊎_elim
      (λ told. record {
        told = map (told_in by) front ++ told_in by v ∷ [];
        walked = walked_then x by (map (told_in by) front) (told_in by v ∷ []) s u t walked (subst (λ (r : WorkerState). Walked x by (told_in by v ∷ []) u r) same (subst (λ (l : List Told). Walked x by l u v.after) told once.walked));
        first = subst (λ l. IsPrefixOf l jobs) (whole ∙ sym (map-append job_told (map (told_in by) front) (told_in by v ∷ []) ∙ ap (λ l. l ++ v.job ∷ []) (jobs_told by front))) first;
      })
      (λ none. record {
        told = map (told_in by) front ++ [];
        walked = walked_then x by (map (told_in by) front) [] s u t walked (subst (λ (r : WorkerState). Walked x by [] u r) same (subst (λ (l : List Told). Walked x by l u v.after) none.0 once.walked));
        first = let made = map job_in front in let rest = drop (length (made ++ v.job ∷ [])) jobs in
            subst (λ l. IsPrefixOf l jobs) (sym (ap (map job_told) (append-nil (map (told_in by) front)) ∙ jobs_told by front))
            (subst (λ l. IsPrefixOf made l) (sym (parted (made ++ v.job ∷ []) jobs (subst (λ l. IsPrefixOf l jobs) whole first) ∙ append_assoc made (v.job ∷ []) rest)) (prefix_of made ((v.job ∷ []) ++ rest)));
      })
      once.once

  pub cut_recorded : (walks : List Visit) (s t : WorkerState) → WalksFirst x by jobs walks s t → CutWalked x by jobs s t
  cut_recorded walks s t h = ⊎_elim (λ had. all_recorded walks s t h.visited had h.first)
      (λ c. last_recorded c.front c.last s t (subst (λ (l : List Visit). AreVisited x by l s t) c.whole h.visited) c.had (subst (λ (l : List Visit). IsPrefixOf (map job_in l) jobs) c.whole h.first)) h.cut

-- ---- the groups that refused are on the path of the charged group

abbrev pub IsAbove : Shared → ℕ → ChargeAnswer → Type 0
IsAbove x group charge.Charged = Unit {0}
IsAbove x group (charge.Over level operation usage) = IsAtOrAbove x.charge.shape.parents.items level group

module _ (x : Shared) (by : Serial) (group : ℕ) (there : group < length x.charge.shape.parents.items) where
  tried_above : (a : ChargeAnswer) (s t : WorkerState) → IsChargeTried x by group a s t → IsAbove x group a
  tried_above charge.Charged s t h = tt
  tried_above (charge.Over level operation usage) s t h = refused_above x.charge.shape by group level operation usage h.ops x.charge.tree there h.made

  follow_above : (priority : ℕ) (first : ChargeAnswer) (ks : List Round) (last : ChargeAnswer) (s t : WorkerState) → AreRounds x by group priority first ks last s t → IsAbove x group first
      → AllByRecursion (λ h. IsAtOrAbove x.charge.shape.parents.items h group) (map group_in ks) × IsAbove x group last
  follow_above priority first [] last s t same above = (tt, subst (IsAbove x group) same.0 above)
  follow_above priority first (k ∷ ks) last s t (one, others) above = let rest = follow_above (priority - 1) k.answer ks last k.tried t others (tried_above k.answer k.walked k.tried one.try) in
      ((subst (IsAbove x group) one.refused_so above, rest.0), rest.1)

  pub tries_above : (rounds : List Round) (last : ChargeAnswer) (s t : WorkerState) → TriesInRounds x by group rounds last s t
      → AllByRecursion (λ h. IsAtOrAbove x.charge.shape.parents.items h group) (map group_in rounds) × IsAbove x group last
  tries_above rounds last s t h = follow_above 12 h.first rounds last h.tried t h.follow (tried_above h.first s h.tried h.try)
