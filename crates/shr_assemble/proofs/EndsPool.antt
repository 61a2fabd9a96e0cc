-- SPDX-License-Identifier: GPL-2.0-only
-- The journal of registrations and the lookups, of a run whose workers are done.
use Rattle.shr_assemble.proofs.Common.{◌≡◌, ℕ, ◌<◌, Bool, cond, List, length, get_or, sym, ap, subst, ◌∙◌, arith, ◌&&◌, nat_lt, nat_le, le-leb, PoolEntry, IsPoolJournal, total, lookups_of, Tried, hit_attempt, Shared, Ends, Report, lookups_at, WorkerLog, AreEndsOf, IsMadeOf, all_attempts}
use Rattle.shr_assemble.proofs.EndsGathered.{attempts_are}
use Rattle.shr_assemble.proofs.EndsSteps.{lookups_long, lookups_at_below, workers}
use Rattle.shr_assemble.proofs.Rows.{DidEach}

module _ (x : Shared) (did : DidEach x) (logs : List WorkerLog) (e : Ends) (ends : AreEndsOf x logs e) (r : Report) (made : IsMadeOf x.script logs e r) where
  pub journal : IsPoolJournal x.script.ids (length x.script.caches.items) r.pool.items
  journal = subst (λ (es : List PoolEntry). IsPoolJournal x.script.ids (length x.script.caches.items) es) (sym made.pool)
      (subst (λ (n : ℕ). IsPoolJournal n (length x.script.caches.items) e.core.pool.items) ends.shared.ids (subst (λ (n : ℕ). IsPoolJournal x.core.setting.shape.ids n e.core.pool.items) ends.shared.decls ends.core.journal))

  pub printed_ids : length r.lookups.items ≡ x.script.ids
  printed_ids = ap (λ (l : List ℕ). length l) (made.lookups ∙ ends.core.lookups) ∙ (lookups_long x.core.setting.shape.ids ends.core.look ∙ ends.shared.ids)

  pub printed_lookups : (id : ℕ) → id < x.script.ids → lookups_at r id ≡ lookups_of (ends.core.look id)
  printed_lookups id lt = ap (λ (l : List ℕ). get_or l id 0) (made.lookups ∙ ends.core.lookups) ∙ lookups_at_below x.core.setting.shape.ids ends.core.look id (subst (λ (n : ℕ). id < n) (sym ends.shared.ids) lt)

  -- each number of an id was drawn by one step
  pub drawn : (id number : ℕ) → id < x.script.ids → total (hit_attempt id number) (all_attempts (workers x did logs e ends r made)) ≡ cond (nat_lt number (lookups_at r id)) 1 0
  drawn id number lt =
      ap (λ (l : List Tried). total (hit_attempt id number) l) (sym (attempts_are x did logs e ends r made))
      ∙ (ends.core.drawn id number (subst (λ (n : ℕ). id < n) (sym ends.shared.ids) lt)
      ∙ (ap (λ (f : ℕ). cond {A = ℕ} (nat_le f number && nat_lt number (lookups_of (ends.core.look id))) 1 0) ends.from_start.first
      ∙ (ap (λ (b : Bool). cond {A = ℕ} (b && nat_lt number (lookups_of (ends.core.look id))) 1 0) (le-leb 0 number (omega arith))
      ∙ ap (λ (n : ℕ). cond {A = ℕ} (nat_lt number n) 1 0) (sym (printed_lookups id lt)))))
