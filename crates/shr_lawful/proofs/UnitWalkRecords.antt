-- SPDX-License-Identifier: GPL-2.0-only
-- The walks of the pools in a report: by the steps that made them.
use Rattle.shr_lawful.proofs.UnitsCommon.{◌≡◌, ℕ, zero, suc, ◌+◌, ◌<◌, ◌≤◌, ◌≢◌, ◌⊎◌, ⊎_elim, List, [], ◌∷◌, ◌++◌, length, sym, refl, ap, subst, ◌∙◌, arith, length-append, slice_get, Option, Some, None, enumerate_from, cases_lt, append-nil, same_Some, none-some, dite, ℕ_discrete, PlainEntry, Serial, Script, PlainWalk, row_count, total, IsEntryMade, RoomMade, ScanSeen, units_scan_by, scans_of, PlainState, no_state, Report, PlainJob, plain_at, plain_due, ReclaimMade, reclaim_by, reclaims_by, pool_sizes, DidPoolWalk, UnitsStep, units_steps_in, units_steps_of, last_units_state, units_made_in, AreUnits}
use Rattle.shr_base.specs.declared.journals.PlainEntry.TheVariants as entry
use Rattle.shr_lawful.proofs.UnitStepKinds.{Kind, released, grabbed, walked, idle}
use Rattle.shr_lawful.proofs.UnitLists.{IsIn, flat_in, each_in, total_flat, total_on, all_zero, only_at}
use Rattle.shr_lawful.proofs.UnitAlong.{gained, gained_is, Longer, later_begins, Source, all_gained}
use Rattle.shr_lawful.proofs.UnitRooms.{Gains, MayMake, IsReclaimed, release_still, grab_still}
use Rattle.shr_lawful.proofs.UnitWalking.{walk, walks_are}
use Rattle.shr_lawful.proofs.UnitMaking.{made_at, walks_at, kind_at, gains_at, longer_made, longer_walks, walk_step, stands, Maker, maker, may_make}
use Rattle.shr_lawful.proofs.UnitReclaims.{weight_of, total_kept, journal_is, same_weight, reclaim_is}

-- what a step that walked no pool added to its walks
pub none_gained : (x : UnitsStep) → x.after.walks ≡ x.before.walks → gained walks_at x ≡ []
none_gained x e = gained_is walks_at x [] (e ∙ sym (append-nil x.before.walks))

module _ (s : Script) (r : Report) (workers : List (List UnitsStep)) (run : AreUnits s r workers) where
  -- the step of a walk of the pools, and the walk that it made
  pub record WalkOf (worker n : ℕ) (w : PlainWalk) : Type 0 where
    pub k : ℕ
    pub step : UnitsStep
    pub at : slice_get (units_steps_of workers worker) k ≡ Some step
    pub number : n ≡ length step.before.walks
    pub job : PlainJob
    pub due : plain_due s step.command step.reply ≡ job ∷ []
    pub did : DidPoolWalk s step.by job step.before step.after
    pub own : did.gives.walk ≡ w

  pub walk_of : (worker n : ℕ) (w : PlainWalk) → plain_at r worker n ≡ Some w → WalkOf worker n w
  walk_of worker n w at = let o = walk_step s r workers run worker n w at in by_kind o (kind_at s r workers run worker o.k o.step o.at)
    where
      none : (o : Source walks_at (units_steps_of workers worker) n w) → o.step.after.walks ≡ o.step.before.walks → WalkOf worker n w
      none o same = absurd (none-some w (ap (λ l. slice_get l o.index) (sym (none_gained o.step same)) ∙ o.added))

      one : (o : Source walks_at (units_steps_of workers worker) n w) → (v : PlainWalk) → slice_get (v ∷ []) o.index ≡ Some w → (o.index ≡ 0) × (v ≡ w)
      one o v e = first o.index e where
        first : (j : ℕ) → slice_get (v ∷ []) j ≡ Some w → (j ≡ 0) × (v ≡ w)
        first zero h = (refl, same_Some v w h)
        first (suc j) h = absurd (none-some w h)

      by_kind : (o : Source walks_at (units_steps_of workers worker) n w) → Kind s o.step.by o.step.command o.step.reply o.step.before o.step.after → WalkOf worker n w
      by_kind o (released node pool m is due did) = none o (release_still s o.step.by o.step.reply o.step.before o.step.after node pool m did).0
      by_kind o (grabbed node pool is due did) = none o (grab_still s o.step.by o.step.reply o.step.before o.step.after node pool did).0
      by_kind o (walked job due is did) =
          let e = one o did.gives.walk (ap (λ l. slice_get l o.index) (sym (gained_is walks_at o.step (did.gives.walk ∷ []) (walks_are s o.step.by job o.step.before o.step.after did))) ∙ o.added) in
          record { k = o.k; step = o.step; at = o.at; number = (let number = o.number in let zero_is = e.0 in omega (arith, number, zero_is)); job = job; due = due; did = did; own = e.1 }
      by_kind o (idle due is same) = none o (ap (λ (v : PlainState). v.walks) same)

  -- what a walk of the pools made in a room, of all that was made there
  module _ (worker n : ℕ) (w : PlainWalk) (of : WalkOf worker n w) (i : ℕ) where
    -- the step that made a reclaim of the walk is the walk's
    reclaim_step : (v j : ℕ) (y : UnitsStep) → slice_get (units_steps_of workers v) j ≡ Some y → IsReclaimed s i y.by y.before y.after worker n → (v ≡ worker) × (j ≡ of.k)
    reclaim_step v j y at t =
        let same : v ≡ worker = sym (t.own ∙ ap (λ (z : Serial). z.worker) (run.each v j y at).by) in
        let here : slice_get (units_steps_of workers worker) j ≡ Some y = subst (λ u. slice_get (units_steps_of workers u) j ≡ Some y) same at in
        (same, dite (ℕ_discrete j of.k) (λ e. e) (λ ne. ⊎_elim (λ lt. absurd (early j y here t lt)) (λ le. absurd (late j y here t (omega (arith, ne, le)))) (cases_lt j of.k)))
      where
        longer : Longer walks_at (units_steps_of workers worker)
        longer = longer_walks s r workers run worker

        early : (j : ℕ) (y : UnitsStep) → slice_get (units_steps_of workers worker) j ≡ Some y → IsReclaimed s i y.by y.before y.after worker n → j < of.k → ⊥
        early j y here t lt = let b = later_begins walks_at no_state (units_steps_of workers worker) (run.chained worker) longer j of.k y of.step lt here of.at in
            omega (arith, of.number, t.number, ap (λ (l : List PlainWalk). length l) t.walks, length-append y.before.walks (t.made ∷ []), ap (λ (l : List PlainWalk). length l) b.1, length-append y.after.walks b.0)

        late : (j : ℕ) (y : UnitsStep) → slice_get (units_steps_of workers worker) j ≡ Some y → IsReclaimed s i y.by y.before y.after worker n → of.k < j → ⊥
        late j y here t lt = let b = later_begins walks_at no_state (units_steps_of workers worker) (run.chained worker) longer of.k j of.step y lt of.at here in
            let are = walks_are s of.step.by of.job of.step.before of.step.after of.did in
            omega (arith, of.number, t.number, ap (λ (l : List PlainWalk). length l) are, length-append of.step.before.walks (of.did.gives.walk ∷ []), ap (λ (l : List PlainWalk). length l) b.1, length-append of.step.after.walks b.0)

    -- the entries that the step made there, and those in the journal
    abbrev pub more : List (RoomMade PlainEntry)
    more = (gains_at s r workers run worker i of.k of.step of.at).more

    gained_more : gained (made_at i) of.step ≡ more
    gained_more = let g = gains_at s r workers run worker i of.k of.step of.at in gained_is (made_at i) of.step g.more g.made

    -- a weight that only reclaims of the walk have
    module _ (f : RoomMade PlainEntry → ℕ) (only : (m : RoomMade PlainEntry) → 0 < f m → (asked freed : ℕ) × (m.entry ≡ entry.Reclaim worker n asked freed)) where
      mine_total : (v : ℕ) → total f (made_at i (last_units_state (units_steps_of workers v))) ≡ total (λ (y : UnitsStep). total f (gained (made_at i) y)) (units_steps_of workers v)
      mine_total v = ap (total f) (all_gained (made_at i) no_state (units_steps_of workers v) (run.chained v) (longer_made s r workers run v i)) ∙ total_flat f (gained (made_at i)) (units_steps_of workers v)

      none_made : (v j : ℕ) (y : UnitsStep) → slice_get (units_steps_of workers v) j ≡ Some y → ((v ≡ worker) × (j ≡ of.k) → ⊥) → total f (gained (made_at i) y) ≡ 0
      none_made v j y at apart = let g = gains_at s r workers run v i j y at in
          ap (total f) (gained_is (made_at i) y g.more g.made) ∙ all_zero f g.more (λ k m e. dite (ℕ_discrete (f m) 0) (λ z. z) (λ ne. absurd (apart (reclaim_step v j y at (reclaimed g m (k, e) (only m (omega (arith, ne))))))))
        where
          reclaimed : (g : Gains s i y.by y.reply y.before y.after) → (m : RoomMade PlainEntry) → IsIn m g.more → (asked freed : ℕ) × (m.entry ≡ entry.Reclaim worker n asked freed) → IsReclaimed s i y.by y.before y.after worker n
          reclaimed g m is t = subst (MayMake s i y.by y.reply y.before y.after m) t.2 (g.may m is)

      pub only_step : total f (units_made_in workers i) ≡ total f more
      only_step = total_flat f (λ (list : List UnitsStep). made_at i (last_units_state list)) workers
          ∙ (only_at (λ (list : List UnitsStep). total f (made_at i (last_units_state list))) workers worker (units_steps_of workers worker) (mine_at workers worker of.k of.step of.at) (λ v list e ne. others v list e ne)
          ∙ (mine_total worker ∙ (only_at (λ (y : UnitsStep). total f (gained (made_at i) y)) (units_steps_of workers worker) of.k of.step of.at (λ j y e ne. none_made worker j y e (λ t. ne t.1)) ∙ ap (total f) gained_more)))
        where
          mine_at : (ws : List (List UnitsStep)) (v k : ℕ) (x : UnitsStep) → slice_get (units_steps_of ws v) k ≡ Some x → slice_get ws v ≡ Some (units_steps_of ws v)
          mine_at [] v k x e = absurd (none-some x e)
          mine_at (m ∷ ws) zero k x e = refl
          mine_at (m ∷ ws) (suc v) k x e = mine_at ws v k x e

          others : (v : ℕ) (list : List UnitsStep) → slice_get workers v ≡ Some list → v ≢ worker → total f (made_at i (last_units_state list)) ≡ 0
          others v list e ne = let same : units_steps_of workers v ≡ list = ap units_steps_in e in
              ap (λ (l : List UnitsStep). total f (made_at i (last_units_state l))) (sym same) ∙ (mine_total v ∙ all_zero (λ (y : UnitsStep). total f (gained (made_at i) y)) (units_steps_of workers v) (λ j y d. none_made v j y d (λ t. ne t.0)))

    module _ (low : i < row_count (pool_sizes s)) where
      -- what the reclaims of the walk in the journal weigh is what those of the step do
      pub reclaims_weigh : (f : ℕ → ℕ → ℕ) → total (λ (x : ReclaimMade). f x.asked x.freed) (reclaims_by worker n (run.journal i)) ≡ total (λ (x : ScanSeen). f x.asked x.freed) (scans_of worker n more)
      reclaims_weigh f = total_kept g (λ (e : ℕ × PlainEntry). reclaim_by worker n e.0 e.1) (enumerate_from 0 (run.journal i))
          ∙ (journal_is (λ number e. weight_of g (reclaim_by worker n number e)) (run.journal i) (units_made_in workers i) all_stand (run.rooms i low).once
          ∙ (only_step (λ (m : RoomMade PlainEntry). weight_of g (reclaim_by worker n m.number m.entry)) only
          ∙ (total_on (λ (m : RoomMade PlainEntry). weight_of g (reclaim_by worker n m.number m.entry)) (λ (m : RoomMade PlainEntry). weight_of h (units_scan_by worker n m)) more (λ m is. same_weight f worker n m.number m.entry)
          ∙ sym (total_kept h (units_scan_by worker n) more))))
        where
          g : ReclaimMade → ℕ
          g x = f x.asked x.freed

          h : ScanSeen → ℕ
          h x = f x.asked x.freed

          all_stand : (m : RoomMade PlainEntry) → IsIn m (units_made_in workers i) → slice_get (run.journal i) m.number ≡ Some m.entry
          all_stand m is = let t = flat_in (λ (list : List UnitsStep). made_at i (last_units_state list)) workers m is in
              stands (run.journal i) m (each_in (IsEntryMade (run.journal i)) (made_at i (last_units_state (units_steps_of workers t.1.0))) m ((run.rooms i low).seen t.1.0).made (subst (λ (l : List UnitsStep). IsIn m (made_at i (last_units_state l))) (sym (ap units_steps_in t.1.1)) t.2))

          only : (m : RoomMade PlainEntry) → 0 < weight_of g (reclaim_by worker n m.number m.entry) → (asked freed : ℕ) × (m.entry ≡ entry.Reclaim worker n asked freed)
          only m some = by_option (reclaim_by worker n m.number m.entry) refl some
            where
              by_option : (o : Option ReclaimMade) → reclaim_by worker n m.number m.entry ≡ o → 0 < weight_of g o → (asked freed : ℕ) × (m.entry ≡ entry.Reclaim worker n asked freed)
              by_option None e lt = absurd (omega (arith, lt))
              by_option (Some a) e lt = let t = reclaim_is worker n m.number m.entry a e in (t.0, t.1, t.2)

      -- and each of them is of an entry that the step made
      pub record OfStep (a : ReclaimMade) : Type 0 where
        pub made : RoomMade PlainEntry
        pub among : IsIn made more
        pub number : made.number ≡ a.number
        pub entry : made.entry ≡ entry.Reclaim worker n a.asked a.freed

      pub of_step : (number asked freed : ℕ) → slice_get (run.journal i) number ≡ Some (entry.Reclaim worker n asked freed) → OfStep (record { number = number; asked = asked; freed = freed })
      of_step number asked freed here =
          let m : Maker s r workers run i number (entry.Reclaim worker n asked freed) = maker s r workers run i low number (entry.Reclaim worker n asked freed) here in
          let t = reclaim_step m.worker m.k m.step m.at (may_make s r workers run i number (entry.Reclaim worker n asked freed) m) in
          let among : IsIn m.made (gained (made_at i) m.step) = let g = gains_at s r workers run m.worker i m.k m.step m.at in subst (IsIn m.made) (sym (gained_is (made_at i) m.step g.more g.made)) m.among in
          let step : m.step ≡ of.step = same_Some m.step of.step (sym m.at ∙ (ap (λ v. slice_get (units_steps_of workers v) m.k) t.0 ∙ (ap (slice_get (units_steps_of workers worker)) t.1 ∙ of.at))) in
          record { made = m.made; among = subst (IsIn m.made) gained_more (subst (λ (y : UnitsStep). IsIn m.made (gained (made_at i) y)) step among); number = m.number; entry = m.entry }
